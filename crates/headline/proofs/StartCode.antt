-- The start code calls `main` with the number of words and their list, and exits with what it returns.
use Rattle.std.proofs.Common.{◌≡◌, ◌≢◌, ◌⊎◌, inl, inr, ℕ, zero, suc, ◌+◌, ◌*◌, ◌/◌, ◌%◌, ◌^◌, ◌<◌, ◌≤◌, Bool, true, false, ◌&&◌, ◌||◌, nat_le, nat_lt, List, [], ◌∷◌, ◌++◌, length, refl, sym, ◌∙◌, ap, subst, arith, lit<, lit≤, ◌==◌, if◌then◌else◌, slice_get, slice_index, pos, Some, Ok, Err}
use Rattle.std.proofs.lemmas.Bool.Decides.{nat_tests}
use Rattle.std.proofs.lemmas.Int.{ints}
use Rattle.std.specs.Int.{byte_at}
use Rattle.bits.specs.Words.{Fits12}
use Rattle.il_ast.specs.declared.operation.Class.{Class}
use Rattle.il_ast.specs.declared.operation.Class.TheVariants.{W, L}
use Rattle.il_ast.specs.declared.function.Param.{Param}
use Rattle.il_ast.specs.declared.program.Program.{Program}
use Rattle.il_ast.specs.Prelude.{main_classes, params_of}
use Rattle.rv_isa.specs.declared.permission.Permission.{Permission}
use Rattle.rv_isa.specs.declared.ranges.Register.{Register}
use Rattle.rv_isa.specs.declared.instruction.Instr.{Instr}
use Rattle.rv_isa.specs.declared.instruction.Instr.TheVariants.{Imm, Jalr, Ecall, Load}
use Rattle.rv_isa.specs.declared.instruction.ImmOp.TheVariants.{Addi}
use Rattle.rv_isa.specs.declared.instruction.LoadOp.TheVariants.{Ld}
use Rattle.rv_isa.specs.Prelude.{State, updated, number_at, can_read, moved, stack_top, argument_bytes, word_bytes, Exited, Faulted, even_below, step, Comes, Ground, Fixed, InstrAt, WordsStand, Words}
use Rattle.rv_isa.specs.declared.fault.Fault.TheVariants.{Fetch, Load as LoadFault}
use Rattle.rv_isa.proofs.StepLemmas.{step_at}
use Rattle.rv_isa.proofs.MemoryLemmas.{each_from}
use Rattle.rv_isa.proofs.RunLemmas.{comes_then, comes_by_step}
use Rattle.asm_layout.proofs.Running.{instr_at, put_fits}
use Rattle.headline.proofs.MadeAddress.{Gets, address_gets}
use Rattle.obj_link.specs.Prelude.{IsImage, code_start, start_words, write_words, exit_words, contents_of, addresses_of}
use Rattle.elf_file.specs.declared.flags.Flags.TheVariants.{ReadWrite}
use Rattle.elf_file.specs.Conditions.{Executable, Stands}
use Rattle.rv_machine.specs.Starts.{Starts}
use Rattle.rv_machine.proofs.Arguments.{arguments_length}
use Rattle.flat_code.specs.Flat.{NoAccess, ThisByte}
use Rattle.abi_frames.specs.Performs.{IsUsable, passed}
use Rattle.headline.specs.Executables.{Places, DataStands, start_spots, main_numbers, StartRuns, places_of, ExitsWith}
use Rattle.headline.proofs.PlacedWords.{ground_of, words_stand}
use Rattle.headline.proofs.NativeCode.{number_of_exit, numbered, numbered_fixed, even_is, ends, low_status, main_of, behind_start}
use Rattle.headline.proofs.StartMemory.{spot_byte}

-- ---- the instructions

in_8 : Fits12 (pos 8)
in_8 = (grind (arith, ints), grind (arith, ints))

in_0 : Fits12 (pos 0)
in_0 = (grind (arith, ints), grind (arith, ints))

abbrev x2 : Register
x2 = record { number = 2; in_range = lit< tt }

abbrev x5 : Register
x5 = record { number = 5; in_range = lit< tt }

abbrev load_count : Instr
load_count = Load Ld (record { number = 10; in_range = lit< tt }) x2 (record { value = pos 0; in_range = in_0 })

abbrev take_list : Instr
take_list = Imm Addi (record { number = 11; in_range = lit< tt }) x2 (record { value = pos 8; in_range = in_8 })

abbrev call_main : Instr
call_main = Jalr (record { number = 1; in_range = lit< tt }) x5 (record { value = pos 0; in_range = in_0 })

record StandingStart (g : Ground) (main : ℕ) : Type 0 where
  words : WordsStand g code_start (start_words main)
  first : InstrAt g code_start load_count
  second : InstrAt g (code_start + 4) take_list
  fifth : InstrAt g (code_start + 16) call_main
  sixth : InstrAt g (code_start + 20) number_of_exit
  seventh : InstrAt g (code_start + 24) Ecall

start_stands : (p : Program) (codes : List Words) (x : Executable) (words : List (List ℕ)) (s : State) → IsImage (contents_of p codes) → Stands (contents_of p codes) x → Starts x words s → StandingStart (ground_of s) (main_of p codes)
start_stands p codes x words s good stands starts =
    let main = main_of p codes in
    let here : WordsStand (ground_of s) code_start (start_words main) =
    words_stand (contents_of p codes) x words s good stands starts [] (start_words main) (write_words ++ (exit_words ++ behind_start p codes)) refl in
    record {
      words = here;
      first = instr_at (ground_of s) code_start (start_words main) 0 load_count here refl;
      second = instr_at (ground_of s) code_start (start_words main) 1 take_list here refl;
      fifth = instr_at (ground_of s) code_start (start_words main) 4 call_main here refl;
      sixth = instr_at (ground_of s) code_start (start_words main) 5 number_of_exit here refl;
      seventh = instr_at (ground_of s) code_start (start_words main) 6 Ecall here refl;
    }

-- ---- the number of words

number_of_few : (n a b c d e f g h : ℕ) → n ≤ 1024 → a ≡ n % 256 → b ≡ n / 256 % 256 → c ≡ n / 256 ^ 2 % 256 → d ≡ n / 256 ^ 3 % 256 → e ≡ n / 256 ^ 4 % 256 → f ≡ n / 256 ^ 5 % 256 → g ≡ n / 256 ^ 6 % 256 → h ≡ n / 256 ^ 7 % 256
    → a + 256 * (b + 256 * (c + 256 * (d + 256 * (e + 256 * (f + 256 * (g + 256 * (h + 256 * 0))))))) ≡ n
number_of_few n a b c d e f g h few ha hb hc hd he hf hg hh = omega (arith, few, ha, hb, hc, hd, he, hf, hg, hh)

arguments_begin : (words : List (List ℕ)) (k : ℕ) → k < 8 → slice_index (argument_bytes words) k ≡ byte_at k (length words)
unfolding argument_bytes
arguments_begin words zero h = refl
arguments_begin words (suc zero) h = refl
arguments_begin words (suc (suc zero)) h = refl
arguments_begin words (suc (suc (suc zero))) h = refl
arguments_begin words (suc (suc (suc (suc zero)))) h = refl
arguments_begin words (suc (suc (suc (suc (suc zero))))) h = refl
arguments_begin words (suc (suc (suc (suc (suc (suc zero)))))) h = refl
arguments_begin words (suc (suc (suc (suc (suc (suc (suc zero))))))) h = refl
arguments_begin words (suc (suc (suc (suc (suc (suc (suc (suc k)))))))) h = absurd (omega (arith, h))

count_is : (f : ℕ → ℕ) (at n : ℕ) → n ≤ 1024 → ((k : ℕ) → k < 8 → f (at + k) ≡ byte_at k n) → number_at f at 8 ≡ n
unfolding number_at
count_is f at n few bytes =
    number_of_few n (f at) (f (at + 1)) (f (at + 1 + 1)) (f (at + 1 + 1 + 1)) (f (at + 1 + 1 + 1 + 1)) (f (at + 1 + 1 + 1 + 1 + 1)) (f (at + 1 + 1 + 1 + 1 + 1 + 1)) (f (at + 1 + 1 + 1 + 1 + 1 + 1 + 1)) few
    (ap f (omega arith) ∙ bytes 0 (omega arith)) (bytes 1 (omega arith)) (ap f (omega arith) ∙ bytes 2 (omega arith)) (ap f (omega arith) ∙ bytes 3 (omega arith))
    (ap f (omega arith) ∙ bytes 4 (omega arith)) (ap f (omega arith) ∙ bytes 5 (omega arith)) (ap f (omega arith) ∙ bytes 6 (omega arith)) (ap f (omega arith) ∙ bytes 7 (omega arith))

word_count : (x : Executable) (words : List (List ℕ)) (s : State) → Starts x words s → length words ≤ 1024 → number_at s.bytes stack_top 8 ≡ length words
word_count x words s starts few =
    count_is s.bytes stack_top (length words) few
    (λ k lt. let long = arguments_length words in starts.begins.arguments k (omega (arith, lt, long)) ∙ arguments_begin words k lt)

count_readable : (x : Executable) (words : List (List ℕ)) (s : State) → Starts x words s → can_read s stack_top 8 ≡ true
count_readable x words s starts =
    each_from (λ a. (s.allows a).readable) stack_top 8
    (λ a low high. let long = arguments_length words in starts.begins.readable a (omega (arith, low)) (omega (arith, high, long)))

-- ---- up to `main`

abbrev counted : State → ℕ → State
counted s n = record s { pc = (s.pc + 4) % 2 ^ 64; registers = updated s.registers 10 n }

abbrev listed : State → ℕ → State
listed s n = record s { pc = ((s.pc + 4) % 2 ^ 64 + 4) % 2 ^ 64; registers = updated (updated s.registers 10 n) 11 (stack_top + 8) }

abbrev in_main : State → ℕ → State
in_main u main = record u { pc = main; registers = updated u.registers 1 (code_start + 20) }

counts : (g : Ground) (s : State) (n : ℕ) → Fixed g s → s.pc ≡ code_start → s.registers 2 ≡ stack_top → can_read s stack_top 8 ≡ true → number_at s.bytes stack_top 8 ≡ n → InstrAt g code_start load_count → step s ≡ Ok (counted s n)
counts g s n fixed place top readable is stand =
    step_at g s load_count fixed (subst (λ a. InstrAt g a load_count) (sym place) stand)
    ∙ (ap (λ a. if can_read s (moved a (pos 0)) 8 then Ok (counted s (number_at s.bytes (moved a (pos 0)) 8)) else Err (Faulted LoadFault s.pc)) top
    ∙ (ap (λ t. if t then Ok (counted s (number_at s.bytes stack_top 8)) else Err (Faulted LoadFault s.pc)) readable ∙ ap (λ m. Ok (counted s m)) is))

lists : (g : Ground) (s : State) (n : ℕ) → n < 2 ^ 64 → Fixed g s → s.pc ≡ code_start → s.registers 2 ≡ stack_top → InstrAt g (code_start + 4) take_list → step (counted s n) ≡ Ok (listed s n)
lists g s n small fixed place top stand =
    let next : code_start + 4 ≡ (s.pc + 4) % 2 ^ 64 = ap (λ a. (a + 4) % 2 ^ 64) (sym place) in
    let mid : Fixed g (counted s n) =
    record { permissions = fixed.permissions; code_here = fixed.code_here; words = λ m. put_fits s.registers 10 n m small fixed.words; small = fixed.small } in
    step_at g (counted s n) take_list mid (subst (λ a. InstrAt g a take_list) next stand)
    ∙ ap (λ a. Ok (record s { pc = ((s.pc + 4) % 2 ^ 64 + 4) % 2 ^ 64; registers = updated (updated s.registers 10 n) 11 ((a + 8) % 2 ^ 64) })) top

listed_fixed : (g : Ground) (s : State) (n : ℕ) → n < 2 ^ 64 → Fixed g s → Fixed g (listed s n)
listed_fixed g s n small fixed =
    record {
      permissions = fixed.permissions;
      code_here = fixed.code_here;
      words = λ m. put_fits (updated s.registers 10 n) 11 (stack_top + 8) m (lit< tt) (λ k. put_fits s.registers 10 n k small fixed.words);
      small = fixed.small;
    }

enters : (g : Ground) (u : State) (main : ℕ) → Fixed g u → u.pc ≡ code_start + 16 → u.registers 5 ≡ main → main < 2 ^ 64 → main % 4 ≡ 0 → InstrAt g (code_start + 16) call_main → step u ≡ Ok (in_main u main)
enters g u main fixed place is small aligned stand =
    step_at g u call_main fixed (subst (λ a. InstrAt g a call_main) (sym place) stand)
    ∙ (ap (λ a. if even_below (moved a (pos 0)) % 4 == 0 then Ok (record u { pc = even_below (moved a (pos 0)); registers = updated u.registers 1 ((u.pc + 4) % 2 ^ 64) }) else Err (Faulted Fetch u.pc)) is
    ∙ (ap (λ a. if a % 4 == 0 then Ok (record u { pc = a; registers = updated u.registers 1 ((u.pc + 4) % 2 ^ 64) }) else Err (Faulted Fetch u.pc)) (even_is main small aligned)
    ∙ (ap (λ m. if m == 0 then Ok (record u { pc = main; registers = updated u.registers 1 ((u.pc + 4) % 2 ^ 64) }) else Err (Faulted Fetch u.pc)) aligned
    ∙ ap (λ a. Ok (record u { pc = main; registers = updated u.registers 1 ((a + 4) % 2 ^ 64) })) place)))

record Called (g : Ground) (s : State) (main n : ℕ) : Type 0 where
  steps : ℕ
  few : steps ≤ 5
  state : State
  comes : Comes s steps state
  fixed : Fixed g state
  place : state.pc ≡ main
  back : state.registers 1 ≡ code_start + 20
  top : state.registers 2 ≡ stack_top
  count : state.registers 10 ≡ n
  list : state.registers 11 ≡ stack_top + 8
  output : state.output ≡ s.output
  bytes : state.bytes ≡ s.bytes

calls : (g : Ground) (s : State) (main n : ℕ) → Fixed g s → s.pc ≡ code_start → s.registers 2 ≡ stack_top → can_read s stack_top 8 ≡ true → number_at s.bytes stack_top 8 ≡ n → n ≤ 1024 → main < 2 ^ 31 → main % 4 ≡ 0 → StandingStart g main → Called g s main n
calls g s main n fixed place top readable is few small aligned stand =
    let n_small : n < 2 ^ 64 = omega (arith, few) in
    let one = counts g s n fixed place top readable is stand.first in
    let two = lists g s n n_small fixed place top stand.second in
    let s2 = listed s n in
    let here : s2.pc ≡ code_start + 4 * 2 = ap (λ a. ((a + 4) % 2 ^ 64 + 4) % 2 ^ 64) place in
    let gets : Gets g 2 (code_start + 16) x5 main s2 =
    address_gets g code_start (start_words main) x5 main 2 not_zero small stand.words (refl, (refl, tt)) s2 (listed_fixed g s n n_small fixed) here in
    let u = gets.after in
    let last = enters g u main gets.fixed gets.place gets.value (omega (arith, small)) aligned stand.fifth in
    let count_few = gets.at_most in
    record {
      steps = 1 + 1 + gets.count + 1;
      few = omega (arith, count_few);
      state = in_main u main;
      comes = comes_then (comes_then (comes_then (comes_by_step s (counted s n) one) (comes_by_step (counted s n) s2 two)) gets.comes) (comes_by_step u (in_main u main) last);
      fixed =
          record { permissions = gets.fixed.permissions; code_here = gets.fixed.code_here; words = λ m. put_fits u.registers 1 (code_start + 20) m (lit< tt) gets.fixed.words; small = gets.fixed.small };
      place = refl;
      back = refl;
      top = gets.registers 2 (λ e. cc) ∙ top;
      count = gets.registers 10 (λ e. cc);
      list = gets.registers 11 (λ e. cc);
      output = gets.output;
      bytes = gets.bytes;
    }
  where
    not_zero : x5.number ≡ 0 → ⊥
    not_zero e = cc

-- ---- from the return

exits : (g : Ground) (main : ℕ) → StandingStart g main → (u : State) (n : ℕ) → Fixed g u → u.pc ≡ code_start + 20 → u.registers 10 ≡ passed W n → ExitsWith 2 n u
exits g main stand u n fixed place result =
    let u1 = numbered 93 u in
    let first : step u ≡ Ok u1 = step_at g u number_of_exit fixed (subst (λ a. InstrAt g a number_of_exit) (sym place) stand.sixth) in
    let at1 : code_start + 24 ≡ u1.pc = ap (λ a. (a + 4) % 2 ^ 64) (sym place) in
    let second : step u1 ≡ Err (Exited (u.registers 10 % 256)) = step_at g u1 Ecall (numbered_fixed g 93 u (lit< tt) fixed) (subst (λ a. InstrAt g a Ecall) at1 stand.seventh) in
    record { steps = 2; last = u1; few = lit≤ tt; stopped = ends u u1 (u.registers 10 % 256) (n % 256) first second (low_status n (u.registers 10) result); output = refl }

-- ---- what `main` finds

abbrev InRange : Places → List (List ℕ) → ℕ → Type 0
InRange at words a = ((at.low ≤ a) × (a < at.high)) ⊎ ((stack_top ≤ a) × (a < stack_top + length (argument_bytes words)))

range_of : (at : Places) (words : List (List ℕ)) (s : State) (a : ℕ) → start_spots at words s a ≢ NoAccess → InRange at words a
range_of at words s a some = by (nat_le at.low a && nat_lt a at.high) refl (nat_le stack_top a && nat_lt a (stack_top + length (argument_bytes words))) refl some
  where
    by : (b : Bool) → (nat_le at.low a && nat_lt a at.high) ≡ b → (c : Bool) → (nat_le stack_top a && nat_lt a (stack_top + length (argument_bytes words))) ≡ c
        → ((if b || c then ThisByte (s.bytes a) else NoAccess) ≡ NoAccess → ⊥) → InRange at words a
    by true h c k away = inl (grind (arith, nat_tests), grind (arith, nat_tests))
    by false h true k away = inr (grind (arith, nat_tests), grind (arith, nat_tests))
    by false h false k away = absurd (away refl)

usable_at : (p : Program) (at : Places) (x : Executable) (words : List (List ℕ)) (s : State) → Starts x words s → DataStands p at x → length words ≤ 1024 → length (word_bytes words) ≤ 65536 → (a : ℕ) → InRange at words a → IsUsable (ground_of s) a
usable_at p at x words s starts there few short a (inl r) =
    let is = starts.permissions a ReadWrite (there.usable a r.0 r.1) in
    let below = there.below in
    let high = r.1 in
    record {
      readable = ap (λ (q : Permission). q.readable) is;
      writable = ap (λ (q : Permission). q.writable) is;
      small = omega (arith, below, high);
    }
usable_at p at x words s starts there few short a (inr r) =
    let long = arguments_length words in
    let low = r.0 in
    let high = r.1 in
    record {
      readable = starts.begins.readable a (omega (arith, low)) r.1;
      writable = starts.begins.writable a (omega (arith, low)) r.1;
      small = omega (arith, high, long, few, short);
    }

-- ---- the arguments of `main`

small_word : (n : ℕ) → n ≤ 1024 → passed W n ≡ n
small_word n h = grind (arith, ints)

in_main_registers : (params : List Param) (words : List (List ℕ)) (u : State) → length words ≤ 1024 → u.registers 10 ≡ length words → u.registers 11 ≡ stack_top + 8 → (k n : ℕ) (c : Class) → slice_get (main_classes params) k ≡ Some c → slice_get (main_numbers words params) k ≡ Some n → u.registers (10 + k) ≡ passed c n
in_main_registers [] words u few count list zero n c class arg = absurd (let no : ⊥ = cc in no)
in_main_registers [] words u few count list (suc k) n c class arg = absurd (let no : ⊥ = cc in no)
in_main_registers (x ∷ xs) words u few count list zero n c class arg =
    let is : length words ≡ n = cc in
    let word : W ≡ c = cc in
    count ∙ (sym (small_word (length words) few) ∙ (ap (λ m. passed W m) is ∙ ap (λ d. passed d n) word))
in_main_registers (x ∷ xs) words u few count list (suc zero) n c class arg =
    let is : stack_top + 8 ≡ n = cc in
    let long : L ≡ c = cc in
    list ∙ (is ∙ ap (λ d. passed d n) long)
in_main_registers (x ∷ xs) words u few count list (suc (suc k)) n c class arg = absurd (let no : ⊥ = cc in no)

few_classes : (params : List Param) → length (main_classes params) ≤ 2
few_classes [] = omega arith
few_classes (x ∷ xs) = omega arith

none_past : (params : List Param) (k : ℕ) (c : Class) → 8 ≤ k → slice_get (main_classes params) k ≡ Some c → ⊥
none_past [] k c le h = cc
none_past (x ∷ xs) zero c le h = omega (arith, le)
none_past (x ∷ xs) (suc zero) c le h = omega (arith, le)
none_past (x ∷ xs) (suc (suc k)) c le h = cc

-- ---- the whole

pub start_runs : (p : Program) (codes : List Words) (x : Executable) (words : List (List ℕ)) (s : State) → IsImage (contents_of p codes) → Stands (contents_of p codes) x → Starts x words s → DataStands p (places_of p codes) x
    → length words ≤ 1024 → length (word_bytes words) ≤ 65536
    → slice_get (addresses_of p codes).functions p.main ≡ Some (main_of p codes) → main_of p codes < 2 ^ 31 → main_of p codes % 4 ≡ 0
    → StartRuns (places_of p codes) p words s
start_runs p codes x words s good stands starts there few short is_main small aligned =
    let at = places_of p codes in
    let g = ground_of s in
    let main = main_of p codes in
    let state = starts.begins.state in
    let fixed : Fixed g s = record { permissions = refl; code_here = λ a h. refl; words = state.registers; small = state.bytes } in
    let stand = start_stands p codes x words s good stands starts in
    let c = calls g s main (length words) fixed (starts.entry ∙ stands.entry) starts.begins.stack_pointer (count_readable x words s starts) (word_count x words s starts few) few small aligned stand in
    let params = params_of (slice_get p.functions p.main) in
    record {
      main = main;
      is_main = is_main;
      sp = stack_top;
      stack = record { above = lit≤ tt; below = lit≤ tt; aligned = refl };
      steps = c.steps;
      called = c.state;
      comes = c.comes;
      output = c.output;
      ready =
          λ turns.
          record {
            fixed = c.fixed;
            place = c.place;
            stack_pointer = c.top;
            return_address = ap (λ a. a % 4) c.back;
            in_registers = λ k n d lt class arg. in_main_registers params words c.state few c.count c.list k n d class arg;
            on_stack = λ k n d le class arg. absurd (none_past params k d le class);
            below_top = let some = few_classes params in omega (arith, some);
            memory =
                record {
                  known = λ a n h. ap (λ (f : ℕ → ℕ). f a) c.bytes ∙ spot_byte at words s a n h;
                  usable = λ a some. usable_at p at x words s starts there few short a (range_of at words s a some);
                };
          };
      leaving = 2;
      leaves = λ u n f back result. exits g main stand u n f (back ∙ c.back) result;
      price = let five = c.few in omega (arith, five);
    }
