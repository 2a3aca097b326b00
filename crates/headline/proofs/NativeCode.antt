-- The words of `write` and `exit` perform the two, wherever the machine is called from.
use Rattle.std.proofs.Common.{◌≡◌, ◌≢◌, ℕ, zero, suc, ◌+◌, ◌-◌, ◌%◌, ◌^◌, ◌<◌, ◌≤◌, Bool, true, false, ◌&&◌, nat_le, List, [], ◌∷◌, ◌++◌, refl, sym, ◌∙◌, ap, subst, arith, lit<, lit≤, ◌==◌, if◌then◌else◌, nat_eq, slice_get, pos, Option, Some, None, Ok, Err, option_map, option_and_then}
use Rattle.std.proofs.lemmas.Bool.Decides.{nat_tests}
use Rattle.std.proofs.lemmas.Int.{ints}
use Rattle.bits.specs.Words.{sign_extended, Fits12}
use Rattle.il_ast.specs.declared.operation.Class.TheVariants.{W, L}
use Rattle.il_ast.specs.declared.program.Program.{Program}
use Rattle.il_ast.specs.declared.value.Callee.TheVariants.{Defined}
use Rattle.il_ast.specs.Prelude.{one_call}
use Rattle.rv_isa.specs.declared.instruction.Instr.{Instr}
use Rattle.rv_isa.specs.declared.instruction.Instr.TheVariants.{Imm, Jalr, Ecall}
use Rattle.rv_isa.specs.declared.instruction.ImmOp.TheVariants.{Addi}
use Rattle.rv_isa.specs.Prelude.{State, updated, bytes_at, each_of, can_read, moved, Exited, Faulted, even_below, step, Stopped, runs, then_run, Ground, Fixed, InstrAt, WordsStand, Words}
use Rattle.rv_isa.specs.declared.fault.Fault.TheVariants.{Fetch, Load as LoadFault}
use Rattle.rv_isa.proofs.StepLemmas.{step_at}
use Rattle.rv_isa.proofs.RunLemmas.{comes_then, comes_by_step}
use Rattle.asm_layout.proofs.Running.{instr_at, put_fits}
use Rattle.obj_link.specs.Prelude.{IsImage, write_address, exit_address, functions_start, start_words, write_words, exit_words, functions_words, addresses_of, contents_of, callee_address}
use Rattle.elf_file.specs.Conditions.{Executable, Stands}
use Rattle.rv_machine.specs.Starts.{Starts}
use Rattle.flat_code.specs.Flat.{Spot, NoAccess, AnyByte, ThisByte, Spots, FlatGiven}
use Rattle.abi_frames.specs.Performs.{World, HoldsSpots, Ready, is_kept, Returns, Performs}
use Rattle.headline.specs.Executables.{setting_of, places_of, PlacedNatives}
use Rattle.headline.specs.Knot.{known_byte, known_bytes, flat_answered, flat_put_out, flat_write, flat_exit}
use Rattle.headline.proofs.PlacedWords.{ground_of, words_stand}
use Rattle.headline.proofs.StartMemory.{not_away}

-- ---- the instructions

in_64 : Fits12 (pos 64)
in_64 = (grind (arith, ints), grind (arith, ints))

pub in_93 : Fits12 (pos 93)
in_93 = (grind (arith, ints), grind (arith, ints))

in_0 : Fits12 (pos 0)
in_0 = (grind (arith, ints), grind (arith, ints))

abbrev number_of_write : Instr
number_of_write = Imm Addi (record { number = 17; in_range = lit< tt }) (record { number = 0; in_range = lit< tt }) (record { value = pos 64; in_range = in_64 })

abbrev pub number_of_exit : Instr
number_of_exit = Imm Addi (record { number = 17; in_range = lit< tt }) (record { number = 0; in_range = lit< tt }) (record { value = pos 93; in_range = in_93 })

abbrev go_back : Instr
go_back = Jalr (record { number = 0; in_range = lit< tt }) (record { number = 1; in_range = lit< tt }) (record { value = pos 0; in_range = in_0 })

-- ---- known bytes can be read

record Readable (g : Ground) (f : Spots) (s : State) (at n : ℕ) (bytes : List ℕ) : Type 0 where
  each : each_of (λ a. (s.allows a).readable) at n ≡ true
  are : bytes_at s.bytes at n ≡ bytes
  below : at + n ≤ 2 ^ 64

readable_from : (g : Ground) (f : Spots) (s : State) → Fixed g s → HoldsSpots g f s → (n at : ℕ) (bytes : List ℕ) → at ≤ 2 ^ 64 → known_bytes f at n ≡ Some bytes → Readable g f s at n bytes
unfolding each_of bytes_at
readable_from g f s fixed holds zero at bytes le h = record { each = refl; are = same_bytes [] bytes h; below = omega (arith, le) }
  where
    same_bytes : (xs ys : List ℕ) → Some xs ≡ Some ys → xs ≡ ys
    same_bytes xs ys e = cc
readable_from g f s fixed holds (suc n) at bytes le h =
    by (f at) (known_bytes f (at + 1) n) refl refl (λ lt bs e. readable_from g f s fixed holds n (at + 1) bs (omega (arith, lt)) e) h
  where
    by : (o : Spot) (rest : Option (List ℕ)) → f at ≡ o → known_bytes f (at + 1) n ≡ rest
        → (at < 2 ^ 64 → (bs : List ℕ) → known_bytes f (at + 1) n ≡ Some bs → Readable g f s (at + 1) n bs)
        → option_and_then (λ b. option_map (λ bs. b ∷ bs) rest) (known_byte o) ≡ Some bytes → Readable g f s at (suc n) bytes
    by NoAccess rest is more again e = absurd (let no : ⊥ = cc in no)
    by AnyByte rest is more again e = absurd (let no : ⊥ = cc in no)
    by (ThisByte b) None is more again e = absurd (let no : ⊥ = cc in no)
    by (ThisByte b) (Some bs) is more again e =
        let usable = holds.usable at (not_away (f at) b is) in
        let rest = again usable.small bs more in
        let whole : b ∷ bs ≡ bytes = cc in
        let readable : (s.allows at).readable ≡ true = ap (λ p. (p at).readable) fixed.permissions ∙ usable.readable in
        let far = rest.below in
        record {
          each = ap (λ t. t && each_of (λ a. (s.allows a).readable) (at + 1) n) readable ∙ rest.each;
          are = ap (λ x. x ∷ bytes_at s.bytes (at + 1) n) (holds.known at b is) ∙ ap (λ l. b ∷ l) rest.are ∙ whole;
          below = omega (arith, far);
        }

-- ---- `write`

-- x17 has a system call's number
abbrev pub numbered : ℕ → State → State
numbered k s = record s { pc = (s.pc + 4) % 2 ^ 64; registers = updated s.registers 17 k }

-- and x10 the result, after this output in all
abbrev answered : State → List ℕ → ℕ → State
answered s all n =
    record { pc = ((s.pc + 4) % 2 ^ 64 + 4) % 2 ^ 64; registers = updated (updated s.registers 17 64) 10 n; bytes = s.bytes; allows = s.allows; output = all }

abbrev went_back : State → List ℕ → ℕ → State
went_back s all n = record (answered s all n) { pc = s.registers 1 }

pub numbered_fixed : (g : Ground) (k : ℕ) (s : State) → k < 2 ^ 64 → Fixed g s → Fixed g (numbered k s)
numbered_fixed g k s small f =
    record { permissions = f.permissions; code_here = f.code_here; words = λ n. put_fits s.registers 17 k n small f.words; small = f.small }

answered_fixed : (g : Ground) (s : State) (all : List ℕ) (n : ℕ) → n < 2 ^ 64 → Fixed g s → Fixed g (answered s all n)
answered_fixed g s all n small f =
    record {
      permissions = f.permissions;
      code_here = f.code_here;
      words = λ m. put_fits (updated s.registers 17 64) 10 n m small (λ k. put_fits s.registers 17 64 k (lit< tt) f.words);
      small = f.small;
    }

back_fixed : (g : Ground) (s : State) (all : List ℕ) (n : ℕ) → n < 2 ^ 64 → Fixed g s → Fixed g (went_back s all n)
back_fixed g s all n small f =
    record { permissions = f.permissions; code_here = f.code_here; words = (answered_fixed g s all n small f).words; small = f.small }

-- the address in x1, a multiple of 4
pub even_is : (r : ℕ) → r < 2 ^ 64 → r % 4 ≡ 0 → even_below (moved r (pos 0)) ≡ r
even_is r small aligned = let same : moved r (pos 0) ≡ r = omega (arith, small) in ap even_below same ∙ omega (arith, aligned)

kept_apart : (n : ℕ) → is_kept n ≡ true → (n ≢ 17) × (n ≢ 10)
kept_apart n h = ((λ e. no17 (subst (λ m. is_kept m ≡ true) e h)), (λ e. no10 (subst (λ m. is_kept m ≡ true) e h)))
  where
    no17 : is_kept 17 ≡ true → ⊥
    no17 k = cc

    no10 : is_kept 10 ≡ true → ⊥
    no10 k = cc

kept_same : (f : ℕ → ℕ) (v w n : ℕ) → is_kept n ≡ true → updated (updated f 17 v) 10 w n ≡ f n
kept_same f v w n h =
    let other = kept_apart n h in
    elsewhere (updated f 17 v) 10 w n other.1 ∙ elsewhere f 17 v n other.0
  where
    elsewhere : (q : ℕ → ℕ) (at x m : ℕ) → m ≢ at → updated q at x m ≡ q m
    elsewhere q at x m other = by (m == at) refl
      where
        by : (b : Bool) → (m == at) ≡ b → (if b then x else q m) ≡ q m
        by true e = absurd (other (grind (arith, nat_tests)))
        by false e = refl

-- where the system call answers, `write` returns
record Standing (g : Ground) : Type 0 where
  first : InstrAt g write_address number_of_write
  second : InstrAt g (write_address + 4) Ecall
  third : InstrAt g (write_address + 8) go_back

write_returns : (w : World) (sp : ℕ) (j : FlatGiven) (s : State) → Standing w.memory_map → Ready w write_address sp (W ∷ L ∷ L ∷ []) j s → (all out : List ℕ) (n : ℕ) → n < 2 ^ 64 → all ≡ s.output ++ out → step (numbered 64 s) ≡ Ok (answered s all n) → Returns w sp (Some L) j.memory s (record one_call { output = out }) (Some n) j.memory
write_returns w sp j s stand ready all out n small puts asks =
    let g = w.memory_map in
    let fixed = ready.fixed in
    let s1 = numbered 64 s in
    let s2 = answered s all n in
    let s3 = went_back s all n in
    let first : step s ≡ Ok s1 = step_at g s number_of_write fixed (subst (λ a. InstrAt g a number_of_write) (sym ready.place) stand.first) in
    let at2 : write_address + 8 ≡ s2.pc = ap (λ a. ((a + 4) % 2 ^ 64 + 4) % 2 ^ 64) (sym ready.place) in
    let back : even_below (moved (s.registers 1) (pos 0)) ≡ s.registers 1 = even_is (s.registers 1) (fixed.words 1) ready.return_address in
    let third : step s2 ≡ Ok s3 =
    step_at g s2 go_back (answered_fixed g s all n small fixed) (subst (λ a. InstrAt g a go_back) at2 stand.third)
    ∙ jumps s2 (even_below (moved (s.registers 1) (pos 0))) (s.registers 1) back ready.return_address in
    record {
      steps = 3;
      after = s3;
      comes = comes_then (comes_then (comes_by_step s s1 first) (comes_by_step s1 s2 asks)) (comes_by_step s2 s3 third);
      price = lit≤ tt;
      pace = lit≤ tt;
      output = puts;
      result = refl;
      back =
          record {
            fixed = back_fixed g s all n small fixed;
            place = refl;
            kept = λ m h. kept_same s.registers 64 n m h;
            memory = record { known = ready.memory.known; usable = ready.memory.usable };
            others = λ x low away. refl;
          };
    }
  where
    jumps : (u : State) (a b : ℕ) → a ≡ b → b % 4 ≡ 0 → (if a % 4 == 0 then Ok (record u { pc = a }) else Err (Faulted Fetch u.pc)) ≡ Ok (record u { pc = b })
    jumps u a b e aligned = ap (λ x. if x % 4 == 0 then Ok (record u { pc = x }) else Err (Faulted Fetch u.pc)) e ∙ ap (λ x. if x == 0 then Ok (record u { pc = b }) else Err (Faulted Fetch u.pc)) aligned

-- ---- the system call

asks_so : (g : Ground) (s : State) → Fixed g s → s.pc ≡ write_address → Standing g → step (numbered 64 s)
    ≡ (if s.registers 10 % 2 ^ 32 == 1
    then (if can_read s (s.registers 11) (s.registers 12)
    then Ok (answered s (s.output ++ bytes_at s.bytes (s.registers 11) (s.registers 12)) (s.registers 12))
    else Err (Faulted LoadFault ((s.pc + 4) % 2 ^ 64)))
    else Ok (answered s s.output (2 ^ 64 - 9)))
asks_so g s fixed place stand =
    let at1 : write_address + 4 ≡ (s.pc + 4) % 2 ^ 64 = ap (λ a. (a + 4) % 2 ^ 64) (sym place) in
    step_at g (numbered 64 s) Ecall (numbered_fixed g 64 s (lit< tt) fixed) (subst (λ a. InstrAt g a Ecall) at1 stand.second)

-- the descriptor stands sign-extended
descriptor : (d x : ℕ) → x ≡ sign_extended (d % 2 ^ 32) → x % 2 ^ 32 ≡ d % 2 ^ 32
descriptor d x e = grind (arith, ints)

readable_now : (g : Ground) (f : Spots) (s : State) (at n : ℕ) (bytes : List ℕ) → Readable g f s at n bytes → can_read s at n ≡ true
readable_now g f s at n bytes r =
    let below = r.below in
    let small : nat_le (at + n) (2 ^ 64) ≡ true = grind (arith, nat_tests) in
    ap (λ t. t && each_of (λ a. (s.allows a).readable) at n) small ∙ r.each

write_performs : (w : World) (sp : ℕ) (j : FlatGiven) (s : State) → Standing w.memory_map → Ready w write_address sp (W ∷ L ∷ L ∷ []) j s → (xs : List ℕ) → j.args ≡ xs → Performs w sp (Some L) j.memory s (flat_write j.memory xs)
write_performs w sp j s stand ready [] e = tt
write_performs w sp j s stand ready (d ∷ []) e = tt
write_performs w sp j s stand ready (d ∷ from ∷ []) e = tt
write_performs w sp j s stand ready (d ∷ from ∷ n ∷ m ∷ ms) e = tt
write_performs w sp j s stand ready (d ∷ from ∷ n ∷ []) e =
    by (nat_eq (d % 2 ^ 32) 1) refl (nat_eq n 0) refl (known_bytes j.memory from n) refl
  where
    x10 : s.registers 10 ≡ sign_extended (d % 2 ^ 32)
    x10 = ready.in_registers 0 d W (omega arith) refl (ap (λ l. slice_get l 0) e)

    x11 : s.registers 11 ≡ from
    x11 = ready.in_registers 1 from L (omega arith) refl (ap (λ l. slice_get l 1) e)

    x12 : s.registers 12 ≡ n
    x12 = ready.in_registers 2 n L (omega arith) refl (ap (λ l. slice_get l 2) e)

    low : s.registers 10 % 2 ^ 32 ≡ d % 2 ^ 32
    low = descriptor d (s.registers 10) x10

    from_small : from ≤ 2 ^ 64
    from_small = let h = ready.fixed.words 11 in omega (arith, h, x11)

    n_small : n < 2 ^ 64
    n_small = subst (λ k. k < 2 ^ 64) x12 (ready.fixed.words 12)

    -- the bytes are put out
    puts : (d % 2 ^ 32 == 1) ≡ true → (bytes : List ℕ) → Readable w.memory_map j.memory s from n bytes → step (numbered 64 s) ≡ Ok (answered s (s.output ++ bytes) n)
    puts one bytes r =
        asks_so w.memory_map s ready.fixed ready.place stand
        ∙ (ap (λ k. if k == 1
        then (if can_read s (s.registers 11) (s.registers 12)
        then Ok (answered s (s.output ++ bytes_at s.bytes (s.registers 11) (s.registers 12)) (s.registers 12))
        else Err (Faulted LoadFault ((s.pc + 4) % 2 ^ 64)))
        else Ok (answered s s.output (2 ^ 64 - 9))) low
        ∙ (ap (λ t. if t
        then (if can_read s (s.registers 11) (s.registers 12)
        then Ok (answered s (s.output ++ bytes_at s.bytes (s.registers 11) (s.registers 12)) (s.registers 12))
        else Err (Faulted LoadFault ((s.pc + 4) % 2 ^ 64)))
        else Ok (answered s s.output (2 ^ 64 - 9))) one
        ∙ (ap (λ a. if can_read s a (s.registers 12)
        then Ok (answered s (s.output ++ bytes_at s.bytes a (s.registers 12)) (s.registers 12))
        else Err (Faulted LoadFault ((s.pc + 4) % 2 ^ 64))) x11
        ∙ (ap (λ k. if can_read s from k
        then Ok (answered s (s.output ++ bytes_at s.bytes from k) k)
        else Err (Faulted LoadFault ((s.pc + 4) % 2 ^ 64))) x12
        ∙ (ap (λ t. if t
        then Ok (answered s (s.output ++ bytes_at s.bytes from n) n)
        else Err (Faulted LoadFault ((s.pc + 4) % 2 ^ 64))) (readable_now w.memory_map j.memory s from n bytes r)
        ∙ ap (λ l. Ok (answered s (s.output ++ l) n)) r.are)))))

    refused : (d % 2 ^ 32 == 1) ≡ false → step (numbered 64 s) ≡ Ok (answered s s.output (2 ^ 64 - 9))
    refused other =
        asks_so w.memory_map s ready.fixed ready.place stand
        ∙ (ap (λ k. if k == 1
        then (if can_read s (s.registers 11) (s.registers 12)
        then Ok (answered s (s.output ++ bytes_at s.bytes (s.registers 11) (s.registers 12)) (s.registers 12))
        else Err (Faulted LoadFault ((s.pc + 4) % 2 ^ 64)))
        else Ok (answered s s.output (2 ^ 64 - 9))) low
        ∙ ap (λ t. if t
        then (if can_read s (s.registers 11) (s.registers 12)
        then Ok (answered s (s.output ++ bytes_at s.bytes (s.registers 11) (s.registers 12)) (s.registers 12))
        else Err (Faulted LoadFault ((s.pc + 4) % 2 ^ 64)))
        else Ok (answered s s.output (2 ^ 64 - 9))) other)

    is_zero : (m : ℕ) → nat_eq m 0 ≡ true → m ≡ 0
    is_zero m h = grind (arith, nat_tests)

    same_test : (b : Bool) → nat_eq (d % 2 ^ 32) 1 ≡ b → (d % 2 ^ 32 == 1) ≡ b
    same_test b h = h

    nothing_known : nat_eq n 0 ≡ true → known_bytes j.memory from n ≡ Some []
    nothing_known h = ap (known_bytes j.memory from) (is_zero n h)

    by : (b : Bool) → nat_eq (d % 2 ^ 32) 1 ≡ b → (z : Bool) → nat_eq n 0 ≡ z → (o : Option (List ℕ)) → known_bytes j.memory from n ≡ o
        → Performs w sp (Some L) j.memory s (if b then (if z then flat_answered [] 0 j.memory else flat_put_out n j.memory o) else flat_answered [] (2 ^ 64 - 9) j.memory)
    by false one z empty o known =
        write_returns w sp j s stand ready s.output [] (2 ^ 64 - 9) (lit< tt) (sym (no_more s.output)) (refused (same_test false one))
      where
        no_more : (xs : List ℕ) → xs ++ [] ≡ xs
        no_more [] = refl
        no_more (x ∷ xs) = ap (λ l. x ∷ l) (no_more xs)
    by true one true empty o known =
        let none = nothing_known empty in
        let r = readable_from w.memory_map j.memory s ready.fixed ready.memory n from [] from_small none in
        let goes = puts (same_test true one) [] r in
        write_returns w sp j s stand ready (s.output ++ []) [] 0 (lit< tt) refl (goes ∙ ap (λ k. Ok (answered s (s.output ++ []) k)) (is_zero n empty))
    by true one false some None known = tt
    by true one false some (Some bytes) known =
        write_returns w sp j s stand ready (s.output ++ bytes) bytes n n_small refl
        (puts (same_test true one) bytes (readable_from w.memory_map j.memory s ready.fixed ready.memory n from bytes from_small known))

-- ---- `exit`

record StandingExit (g : Ground) : Type 0 where
  first : InstrAt g exit_address number_of_exit
  second : InstrAt g (exit_address + 4) Ecall

-- two steps, the second of which exits
pub ends : (a b : State) (k m : ℕ) → step a ≡ Ok b → step b ≡ Err (Exited k) → k ≡ m → runs 2 a ≡ Stopped (Exited m) b
unfolding runs
ends a b k m first second same = ap (then_run (runs 1) a) first ∙ (ap (then_run (runs 0) b) second ∙ ap (λ i. Stopped (Exited i) b) same)

pub low_status : (d x : ℕ) → x ≡ sign_extended (d % 2 ^ 32) → x % 256 ≡ d % 256
low_status d x e = grind (arith, ints)

exit_performs : (w : World) (sp : ℕ) (j : FlatGiven) (s : State) → StandingExit w.memory_map → Ready w exit_address sp (W ∷ []) j s → (xs : List ℕ) → j.args ≡ xs → Performs w sp None j.memory s (flat_exit xs)
exit_performs w sp j s stand ready [] e = tt
exit_performs w sp j s stand ready (d ∷ m ∷ ms) e = tt
exit_performs w sp j s stand ready (d ∷ []) e =
    let g = w.memory_map in
    let fixed = ready.fixed in
    let s1 = numbered 93 s in
    let x10 : s.registers 10 ≡ sign_extended (d % 2 ^ 32) = ready.in_registers 0 d W (omega arith) refl (ap (λ l. slice_get l 0) e) in
    let first : step s ≡ Ok s1 = step_at g s number_of_exit fixed (subst (λ a. InstrAt g a number_of_exit) (sym ready.place) stand.first) in
    let at1 : exit_address + 4 ≡ s1.pc = ap (λ a. (a + 4) % 2 ^ 64) (sym ready.place) in
    let second : step s1 ≡ Err (Exited (s.registers 10 % 256)) = step_at g s1 Ecall (numbered_fixed g 93 s (lit< tt) fixed) (subst (λ a. InstrAt g a Ecall) at1 stand.second) in
    record {
      steps = 2;
      last = s1;
      stopped = ends s s1 (s.registers 10 % 256) (d % 256) first second (low_status d (s.registers 10) x10);
      price = lit≤ tt;
      output = sym (no_more s.output);
    }
  where
    no_more : (xs : List ℕ) → xs ++ [] ≡ xs
    no_more [] = refl
    no_more (x ∷ xs) = ap (λ l. x ∷ l) (no_more xs)

-- ---- both

abbrev pub behind_start : Program → List Words → List ℕ
behind_start p codes = functions_words (addresses_of p codes) p.targets functions_start codes p.functions

abbrev pub main_of : Program → List Words → ℕ
main_of p codes = callee_address (addresses_of p codes) (Defined p.main)

write_stands : (p : Program) (codes : List Words) (x : Executable) (words : List (List ℕ)) (s : State) → IsImage (contents_of p codes) → Stands (contents_of p codes) x → Starts x words s → Standing (ground_of s)
write_stands p codes x words s good stands starts =
    let here : WordsStand (ground_of s) write_address write_words =
    words_stand (contents_of p codes) x words s good stands starts (start_words (main_of p codes)) write_words (exit_words ++ behind_start p codes) refl in
    record {
      first = instr_at (ground_of s) write_address write_words 0 number_of_write here refl;
      second = instr_at (ground_of s) write_address write_words 1 Ecall here refl;
      third = instr_at (ground_of s) write_address write_words 2 go_back here refl;
    }

exit_stands : (p : Program) (codes : List Words) (x : Executable) (words : List (List ℕ)) (s : State) → IsImage (contents_of p codes) → Stands (contents_of p codes) x → Starts x words s → StandingExit (ground_of s)
exit_stands p codes x words s good stands starts =
    let here : WordsStand (ground_of s) exit_address exit_words =
    words_stand (contents_of p codes) x words s good stands starts (start_words (main_of p codes) ++ write_words) exit_words (behind_start p codes) refl in
    record { first = instr_at (ground_of s) exit_address exit_words 0 number_of_exit here refl; second = instr_at (ground_of s) exit_address exit_words 1 Ecall here refl }

pub natives_perform : PlacedNatives
natives_perform p codes x words s good stands starts =
    record {
      write =
          λ at sp j is stack u ready.
          write_performs (setting_of (places_of p codes) words s).world sp j u (write_stands p codes x words s good stands starts)
          (subst (λ a. Ready (setting_of (places_of p codes) words s).world a sp (W ∷ L ∷ L ∷ []) j u) (sym (same write_address at is)) ready) j.args refl;
      exit =
          λ at sp j is stack u ready.
          exit_performs (setting_of (places_of p codes) words s).world sp j u (exit_stands p codes x words s good stands starts)
          (subst (λ a. Ready (setting_of (places_of p codes) words s).world a sp (W ∷ []) j u) (sym (same exit_address at is)) ready) j.args refl;
    }
  where
    same : (a b : ℕ) → Some a ≡ Some b → a ≡ b
    same a b e = cc
