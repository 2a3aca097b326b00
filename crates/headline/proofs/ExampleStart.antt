-- The example meets all that the theorem asks.
use Rattle.std.proofs.Common.{◌≡◌, ◌≢◌, ℕ, zero, suc, ◌+◌, ◌-◌, ◌%◌, ◌^◌, ◌<◌, ◌≤◌, Bool, true, false, List, [], ◌∷◌, refl, sym, ◌∙◌, subst, ap, arith, lit<, lit≤, ◌==◌, ◌&&◌, if◌then◌else◌, nat_le, nat_lt, slice_get, unwrap_or, replicate, Some, None, Ok, Err, pos}
use Rattle.std.proofs.lemmas.Bool.Decides.{nat_tests}
use Rattle.std.proofs.lemmas.Option.{slice_get_past, none-some}
use Rattle.std.proofs.lemmas.Int.{ints}
use Rattle.bits.specs.Words.{sign_extended, Fits12}
use Rattle.il_ast.specs.declared.operation.Class.TheVariants.{W}
use Rattle.il_ast.specs.declared.value.Callee.{Callee}
use Rattle.il_ast.specs.declared.value.Callee.TheVariants.{Defined, SystemWrite, SystemExit}
use Rattle.il_ast.specs.declared.value.Cell.{Cell}
use Rattle.il_ast.specs.declared.value.Cell.TheVariants.{Plain}
use Rattle.il_ast.specs.Prelude.{block_at, start_memory, stack_room, halts}
use Rattle.rv_isa.specs.declared.instruction.Instr.{Instr}
use Rattle.rv_isa.specs.declared.instruction.Instr.TheVariants.{Imm, Ecall}
use Rattle.rv_isa.specs.declared.instruction.ImmOp.TheVariants.{Addi}
use Rattle.rv_isa.specs.Prelude.{State, updated, number_at, each_of, Exited, step, Stopped, runs, then_run, stack_top, stack_bottom, Fixed, InstrAt}
use Rattle.rv_isa.proofs.StepLemmas.{step_at}
use Rattle.rv_isa.proofs.DecodingLaws.{instruction_of-word}
use Rattle.rv_machine.specs.Mapped.{read_and_write}
use Rattle.rv_isa.proofs.RunLemmas.{comes_here}
use Rattle.flat_code.specs.Flat.{NoAccess, ThisByte, IsPlaced, ShowsCell, ShowsMemory}
use Rattle.abi_frames.specs.Performs.{IsUsable, IsWorld, HoldsSpots, Ready, passed}
use Rattle.headline.specs.Knot.{IsSetting, NativesPerform}
use Rattle.headline.specs.Executables.{ExitsWith, CallsMain}
use Rattle.headline.specs.Headline.{Executes}
use Rattle.headline.proofs.Executed.{program_is_executed}
use Rattle.headline.proofs.ExampleLayers.{functions_kept}
use Rattle.headline.specs.Example.{code_bytes, byte, is_code, register, state, entry, base, spot, setting}

-- ---- the machine's memory

in_stack : (x : ℕ) → stack_bottom ≤ x → x < stack_top + 40 → is_code x ≡ read_and_write
in_stack x low high = grind (arith, nat_tests)

usable : (x : ℕ) → stack_bottom ≤ x → x < stack_top + 40 → IsUsable setting.world.memory_map x
usable x low high =
    let is : is_code x ≡ read_and_write = in_stack x low high in
    record {
      readable = ap (λ p. p.readable) is;
      writable = ap (λ p. p.writable) is;
      small = omega arith;
    }

world : IsWorld setting.world
world = record { usable = λ x low high. usable x low (omega arith); above_zero = lit< tt; small = lit< tt }

-- `main` has the one address
entry_is : (f : Callee) (a : ℕ) → entry f ≡ Some a → (f ≡ Defined 0) × (a ≡ 0x10000)
entry_is (Defined zero) a h = (refl, cc)
entry_is (Defined (suc k)) a h = absurd (none-some a h)
entry_is SystemWrite a h = absurd (none-some a h)
entry_is SystemExit a h = absurd (none-some a h)

pub setting_is : IsSetting setting
setting_is =
    record {
      world = world;
      entries =
          record {
            distinct = λ f g a h k. (entry_is f a h).0 ∙ sym (entry_is g a k).0;
            small = λ f a h. subst (λ x. x < 2 ^ 64) (sym (entry_is f a h).1) (lit< tt);
          };
      aligned = λ f a h. ap (λ x. x % 4) (entry_is f a h).1;
    }

pub natives : NativesPerform setting
natives = record { write = λ at sp j h good. absurd (none-some at h); exit = λ at sp j h good. absurd (none-some at h) }

-- ---- bytes

record IsSpot (x n : ℕ) : Type 0 where
  low : stack_top + 8 ≤ x
  high : x < stack_top + 16
  zero_byte : n ≡ 0

spot_is : (x n : ℕ) → spot x ≡ ThisByte n → IsSpot x n
spot_is x n h = of_test (nat_le (stack_top + 8) x && nat_lt x (stack_top + 16)) refl h
  where
    of_test : (b : Bool) → (nat_le (stack_top + 8) x && nat_lt x (stack_top + 16)) ≡ b → (if b then ThisByte 0 else NoAccess) ≡ ThisByte n → IsSpot x n
    of_test true is k = record { low = grind (arith, nat_tests); high = grind (arith, nat_tests); zero_byte = cc }
    of_test false is k = absurd (apart k)
      where
        apart : NoAccess ≡ ThisByte n → ⊥
        apart e = cc

reached : (x : ℕ) → spot x ≢ NoAccess → (stack_top + 8 ≤ x) × (x < stack_top + 16)
reached x h = of_test (nat_le (stack_top + 8) x && nat_lt x (stack_top + 16)) refl h
  where
    of_test : (b : Bool) → (nat_le (stack_top + 8) x && nat_lt x (stack_top + 16)) ≡ b → (if b then ThisByte 0 else NoAccess) ≢ NoAccess → (stack_top + 8 ≤ x) × (x < stack_top + 16)
    of_test true is k = (grind (arith, nat_tests), grind (arith, nat_tests))
    of_test false is k = absurd (k refl)

spot_here : (k : ℕ) → k < 8 → spot (stack_top + 8 + k) ≡ ThisByte 0
spot_here k few = grind (arith, nat_tests)

spot_away : (x : ℕ) → x < stack_top → spot x ≡ NoAccess
spot_away x below = grind (arith, nat_tests)

byte_beyond : (x : ℕ) → 0x1000c ≤ x → byte x ≡ 0
byte_beyond x le = ap (λ o. unwrap_or o 0) (slice_get_past code_bytes (x - 0x10000) (omega arith))

abbrev AreSmall : List ℕ → Type 0
AreSmall [] = Unit {0}
AreSmall (b ∷ bs) = (b < 256) × AreSmall bs

small_at : (bs : List ℕ) → AreSmall bs → (k : ℕ) → unwrap_or (slice_get bs k) 0 < 256
small_at [] h k = lit< tt
small_at (b ∷ bs) h zero = h.0
small_at (b ∷ bs) h (suc k) = small_at bs h.1 k

code_small : AreSmall code_bytes
code_small =
    (lit< tt, (lit< tt, (lit< tt, (lit< tt, (lit< tt, (lit< tt, (lit< tt, (lit< tt, (lit< tt, (lit< tt, (lit< tt, (lit< tt, tt))))))))))))

registers_small : (n : ℕ) → register n < 2 ^ 64
registers_small n = of_tests (n == 1) (n == 2)
  where
    of_tests : (a b : Bool) → (if a then 0x10004 else (if b then stack_top else 0)) < 2 ^ 64
    of_tests true b = lit< tt
    of_tests false true = lit< tt
    of_tests false false = lit< tt

fixed : Fixed setting.world.memory_map state
fixed =
    record {
      permissions = refl;
      code_here = λ a h. refl;
      words = registers_small;
      small = λ a. small_at code_bytes code_small (a - 0x10000);
    }

holds : HoldsSpots setting.world.memory_map spot state
holds =
    record {
      known = λ x n h. let low = (spot_is x n h).low in byte_beyond x (omega arith) ∙ sym (spot_is x n h).zero_byte;
      usable = λ x h. let r = reached x h in let low = r.0 in let high = r.1 in usable x (omega arith) (omega arith);
    }

-- ---- the start memory: one block of eight zero bytes

cell_is : (n k : ℕ) (c : Cell) → slice_get (replicate n (Plain 0)) k ≡ Some c → (k < n) × (Plain 0 ≡ c)
cell_is zero k c h = absurd (none-some c h)
cell_is (suc n) zero c h = (omega arith, cc)
cell_is (suc n) (suc k) c h = let r = cell_is n k c h in let few = r.0 in (omega arith, r.1)

abbrev list_cells : List Cell
list_cells = replicate 8 (Plain 0)

one_block : (b : ℕ) (cells : List Cell) → block_at (start_memory halts []) b ≡ Some cells → (b ≡ 0) × (list_cells ≡ cells)
one_block zero cells h = (refl, cc)
one_block (suc b) cells h = absurd (none-some cells h)

placed : (b : ℕ) (cells : List Cell) → block_at (start_memory halts []) b ≡ Some cells → IsPlaced base b cells
placed b cells h =
    let one = one_block b cells h in
    subst (λ cs. IsPlaced base b cs) one.1
    (subst (λ n. IsPlaced base n (replicate 8 (Plain 0))) (sym one.0)
    (record { base = stack_top + 8; is = refl; above_zero = lit< tt; below_end = lit< tt }))

shown : (b a k : ℕ) (cells : List Cell) (c : Cell) → block_at (start_memory halts []) b ≡ Some cells → base b ≡ Some a → slice_get cells k ≡ Some c → ShowsCell entry base c (spot (a + k))
shown b a k cells c h at found =
    let one = one_block b cells h in
    let cell = cell_is 8 k c (ap (λ cs. slice_get cs k) one.1 ∙ found) in
    let here : Some (stack_top + 8) ≡ Some a = ap base (sym one.0) ∙ at in
    let place : stack_top + 8 ≡ a = cc in
    subst (λ d. ShowsCell entry base d (spot (a + k))) cell.1 (subst (λ x. spot (x + k) ≡ ThisByte 0) place (spot_here k cell.0))

unmade : (b : ℕ) → 1 ≤ b → base b ≡ None
unmade zero h = absurd (omega (arith, h))
unmade (suc b) h = refl

memory : ShowsMemory entry base (start_memory halts []) spot
memory =
    record {
      placed = placed;
      unmade = unmade;
      cells = shown;
      apart = λ b c a d xs ys differ h k at dt some other. absurd (differ ((one_block b xs h).0 ∙ sym (one_block c ys k).0));
      bytes = λ x n h. subst (λ m. m < 256) (sym (spot_is x n h).zero_byte) (lit< tt);
    }

-- ---- behind the return of `main`

in_twelve_bits : Fits12 (pos 93)
in_twelve_bits = (grind (arith, ints), grind (arith, ints))

abbrev exit_number : Instr
exit_number =
    Imm Addi (record { number = 17; in_range = lit< tt }) (record { number = 0; in_range = lit< tt })
    (record { value = pos 93; in_range = in_twelve_bits })

sext_low : (n : ℕ) → sign_extended (n % 2 ^ 32) % 256 ≡ n % 256
sext_low n = grind (arith, ints)

number_stands : InstrAt setting.world.memory_map 0x10004 exit_number
unfolding number_at each_of
number_stands = record { fetched = refl; decoded = instruction_of-word exit_number; aligned = refl; inside = lit< tt }

ecall_stands : InstrAt setting.world.memory_map 0x10008 Ecall
unfolding number_at each_of
ecall_stands = record { fetched = refl; decoded = instruction_of-word Ecall; aligned = refl; inside = lit< tt }

-- x17 has the number of `exit`
abbrev numbered : State → State
numbered u = record u { pc = (u.pc + 4) % 2 ^ 64; registers = updated u.registers 17 93 }

numbered_fixed : (u : State) → Fixed setting.world.memory_map u → Fixed setting.world.memory_map (numbered u)
numbered_fixed u f =
    record { permissions = f.permissions; code_here = f.code_here; words = λ n. of_test (n == 17) n; small = f.small }
  where
    of_test : (b : Bool) (n : ℕ) → (if b then 93 else u.registers n) < 2 ^ 64
    of_test true n = lit< tt
    of_test false n = f.words n

number_step : (u : State) → Fixed setting.world.memory_map u → u.pc ≡ 0x10004 → step u ≡ Ok (numbered u)
number_step u f here =
    step_at setting.world.memory_map u exit_number f (subst (λ a. InstrAt setting.world.memory_map a exit_number) (sym here) number_stands)

exit_step : (u : State) → Fixed setting.world.memory_map u → u.pc ≡ 0x10004 → step (numbered u) ≡ Err (Exited (u.registers 10 % 256))
exit_step u f here =
    let next : 0x10008 ≡ (numbered u).pc = ap (λ a. (a + 4) % 2 ^ 64) (sym here) in
    step_at setting.world.memory_map (numbered u) Ecall (numbered_fixed u f) (subst (λ a. InstrAt setting.world.memory_map a Ecall) next ecall_stands)

exits : (u : State) (n : ℕ) → Fixed setting.world.memory_map u → u.pc ≡ 0x10004 → u.registers 10 ≡ passed W n → ExitsWith 2 n u
unfolding runs
exits u n f here result =
    let status : u.registers 10 % 256 ≡ n % 256 = ap (λ x. x % 256) result ∙ sext_low n in
    record {
      steps = 2;
      last = numbered u;
      few = lit≤ tt;
      stopped =
          ap (then_run (runs 1) u) (number_step u f here)
          ∙ (ap (then_run (runs 0) (numbered u)) (exit_step u f here) ∙ ap (λ k. Stopped (Exited k) (numbered u)) status);
      output = refl;
    }

-- ---- the whole

ready : (turns : ℕ) → Ready setting.world 0x10000 stack_top [] (record { turns = turns; room = stack_room; args = []; memory = spot }) state
ready turns =
    record {
      fixed = fixed;
      place = refl;
      stack_pointer = refl;
      return_address = refl;
      in_registers = λ k n c few class arg. absurd (none-some c class);
      on_stack = λ k n c few class arg. absurd (none-some c class);
      below_top = lit≤ tt;
      memory = holds;
    }

calls_main : CallsMain setting halts [] state
calls_main =
    record {
      at = 0x10000;
      is_main = refl;
      sp = stack_top;
      stack = record { above = lit≤ tt; below = lit≤ tt; aligned = refl };
      memory = spot;
      shows = memory;
      clear = λ x low high. spot_away x high;
      args = [];
      args_show = tt;
      steps = 0;
      called = state;
      comes = comes_here state;
      output = refl;
      ready = ready;
      leaving = 2;
      leaves = exits;
      price = lit≤ tt;
    }

pub example_is_executed : Executes halts [] state
example_is_executed =
    program_is_executed setting halts [] state setting_is (functions_kept setting_is) natives (lit< tt) refl calls_main
