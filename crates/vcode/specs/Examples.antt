-- What the definitions give for the example codes.
use Rattle.std.specs.Prelude.{◌≡◌, ℕ, ◌+◌, ◌-◌, ◌^◌, Bool, List, [], ◌∷◌, Some, None, true, false}
use Rattle.il_ast.specs.declared.operation.Class.TheVariants.{W, L}
use Rattle.il_ast.specs.declared.value.Callee.TheVariants.{Defined}
use Rattle.il_ast.specs.declared.value.Value.{Value}
use Rattle.il_ast.specs.declared.value.Value.TheVariants.{Integer, Function}
use Rattle.il_ast.specs.declared.value.End.TheVariants.{Exit, Halt, Undefined, Turns}
use Rattle.il_ast.specs.Prelude.{Memory, Spent, Outcome, Returned, Ended, Entry, Logged, Asked, Given, Log}
use Rattle.std.specs.List.{list_all, list_any}
use Rattle.vcode.specs.Types.{At, Number, Name, Tick, Set, Alloc, Jump, Goto, Branch, Halt as HaltJump, Register, Slot, Claimed, Code}
use Rattle.vcode.specs.Operations.{passed}
use Rattle.vcode.specs.Places.{Places, virtual, is_callers, located}
use Rattle.vcode.specs.Regular.{leads_inside, allocs_first, IsRegular, area}
use Rattle.vcode.specs.Named.{keeps_places, is_below, is_place, are_near, are_distinct}
use Rattle.vcode.specs.Cost.{is_paid}
use Rattle.vcode.specs.Step.{begin, step}
use Rattle.vcode.specs.ExampleCodes.{block, destination, not_zero, sum, word_as, long_as_word, is_nonzero, caller, keeping, keeping_virtual, loads_word, loads_byte, loads_beyond, loads_before, makes_unnamed, keeps_pointer, compares_pointers, compares_words, squares_pointer, heavy, halts, leads_nowhere, straight}

abbrev pub given : (turns : ℕ) → List Value → Given
given t args = record { turns = t; room = 4096; args = args; memory = [] }

abbrev pub spends : (turns weight : ℕ) → Spent
spends t w = record { turns = t; weight = w; calls = 0; output = [] }

abbrev pub minus : ℕ → ℕ
minus n = 2 ^ 64 - n

-- within so many steps the code goes so, with these calls; name 0 is a function
abbrev pub Goes : {P : Type 0} → Places P → Code P → Given → (steps : ℕ) → Log → Outcome → Type 0
Goes c f i n log o = Logged (step c (Function (Defined 3) ∷ []) f i) n (begin c f i) log o

abbrev pub integer : Spent → ℕ → Memory → Outcome
integer s n m = Returned s (Some (Integer n)) m

-- without a turn or a call: what the code returns for these arguments
abbrev pub Gives : Code ℕ → List Value → ℕ → Memory → Type 0
Gives f args n m = Goes virtual f (given 0 args) 20 [] (integer (spends 0 0) n m)

-- the call of `caller` at 10 turns, and how it goes
abbrev pub call : Outcome → Entry Asked Outcome
call o =
    record {
      asked = record {
        call = record {
          callee = Defined 3;
          classes = W ∷ L ∷ [];
          wants = Some W;
          args = Integer 5 ∷ Integer 7 ∷ [];
        };
        turns = 9;
        room = 4096;
        memory = [];
      };
      went = o;
    }

-- jumps in a function of three blocks
abbrev pub are_inside : Jump ℕ → Bool
are_inside jump = leads_inside 3 jump

abbrev pub in_call : Spent
in_call = record { turns = 2; weight = 4; calls = 1; output = 72 ∷ [] }

abbrev pub after_call : (turns weight : ℕ) → Spent
after_call t w = record { turns = 2 + t; weight = 4 + w; calls = 1; output = 72 ∷ [] }

-- a call that asks and returns nothing
abbrev pub silent : Entry Asked Outcome
silent =
    record {
      asked = record {
        call = record { callee = Defined 3; classes = []; wants = None; args = [] };
        turns = 0;
        room = 4096;
        memory = [];
      };
      went = Returned (spends 0 0) None [];
    }

pub record Examples : Type 0 where
  pub sums : Goes virtual sum (given 14 (Integer 4 ∷ [])) 40 [] (integer (spends 14 15) 10 [])
  pub out_of_turns : Goes virtual sum (given 5 (Integer 4 ∷ [])) 40 [] (Ended (spends 5 6) Turns)
  pub out_of_the_last : Goes virtual sum (given 13 (Integer 4 ∷ [])) 40 []
      (Ended (spends 13 14) Turns)
  pub word_is_extended : Gives (word_as L) (Integer (2 ^ 32 - 1) ∷ []) (minus 1) []
  pub word_is_read : Gives (word_as W) (Integer (2 ^ 32 - 1) ∷ []) (2 ^ 32 - 1) []
  pub long_is_cut : Gives long_as_word (Integer (2 ^ 32 + 6) ∷ []) 6 []
  pub low_bits_decide : Gives is_nonzero (Integer (2 ^ 32) ∷ []) 0 []
  pub nonzero : Gives is_nonzero (Integer 8 ∷ []) 1 []
  pub claim_holds : passed Claimed W (Integer (minus 1)) ≡ Some (Integer (2 ^ 32 - 1))
  pub claim_fails : passed Claimed W (Integer (2 ^ 32 - 1)) ≡ None
  pub long_claims_nothing : passed Claimed L (Integer (2 ^ 32 - 1)) ≡ Some (Integer (2 ^ 32 - 1))
  pub calls_and_adds : Goes located (caller (At (Slot 0))) (given 10 []) 20
      (call (Returned in_call (Some (Integer (2 ^ 32 - 1))) (None ∷ [])) ∷ [])
      (integer (after_call 2 4) 4 (None ∷ []))
  pub caller_forgets : Goes located (caller (At (Register 6))) (given 10 []) 20
      (call (Returned in_call (Some (Integer 1)) []) ∷ [])
      (Ended (after_call 2 4) Undefined)
  pub result_is_missing : Goes located (caller (Number 0)) (given 10 []) 20
      (call (Returned in_call None []) ∷ []) (Ended (after_call 1 3) Undefined)
  pub ends_in_the_call : Goes located (caller (Number 0)) (given 10 []) 20
      (call (Ended in_call (Exit 3)) ∷ []) (Ended (after_call 1 3) (Exit 3))
  pub turns_end_after_it : Goes located (caller (Number 0)) (given 1 []) 20
      (record {
        asked = record (call (Ended in_call Turns)).asked { turns = 0 };
        went = Returned (spends 0 0) (Some (Integer 1)) [];
      } ∷ [])
      (Ended (spends 1 3) Turns)
  pub callee_keeps_x9 : Goes located (keeping 9) (given 0 []) 20 (silent ∷ [])
      (integer (spends 0 0) 7 [])
  pub callee_keeps_x18 : Goes located (keeping 18) (given 0 []) 20 (silent ∷ [])
      (integer (spends 0 0) 7 [])
  pub callee_changes_x5 : Goes located (keeping 5) (given 0 []) 20 (silent ∷ [])
      (Ended (spends 0 0) Undefined)
  pub callee_changes_x17 : Goes located (keeping 17) (given 0 []) 20 (silent ∷ [])
      (Ended (spends 0 0) Undefined)
  pub callee_changes_x28 : Goes located (keeping 28) (given 0 []) 20 (silent ∷ [])
      (Ended (spends 0 0) Undefined)
  pub virtual_is_kept : Goes virtual keeping_virtual (given 0 []) 20 (silent ∷ [])
      (integer (spends 0 0) 7 [])
  pub loaded_word : Gives loads_word [] (minus 2) (None ∷ [])
  pub loaded_byte : Gives loads_byte [] 254 (None ∷ [])
  pub loaded_beyond : Gives (loads_beyond 8) [] (minus 2) (None ∷ [])
  pub loaded_before : Gives loads_before [] (minus 2) (None ∷ [])
  pub beyond_the_end : Goes virtual (loads_beyond 16) (given 0 []) 20 []
      (Ended (spends 0 0) Undefined)
  pub made_unnamed : Gives makes_unnamed [] 5 (None ∷ [])
  pub unnamed_takes_16 : area makes_unnamed ≡ 16
  pub pointer_is_kept : Gives keeps_pointer [] 8 (None ∷ [])
  pub pointers_compare : Gives compares_pointers [] 1 (None ∷ [])
  pub words_compare : Gives compares_words (Integer (2 ^ 32 - 1) ∷ Integer (2 ^ 32) ∷ []) 1 []
  pub unknown_is_copied : Gives (straight L [] (Set 1 (At 0) ∷ []) (Number 5)) [] 5 []
  pub unknown_is_not_returned : Goes virtual (straight L [] (Set 1 (At 0) ∷ []) (At 1)) (given 0 [])
      20 [] (Ended (spends 0 0) Undefined)
  pub nothing_is_not_asked : Gives (squares_pointer (Number 5)) [] 5 (None ∷ [])
  pub nothing_is_not_returned : Goes virtual (squares_pointer (At 1)) (given 0 []) 20 []
      (Ended (spends 0 0) Undefined)
  pub weight_alone : Goes virtual heavy (given 0 []) 3 [] (Returned (spends 0 9) None [])
  pub halt_ends : Goes virtual halts (given 1 []) 3 [] (Ended (spends 1 1) Halt)
  pub nowhere : Goes virtual leads_nowhere (given 0 []) 3 [] (Ended (spends 0 0) Undefined)
  pub sum_is_regular : IsRegular sum
  pub sum_names_two : keeps_places (is_below 2) sum ≡ true
  pub one_is_too_few : keeps_places (is_below 1) sum ≡ false
  pub caller_names_places : keeps_places (is_place 1) (caller (At (Slot 0))) ≡ true
  pub scratch_is_no_place : keeps_places (is_place 1) (caller (At (Register 28))) ≡ false
  pub memory_takes_16 : area loads_word ≡ 16
  pub callers : list_all (λ (r : ℕ). is_callers (Register r))
      (1 ∷ 5 ∷ 6 ∷ 7 ∷ 10 ∷ 11 ∷ 12 ∷ 13 ∷ 14 ∷ 15 ∷ 16 ∷ 17 ∷ 28 ∷ 29 ∷ 30 ∷ 31 ∷ []) ≡ true
  pub callees : list_any (λ (r : ℕ). is_callers (Register r))
      (0 ∷ 2 ∷ 3 ∷ 4 ∷ 8 ∷ 9 ∷ 18 ∷ 19 ∷ 20 ∷ 21 ∷ 22 ∷ 23 ∷ 24 ∷ 25 ∷ 26 ∷ 27 ∷ []) ≡ false
  pub to_the_first : are_inside (Goto 0) ≡ false
  pub to_the_second : are_inside (Goto 1) ≡ true
  pub past_the_last : are_inside (Branch (not_zero (Number 0)) 1 3) ≡ false
  pub blocks_of_memory : allocs_first {P = ℕ} (block [] (Goto 1)
      ∷ block (Alloc (Some 0) 8 ∷ []) HaltJump ∷ []) ≡ false
  pub too_dear : is_paid {P = ℕ} (block (Tick true 1 ∷ Set 0 (Number 4096) ∷ Set 1 (Number 4096)
      ∷ Set 2 (Number 4096) ∷ []) HaltJump) ≡ false
  pub paid : is_paid {P = ℕ} (block (Tick true 1 ∷ Set 0 (Number 4096) ∷ Set 1 (Number 4096)
      ∷ Set 2 (Name 0) ∷ []) HaltJump) ≡ true
  pub paid_too_late : is_paid {P = ℕ} (block (Set 0 (Number 1) ∷ Tick true 1 ∷ []) HaltJump) ≡ false
  pub far_parameter : are_near (destination (Slot 128) L ∷ []) ≡ false
  pub near_parameter : are_near (destination (Slot 127) L ∷ []) ≡ true
  pub one_place_for_two : are_distinct located (destination (Slot 1) L ∷ destination (Register 1) L
      ∷ destination (Slot 1) W ∷ []) ≡ false
