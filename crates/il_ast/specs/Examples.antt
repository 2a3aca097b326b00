-- What the definitions give for the example programs.
use Rattle.std.specs.Prelude.{◌≡◌, ℕ, ◌-◌, ◌^◌, List, [], ◌∷◌}
use Rattle.il_ast.specs.Types.{Div, Rem, Urem, Sar, Shl, Program, End, Exit, Halt, Undefined, Stack, Turns}
use Rattle.il_ast.specs.Cost.{weight, need}
use Rattle.il_ast.specs.Run.{price}
use Rattle.il_ast.specs.Meaning.{Behaviour, meaning, outcome, spent_of}
use Rattle.il_ast.specs.ExamplePrograms.{alone, sum_function, swap_function, of_two, wrap, ten, ten_main, pointer_kept, pointer_part, down, down_function, down_main, endless, hello, bad_descriptor, past_end, exits, blit_function, compared, with_words, early_read, halts, returns_nothing}

abbrev pub ends : List ℕ → End → Behaviour
ends output e = record { output = output; ending = e }

-- what a program with no argument words does in so many turns
abbrev pub does : Program → ℕ → Behaviour
does p n = meaning p [] n

abbrev pub price_in : Program → ℕ → ℕ
price_in p n = price (spent_of (outcome p [] n))

-- the number with these bits in a `w` place
abbrev pub minus : ℕ → ℕ
minus n = 2 ^ 64 - n

pub record Examples : Type 0 where
  pub sum_in_402_turns : does (alone sum_function) 402 ≡ ends [] (Exit 186)
  pub sum_in_401_turns : does (alone sum_function) 401 ≡ ends [] Turns
  pub sum_weighs : weight sum_function ≡ 13
  pub sum_costs : price_in (alone sum_function) 402 ≡ 19776
  pub phis_exchange : does (alone swap_function) 100 ≡ ends [] (Exit 21)
  pub words_wrap : does wrap 3 ≡ ends [] (Exit 3)
  pub ten_arguments : does ten 10 ≡ ends [] (Exit 100)
  pub need_of_ten : need ten_main ≡ 160
  pub pointer_is_kept : does pointer_kept 7 ≡ ends [] (Exit 41)
  pub part_has_no_value : does pointer_part 7 ≡ ends [] Undefined
  pub thousand_deep : does (down 1000) 4004 ≡ ends [] (Exit 7)
  pub thousand_deep_less : does (down 1000) 4003 ≡ ends [] Turns
  pub need_of_down : need down_function ≡ 160
  pub need_of_down_main : need (down_main 1000) ≡ 144
  pub room_ends : does endless 100 ≡ ends [] Stack
  pub greeting : does hello 2 ≡ ends (72 ∷ 105 ∷ 10 ∷ []) (Exit 0)
  pub greeting_costs : price_in hello 2 ≡ 928
  pub other_descriptor : does bad_descriptor 2 ≡ ends [] (Exit 247)
  pub output_before_the_end : does past_end 5 ≡ ends (72 ∷ 105 ∷ 10 ∷ []) Undefined
  pub exit_is_modulo_256 : does exits 2 ≡ ends [] (Exit 1)
  pub whole_blit : does (alone (blit_function 8)) 9 ≡ ends [] (Exit 9)
  pub half_blit : does (alone (blit_function 4)) 9 ≡ ends [] Undefined
  pub blit_weighs : weight (blit_function 8) ≡ 11
  pub blit_needs : need (blit_function 8) ≡ 224
  pub two_data_differ : does (compared 0) 3 ≡ ends [] (Exit 0)
  pub not_at_the_end : does (compared 1) 3 ≡ ends [] Undefined
  pub words_are_read : meaning with_words ((112 ∷ []) ∷ (97 ∷ 98 ∷ 99 ∷ []) ∷ []) 4
      ≡ ends (97 ∷ 98 ∷ 99 ∷ []) (Exit 0)
  pub read_too_early : does early_read 3 ≡ ends [] Undefined
  pub halt_ends : does halts 1 ≡ ends [] Halt
  pub halt_is_a_turn : does halts 0 ≡ ends [] Turns
  pub result_is_missing : does returns_nothing 1 ≡ ends [] Undefined
  pub quotient_toward_zero : does (of_two Div (minus 7) 2) 2 ≡ ends [] (Exit 253)
  pub remainder_has_the_sign : does (of_two Rem (minus 7) 2) 2 ≡ ends [] (Exit 255)
  pub least_over_minus_one : does (of_two Div (2 ^ 31) (minus 1)) 2 ≡ ends [] Undefined
  pub by_zero : does (of_two Div 1 0) 2 ≡ ends [] Undefined
  pub unsigned_remainder : does (of_two Urem (minus 1) 10) 2 ≡ ends [] (Exit 5)
  pub shift_is_modulo_32 : does (of_two Shl 1 33) 2 ≡ ends [] (Exit 2)
  pub sign_is_copied : does (of_two Sar (minus 256) 36) 2 ≡ ends [] (Exit 240)
