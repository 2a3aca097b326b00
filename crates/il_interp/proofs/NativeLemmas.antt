-- The predefined functions: answers without output, and calls with wrong arguments.
use Rattle.std.proofs.Common.{◌≡◌, ◌≢◌, ℕ, List, [], ◌∷◌, ◌++◌, length, refl, ap, ◌∙◌, Option, Some, append-nil}
use Rattle.il_ast.specs.declared.operand.Dest.{Dest}
use Rattle.il_ast.specs.declared.value.Value.{Value}
use Rattle.il_ast.specs.declared.value.Value.TheVariants.{Integer, Pointer, Function}
use Rattle.il_ast.specs.declared.value.End.{End}
use Rattle.il_ast.specs.declared.value.End.TheVariants.{Undefined}
use Rattle.il_ast.specs.Prelude.{Memory, Spent, nothing, Ended, answered, write_call, exit_call}
use Rattle.il_interp.specs.declared.state.State.{State}
use Rattle.il_interp.specs.Machine.{Over, received, native_step}

pub answer_is : (st : State) (to : Option Dest) (n : ℕ) → native_step st to (answered [] n st.memory) ≡ received st to (Some (Integer n))
answer_is st to n = ap (λ out. received (record st { output = out }) to (Some (Integer n))) (append-nil st.output)

-- an end without output
pub undefined_is : (st : State) (to : Option Dest) (s : Spent) (e : End) → s.output ≡ [] → native_step st to (Ended s e) ≡ Over st.output e
undefined_is st to s e none = ap (λ out. Over (st.output ++ out) e) none ∙ ap (λ out. Over out e) (append-nil st.output)

pub write_wrong : (args : List Value) (m : Memory) → length args ≢ 3 → write_call args m ≡ Ended nothing Undefined
write_wrong [] m ne = refl
write_wrong (Pointer b o ∷ args) m ne = refl
write_wrong (Function f ∷ args) m ne = refl
write_wrong (Integer d ∷ []) m ne = refl
write_wrong (Integer d ∷ p ∷ []) m ne = refl
write_wrong (Integer d ∷ p ∷ n ∷ []) m ne = absurd (ne refl)
write_wrong (Integer d ∷ p ∷ n ∷ q ∷ args) m ne = refl

pub exit_wrong : (args : List Value) → length args ≢ 1 → exit_call args ≡ Ended nothing Undefined
exit_wrong [] ne = refl
exit_wrong (Pointer b o ∷ args) ne = refl
exit_wrong (Function f ∷ args) ne = refl
exit_wrong (Integer s ∷ []) ne = absurd (ne refl)
exit_wrong (Integer s ∷ a ∷ args) ne = refl
