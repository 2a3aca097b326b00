-- Lines that set a register, and leave all else.
use Rattle.std.proofs.Common.{◌≡◌, ℕ, ◌+◌, Bool, true, false, cond, nat_eq, List, [], ◌∷◌, refl, sym, ◌∙◌, ap, arith, slice_get, slice_set, Option, Some}
use Rattle.std.specs.Option.{option_and_then, option_flatten}
use Rattle.std.proofs.lemmas.Bool.Decides.{nat_tests}
use Rattle.il_ast.specs.declared.operation.Class.{Class}
use Rattle.il_ast.specs.declared.value.Value.{Value}
use Rattle.il_ast.specs.Prelude.{On, Does}
use Rattle.rv_isa.specs.declared.instruction.LoadOp.{LoadOp}
use Rattle.vcode.specs.declared.place.Operand.{Operand}
use Rattle.vcode.specs.declared.line.Operation.{Operation}
use Rattle.vcode.specs.declared.line.Line.{Line}
use Rattle.vcode.specs.Prelude.{at_once, held, operate, loaded, Values, virtual, put, State, value_of, line_step, sets, takes}
use Rattle.vcode.specs.declared.line.Line.TheVariants.{Set, Operate, Load}
use Rattle.select.specs.Typed.{Classes}
use Rattle.select.proofs.Going.{Setting, Go}
use Rattle.select.proofs.Registers.{Holds, Written, written}

-- after the lines the register p holds x, and nothing else has changed but the place in the block
pub record Yields (c : Setting) (t : State ℕ) (ls : List (Line ℕ)) (p : ℕ) (x : Value) : Type 0 where
  pub after : State ℕ
  pub goes : Go c ls t after
  pub is : after.values p ≡ Some x
  pub others : (q : ℕ) → nat_eq q p ≡ false → after.values q ≡ t.values q
  pub memory : after.memory ≡ t.memory
  pub owned : after.owned ≡ t.owned
  pub spent : after.spent ≡ t.spent

-- ---- one line

-- the state behind a line that sets p
abbrev pub set_to : State ℕ → ℕ → Value → State ℕ
set_to t p x = record t { next = t.next + 1; values = put virtual p x t.values }

put_here : (values : Values ℕ) (p : ℕ) (x : Value) → put virtual p x values p ≡ Some x
put_here values p x = let e : nat_eq p p ≡ true = grind (arith, nat_tests) in ap (λ b. cond b (Some x) (values p)) e

put_there : (values : Values ℕ) (p q : ℕ) (x : Value) → nat_eq q p ≡ false → put virtual p x values q ≡ values q
put_there values p q x e = ap (λ b. cond b (Some x) (values q)) e

pub yields_one : (c : Setting) (t : State ℕ) (l : Line ℕ) (p : ℕ) (x : Value) → line_step virtual c.globals c.given t l ≡ Does (On (set_to t p x)) → Yields c t (l ∷ []) p x
yields_one c t l p x e =
    record {
      after = set_to t p x;
      goes = (set_to t p x, e, refl, refl, refl);
      is = put_here t.values p x;
      others = λ q n. put_there t.values p q x n;
      memory = refl;
      owned = refl;
      spent = refl;
    }

pub set_line : (c : Setting) (t : State ℕ) (p : ℕ) (a : Operand ℕ) (x : Value) → value_of c.globals t.values a ≡ Some x → line_step virtual c.globals c.given t (Set p a) ≡ Does (On (set_to t p x))
unfolding line_step
set_line c t p a x e = ap (takes virtual t p) e

pub operate_line : (c : Setting) (t : State ℕ) (p : ℕ) (op : Operation) (a b : Operand ℕ) (u v x : Value) → value_of c.globals t.values a ≡ Some u → value_of c.globals t.values b ≡ Some v → operate t.memory op u v ≡ Some x → line_step virtual c.globals c.given t (Operate p op a b) ≡ Does (On (set_to t p x))
unfolding line_step
operate_line c t p op a b u v x e f g =
    ap (λ o. takes virtual t p (option_and_then (λ y. option_and_then (λ z. operate t.memory op y z) (value_of c.globals t.values b)) o)) e
    ∙ ap (λ o. takes virtual t p (option_and_then (λ z. operate t.memory op u z) o)) f
    ∙ ap (takes virtual t p) g

pub load_line : (c : Setting) (t : State ℕ) (p : ℕ) (op : LoadOp) (at : Operand ℕ) (u x : Value) → value_of c.globals t.values at ≡ Some u → loaded t.memory op u ≡ Some x → line_step virtual c.globals c.given t (Load p op (at_once at)) ≡ Does (On (set_to t p x))
unfolding line_step
load_line c t p op at u x e f = ap (λ o. sets virtual t p (option_and_then (loaded t.memory op) o)) e ∙ ap (sets virtual t p) f

-- ---- two lines, of which the second reads what the first has set

pub yields_two : (c : Setting) (t : State ℕ) (l k : Line ℕ) (p : ℕ) (y x : Value) → line_step virtual c.globals c.given t l ≡ Does (On (set_to t p y)) → ((u : State ℕ) → u.memory ≡ t.memory → u.values p ≡ Some y → line_step virtual c.globals c.given u k ≡ Does (On (set_to u p x))) → Yields c t (l ∷ k ∷ []) p x
yields_two c t l k p y x e f =
    let u = set_to t p y in
    record {
      after = set_to u p x;
      goes = (u, e, refl, refl, (set_to u p x, f u refl (put_here t.values p y), refl, refl, refl));
      is = put_here u.values p x;
      others = λ q n. put_there u.values p q x n ∙ put_there t.values p q y n;
      memory = refl;
      owned = refl;
      spent = refl;
    }

-- ---- registers afterwards

pub yielded_holds : (c : Setting) (t : State ℕ) (ls : List (Line ℕ)) (p : ℕ) (k : Class) (x : Value) (classes : Classes) (temps : List (Option Value)) → classes p ≡ k → (y : Yields c t ls p (held k x)) → Holds classes temps t.values → Holds classes (slice_set temps p (Some x)) y.after.values
yielded_holds c t ls p k x classes temps class y holds q v h = by (nat_eq q p) refl (written temps p q x v h)
  where
    by : (b : Bool) → nat_eq q p ≡ b → Written b x v (option_flatten (slice_get temps q)) → y.after.values q ≡ Some (held (classes q) v)
    by true e w =
        let same : q ≡ p = grind (arith, nat_tests) in
        ap y.after.values same ∙ y.is ∙ ap (λ j. Some (held j x)) (sym class ∙ ap classes (sym same)) ∙ ap (λ z. Some (held (classes q) z)) w
    by false e w = y.others q e ∙ holds q v w
