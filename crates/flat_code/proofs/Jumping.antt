-- Each jump on bytes goes beside the jump on blocks.
use Rattle.std.proofs.Common.{◌≡◌, ℕ, zero, suc, Bool, true, false, if◌then◌else◌, length, Option, Some, None, refl, sym, ◌∙◌, ap, subst, arith, nat_eq, nat_lt}
use Rattle.il_ast.specs.declared.operation.Class.{Class}
use Rattle.il_ast.specs.declared.value.Value.{Value}
use Rattle.il_ast.specs.declared.value.Value.TheVariants.{Integer, Pointer, Function}
use Rattle.il_ast.specs.declared.value.End.TheVariants.{Halt as Halted}
use Rattle.il_ast.specs.Prelude.{free_all, Returned, Does, Over, Passes, Suits}
use Rattle.vcode.specs.declared.place.Location.{Location}
use Rattle.vcode.specs.declared.place.ReturnValue.{ReturnValue}
use Rattle.vcode.specs.declared.line.Operation.TheVariants.{Compare}
use Rattle.vcode.specs.declared.line.Jump.{Jump}
use Rattle.vcode.specs.declared.line.Jump.TheVariants.{Goto, Branch, Return, Halt}
use Rattle.vcode.specs.Prelude.{is_target, leads_inside, area, State, value_of, read_result as value_result, enters, compared as values_compared, branches, returns, jump_step}
use Rattle.flat_code.specs.Flat.{Bases, ShowsResult, FlatReturned, FlatEnded}
use Rattle.flat_code.specs.Step.{FlatState, read_result, closed, enters as flat_enters, compared, branches as flat_branches, leaves, returns as flat_returns, returns_as, flat_jump}
use Rattle.flat_code.proofs.Shown.{Follows, passed_follows, option_passes}
use Rattle.flat_code.proofs.Freeing.{IsLeft, left_by}
use Rattle.flat_code.proofs.Operands.{operation_shown}
use Rattle.flat_code.proofs.Going.{Setting, ground, IsSetting, Related, Together, same_bases, names_shown}
use Rattle.std.proofs.lemmas.Bool.{and_parts}

-- ---- entering a block

enters_together : (c : Setting) (p : Bases) (s : State Location) (t : FlatState) (k : ℕ) → Related c p s t → is_target (length c.code.blocks) k ≡ true → Together c p (enters s k) (flat_enters t k)
enters_together c p s t k r target = (
  record t { block = k; next = 0 },
  refl,
  (
    p,
    same_bases p,
    record {
      block = refl;
      next = refl;
      spent = r.spent;
      follow = r.follow;
      held = r.held;
      room = λ b first found. absurd (later k (and_parts (nat_lt 0 k) (nat_lt k (length c.code.blocks)) target).0 first);
    },
  ),
)
  where
    later : (n : ℕ) → nat_lt 0 n ≡ true → n ≡ 0 → ⊥
    later zero h e = cc
    later (suc n) h e = absurd (omega arith)

chooses_together : (c : Setting) (p : Bases) (s : State Location) (t : FlatState) (met otherwise : ℕ) (b : Bool) → Related c p s t → is_target (length c.code.blocks) met ≡ true → is_target (length c.code.blocks) otherwise ≡ true
    → Together c p (enters s (if b then otherwise else met)) (flat_enters t (if b then otherwise else met))
chooses_together c p s t met otherwise true r h k = enters_together c p s t otherwise r k
chooses_together c p s t met otherwise false r h k = enters_together c p s t met r h

branches_together : (c : Setting) (p : Bases) (s : State Location) (t : FlatState) (met otherwise : ℕ) (o : Option Value) (n : Option ℕ) → Related c p s t → Follows c.names.entries p o n
    → is_target (length c.code.blocks) met ≡ true → is_target (length c.code.blocks) otherwise ≡ true → Together c p (branches s met otherwise o) (flat_branches t met otherwise n)
branches_together c p s t met otherwise None n r follows h k = λ fine. absurd fine
branches_together c p s t met otherwise (Some (Pointer b i)) n r follows h k = λ fine. absurd fine
branches_together c p s t met otherwise (Some (Function g)) n r follows h k = λ fine. absurd fine
branches_together c p s t met otherwise (Some (Integer i)) n r follows h k =
    let a = follows (Integer i) refl in
    subst (λ (m : Option ℕ). Together c p (branches s met otherwise (Some (Integer i))) (flat_branches t met otherwise m)) (sym (a.1 ∙ ap (λ (x : ℕ). Some x) a.2))
    (chooses_together c p s t met otherwise (nat_eq i 0) r h k)

-- ---- returning

leaves_together : (c : Setting) → IsSetting c → (p : Bases) (s : State Location) (t : FlatState) (v : Option Value) (x : Option ℕ) → Related c p s t → Suits c.code.result v → ShowsResult c.names.entries p v x
    → Together c p (Does (Over (Returned s.spent v (free_all s.memory s.owned)))) (leaves c.code c.base t x)
leaves_together c is p s t v x r suits shown = λ fine.
    let left : IsLeft (ground c) p (free_all s.memory s.owned) (closed t.memory c.base (area c.code)) = left_by (ground c) is.grounded p s.memory s.owned t.memory t.used r.held in (
      FlatReturned t.spent x (closed t.memory c.base (area c.code)),
      refl,
      (
        p,
        same_bases p,
        record { spent = r.spent; suits = suits; result = shown; memory = left.memory; reach = left.reach; blocks = left.blocks },
      ),
    )

no_result_suits : (k : Option Class) → Suits k None
no_result_suits None = tt
no_result_suits (Some k) = tt

returns_together : (c : Setting) → IsSetting c → (p : Bases) (s : State Location) (t : FlatState) (k : Class) (o : Option Value) (n : Option ℕ) → Related c p s t → c.code.result ≡ Some k → Follows c.names.entries p o n
    → ((v : Value) → o ≡ Some v → Passes k v) → Together c p (returns s o) (flat_returns c.code c.base t n)
returns_together c is p s t k None n r result follows passes = λ fine. absurd fine
returns_together c is p s t k (Some v) n r result follows passes =
    let a = follows v refl in
    subst (λ (m : Option ℕ). Together c p (returns s (Some v)) (flat_returns c.code c.base t m)) (sym a.1)
    (leaves_together c is p s t (Some v) (Some a.0) r (subst (λ (q : Option Class). Suits q (Some v)) (sym result) (passes v refl)) a.2)

returns_value : (c : Setting) → IsSetting c → (p : Bases) (s : State Location) (t : FlatState) (a : ReturnValue Location) → Related c p s t → (k : Option Class) → c.code.result ≡ k
    → Together c p (jump_step c.names.globals k s (Return (Some a))) (returns_as c.code c.names.addresses c.base t k a)
unfolding jump_step
returns_value c is p s t a r None result = λ fine. absurd fine
returns_value c is p s t a r (Some k) result =
    returns_together c is p s t k (value_result c.names.globals s.values k a) (read_result c.names.addresses t.numbers k a) r result
    (passed_follows c.names.entries p c.names.globals c.names.addresses s.values t.numbers (names_shown c is p s t r) r.follow a.extension k a.value)
    (option_passes a.extension k (value_of c.names.globals s.values a.value))

-- ---- each jump

pub jump_together : (c : Setting) → IsSetting c → (p : Bases) (s : State Location) (t : FlatState) (j : Jump Location) → Related c p s t → leads_inside (length c.code.blocks) j ≡ true
    → Together c p (jump_step c.names.globals c.code.result s j) (flat_jump c.code c.names.addresses c.base t j)
unfolding jump_step flat_jump
jump_together c is p s t (Goto k) r inside = enters_together c p s t k r inside
jump_together c is p s t (Branch on met otherwise) r inside =
    let targets = and_parts (is_target (length c.code.blocks) met) (is_target (length c.code.blocks) otherwise) inside in
    branches_together c p s t met otherwise (values_compared c.names.globals s on) (compared c.names.addresses t on) r
    (operation_shown c is p s t r (Compare on.condition on.class) on.left on.right) targets.0 targets.1
jump_together c is p s t (Return None) r inside = leaves_together c is p s t None None r (no_result_suits c.code.result) tt
jump_together c is p s t (Return (Some a)) r inside = returns_value c is p s t a r c.code.result refl
jump_together c is p s t Halt r inside = λ fine. (FlatEnded t.spent Halted, refl, (p, same_bases p, (r.spent, refl)))
