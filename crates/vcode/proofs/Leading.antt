-- Jumps that lead alike: with other operands that have the same values, to the same blocks or to others in their place.
use Rattle.std.proofs.Common.{◌≡◌, ℕ, Bool, true, false, nat_eq, if◌then◌else◌, List, Option, Some, None, refl, sym, ◌∙◌, ap, subst}
use Rattle.il_ast.specs.declared.operation.Class.{Class}
use Rattle.il_ast.specs.declared.value.Value.{Value}
use Rattle.il_ast.specs.declared.value.Value.TheVariants.{Integer, Pointer, Function}
use Rattle.il_ast.specs.Prelude.{Memory}
use Rattle.vcode.specs.Prelude.{Operand, Compare, Jump, Goto, Branch, Return, Halt, Values, Replacing, with_jump, value_of, operated, read_result, Way, Enters, entering, answering, way, Claims, Arrives}
use Rattle.vcode.proofs.SameReads.{SameValue}
use Rattle.vcode.proofs.SameActs.{JumpReads, way_same, jump_itself}

-- what holds of each block to which a jump may lead
abbrev pub LeadsTo : (ℕ → Type 0) → Jump ℕ → Type 0
LeadsTo holds (Goto k) = holds k
LeadsTo holds (Branch on met otherwise) = holds met × holds otherwise
LeadsTo holds (Return a) = Unit {0}
LeadsTo holds Halt = Unit {0}

-- the jump to other blocks
abbrev pub led_to : (ℕ → ℕ) → Jump ℕ → Jump ℕ
led_to t (Goto k) = Goto (t k)
led_to t (Branch on met otherwise) = Branch on (t met) (t otherwise)
led_to t (Return a) = Return a
led_to t Halt = Halt

module _ (c : Claims) (globals : List Value) (memory : Memory) (before after : Values ℕ) where
  -- a claim that arrives at blocks, and holds
  abbrev pub Arriving : (ℕ → ℕ) → ℕ → Type 0
  Arriving t k = (q : c.Claim) × (c.arrives q k (t k) × c.holds q globals memory before after)

  abbrev Leads : Way → Way → Type 0
  Leads = Arrives c globals memory before after

  branches_lead : (t : ℕ → ℕ) (met otherwise : ℕ) → Arriving t met → Arriving t otherwise → (o : Option Value) → Leads (entering met otherwise o) (entering (t met) (t otherwise) o)
  branches_lead t met otherwise h k None = tt
  branches_lead t met otherwise h k (Some (Pointer b n)) = tt
  branches_lead t met otherwise h k (Some (Function g)) = tt
  branches_lead t met otherwise h k (Some (Integer n)) = by (nat_eq n 0)
    where
      by : (b : Bool) → Leads (Enters (if b then otherwise else met)) (Enters (if b then t otherwise else t met))
      by true = (t otherwise, (refl, k))
      by false = (t met, (refl, h))

  answers_lead : (o : Option Value) → Leads (answering o) (answering o)
  answers_lead None = tt
  answers_lead (Some v) = refl

  -- a jump leads as itself does, to the blocks in place of its own
  own_leads : (result : Option Class) (t : ℕ → ℕ) (j : Jump ℕ) → LeadsTo (Arriving t) j → Leads (way globals result memory before j) (way globals result memory before (led_to t j))
  own_leads result t (Goto k) h = (t k, (refl, h))
  own_leads result t (Branch on met otherwise) h =
      branches_lead t met otherwise h.0 h.1 (operated memory (Compare on.condition on.class) (value_of globals before on.left) (value_of globals before on.right))
  own_leads result t (Return None) h = refl
  own_leads None t (Return (Some a)) h = tt
  own_leads (Some k) t (Return (Some a)) h = answers_lead (read_result globals before k a)
  own_leads result t Halt h = refl

  led_with : (t : ℕ → ℕ) (f : Replacing) (j : Jump ℕ) → led_to t (with_jump f j) ≡ with_jump f (led_to t j)
  led_with t f (Goto k) = refl
  led_with t f (Branch on met otherwise) = refl
  led_with t f (Return a) = refl
  led_with t f Halt = refl

  reads_led : (holds : Operand ℕ → Type 0) (t : ℕ → ℕ) (j : Jump ℕ) → JumpReads holds j → JumpReads holds (led_to t j)
  reads_led holds t (Goto k) h = tt
  reads_led holds t (Branch on met otherwise) h = h
  reads_led holds t (Return a) h = h
  reads_led holds t Halt h = tt

  pub jump_alike : (result : Option Class) (t : ℕ → ℕ) (f : Replacing) (j : Jump ℕ) → JumpReads (SameValue globals before after f) j → LeadsTo (Arriving t) j
      → Leads (way globals result memory before j) (way globals result memory after (led_to t (with_jump f j)))
  jump_alike result t f j same h =
      subst (λ (x : Way). Leads (way globals result memory before j) x)
      (sym (ap (way globals result memory after) (led_with t f j) ∙ way_same globals result memory before after f (led_to t j) (reads_led (SameValue globals before after f) t j same)))
      (own_leads result t j h)

-- to its own blocks
led_itself : (j : Jump ℕ) → led_to (λ k. k) j ≡ j
led_itself (Goto k) = refl
led_itself (Branch on met otherwise) = refl
led_itself (Return a) = refl
led_itself Halt = refl

-- with other operands, to its own blocks
pub jump_put : (c : Claims) (globals : List Value) (memory : Memory) (before after : Values ℕ) (result : Option Class) (f : Replacing) (j : Jump ℕ) → JumpReads (SameValue globals before after f) j
    → LeadsTo (Arriving c globals memory before after (λ k. k)) j → Arrives c globals memory before after (way globals result memory before j) (way globals result memory after (with_jump f j))
jump_put c globals memory before after result f j same h =
    subst (λ (x : Jump ℕ). Arrives c globals memory before after (way globals result memory before j) (way globals result memory after x)) (led_itself (with_jump f j))
    (jump_alike c globals memory before after result (λ k. k) f j same h)

-- with its own operands, to its own blocks
pub jump_itself_alike : (c : Claims) (globals : List Value) (memory : Memory) (before after : Values ℕ) (result : Option Class) (j : Jump ℕ) → JumpReads (SameValue globals before after (λ a. a)) j
    → LeadsTo (Arriving c globals memory before after (λ k. k)) j → Arrives c globals memory before after (way globals result memory before j) (way globals result memory after j)
jump_itself_alike c globals memory before after result j same h =
    subst (λ (x : Jump ℕ). Arrives c globals memory before after (way globals result memory before j) (way globals result memory after x)) (jump_itself j)
    (jump_put c globals memory before after result (λ a. a) j same h)

pub leads_more : (p q : ℕ → Type 0) → ((k : ℕ) → p k → q k) → (j : Jump ℕ) → LeadsTo p j → LeadsTo q j
leads_more p q more (Goto k) h = more k h
leads_more p q more (Branch on met otherwise) h = (more met h.0, more otherwise h.1)
leads_more p q more (Return a) h = tt
leads_more p q more Halt h = tt
