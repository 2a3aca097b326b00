-- Lines of a block, done one after another.
use Rattle.std.proofs.Common.{◌≡◌, ℕ, ◌+◌, List, [], ◌∷◌, ◌++◌, length, refl, sym, ◌∙◌, ap, subst, arith, append_assoc, slice_get, Some, None, length-append, append-nil}
use Rattle.il_ast.specs.declared.value.Value.{Value}
use Rattle.il_ast.specs.Prelude.{Outcome, On, Event, Does, Asked, Given}
use Rattle.il_ast.proofs.Simulation.{Leads}
use Rattle.vcode.specs.declared.line.Line.{Line}
use Rattle.vcode.specs.declared.code.Block.{Block}
use Rattle.vcode.specs.declared.code.Code.{Code}
use Rattle.vcode.specs.Prelude.{virtual, State, line_step, jump_step, block_step, step_in, step}

-- all that stays fixed
pub record Setting : Type 0 where
  pub code : Code ℕ
  pub globals : List Value
  pub given : Given

abbrev pub go : Setting → State ℕ → Event (State ℕ) Asked Outcome
go c = step virtual c.globals c.code c.given

-- in this block these lines are left
pub record Left (c : Setting) (t : State ℕ) (b : Block ℕ) (ls : List (Line ℕ)) : Type 0 where
  pub here : slice_get c.code.blocks t.block ≡ Some b
  pub before : List (Line ℕ)
  pub lines : b.lines ≡ before ++ ls
  pub place : t.next ≡ length before

get_behind : {A : Type 0} (xs : List A) (y : A) (ys : List A) → slice_get (xs ++ y ∷ ys) (length xs) ≡ Some y
get_behind [] y ys = refl
get_behind (x ∷ xs) y ys = get_behind xs y ys

get_end : {A : Type 0} (xs : List A) → slice_get xs (length xs) ≡ None
get_end [] = refl
get_end (x ∷ xs) = get_end xs

pub goes_line : (c : Setting) (t : State ℕ) (b : Block ℕ) (l : Line ℕ) (ls : List (Line ℕ)) → Left c t b (l ∷ ls) → go c t ≡ line_step virtual c.globals c.given t l
unfolding step
goes_line c t b l ls left =
    ap (step_in virtual c.globals c.code c.given t) left.here
    ∙ ap (block_step virtual c.globals c.code c.given t b)
    (ap (λ xs. slice_get xs t.next) left.lines ∙ ap (slice_get (left.before ++ l ∷ ls)) left.place ∙ get_behind left.before l ls)

pub goes_jump : (c : Setting) (t : State ℕ) (b : Block ℕ) → Left c t b [] → go c t ≡ jump_step c.globals c.code.result t b.jump
unfolding step
goes_jump c t b left =
    ap (step_in virtual c.globals c.code c.given t) left.here
    ∙ ap (block_step virtual c.globals c.code c.given t b)
    (ap (λ xs. slice_get xs t.next) left.lines ∙ ap (slice_get (left.before ++ [])) left.place
    ∙ ap (λ xs. slice_get xs (length left.before)) (append-nil left.before) ∙ get_end left.before)

-- one line further
pub left_further : (c : Setting) (t u : State ℕ) (b : Block ℕ) (l : Line ℕ) (ls : List (Line ℕ)) → Left c t b (l ∷ ls) → u.block ≡ t.block → u.next ≡ t.next + 1 → Left c u b ls
left_further c t u b l ls left same next =
    let long = length-append left.before (l ∷ []) in
    let place = left.place in
    record {
      here = ap (slice_get c.code.blocks) same ∙ left.here;
      before = left.before ++ l ∷ [];
      lines = left.lines ∙ sym (append_assoc left.before (l ∷ []) ls);
      place = omega (arith, next, long, place);
    }

-- these lines lead from t to u, none of them a call
abbrev pub Go : Setting → List (Line ℕ) → State ℕ → State ℕ → Type 0
Go c [] t u = t ≡ u
Go c (l ∷ ls) t u =
    (w : State ℕ) × (line_step virtual c.globals c.given t l ≡ Does (On w)) × (w.block ≡ t.block) × (w.next ≡ t.next + 1) × Go c ls w u

pub record Gone (c : Setting) (t u : State ℕ) (b : Block ℕ) (ls rest : List (Line ℕ)) : Type 0 where
  pub leads : Leads (go c) (length ls) (On t) (On u)
  pub left : Left c u b rest
  pub next : u.next ≡ t.next + length ls
  pub block : u.block ≡ t.block

pub gone : (c : Setting) (t u : State ℕ) (b : Block ℕ) (ls rest : List (Line ℕ)) → Left c t b (ls ++ rest) → Go c ls t u → Gone c t u b ls rest
gone c t u b [] rest left g =
    let none : t.next ≡ t.next + 0 = omega arith in
    record { leads = ap On g; left = subst (λ s. Left c s b rest) g left; next = ap (λ (s : State ℕ). s.next) (sym g) ∙ none; block = ap (λ (s : State ℕ). s.block) (sym g) }
gone c t u b (l ∷ ls) rest left g =
    let w = g.0 in
    let r = gone c w u b ls rest (left_further c t w b l (ls ++ rest) left g.2 g.3) g.4 in
    let next = r.next in
    let one = g.3 in
    record {
      leads = (t, refl, (On w, goes_line c t b l (ls ++ rest) left ∙ g.1, r.leads));
      left = r.left;
      next = omega (arith, next, one);
      block = r.block ∙ g.2;
    }

-- lines behind lines
pub go_both : (c : Setting) (ls ks : List (Line ℕ)) (t w u : State ℕ) → Go c ls t w → Go c ks w u → Go c (ls ++ ks) t u
go_both c [] ks t w u g h = subst (λ s. Go c ks s u) (sym g) h
go_both c (l ∷ ls) ks t w u g h = (g.0, g.1, g.2, g.3, go_both c ls ks g.0 w u g.4 h)
