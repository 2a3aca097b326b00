-- The arguments of a call in place are brought to the registers of the candidate's parameters.
use Rattle.std.proofs.Common.{◌≡◌, ℕ, ◌+◌, List, [], ◌∷◌, map, Option, Some, ◌∙◌, ap, subst, option_and_then}
use Rattle.il_ast.specs.declared.operation.Class.{Class}
use Rattle.il_ast.specs.declared.value.Value.{Value}
use Rattle.il_ast.specs.Prelude.{Spent, On}
use Rattle.vcode.specs.declared.place.Operand.{Operand}
use Rattle.vcode.specs.declared.place.Argument.{Argument}
use Rattle.vcode.specs.declared.place.Destination.{Destination}
use Rattle.vcode.specs.declared.place.Extension.{Extension}
use Rattle.vcode.specs.declared.line.Line.{Line}
use Rattle.vcode.specs.declared.line.Jump.{Jump}
use Rattle.vcode.specs.declared.line.Jump.TheVariants.{Goto}
use Rattle.vcode.specs.Prelude.{classes_in, held, passed, Values, virtual, put, State, bound, value_of, read_argument, read_all, act, written}
use Rattle.vcode.proofs.Acting.{perform}
use Rattle.vcode.proofs.Following.{Follows, AllFollow, then_follows}
use Rattle.vcode.proofs.Rewriting.{Left, behind_it, line_is, jump_is}
use Rattle.inlining.specs.InPlace.{brought, arguments_brought}
use Rattle.inlining.proofs.Beside.{Setting, placed, Goes, does_goes, IsLow}
use Rattle.inlining.proofs.PlacedBlocks.{first_at}
use Rattle.inlining.proofs.Passed.{parts_of, brought_gives, brought_writes}
use Rattle.inlining.proofs.MovedActs.{from_base, moved_follows, beyond_follows}

-- where the code stands, with the memory of another state
abbrev pub along : State ℕ → (block next : ℕ) → Values ℕ → Spent → State ℕ
along s b n el sp = record { block = b; next = n; values = el; memory = s.memory; owned = s.owned; spent = sp }

-- a line that brings what is passed of an operand
pub brought_goes : (c : Setting) (t : State ℕ) (to : ℕ) (k : Class) (e : Extension) (a : Operand ℕ) (ls : List (Line ℕ)) (j : Jump ℕ) (v : Value)
    → Left (placed c) t.block t.next (brought to k e a ∷ ls) j → option_and_then (passed e k) (value_of c.globals t.values a) ≡ Some v
    → Goes c (record t { next = t.next + 1; values = written (Some to) (Some (held k v)) t.values }) → Goes c t
brought_goes c t to k e a ls j v here is go =
    does_goes c t (On (record t { next = t.next + 1; values = written (Some to) (Some (held k v)) t.values }))
    (line_is (placed c) c.globals c.given t (brought to k e a) ls j here
    ∙ ap (λ (r : Option ℕ). perform c.given t r (act c.globals t.memory t.values (brought to k e a))) (brought_writes to k e a)
    ∙ ap (perform c.given t (Some to)) (brought_gives c.globals t.memory t.values to k e a v is))
    go

abbrev Entered : Setting → State ℕ → Spent → Values ℕ → Type 0
Entered c s sp now =
    (el : Values ℕ) → AllFollow el s.values → AllFollow (from_base c.base el) now → Goes c (along s (first_at c) 0 el sp)

-- the jump to the candidate's code
enters_goes : (c : Setting) (s : State ℕ) (sp : Spent) (b n : ℕ) (el : Values ℕ) → Left (placed c) b n [] (Goto (first_at c)) → Goes c (along s (first_at c) 0 el sp) → Goes c (along s b n el sp)
enters_goes c s sp b n el here go =
    does_goes c (along s b n el sp) (On (along s (first_at c) 0 el sp)) (jump_is (placed c) c.globals c.given (along s b n el sp) (Goto (first_at c)) here) go

pub arguments_goes : (c : Setting) (s : State ℕ) → IsLow c.base s.values → (sp : Spent) (b : ℕ) (ds : List (Destination ℕ)) (args : List (Argument ℕ)) (vs : List Value) (n : ℕ) (el now : Values ℕ)
    → map (λ (a : Argument ℕ). a.class) args ≡ classes_in ds → read_all c.globals s.values args ≡ Some vs → AllFollow el s.values → AllFollow (from_base c.base el) now
    → Left (placed c) b n (arguments_brought c.base ds args) (Goto (first_at c)) → Entered c s sp (bound virtual now ds vs) → Goes c (along s b n el sp)
arguments_goes c s low sp b [] args vs n el now classes read follows moved here go = enters_goes c s sp b n el here (go el follows moved)
arguments_goes c s low sp b (d ∷ ds) [] vs n el now classes read follows moved here go = absurd (let no : ⊥ = cc in no)
arguments_goes c s low sp b (d ∷ ds) (a ∷ args) vs n el now classes read follows moved here go =
    let p = parts_of (read_argument c.globals s.values a) (read_all c.globals s.values args) vs read in
    let same : a.class ≡ d.class = cc in
    let rest : map (λ (a : Argument ℕ). a.class) args ≡ classes_in ds = cc in
    let o : Option Value = Some (held a.class p.v) in
    let el2 : Values ℕ = written (Some (d.place + c.base)) o el in
    let ls = arguments_brought c.base ds args in
    brought_goes c (along s b n el sp) (d.place + c.base) a.class a.extension a.value ls (Goto (first_at c)) p.v here
    (then_follows c.globals s.values el a.value (passed a.extension a.class) follows p.v p.first)
    (arguments_goes c s low sp b ds args p.ws (n + 1) el2 (put virtual d.place (held d.class p.v) now) rest p.rest
    (beyond_follows c.base (Some d.place) o el s.values low follows)
    (moved_follows c.base (Some d.place) o (Some (held d.class p.v)) el now (held_follows a.class d.class p.v same) moved)
    (behind_it (placed c) b n (brought (d.place + c.base) a.class a.extension a.value) ls (Goto (first_at c)) here)
    (subst (λ (zs : List Value). Entered c s sp (bound virtual now (d ∷ ds) zs)) p.is go))
  where
    held_follows : (k q : Class) (v : Value) → k ≡ q → Follows (Some (held k v)) (Some (held q v))
    held_follows k q v same x h = ap (λ z. Some (held z v)) same ∙ h
