-- A run in hand, and what it comes to.
use Rattle.std.proofs.Common.{◌≡◌, ℕ, ◌+◌, Bool, true, false, List, [], ◌++◌, ap, ap₂, sym, ◌∙◌, refl, add-zero, append-nil, nat_lt, if◌then◌else◌, slice_get, map, Option, Some, None}
use Rattle.il_ast.specs.declared.function.Param.{Param}
use Rattle.il_ast.specs.declared.function.Func.{Func}
use Rattle.il_ast.specs.declared.program.InText.{InText}
use Rattle.il_ast.specs.declared.program.Program.{Program}
use Rattle.il_ast.specs.declared.value.End.{End}
use Rattle.il_ast.specs.declared.value.End.TheVariants.{Undefined, Stack}
use Rattle.il_ast.specs.Prelude.{Memory, need, Call, start_memory, call_fits, stack_room, main_call, Behaviour, meaning}
use Rattle.obj_link.specs.declared.linking.linked.Linked.{Linked}
use Rattle.obj_link.specs.Prelude.{program}
use Rattle.il_interp.specs.declared.pieces.Running.{Running}
use Rattle.il_interp.specs.declared.state.State.{State}
use Rattle.il_interp.specs.Machine.{program_of, Next, On, Over, machine, main_frame, started, comes_to, ending_of, held, left_of, put_before, rest_of}
use Rattle.il_interp.proofs.OutputLaws.{emptied, machine_emptied}
use Rattle.il_interp.proofs.RunLemmas.{run_means}

-- what it holds of its output is forgotten
pub cleared : (old new : Running) (n : ℕ) → program_of new.prepared ≡ program_of old.prepared → new.state ≡ emptied old.state
    → comes_to old n ≡ put_before (held old) (comes_to new n)
unfolding comes_to
cleared old new n p s =
    machine_emptied (program_of old.prepared) n old.state
    ∙ ap (λ st. put_before (held old) (machine (program_of old.prepared) n st)) (sym s)
    ∙ ap (λ q. put_before (held old) (machine q n new.state)) (sym p)

-- what it comes to is what its state does
pub same_state : (r s : Running) (n : ℕ) → s.prepared ≡ r.prepared → s.state ≡ r.state → comes_to s n ≡ comes_to r n
unfolding comes_to
same_state r s n p e = ap₂ (λ q st. machine (program_of q) n st) p e

pub went_on : (r s : Running) (turns : ℕ) (end : Option End) → s.prepared ≡ r.prepared
    → ((n : ℕ) → machine (program_of r.prepared) (turns + n) r.state ≡ rest_of (program_of r.prepared) s.state end n) → (n : ℕ) → comes_to r (turns + n) ≡ left_of s end n
unfolding comes_to left_of
went_on r s turns end p h n = h n ∙ ap (λ q. rest_of (program_of q) s.state end n) (sym p)

-- what was begun comes to what the program means
pub begun_means : (linked : Linked) (r : Running) (words : List (List ℕ)) → r.prepared.linked.now ≡ linked → started (program r.prepared.linked.now) words ≡ On r.state → (n : ℕ)
    → meaning (program linked) words n ≡ comes_to r n
unfolding comes_to
begun_means linked r words same s n = run_means linked r.prepared.linked.now words n (On r.state) (machine (program_of r.prepared) n r.state) same s refl

-- where it isn't over, it goes on
pub left_goes : (r : Running) (n : ℕ) → left_of r None n ≡ comes_to r n
unfolding comes_to left_of
left_goes r n = refl

pub left_over : (r : Running) (e : End) (n : ℕ) → left_of r (Some e) n ≡ record { output = held r; ending = e }
unfolding left_of
left_over r e n = refl

-- no turn is left
left_none : (r : Running) (end : Option End) → left_of r end 0 ≡ record { output = held r; ending = ending_of end }
unfolding left_of machine
left_none r None = refl
left_none r (Some e) = refl

-- a run in one piece
pub whole_piece : (old new : Running) (turns : ℕ) (end : Option End) → ((n : ℕ) → comes_to old (turns + n) ≡ left_of new end n)
    → comes_to old turns ≡ record { output = held new; ending = ending_of end }
whole_piece old new turns end h = ap (comes_to old) (sym (add-zero turns)) ∙ h 0 ∙ left_none new end

pub no_turns : (r : Running) → comes_to r 0 ≡ record { output = held r; ending = ending_of None }
no_turns r = sym (left_goes r 0) ∙ left_none r None

-- what it holds of its output comes first, whatever follows
pub record PutsFirst (out : List ℕ) (b : Behaviour) : Type 0 where
  pub rest : List ℕ
  pub is : b.output ≡ out ++ rest

pub left_begins : (r : Running) (end : Option End) (n : ℕ) → PutsFirst (held r) (left_of r end n)
unfolding left_of
left_begins r None n = record {
  rest = (machine (program_of r.prepared) n (emptied r.state)).output;
  is = ap (λ (b : Behaviour). b.output) (machine_emptied (program_of r.prepared) n r.state);
}
left_begins r (Some e) n = record { rest = []; is = sym (append-nil (held r)) }

-- ---- the begin

abbrev going : State → Next
going st = On st

not_over : (out : List ℕ) (e : End) (st : State) → Over out e ≡ going st → ⊥
not_over out e st h = cc

at_begin : (a st : State) → going a ≡ going st → a ≡ st
at_begin a st h = cc

no_output : (b c : Bool) (a st : State) (e f : End) → a.output ≡ [] → (if b then (if c then Over [] e else going a) else Over [] f) ≡ going st → st.output ≡ []
no_output true true a st e f none h = absurd (not_over [] e st h)
no_output true false a st e f none h = ap (λ (x : State). x.output) (sym (at_begin a st h)) ∙ none
no_output false c a st e f none h = absurd (not_over [] f st h)

main_empty : (m : Memory) (call : Call) (k : ℕ) (o : Option (InText Func)) (st : State) → main_frame m call k o ≡ going st → st.output ≡ []
main_empty m call k None st h = absurd (not_over [] Undefined st h)
main_empty m call k (Some f) st h =
    no_output (call_fits call (map (λ (x : Param). x.class) f.item.params) f.item.result) (nat_lt stack_room (need f.item)) _ st Stack Undefined refl h

-- a run begins without output
pub begins_empty : (p : Program) (words : List (List ℕ)) (st : State) → started p words ≡ On st → st.output ≡ []
unfolding started
begins_empty p words st h = main_empty (start_memory p words) (main_call p words) p.main (slice_get p.functions p.main) st h
