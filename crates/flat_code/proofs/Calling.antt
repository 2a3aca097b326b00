-- A call on bytes shows the call on blocks, and goes on beside it from whatever shows how that goes.
use Rattle.std.proofs.Common.{ℕ, ◌+◌, ◌-◌, ◌≤◌, inl, List, map, Option, Some, None, refl, sym, ◌∙◌, ap, subst, arith, option_map}
use Rattle.il_ast.specs.declared.value.Value.{Value}
use Rattle.il_ast.specs.declared.value.Value.TheVariants.{Integer, Pointer, Function}
use Rattle.il_ast.specs.Prelude.{Spent, both, Outcome, Returned, Ended}
use Rattle.vcode.specs.declared.place.Location.{Location}
use Rattle.vcode.specs.declared.place.Destination.{Destination}
use Rattle.vcode.specs.declared.place.Argument.{Argument}
use Rattle.vcode.specs.Prelude.{held as value_held, located, kept as values_kept, State, resumes, calls}
use Rattle.flat_code.specs.Flat.{Bases, Grown, Clear, FlatOutcome, FlatReturned, FlatEnded, ShowsOutcome}
use Rattle.flat_code.specs.Step.{FlatState, put, kept, held, resumes as flat_resumes, calls as flat_calls}
use Rattle.flat_code.proofs.Playing.{BesideNext}
use Rattle.flat_code.proofs.Shown.{Follows, ArgsFollow, some_follows, follow_grown, kept_follows, put_follows, held_shown}
use Rattle.flat_code.proofs.Owning.{held_later}
use Rattle.flat_code.proofs.Going.{Setting, ground, frame, IsSetting, HasRoom, Related, Together, same_bases}

-- ---- after the call

resumes_together : (c : Setting) (p u : Bases) (s : State Location) (t : FlatState) (to : Option (Destination Location)) → Related c p s t → HasRoom c s.block (s.next + 1) t.used → Grown p u
    → (went : Outcome) (r : FlatOutcome) → ShowsOutcome c.names.entries u (option_map (λ d. d.class) to) t.memory s.memory went r
    → BesideNext (frame c) (Related c) u (resumes located s to went) (flat_resumes t to r)
resumes_together c p u s t to r room grown (Ended sp z) (FlatReturned tp x f) h = absurd h
resumes_together c p u s t to r room grown (Returned sp v m) (FlatEnded tp y) h = absurd h
resumes_together c p u s t to r room grown (Ended sp z) (FlatEnded tp y) h =
    λ fine. (FlatEnded (both t.spent tp) y, refl, (u, same_bases u, (ap (λ (w : Spent). both w tp) r.spent ∙ ap (both s.spent) h.0, h.1)))
resumes_together c p u s t None r room grown (Returned sp v m) (FlatReturned tp x f) h = (
  record t { next = t.next + 1; numbers = kept t.numbers; memory = f; spent = both t.spent tp },
  refl,
  (
    u,
    same_bases u,
    record {
      block = r.block;
      next = ap (λ k. k + 1) r.next;
      spent = ap (λ (w : Spent). both w tp) r.spent ∙ ap (both s.spent) h.spent;
      follow = kept_follows c.names.entries u s.values t.numbers (follow_grown c.names.entries p u grown s.values t.numbers r.follow);
      held = held_later (ground c) p u s.memory m s.owned t.memory f t.used r.held grown h.memory h.reach h.blocks;
      room = room;
    },
  ),
)
resumes_together c p u s t (Some d) r room grown (Returned sp None m) (FlatReturned tp x f) h = λ fine. absurd fine
resumes_together c p u s t (Some d) r room grown (Returned sp (Some v) m) (FlatReturned tp None f) h = absurd h.result
resumes_together c p u s t (Some d) r room grown (Returned sp (Some v) m) (FlatReturned tp (Some x) f) h = (
  record t { next = t.next + 1; numbers = put d.place (Some (held d.class x)) (kept t.numbers); memory = f; spent = both t.spent tp },
  refl,
  (
    u,
    same_bases u,
    record {
      block = r.block;
      next = ap (λ k. k + 1) r.next;
      spent = ap (λ (w : Spent). both w tp) r.spent ∙ ap (both s.spent) h.spent;
      follow = put_follows c.names.entries u (values_kept located s.values) (kept t.numbers) d.place (Some (value_held d.class v)) (Some (held d.class x))
          (kept_follows c.names.entries u s.values t.numbers (follow_grown c.names.entries p u grown s.values t.numbers r.follow))
          (some_follows c.names.entries u (value_held d.class v) (held d.class x) (held_shown c.names.entries u d.class v x h.result h.suits));
      held = held_later (ground c) p u s.memory m s.owned t.memory f t.used r.held grown h.memory h.reach h.blocks;
      room = room;
    },
  ),
)

-- ---- the call

-- the bytes for calls are away all the time
calls_clear : (c : Setting) → IsSetting c → (p : Bases) (s : State Location) (t : FlatState) → Related c p s t → Clear c.low c.high t.memory
calls_clear c is p s t r x le lt =
    let below : c.high ≤ c.base = is.calls_below in
    r.held.reach x (is.shows.clear x le (omega arith)) (inl (omega arith))

called : (c : Setting) → IsSetting c → (p : Bases) (s : State Location) (t : FlatState) (to : Option (Destination Location)) (args : List (Argument Location)) (o : Option Value) (n : Option ℕ) (os : Option (List Value)) (ns : Option (List ℕ))
    → Related c p s t → HasRoom c s.block (s.next + 1) t.used → Follows c.names.entries p o n → ArgsFollow c.names.entries p (map (λ a. a.class) args) os ns
    → Together c p (calls located c.given s to args o os) (flat_calls c.shown t to args n ns)
called c is p s t to args None n os ns r room callee all = λ fine. absurd fine
called c is p s t to args (Some (Integer i)) n os ns r room callee all = λ fine. absurd fine
called c is p s t to args (Some (Pointer b i)) n os ns r room callee all = λ fine. absurd fine
called c is p s t to args (Some (Function g)) n None ns r room callee all = λ fine. absurd fine
called c is p s t to args (Some (Function g)) n (Some vs) ns r room callee all =
    let a = callee (Function g) refl in
    let b = all vs refl in
    subst (λ (m : Option ℕ). Together c p (calls located c.given s to args (Some (Function g)) (Some vs)) (flat_calls c.shown t to args m ns)) (sym a.1)
    (subst (λ (m : Option (List ℕ)). Together c p (calls located c.given s to args (Some (Function g)) (Some vs)) (flat_calls c.shown t to args (Some a.0) m)) (sym b.1) (
      record {
        at = a.0;
        classes = map (λ d. d.class) args;
        wants = option_map (λ d. d.class) to;
        given = record { turns = c.shown.turns - t.spent.turns; room = c.shown.room; args = b.0; memory = t.memory };
      },
      (
        flat_resumes t to,
        refl,
        record {
          at = a.2;
          classes = refl;
          wants = refl;
          typed = b.3;
          given = record {
            turns = ap (λ (w : Spent). c.shown.turns - w.turns) r.spent ∙ ap (λ k. k - s.spent.turns) is.shows.turns;
            room = is.shows.room;
            args = b.2;
            memory = r.held.memory;
            clear = calls_clear c is p s t r;
          };
        },
        refl,
        λ went u f grown shown. resumes_together c p u s t to r room grown went f shown,
      ),
    ))

pub calls_together : (c : Setting) → IsSetting c → (p : Bases) (s : State Location) (t : FlatState) (to : Option (Destination Location)) (args : List (Argument Location)) (o : Option Value) (n : Option ℕ) (os : Option (List Value)) (ns : Option (List ℕ))
    → Related c p s t → HasRoom c s.block (s.next + 1) t.used → Follows c.names.entries p o n → ArgsFollow c.names.entries p (map (λ a. a.class) args) os ns
    → Together c p (calls located c.given s to args o os) (flat_calls c.shown t to args n ns)
calls_together = called
