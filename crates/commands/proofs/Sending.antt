-- Runs whose output goes out piece by piece.
use Rattle.std.proofs.Common.{◌≡◌, ◌≢◌, ℕ, ◌+◌, ◌-◌, ◌≤◌, ◌++◌, Bool, List, [], refl, ap, sym, ◌∙◌, subst, arith, append_assoc, append-nil, Option, Some, None}
use Rattle.rv_isa.specs.Prelude.{State}
use Rattle.rv_machine.specs.declared.stop.Stop.{Stop}
use Rattle.rv_machine.specs.declared.stop.Stop.TheVariants.{Limit}
use Rattle.rv_machine.specs.Steps.{IsPiece, emptied}
use Rattle.rv_machine.proofs.PieceLaws.{Leads, begins, leads_here, leads_on, leads_to_end, leads_to_stop}
use Rattle.il_ast.specs.declared.value.End.{End}
use Rattle.il_ast.specs.declared.value.End.TheVariants.{Turns}
use Rattle.il_ast.specs.Prelude.{Behaviour}
use Rattle.il_interp.specs.declared.pieces.Running.{Running}
use Rattle.il_interp.specs.Machine.{comes_to, ending_of, held, left_of, put_before}
use Rattle.il_interp.proofs.PieceLaws.{left_begins, left_goes, left_over, no_turns, whole_piece}
use Rattle.shell.specs.Sink.{SinkState, Went, Sends, Breaks, one_more}
use Rattle.shell.proofs.SinkLemmas.{went_more}
use Rattle.commands.specs.Pieces.{RunSends, RunBreaks, Sent, Broken, CutOff}

-- ---- sinks

went_none : (o : Option (List ℕ)) → Went o o []
went_none None = tt
went_none (Some bytes) = sym (append-nil bytes)

sends_none : (s : SinkState) → Sends s s []
sends_none s = record { went = went_none s.held; clean = refl }

sends_both : (first old new : SinkState) (before part : List ℕ) → Sends first old before → Sends old new part → Sends first new (before ++ part)
sends_both first old new before part p q = record { went = went_more first.held old.held new.held before part p.went q.went; clean = q.clean ∙ p.clean }

-- a part broke off, and what would come behind it
breaks_within : (first old new : SinkState) (before part behind whole : List ℕ) → whole ≡ (before ++ part) ++ behind → Sends first old before → Breaks old new part → Breaks first new whole
breaks_within first old new before part behind whole is p q = record {
  sent = before ++ q.sent;
  unsent = q.unsent ++ behind;
  are = is ∙ ap (λ (x : List ℕ). (before ++ x) ++ behind) q.are ∙ ap (λ (x : List ℕ). x ++ behind) (sym (append_assoc before q.sent q.unsent)) ∙ append_assoc (before ++ q.sent) q.unsent behind;
  went = went_more first.held old.held new.held before q.sent p.went q.went;
  fault = q.fault ∙ ap one_more p.clean;
}

-- ---- the machine

-- what went out so far, and what the run comes to from here
pub record RunsSoFar (refuses : Bool) (limit : ℕ) (s : State) (first now : SinkState) (left : ℕ) (t : State) : Type 0 where
  pub sent : List ℕ
  pub went : Sends first now sent
  pub leads : Leads refuses limit s sent left t

pub nothing_ran : (refuses : Bool) (limit : ℕ) (s : State) (first : SinkState) → RunsSoFar refuses limit s first first limit s
nothing_ran refuses limit s first = record { sent = []; went = sends_none first; leads = leads_here refuses limit s }

pub ran_on : (refuses : Bool) (limit : ℕ) (s : State) (first old new : SinkState) (left count : ℕ) (t u v : State) (e : Stop) → RunsSoFar refuses limit s first old left t
    → count ≤ left → IsPiece refuses count t u e → e ≡ Limit → Sends old new u.output → v ≡ emptied u → RunsSoFar refuses limit s first new (left - count) v
ran_on refuses limit s first old new left count t u v e so le piece on sends clear = record {
  sent = so.sent ++ u.output;
  went = sends_both first old new so.sent u.output so.went sends;
  leads =
      let P : Stop → Type 0 = λ x. IsPiece refuses count t u x in
      let Q : State → Type 0 = λ x. Leads refuses limit s (so.sent ++ u.output) (left - count) x in
      subst Q (sym clear) (leads_on refuses limit s so.sent left t u count le so.leads (subst P on piece));
}

pub ran_to_stop : (refuses : Bool) (limit : ℕ) (s : State) (first old new : SinkState) (left count : ℕ) (t u : State) (e : Stop) → RunsSoFar refuses limit s first old left t
    → count ≤ left → IsPiece refuses count t u e → e ≢ Limit → Sends old new u.output → RunSends refuses limit s first new e
ran_to_stop refuses limit s first old new left count t u e so le piece over sends = record {
  output = so.sent ++ u.output;
  ends = leads_to_stop refuses limit s so.sent left t u count e le over so.leads piece;
  sent = sends_both first old new so.sent u.output so.went sends;
}

pub ran_to_end : (refuses : Bool) (limit : ℕ) (s : State) (first old new : SinkState) (left : ℕ) (t u : State) (e : Stop) → RunsSoFar refuses limit s first old left t
    → IsPiece refuses left t u e → Sends old new u.output → RunSends refuses limit s first new e
ran_to_end refuses limit s first old new left t u e so piece sends = record {
  output = so.sent ++ u.output;
  ends = leads_to_end refuses limit s so.sent left t u e so.leads piece;
  sent = sends_both first old new so.sent u.output so.went sends;
}

pub run_broke : (refuses : Bool) (limit : ℕ) (s : State) (first old new : SinkState) (left count : ℕ) (t u : State) (e : Stop) → RunsSoFar refuses limit s first old left t
    → count ≤ left → IsPiece refuses count t u e → Breaks old new u.output → RunBreaks refuses limit s first new
run_broke refuses limit s first old new left count t u e so le piece broke =
    let beginning = begins refuses limit s so.sent left t u count e le so.leads piece in
    record {
      output = (so.sent ++ u.output) ++ beginning.rest;
      stop = beginning.stop;
      ends = beginning.ends;
      broke = breaks_within first old new so.sent u.output beginning.rest _ refl so.went broke;
    }

-- ---- the interpreter

-- what went out so far, and what the run that is in hand comes to
pub record TurnsSoFar (whole : ℕ → Behaviour) (turns : ℕ) (first now : SinkState) (left : ℕ) (r : Running) : Type 0 where
  pub sent : List ℕ
  pub within : left ≤ turns
  pub went : Sends first now sent
  pub comes : (n : ℕ) → whole (turns - left + n) ≡ put_before sent (comes_to r n)
  pub empty : held r ≡ []

pub nothing_done : (turns : ℕ) (first : SinkState) (r : Running) → held r ≡ [] → TurnsSoFar (comes_to r) turns first first turns r
nothing_done turns first r empty = record {
  sent = [];
  within = omega arith;
  went = sends_none first;
  comes = λ n. let none : turns - turns + n ≡ n = omega arith in ap (comes_to r) none;
  empty = empty;
}

-- after a piece, before what it put out is forgotten
piece_comes : (whole : ℕ → Behaviour) (turns left count : ℕ) (sent : List ℕ) (r s : Running) (end : Option End) → left ≤ turns → count ≤ left
    → ((n : ℕ) → whole (turns - left + n) ≡ put_before sent (comes_to r n)) → ((n : ℕ) → comes_to r (count + n) ≡ left_of s end n) → (n : ℕ)
    → whole (turns - (left - count) + n) ≡ put_before sent (left_of s end n)
piece_comes whole turns left count sent r s end within le comes piece n =
    let same : turns - (left - count) + n ≡ turns - left + (count + n) = omega (arith, within, le) in
    ap whole same ∙ comes (count + n) ∙ ap (put_before sent) (piece n)

before_twice : (a b : List ℕ) (x : Behaviour) → put_before a (put_before b x) ≡ put_before (a ++ b) x
before_twice a b x = ap (λ (out : List ℕ). record x { output = out }) (sym (append_assoc a b x.output))

pub went_further : (whole : ℕ → Behaviour) (turns : ℕ) (first old new : SinkState) (left count : ℕ) (r s t : Running) (end : Option End) → TurnsSoFar whole turns first old left r → count ≤ left
    → ((n : ℕ) → comes_to r (count + n) ≡ left_of s end n) → end ≡ None → Sends old new (held s) → ((n : ℕ) → comes_to s n ≡ put_before (held s) (comes_to t n)) → held t ≡ []
    → TurnsSoFar whole turns first new (left - count) t
went_further whole turns first old new left count r s t end so le piece on sends clear empty = record {
  sent = so.sent ++ held s;
  within = let w = so.within in omega (arith, w);
  went = sends_both first old new so.sent (held s) so.went sends;
  comes = λ n.
      piece_comes whole turns left count so.sent r s end so.within le so.comes piece n
      ∙ ap (put_before so.sent) (ap (λ (o : Option End). left_of s o n) on ∙ left_goes s n ∙ clear n)
      ∙ before_twice so.sent (held s) (comes_to t n);
  empty = empty;
}

-- all turns but those that are left are done
at_once : (whole : ℕ → Behaviour) (turns left : ℕ) → left ≤ turns → whole turns ≡ whole (turns - left + left)
at_once whole turns left le = let same : turns ≡ turns - left + left = omega (arith, le) in ap whole same

pub sent_to_end : (whole : ℕ → Behaviour) (turns : ℕ) (first old new : SinkState) (left : ℕ) (r s : Running) (end : Option End) → TurnsSoFar whole turns first old left r
    → ((n : ℕ) → comes_to r (left + n) ≡ left_of s end n) → Sends old new (held s) → Sent whole turns first new (ending_of end)
sent_to_end whole turns first old new left r s end so piece sends = record {
  output = so.sent ++ held s;
  is = at_once whole turns left so.within ∙ so.comes left ∙ ap (put_before so.sent) (whole_piece r s left end piece);
  sent = sends_both first old new so.sent (held s) so.went sends;
}

pub sent_to_over : (whole : ℕ → Behaviour) (turns : ℕ) (first old new : SinkState) (left count : ℕ) (r s : Running) (end : Option End) (e : End) → TurnsSoFar whole turns first old left r → count ≤ left
    → ((n : ℕ) → comes_to r (count + n) ≡ left_of s end n) → end ≡ Some e → Sends old new (held s) → Sent whole turns first new e
sent_to_over whole turns first old new left count r s end e so le piece over sends = record {
  output = so.sent ++ held s;
  is =
      at_once whole turns (left - count) (let w = so.within in omega (arith, w))
      ∙ piece_comes whole turns left count so.sent r s end so.within le so.comes piece (left - count)
      ∙ ap (put_before so.sent) (ap (λ (o : Option End). left_of s o (left - count)) over ∙ left_over s e (left - count));
  sent = sends_both first old new so.sent (held s) so.went sends;
}

pub sending_broke : (whole : ℕ → Behaviour) (turns : ℕ) (first old new : SinkState) (left count : ℕ) (r s : Running) (end : Option End) → TurnsSoFar whole turns first old left r → count ≤ left
    → ((n : ℕ) → comes_to r (count + n) ≡ left_of s end n) → Breaks old new (held s) → Broken whole turns first new
sending_broke whole turns first old new left count r s end so le piece broke =
    let rest = left_begins s end (left - count) in
    let b = left_of s end (left - count) in
    record {
      output = so.sent ++ b.output;
      ending = b.ending;
      is =
          at_once whole turns (left - count) (let w = so.within in omega (arith, w))
          ∙ piece_comes whole turns left count so.sent r s end so.within le so.comes piece (left - count);
      broke =
          breaks_within first old new so.sent (held s) rest.rest _
          (ap (λ (x : List ℕ). so.sent ++ x) rest.is ∙ sym (append_assoc so.sent (held s) rest.rest)) so.went broke;
    }

abbrev ended : List ℕ → End → Behaviour
ended out e = record { output = out; ending = e }

pub cut_off : (whole : ℕ → Behaviour) (turns : ℕ) (first now : SinkState) (left : ℕ) (r : Running) → TurnsSoFar whole turns first now left r → CutOff whole turns first now
cut_off whole turns first now left r so = record {
  count = turns - left;
  output = so.sent;
  below = omega arith;
  is =
      (let same : turns - left ≡ turns - left + 0 = omega arith in ap whole same) ∙ so.comes 0 ∙ ap (put_before so.sent) (no_turns r)
      ∙ ap (λ (x : List ℕ). ended (so.sent ++ x) Turns) so.empty ∙ ap (λ (x : List ℕ). ended x Turns) (append-nil so.sent);
  sent = so.went;
}
