-- How commands end whose programs put out what they put out while they run.
use Rattle.std.proofs.Common.{◌≡◌, ℕ, List, [], ◌∷◌, Bor, Result, Ok, Err, IfErr, OnErr, true, inl, inr, refl, ◌∙◌, subst}
use Rattle.il_ast.specs.declared.program.Program.{Program}
use Rattle.il_ast.specs.declared.value.End.{End}
use Rattle.il_ast.specs.Prelude.{Behaviour, meaning}
use Rattle.obj_link.specs.Prelude.{are_arguments}
use Rattle.rv_isa.specs.Prelude.{State}
use Rattle.elf_file.specs.Conditions.{Loads, Executable}
use Rattle.rv_machine.specs.declared.stop.Stop.{Stop}
use Rattle.rv_machine.specs.Steps.{RunEnds, start_state}
use Rattle.qbec.specs.Refusals.{AreProgram}
use Rattle.shell.specs.Disk.{DiskState, Holds}
use Rattle.shell.specs.Sink.{SinkState}
use Rattle.commands.specs.declared.failure.Failure.{Failure}
use Rattle.commands.specs.declared.failure.Failure.TheVariants.{Output}
use Rattle.commands.specs.Parts.{RunsTo, RunFails, MeansTo, InterpretFails, IsTraced, IsTold, TraceFails, AllHold}
use Rattle.commands.specs.Pieces.{RunSends, RunBreaks, FileSends, FileFails, Sent, SendingFails, LinkedFails, TextsSend, TextsFail, RunsFile, TextsMean, stop_status, end_status}
use Rattle.commands.specs.Refusals.{FileIsRefused, TextsAreRefused}
use Rattle.commands.proofs.Refusing.{as_run}

-- ---- runs of files

file_ran : (bytes : List ℕ) (words : List (List ℕ)) (limit : ℕ) (x : Executable) (s : State) (output : List ℕ) (stop : Stop) → Loads bytes x → are_arguments words ≡ true → s ≡ start_state x words
    → RunEnds true limit s output stop → RunsFile bytes words limit output stop
file_ran bytes words limit x s output stop loads fit is ends =
    let P : State → Type 0 = λ t. RunEnds true limit t output stop in
    record { file = x; loads = loads; fit = fit; ends = subst P is ends }

pub file_sends : (bytes : List ℕ) (words : List (List ℕ)) (limit : ℕ) (x : Executable) (s : State) (old new : SinkState) (stop : Stop) → Loads bytes x → are_arguments words ≡ true → s ≡ start_state x words
    → RunSends true limit s old new stop → FileSends bytes words limit old new stop
file_sends bytes words limit x s old new stop loads fit is h = record { output = h.output; runs = file_ran bytes words limit x s h.output stop loads fit is h.ends; sent = h.sent }

pub file_breaks : (bytes : List ℕ) (words : List (List ℕ)) (limit : ℕ) (x : Executable) (s : State) (old new : SinkState) (f : Failure) → Loads bytes x → are_arguments words ≡ true → s ≡ start_state x words
    → RunBreaks true limit s old new → f ≡ Output → FileFails bytes words limit old new f
unfolding FileFails
file_breaks bytes words limit x s old new f loads fit is h said =
    inr (record { output = h.output; stop = h.stop; runs = file_ran bytes words limit x s h.output h.stop loads fit is h.ends; broke = h.broke }, said)

pub file_refused : (bytes : List ℕ) (words : List (List ℕ)) (limit : ℕ) (s : SinkState) (f : Failure) → FileIsRefused bytes words f → FileFails bytes words limit s s f
unfolding FileFails
file_refused bytes words limit s f h = inl (h, refl)

pub run_broke_off : {X : Type 0} (r : Result X Failure) (bytes : List ℕ) (words : List (List ℕ)) (limit : ℕ) (x : Executable) (s : State) (old new : SinkState) → Loads bytes x → are_arguments words ≡ true
    → s ≡ start_state x words → IfErr r (λ e. e ≡ Output) → OnErr r (RunBreaks true limit s old new) → IfErr r (FileFails bytes words limit old new)
run_broke_off (Ok y) bytes words limit x s old new loads fit is said broke = tt
run_broke_off (Err f) bytes words limit x s old new loads fit is said broke = file_breaks bytes words limit x s old new f loads fit is broke said

pub runs_to : (disk : DiskState) (path bytes : List ℕ) (words : List (List ℕ)) (limit : ℕ) (old new : SinkState) (stop : Stop) (status : ℕ) → Holds disk.files path bytes
    → FileSends bytes words limit old new stop → stop_status stop ≡ Ok status → RunsTo disk path words limit old new status
unfolding RunsTo
runs_to disk path bytes words limit old new stop status held h is = (h.output, stop, record { bytes = bytes; held = held; runs = h.runs }, h.sent, is)

pub run_stops : (disk : DiskState) (path : Bor (List ℕ)) (bytes : List ℕ) (words : List (List ℕ)) (limit : ℕ) (old new : SinkState) (stop : Stop) (f : Failure) → Holds disk.files path.now bytes
    → FileSends bytes words limit old new stop → stop_status stop ≡ Err f → RunFails disk disk path words limit old new f
unfolding RunFails
run_stops disk path bytes words limit old new stop f held h is =
    inr (inr (inr (h.output, stop, record { bytes = bytes; held = held; runs = h.runs }, inl (h.sent, is), refl)))

pub run_fails : (disk : DiskState) (path : Bor (List ℕ)) (bytes : List ℕ) (words : List (List ℕ)) (limit : ℕ) (old new : SinkState) (f : Failure) → Holds disk.files path.now bytes
    → FileFails bytes words limit old new f → RunFails disk disk path words limit old new f
unfolding RunFails FileFails
run_fails disk path bytes words limit old new f held h = elim h [
  | inl refused ↦ inr (inr (inl (bytes, held, refused.0, refl, refused.1)))
  | inr broke ↦ inr (inr (inr (broke.0.output, broke.0.stop, record { bytes = bytes; held = held; runs = broke.0.runs }, inr (broke.0.broke, broke.1), refl)))
]

-- ---- what comes in so many turns, by another name

pub sent_as : (whole other : ℕ → Behaviour) (turns : ℕ) (old new : SinkState) (e : End) → ((n : ℕ) → other n ≡ whole n) → Sent whole turns old new e → Sent other turns old new e
sent_as whole other turns old new e same h = record { output = h.output; is = same turns ∙ h.is; sent = h.sent }

pub fails_as : (whole other : ℕ → Behaviour) (turns : ℕ) (old new : SinkState) (f : Failure) → ((n : ℕ) → other n ≡ whole n) → SendingFails whole turns old new f → SendingFails other turns old new f
fails_as whole other turns old new f same h = elim h [
  | inl broke ↦ inl (record { output = broke.0.output; ending = broke.0.ending; is = same turns ∙ broke.0.is; broke = broke.0.broke }, broke.1)
  | inr cut ↦ inr (record { count = cut.0.count; output = cut.0.output; below = cut.0.below; is = same cut.0.count ∙ cut.0.is; sent = cut.0.sent }, cut.1)
]

-- ---- texts

mean : (texts words : List (List ℕ)) (p : Program) (turns : ℕ) (output : List ℕ) (e : End) → AreProgram texts p → are_arguments words ≡ true
    → meaning p words turns ≡ record { output = output; ending = e } → TextsMean texts words turns output e
mean texts words p turns output e are fit is = record { program = p; is = are; fit = fit; means = is }

pub texts_send : (texts words : List (List ℕ)) (p : Program) (turns : ℕ) (old new : SinkState) (e : End) → AreProgram texts p → are_arguments words ≡ true
    → Sent (meaning p words) turns old new e → TextsSend texts words turns old new e
texts_send texts words p turns old new e are fit h = record { output = h.output; means = mean texts words p turns h.output e are fit h.is; sent = h.sent }

pub texts_refused : (texts words : List (List ℕ)) (turns : ℕ) (s : SinkState) (f : Failure) → TextsAreRefused texts words f → TextsFail texts words turns s s f
unfolding TextsFail
texts_refused texts words turns s f h = inl (h, refl)

pub texts_fail : (texts words : List (List ℕ)) (p : Program) (turns : ℕ) (old new : SinkState) (f : Failure) → AreProgram texts p
    → LinkedFails (meaning p words) words turns old new f → TextsFail texts words turns old new f
unfolding TextsFail
texts_fail texts words p turns old new f are h = elim h [
  | inl refused ↦ inl (as_run texts words f refused.0 p are refused.1 refused.2, refused.3)
  | inr ran ↦ elim ran.1 [
    | inl broke ↦ inr (inl (record { output = broke.0.output; ending = broke.0.ending; means = mean texts words p turns broke.0.output broke.0.ending are ran.0 broke.0.is; broke = broke.0.broke }, broke.1))
    | inr cut ↦ inr (inr (record { count = cut.0.count; output = cut.0.output; below = cut.0.below; means = mean texts words p cut.0.count cut.0.output _ are ran.0 cut.0.is; sent = cut.0.sent }, cut.1))
  ]
]

-- ---- interp

pub means_to : (disk : DiskState) (path text : List ℕ) (words : List (List ℕ)) (turns : ℕ) (old new : SinkState) (e : End) (status : ℕ) → Holds disk.files path text
    → TextsSend (text ∷ []) words turns old new e → end_status e ≡ Ok status → MeansTo disk path words turns old new status
unfolding MeansTo
means_to disk path text words turns old new e status held h is = (h.output, e, record { text = text; held = held; means = h.means }, h.sent, is)

pub interpret_stops : (disk : DiskState) (path : Bor (List ℕ)) (text : List ℕ) (words : List (List ℕ)) (turns : ℕ) (old new : SinkState) (e : End) (f : Failure) → Holds disk.files path.now text
    → TextsSend (text ∷ []) words turns old new e → end_status e ≡ Err f → InterpretFails disk disk path words turns old new f
unfolding InterpretFails
interpret_stops disk path text words turns old new e f held h is =
    inr (inr (inr (inl (h.output, e, record { text = text; held = held; means = h.means }, inl (h.sent, is), refl))))

pub interpret_fails : (disk : DiskState) (path : Bor (List ℕ)) (text : List ℕ) (words : List (List ℕ)) (turns : ℕ) (old new : SinkState) (f : Failure) → Holds disk.files path.now text
    → TextsFail (text ∷ []) words turns old new f → InterpretFails disk disk path words turns old new f
unfolding InterpretFails TextsFail
interpret_fails disk path text words turns old new f held h = elim h [
  | inl refused ↦ inr (inr (inl (text, held, refused.0, refl, refused.1)))
  | inr later ↦ elim later [
    | inl broke ↦ inr (inr (inr (inl (broke.0.output, broke.0.ending, record { text = text; held = held; means = broke.0.means }, inr (broke.0.broke, broke.1), refl))))
    | inr cut ↦ inr (inr (inr (inr (text, held, cut.0, cut.1, refl))))
  ]
]

-- ---- trace

pub traced : (disk : DiskState) (paths texts words : List (List ℕ)) (turns : ℕ) (old new before after : SinkState) (e : End) (status : ℕ) → AllHold disk.files paths texts
    → TextsSend texts words turns old new e → IsTold (end_status e) before after status → IsTraced disk paths words turns old new before after status
unfolding IsTraced
traced disk paths texts words turns old new before after e status held h told = (h.output, e, record { texts = texts; held = held; means = h.means }, h.sent, told)

pub trace_fails : (disk : DiskState) (paths texts words : List (List ℕ)) (turns : ℕ) (old new : SinkState) (f : Failure) → AllHold disk.files paths texts
    → TextsFail texts words turns old new f → TraceFails disk disk paths words turns old new f
unfolding TraceFails TextsFail
trace_fails disk paths texts words turns old new f held h = elim h [
  | inl refused ↦ inr (inr (inl (texts, held, refused.0, refl, refused.1)))
  | inr later ↦ elim later [
    | inl broke ↦ inr (inr (inr (inl (texts, held, broke.0, broke.1, refl))))
    | inr cut ↦ inr (inr (inr (inr (texts, held, cut.0, cut.1, refl))))
  ]
]
