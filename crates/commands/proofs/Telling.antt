-- Lines that went out, or a beginning of them.
use Rattle.std.proofs.Common.{ℕ, List, Result, Ok, Err, OnOk, OnErr, IfErr}
use Rattle.shell.specs.Sink.{SinkState, Sends, Stops, Breaks, Tells, whole, broken}
use Rattle.shell.specs.declared.write_exe.WriteFault.{WriteFault}
use Rattle.shell.proofs.SinkLemmas.{stop_breaks}

-- all of it or a beginning, whichever the call answered
pub either : {X Y : Type 0} (old new : SinkState) (bytes : List ℕ) (r : Result X Y) → OnOk r (Sends old new bytes) → OnErr r (Breaks old new bytes) → Tells old new bytes
either old new bytes (Ok x) all some = whole all
either old new bytes (Err y) all some = broken some

pub either_at : {X : Type 0} (old new : SinkState) (bytes : List ℕ) (r : Result X WriteFault) → OnOk r (Sends old new bytes) → IfErr r (λ e. Stops old new bytes e.written) → Tells old new bytes
either_at old new bytes (Ok x) all some = whole all
either_at old new bytes (Err e) all some = broken (stop_breaks old new bytes e.written some)
