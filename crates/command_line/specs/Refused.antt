-- Which refusal an error of the parser becomes, by its kind.
use Rattle.clap.specs.Values.{kind_of}
use Rattle.clap.specs.declared.error.Error.{Error}
use Rattle.clap.specs.declared.error.kind.ErrorKind.{ErrorKind}
use Rattle.clap.specs.declared.error.kind.ErrorKind.TheVariants.{OutOfMemory, DisplayHelp, DisplayVersion}
use Rattle.command_line.specs.declared.refusal.Refusal.{Refusal}
use Rattle.command_line.specs.declared.refusal.Refusal.TheVariants.{Help, Mistake, Memory}

abbrev pub refusal_by : ErrorKind → Error → Refusal
refusal_by OutOfMemory e = Memory
refusal_by DisplayHelp e = Help (record { error = e })
refusal_by DisplayVersion e = Help (record { error = e })
refusal_by _ e = Mistake (record { error = e })

abbrev pub refusal_of : Error → Refusal
refusal_of e = refusal_by (kind_of e) e
