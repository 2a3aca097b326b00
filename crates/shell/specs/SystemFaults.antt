-- Why a call of the system failed.
use Rattle.std.specs.declared.io.ErrorKind.{ErrorKind}
use Rattle.std.specs.declared.io.ErrorKind.TheVariants.{OutOfMemory}
use Rattle.shell.specs.declared.disk.FileFault.{FileFault}
use Rattle.shell.specs.declared.disk.FileFault.TheVariants.{Device, Memory}

-- memory was refused, or else the device or the file system refused
abbrev pub fault_of : ErrorKind → FileFault
fault_of OutOfMemory = Memory
fault_of kind = Device
