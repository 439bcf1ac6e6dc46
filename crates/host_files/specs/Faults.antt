-- What a fault of the host is to the program.
use Rattle.std.specs.declared.io.ErrorKind.{ErrorKind}
use Rattle.std.specs.declared.io.ErrorKind.TheVariants as io
use Rattle.dasd_jobs.specs.declared.files.FileFault.{FileFault}
use Rattle.dasd_jobs.specs.declared.files.FileFault.TheVariants as file

-- by its kind
abbrev pub fault_of_kind : ErrorKind → FileFault
fault_of_kind io.OutOfMemory = file.OutOfMemory
fault_of_kind io.AlreadyExists = file.Exists
fault_of_kind io.ResourceBusy = file.InUse
fault_of_kind kind = file.Refused
