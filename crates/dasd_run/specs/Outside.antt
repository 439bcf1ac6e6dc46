-- What is outside of the program.
use Rattle.std.specs.Prelude.{◌≡◌, List}
use Rattle.counted_io.specs.Streams.{Stream}
use Rattle.changed_volumes.specs.Files.{Around}
use Rattle.dasd_jobs.specs.Sources.{SourceFile}
use Rattle.dasd_jobs.specs.Written.{Replaced}
use Rattle.dasd_unload.specs.Unloads.{Outcome, outcome}

-- What a command finds outside of the program, and leaves there: what was read of the reader and printed, and the files that were made or
-- replaced so far, and that were opened to be read.
pub record Outside : Type 0 where
  pub read : Stream
  pub printed : Stream
  pub written : List Replaced
  pub opened : List SourceFile

-- no file is written, and nothing is read of the reader
abbrev pub Looks : (before now : Outside) → Type 0
Looks before now = (now.written ≡ before.written) × (now.read ≡ before.read)

-- what of the outside a change speaks of
abbrev pub around : Outside → Around
around o = record { opened = o.opened; written = o.written; printed = o.printed }

-- the files that were made, and what was printed
abbrev pub left_of : Outside → Outcome
left_of o = outcome o.written o.printed
