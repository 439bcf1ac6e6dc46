-- Which file of a journal a file is.
use Rattle.std.specs.Prelude.{◌<◌, length}
use Rattle.file_journals.specs.declared.journals.Beside.{Beside}
use Rattle.file_journals.specs.declared.journals.Beside.TheVariants as beside

-- a journal that was found for a file has a file of that number
abbrev pub IsPlaced : Beside → Type 0
IsPlaced (beside.Journal it) = it.place < length it.journal.files.items
IsPlaced other = Unit {0}
