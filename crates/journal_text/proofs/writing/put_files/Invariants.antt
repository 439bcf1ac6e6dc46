use Rattle.std.proofs.Common.{◌≡◌, ◌++◌, length, take}
use Rattle.std.specs.List.{flat_map}
use Rattle.journal_text.specs.Spelling.{number, file_text, all_named}
use Rattle.journal_text.proofs.writing.put_files.Given as goal

abbrev pub invariant-loop-file : goal.invariant-loop-file
invariant-loop-file l =
    l.out.items ≡ l.fn.out.items ++ number (length l.files) ++ flat_map file_text (all_named (take l.file-index l.files))
