use Rattle.std.proofs.Common.{◌≡◌, take}
use Rattle.std.specs.List.{list_all}
use Rattle.dasd_extract.specs.Blocks.{is_printing}
use Rattle.dasd_extract.proofs.texts.are_printing.Given as goal

-- those so far are printing ones
abbrev pub invariant-loop-i : goal.invariant-loop-i
invariant-loop-i l = l.printing ≡ list_all is_printing (take l.i l.characters)
