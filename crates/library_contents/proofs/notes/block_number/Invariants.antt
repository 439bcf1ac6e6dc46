use Rattle.std.proofs.Common.{◌≡◌, ◌-◌, length}
use Rattle.library_contents.specs.Notes.{number_from}
use Rattle.library_contents.proofs.notes.block_number.Given as goal

-- none of the blocks so far is the one
abbrev pub invariant-loop-number : goal.invariant-loop-number
invariant-loop-number l =
    number_from (length l.member) 0 l.member l.blocks ≡ number_from (length l.member - l.number) l.number l.rest l.blocks
