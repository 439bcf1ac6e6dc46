use Rattle.std.proofs.Common.{ℕ, ◌≡◌, ◌<◌, length, take, slice_index, true}
use Rattle.std.specs.List.{list_all}
use Rattle.volume_labels.specs.Ebcdic.{character_of}
use Rattle.dasd_extract.specs.Names.{IsBlank, is_ascii}
use Rattle.dasd_extract.proofs.names.put_name.Given as goal

-- the characters so far are those of the text, each is one of ASCII, and behind them there are blanks
abbrev pub invariant-loop-i : goal.invariant-loop-i
invariant-loop-i l =
    (length l.name ≡ length l.fn.name)
    × ((k : ℕ) → k < l.i → character_of (slice_index l.name k) ≡ slice_index l.text k)
    × (list_all is_ascii (take l.i l.text) ≡ true)
    × IsBlank l.i l.name
