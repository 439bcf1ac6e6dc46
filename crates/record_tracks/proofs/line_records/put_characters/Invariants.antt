use Rattle.std.proofs.Common.{length}
use Rattle.std.specs.Str.{chars}
use Rattle.record_tracks.proofs.TextSpelled.{SpelledTo}
use Rattle.record_tracks.proofs.line_records.put_characters.Given as goal

-- the characters so far are put
abbrev pub invariant-loop-character : goal.invariant-loop-character
invariant-loop-character l = SpelledTo (chars l.text) (length l.yielded) l.initial.records.items l.records.items
