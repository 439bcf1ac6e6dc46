use Rattle.std.proofs.Common.{rules}
use Rattle.std.proofs.Output.{has_written_append, has_written_of_eq}
use Rattle.dasd_contents.proofs.Spelled.{one_more_shown}
use Rattle.dasd_contents.proofs.words.TextDisplay.fmt.Goals as goal

pub loop-byte-preserved : goal.loop-byte-preserved
loop-byte-preserved g c p =
    has_written_of_eq _ _ _ _ _ (one_more_shown c.args.self.now.quoted c.args.self.now.bytes.now c.loop-byte.byte-index
    c.loop-byte-test.true)
    (has_written_append _ _ _ _ _ _ (c.loop-byte.invariant p) (rw (← c.shown_character.ensures.value) (search rules)))
