use Rattle.std.proofs.Common.{◌++◌, ℕ, subst}
use Rattle.counted_io.specs.Streams.{seen_by, TakesFront}
use Rattle.dasd_volumes.specs.Checks.{lines_in, number_line}
use Rattle.dasd_volumes.proofs.Fronts.{front_behind}
use Rattle.dasd_volumes.proofs.checks.check.Goals as goal

-- the last line was not printed to its end
pub returns-in-Ok-checked-clause-lines : goal.returns-in-Ok-checked-clause-lines
returns-in-Ok-checked-clause-lines g c = λ slots known.
    let before = seen_by g.W.Write.contents c.args.writer.now in
    let between = seen_by g.W.Write.contents c.check_tracks-checked.new.writer in
    let after = seen_by g.W.Write.contents c.write_number.new.writer in
    let lines = lines_in (g.V.SlotReader.volume c.args.volume.now).geometry slots in
    subst (λ (n : ℕ). TakesFront before after (lines ++ number_line n)) (c.in-Ok-checked.ensures.number slots known)
    (front_behind before between after _ _ (c.in-Ok-checked.ensures.lines slots known) c.in-Err-write_number.ensures.written.0)
