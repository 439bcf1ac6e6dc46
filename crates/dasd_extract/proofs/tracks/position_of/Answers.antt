use Rattle.std.proofs.Common.{◌==◌, sym, rules, tests, arith}
use Rattle.ckd_track.specs.Track.{no_record}
use Rattle.dasd_extract.specs.Blocks.{number_of}
use Rattle.dasd_extract.proofs.Numbers.{found_at, found_nowhere}
use Rattle.dasd_extract.proofs.tracks.position_of.Goals as goal

pub returns-then-number_of-number : goal.returns-then-number_of-number
returns-then-number_of-number c =
    found_at (λ r. number_of r == c.args.number) c.args.view.now.records no_record c.loop-i.i (omega arith) c.loop-i.invariant
    (search (rules, tests))

pub returns : goal.returns
returns c = sym (found_nowhere (λ r. number_of r == c.args.number) c.args.view.now.records no_record c.loop-i.i
    (omega arith) c.loop-i.invariant)
