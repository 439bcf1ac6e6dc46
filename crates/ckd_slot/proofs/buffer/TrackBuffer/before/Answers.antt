use Rattle.std.proofs.Common.{◌≡◌, arith}
use Rattle.ckd_track.specs.Track.{track_in}
use Rattle.ckd_slot.proofs.Writes.{kept_least}
use Rattle.ckd_slot.proofs.buffer.TrackBuffer.before.Goals as goal

pub returns : goal.returns
returns c = record {
  kept = rw (← c.record_before.ensures, c.in-Some.is) (kept_least (track_in c.args.self.now).records c.count-n.result c.in-Some.i
      c.min.result c.count-n.ensures c.if-n-eq0.false c.min.ensures);
  there = λ k e. let same : c.min.result ≡ k = cc in omega (arith, same, c.min.ensures, c.count-n.ensures, c.if-n-eq0.false);
}
