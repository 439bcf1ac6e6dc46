use Rattle.std.proofs.Common.{arith, sym}
use Rattle.ckd_position.specs.declared.areas.Position.TheVariants.{At}
use Rattle.ckd_drive.specs.Jobs.{half_done, IsUnlike}
use Rattle.ckd_drive.specs.Searches.{turned_to}
use Rattle.ckd_drive.proofs.Searches.{one_turn_more, tells_unread}
use Rattle.ckd_drive.proofs.job.Job.pass_on.Goals as goal

pub returns-then-not-is_readable-clause-tells : goal.returns-then-not-is_readable-clause-tells
returns-then-not-is_readable-clause-tells g c = λ some few.
    let a = c.args in
    let at = rw (c.track_at-track.ensures.number, c.geometry-geometry.ensures.geometry) at c.in-Some.ensures in
    tells_unread (turned_to a.self.now.registers.position (half_done a.self.now)) a.sought.command a.sought.kind a.wanted.now
    c.in-Some.buffer.now at c.requires.aim c.requires.search (sym c.if-not-is_readable.ensures)

pub loop-passed-preserved : goal.loop-passed-preserved
loop-passed-preserved g c =
    let a = c.args in
    record {
      few = omega (arith, c.loop-passed-test.true);
      turns = one_turn_more (λ p. IsUnlike (turned_to p (half_done a.self.now)) a.sought.command a.sought.kind a.wanted.now)
          a.self.now.registers.position c.loop-passed.passed (At c.loop-passed.area) c.in-Some-unlike-2.next
          c.loop-passed.invariant.turns
          c.in-Some-unlike-2.ensures.unlike;
    }
