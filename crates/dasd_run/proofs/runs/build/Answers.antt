use Rattle.std.proofs.Common.{◌∙◌, ◌+◌, take, inr, arith}
use Rattle.std.proofs.lemmas.Result.{err_from_is_err_and}
use Rattle.dasd_run.proofs.Built.{opens_next, addressed, still_new, stops_at}
use Rattle.dasd_run.proofs.runs.build.Goals as goal

pub loop-i-preserved : goal.loop-i-preserved
loop-i-preserved g c =
    let one = c.in_ok-attach.ensures.drive in
    let next =
    opens_next c.args.volumes.now c.loop-i.i c.index-volumes-i.result c.loop-i.channel c.attach.new.channel _ _ _ c.loop-i-test.true
    c.index-volumes-i.is c.loop-i.invariant.drives one in
    record {
      kept = c.attach.ensures.kept ∙ c.loop-i.invariant.kept;
      is_new = still_new c.args.storage c.args.number c.index-volumes-i.result c.loop-i.channel _ _ _ c.loop-i.invariant.is_new one;
      drives = next;
      addresses = addressed (take (c.loop-i.i + 1) c.args.volumes.now) c.attach.new.channel.drives _ _ next;
    }

pub returns-in_err-attach-clause-not_built : goal.returns-in_err-attach-clause-not_built
returns-in_err-attach-clause-not_built g c =
    let p = err_from_is_err_and c.from_residual-in_err-attach.result c.from_residual-in_err-attach.ensures.1 in
    let sound = c.in_ok-channel.ensures.sound in
    rw (p.1, p.2) (inr (
      sound.0,
      sound.1,
      stops_at c.in_err-attach.field-0.0 c.args.volumes.now _ c.loop-i.i c.index-volumes-i.result _ _ _ (grind arith)
          (c.loop-i-test.true, c.index-volumes-i.is) (c.loop-i.channel.drives, c.loop-i.invariant.drives)
          c.in_err-attach.ensures.not_attached,
    ))
