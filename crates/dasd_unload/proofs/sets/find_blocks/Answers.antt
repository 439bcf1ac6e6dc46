use Rattle.std.proofs.Common.{refl, sym}
use Rattle.std.specs.Option.{option_copied}
use Rattle.dasd_unload.specs.Asked.{asked}
use Rattle.dasd_unload.proofs.Found.{why_no_start}
use Rattle.dasd_unload.proofs.sets.find_blocks.Goals as goal

pub returns-in-Ok-find_start-clause-found : goal.returns-in-Ok-find_start-clause-found
returns-in-Ok-find_start-clause-found g c = record {
  named = rw c.in-Some.is at c.in_ok-set.ensures.found;
  form = sym c.in-Ok.ensures;
  extents = refl;
  start = rw c.find_set.ensures.kept at c.in-Ok-find_start.ensures.start;
  tracks = refl;
}

pub returns-in-Err-clause-why : goal.returns-in-Err-clause-why
returns-in-Err-clause-why g c = record {
  set = c.in-Some.set;
  named = rw c.in-Some.is at c.in_ok-set.ensures.found;
  is_so = sym c.in-Err.ensures;
}

pub returns-in-Err-find_start-clause-why : goal.returns-in-Err-find_start-clause-why
returns-in-Err-find_start-clause-why g c =
    let a = c.args.asked_for in why_no_start _ (asked a.name.now (option_copied a.member) a.block_form a.given (option_copied a.target))
    (g.V.SlotReader.volume c.args.volume.now) c.in-Some.set
    (rw c.in-Some.is at c.in_ok-set.ensures.found) (rw c.find_set.ensures.kept at c.in-Err-find_start.ensures.why)
