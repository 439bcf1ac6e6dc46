use Rattle.std.proofs.Common.{rules, tests, ◌+◌, ◌∙◌, ℕ, [], ap, refl}
use Rattle.std.proofs.lemmas.Result.{err_from_is_err_and}
use Rattle.counted_io.proofs.Written.{takes_nothing}
use Rattle.dasd_volumes.proofs.Fronts.{begun, one_more, front_of_next}
use Rattle.dasd_volumes.specs.Listing.{listed_record}
use Rattle.dasd_volumes.proofs.objects.list_records.Goals as goal

pub loop-i-init : goal.loop-i-init
loop-i-init g c = record { taken = begun _ _ [] _ (takes_nothing _); sound = refl }

pub loop-i-preserved : goal.loop-i-preserved
loop-i-preserved g c = record {
  taken = one_more _ _ _ [] (listed_record c.args.view.now) c.loop-i.i c.loop-i.invariant.taken c.in_ok-list_record.ensures.0;
  sound = c.in_ok-list_record.ensures.1 ∙ c.loop-i.invariant.sound;
}

pub returns-in_err-list_record : goal.returns-in_err-list_record
returns-in_err-list_record g c =
    let p = err_from_is_err_and c.from_residual.result c.from_residual.ensures.1 in
    rw p.1 (
      front_of_next _ _ _ [] (listed_record c.args.view.now) c.loop-i.i _ (search (rules, tests)) c.loop-i.invariant.taken
          c.in_err-list_record.ensures.0,
      c.in_err-list_record.ensures.1 ∙ ap (λ (n : ℕ). n + 1) c.loop-i.invariant.sound,
    )
