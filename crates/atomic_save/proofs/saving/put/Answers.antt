use Rattle.std.proofs.Common.{◌-◌, length, take, drop, refl, arith, ◌∙◌, ap, sym, subst}
use Rattle.atomic_save.specs.Changes.{note_of, notes}
use Rattle.atomic_save.specs.Calls.{files_of, shown}
use Rattle.atomic_save.specs.Saves.{AllLie}
use Rattle.atomic_save.proofs.Put.{Pending, Among, pending_start, pending_step, pending_end, among_step, put_reached, first_and_rest}
use Rattle.atomic_save.proofs.Put.{nothing_left}
use Rattle.atomic_save.proofs.saving.put.Goals as goal

pub loop-rest-init : goal.loop-rest-init
loop-rest-init g c = record {
  reached = λ disk before calm r. r;
  pending = pending_start (notes c.args.changes.now) (g.H.Host.events c.args.host.now);
  among = λ file k isnt. isnt;
  inside = c.requires.inside;
  faults = omega arith;
  shown = refl;
  files = refl;
}

pub write-requires : goal.write-requires
write-requires g c =
    let split = first_and_rest c.loop-rest.rest.now c.change-item.result c.in-len1-up.len_at_least c.change-item.is in
    (subst (λ l. AllLie (files_of (g.H.Host.events c.loop-rest.host)) (notes l)) split c.loop-rest.invariant.inside).0

pub returns-in_err-write-clause-any_moment : goal.returns-in_err-write-clause-any_moment
returns-in_err-write-clause-any_moment g c disk before calm r =
    let ns = notes c.args.changes.now in
    let xs = c.loop-rest.rest.now in
    let split = first_and_rest xs c.change-item.result c.in-len1-up.len_at_least c.change-item.is in
    (put_reached disk ns before calm (note_of c.change-item.result) (notes (take (length xs - 1) (drop 1 xs)))
    (g.H.Host.events c.loop-rest.host) (g.H.Host.events c.write.new.self) _ c.in_err-write.ensures.events
    (subst (λ l. Among (notes l) ns) split c.loop-rest.invariant.among)
    (ap shown c.in_err-write.ensures.events ∙ c.loop-rest.invariant.shown ∙ c.requires.journal)
    (c.loop-rest.invariant.reached disk before calm r)).safe

pub loop-rest-preserved : goal.loop-rest-preserved
loop-rest-preserved g c =
    let ns = notes c.args.changes.now in
    let xs = c.loop-rest.rest.now in
    let rest = notes (take (length xs - 1) (drop 1 xs)) in
    let n = note_of c.change-item.result in
    let es = g.H.Host.events c.loop-rest.host in
    let is = c.in_ok-write.ensures.events in
    let split = first_and_rest xs c.change-item.result c.in-len1-up.len_at_least c.change-item.is in
    let among = subst (λ l. Among (notes l) ns) split c.loop-rest.invariant.among in
    record {
      reached = λ disk before calm r. put_reached disk ns before calm n rest es (g.H.Host.events c.write.new.self) _ is among
          (ap shown is ∙ c.loop-rest.invariant.shown ∙ c.requires.journal) (c.loop-rest.invariant.reached disk before calm r);
      pending = pending_step n rest ns es (g.H.Host.events c.write.new.self) is
          (subst (λ l. Pending (notes l) ns es) split c.loop-rest.invariant.pending);
      among = among_step n rest ns among;
      inside = subst (λ f. AllLie f rest) (sym (ap files_of is)) (subst (λ l. AllLie (files_of es) (notes l)) split
          c.loop-rest.invariant.inside).1;
      faults = omega (arith, c.loop-rest.invariant.faults, c.write.ensures.cause.later);
      shown = ap shown is ∙ c.loop-rest.invariant.shown;
      files = ap files_of is ∙ c.loop-rest.invariant.files;
    }

pub returns-clause-handed : goal.returns-clause-handed
returns-clause-handed g c =
    let ns = notes c.args.changes.now in
    let es = g.H.Host.events c.loop-rest.host in
    pending_end ns es (subst (λ l. Pending (notes l) ns es) (nothing_left c.loop-rest.rest.now c.in_default.len_below)
    c.loop-rest.invariant.pending)
