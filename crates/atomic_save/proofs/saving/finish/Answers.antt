use Rattle.std.proofs.Common.{subst}
use Rattle.atomic_save.specs.Changes.{notes}
use Rattle.atomic_save.specs.Saves.{Safe, SafeThroughout}
use Rattle.atomic_save.proofs.Moments.{same_moment}
use Rattle.atomic_save.proofs.Steps.{safe_at_first, same_at_first, same_throughout}
use Rattle.atomic_save.proofs.saving.finish.Goals as goal

pub returns-in-Some-clause-any_moment : goal.returns-in-Some-clause-any_moment
returns-in-Some-clause-any_moment g c disk fits =
    let es = g.H.Host.events c.args.host.now in
    let ns = notes c.args.journal.now.changes.items in
    same_moment (Safe disk ns es) es (safe_at_first disk ns es fits)

pub returns-in-Some-clause-same : goal.returns-in-Some-clause-same
returns-in-Some-clause-same g c disk there = same_at_first disk (g.H.Host.events c.args.host.now)

pub returns-clause-any_moment : goal.returns-clause-any_moment
returns-clause-any_moment g c disk fits =
    subst (λ l. SafeThroughout (notes l) (g.H.Host.events c.args.host.now) (g.H.Host.events c.save.new.host)) c.deref-2.ensures.value
    c.save.ensures.any_moment disk fits

pub returns-clause-same : goal.returns-clause-same
returns-clause-same g c =
    let old = g.H.Host.events c.args.host.now in
    let new = g.H.Host.events c.save.new.host in
    same_throughout (notes c.args.journal.now.changes.items) old new c.requires.shown
    (subst (λ l. SafeThroughout (notes l) old new) c.deref-2.ensures.value c.save.ensures.any_moment)
