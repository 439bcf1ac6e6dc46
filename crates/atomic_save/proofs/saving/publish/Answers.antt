use Rattle.std.proofs.Common.{◌∙◌, subst, sym}
use Rattle.atomic_save.specs.Changes.{notes}
use Rattle.atomic_save.specs.Saves.{EachMoment, Safe}
use Rattle.atomic_save.proofs.Moments.{same_moment}
use Rattle.atomic_save.proofs.Steps.{calm, safe_at_first, drafted_moments, named_moments, named_writing}
use Rattle.atomic_save.proofs.saving.publish.Goals as goal

pub returns-in-Err-clause-any_moment : goal.returns-in-Err-clause-any_moment
returns-in-Err-clause-any_moment g c disk fits =
    let ns = notes c.args.changes.now in
    let es = g.H.Host.events c.args.host.now in
    subst (EachMoment (Safe disk ns es) es) (sym c.in-Err.ensures.err) (same_moment (Safe disk ns es) es (safe_at_first disk ns es fits))

pub returns-in-Err-commit-clause-any_moment : goal.returns-in-Err-commit-clause-any_moment
returns-in-Err-commit-clause-any_moment g c disk fits =
    drafted_moments disk (notes c.args.changes.now) (g.H.Host.events c.args.host.now) _
    (c.in-Err-commit.ensures.err ∙ c.in_default.ensures.ok) fits

pub returns-in-Ok-clause-any_moment : goal.returns-in-Ok-clause-any_moment
returns-in-Ok-clause-any_moment g c disk fits =
    let ns = notes c.args.changes.now in
    let es = g.H.Host.events c.args.host.now in
    named_moments disk ns es _ _ _ _ c.in_default.ensures.ok c.in_default-commit.ensures.ok c.in-Ok.ensures.events fits
    (calm disk ns es fits c.requires.free)

pub returns-in-Ok-clause-journal : goal.returns-in-Ok-clause-journal
returns-in-Ok-clause-journal g c disk fits =
    named_writing disk (notes c.args.changes.now) (g.H.Host.events c.args.host.now) _ _ _ c.in_default.ensures.ok
    c.in_default-commit.ensures.ok c.in-Ok.ensures.events

pub returns-in-Err-sync_names-clause-any_moment : goal.returns-in-Err-sync_names-clause-any_moment
returns-in-Err-sync_names-clause-any_moment g c disk fits =
    let ns = notes c.args.changes.now in
    let es = g.H.Host.events c.args.host.now in
    named_moments disk ns es _ _ _ _ c.in_default.ensures.ok c.in_default-commit.ensures.ok c.in-Err-sync_names.ensures.events fits
    (calm disk ns es fits c.requires.free)
