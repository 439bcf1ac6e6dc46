use Rattle.std.proofs.Common.{subst, sym}
use Rattle.atomic_save.specs.Calls.{MayLeave}
use Rattle.atomic_save.specs.Saves.{Follows, New}
use Rattle.atomic_save.proofs.Steps.{written_new, settled_moments, settled_new, settled_gone}
use Rattle.atomic_save.proofs.saving.settle.Goals as goal

pub returns-in_err-retire-clause-new : goal.returns-in_err-retire-clause-new
returns-in_err-retire-clause-new g c ns disk before calm r =
    subst (λ l. Follows (New ns) (MayLeave disk before) (MayLeave disk l)) (sym c.in_err-retire.ensures.err)
    (written_new disk ns before (g.H.Host.events c.args.host.now) calm r.left)

pub returns-clause-any_moment : goal.returns-clause-any_moment
returns-clause-any_moment g c ns disk before calm r =
    settled_moments disk ns before (g.H.Host.events c.args.host.now) calm r.left (g.H.Host.events c.retire.new.self)
    (g.H.Host.events c.sync_names.new.self) _ c.in_ok-retire.ensures.ok c.sync_names.ensures.events r.safe

pub returns-clause-new : goal.returns-clause-new
returns-clause-new g c ns disk before calm r =
    settled_new disk ns before (g.H.Host.events c.args.host.now) calm r.left (g.H.Host.events c.retire.new.self)
    (g.H.Host.events c.sync_names.new.self) _ c.in_ok-retire.ensures.ok c.sync_names.ensures.events

pub returns-clause-gone : goal.returns-clause-gone
returns-clause-gone g c =
    settled_gone (g.H.Host.events c.args.host.now) (g.H.Host.events c.retire.new.self)
    (g.H.Host.events c.sync_names.new.self) c.sync_names.result c.in_ok-retire.ensures.ok c.sync_names.ensures.events
