use Rattle.std.proofs.Common.{◌≡◌, Option, Some, None}
use Rattle.s360_channel.specs.declared.view.RunOn.{RunOn}
use Rattle.s360_channels.specs.Selectors.{across}
use Rattle.dasd_subsystem.specs.declared.glances.Glance.{Glance}
use Rattle.dasd_subsystem.proofs.Seeing.{unit_seen}
use Rattle.dasd_subsystem.proofs.glances.Glance.behind.Goals as goal

not_both : {A B : Type 0} (a : A) (b : B) → ◌≡◌ {A = Option A} (Some a) None → ◌≡◌ {A = Option B} (Some b) None
not_both a b h = absurd (cc)

-- what was run, and what is seen then
pub returns-clause-does : goal.returns-clause-does
returns-clause-does g c =
    let holds = g.M.MainStorage.holds in
    let ran = c.in_ok-ran.ran in
    let seen = c.glance_at.result in
    let old = across c.args.channels.now (holds c.args.storage.now) in
    let new = across c.run_on.new.self (holds c.run_on.new.storage) in
    unit_seen c.args.number old new ran seen (◌≡◌ {A = Option RunOn} (Some ran) None) (◌≡◌ {A = Option Glance} (Some seen) None)
    (not_both ran seen) c.glance_at.ensures.subchannel (c.glance_at.ensures.work (holds c.run_on.new.storage)) c.in_ok-ran.ensures.does
