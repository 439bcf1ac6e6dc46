use Rattle.std.proofs.Common.{◌≡◌, ℤ, pos, refl, Some}
use Rattle.s360_channel.specs.declared.view.RunOn.{RunOn}
use Rattle.s360_channel.specs.declared.view.SubchannelView.TheVariants.{Idle}
use Rattle.s360_channels.specs.Channels.{RunsTo}
use Rattle.s360_channels.specs.Selectors.{across}
use Rattle.subsystem_calls.specs.Codes.{no_channel}
use Rattle.subsystem_calls.proofs.OtherWords.{told}
use Rattle.dasd_c.specs.declared.turns.Ran.{Ran}
use Rattle.dasd_c.specs.Calls.{RunsFor}
use Rattle.dasd_c.specs.Shown.{ran_shown}
use Rattle.dasd_c.proofs.turns.UnitsCall.over.Goals as goal

abbrev Lacking : (code : ℤ) → (before shown : Ran) → Type 0
Lacking code before shown = (code ≡ no_channel) × (shown ≡ before)

-- the channel is available, and does nothing
pub returns-then-is_available-clause-does : goal.returns-then-is_available-clause-does
returns-then-is_available-clause-does g c =
    let s = g.M.MainStorage.holds c.args.storage.now in
    let v = across c.args.channels.now s in
    let ran : RunOn = record { units = 0; subchannel = Idle } in
    let shown = ran_shown ran in
    told (RunsTo c.args.self.now.units (Some ran)) (RunsFor c.args.self.now.units (pos 0) shown) ⊥
    (Lacking (pos 0) c.args.self.now.ran.now shown) c.args.self.now.channel v v
    (λ b d h. record { ran = ran; told = refl; shows = refl; runs = h }) (λ e. absurd e)
    (c.is_available.ensures c.if-is_available.true s c.args.self.now.units)
