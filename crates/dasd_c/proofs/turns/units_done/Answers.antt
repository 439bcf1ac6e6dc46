use Rattle.std.proofs.Common.{◌≡◌, ℤ, pos, refl}
use Rattle.s360_channels.specs.Channels.{RunsTo}
use Rattle.s360_channels.specs.Selectors.{across}
use Rattle.subsystem_calls.specs.Codes.{no_channel}
use Rattle.subsystem_calls.proofs.OtherWords.{nobody, there}
use Rattle.dasd_c.specs.declared.turns.Ran.{Ran}
use Rattle.dasd_c.specs.Calls.{RunsFor}
use Rattle.dasd_c.proofs.turns.units_done.Goals as goal

abbrev Lacking : (code : ℤ) → (before shown : Ran) → Type 0
Lacking code before shown = (code ≡ no_channel) × (shown ≡ before)

-- the units that the channel did, and what it does behind them
pub returns-in-Some-clause-does : goal.returns-in-Some-clause-does
returns-in-Some-clause-does g c =
    let holds = g.M.MainStorage.holds in
    there (RunsTo c.args.units) c.args.channel (across c.args.channels.now (holds c.args.storage.now))
    (across c.run_on.new.self (holds c.run_on.new.storage)) (RunsFor c.args.units (pos 0) c.ran_of.result)
    (Lacking (pos 0) c.args.ran.now c.ran_of.result)
    c.run_on.result c.in-Some.did c.in-Some.is (λ b d h. record {
      ran = c.in-Some.did;
      told = refl;
      shows = c.ran_of.ensures;
      runs =
          h;
    }) c.run_on.ensures.does

-- there is no such channel
pub returns-in-None-clause-does : goal.returns-in-None-clause-does
returns-in-None-clause-does g c =
    let holds = g.M.MainStorage.holds in
    nobody (RunsTo c.args.units) c.args.channel (across c.args.channels.now (holds c.args.storage.now))
    (across c.run_on.new.self (holds c.run_on.new.storage)) (RunsFor c.args.units no_channel c.args.ran.now)
    (Lacking no_channel c.args.ran.now c.args.ran.now)
    c.run_on.result c.in-None.is (λ b d h. h) (refl, refl) c.run_on.ensures.does
