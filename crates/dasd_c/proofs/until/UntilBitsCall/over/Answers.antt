use Rattle.std.proofs.Common.{◌≡◌, ◌∙◌, ℕ, ℤ, List, pos, refl, subst, sym, Option}
use Rattle.s360_channels.specs.Selectors.{across}
use Rattle.dasd_subsystem.specs.Until.{UntilTo}
use Rattle.dasd_subsystem.specs.declared.until.Until.{Until}
use Rattle.dasd_subsystem.specs.declared.until.Wanted.{Wanted}
use Rattle.subsystem_calls.specs.Codes.{bad_until, no_channel}
use Rattle.subsystem_calls.proofs.OtherWords.{nobody, there}
use Rattle.dasd_c.specs.Until.{RunsUntilAny, RunsUntilFor}
use Rattle.dasd_c.proofs.until.UntilBitsCall.over.Goals as goal

-- a bit has no meaning
pub returns-in_default-clause-does : goal.returns-in_default-clause-does
returns-in_default-clause-does g c =
    let call = c.args.self.now in
    let v = across c.args.channels.now (g.M.MainStorage.holds c.args.storage.now) in
    subst (λ (o : Option Until). RunsUntilAny o call.wanted.channel call.wanted.units bad_until call.ran.now call.ran.now v v)
    (sym c.in_default.is ∙ c.of_byte.ensures) (refl, refl, refl)

abbrev Lacking : (code : ℤ) → (before told : List ℕ) → Type 0
Lacking code before told = (code ≡ no_channel) × (told ≡ before)

-- what came of the run
pub returns-in-Some-run_until-clause-does : goal.returns-in-Some-run_until-clause-does
returns-in-Some-run_until-clause-does g c =
    let holds = g.M.MainStorage.holds in
    let call = c.args.self.now in
    let wanted : Wanted = record { channel = call.wanted.channel; units = call.wanted.units; until = c.in-Some.until } in
    let progress = c.in-Some-run_until.progress in
    let told = c.tell_progress.new.told in
    let old = across c.args.channels.now (holds c.args.storage.now) in
    let new = across c.run_until.new.channels (holds c.run_until.new.storage) in
    subst (λ (o : Option Until). RunsUntilAny o call.wanted.channel call.wanted.units (pos 0) call.ran.now told old new) c.in-Some.ensures
    (there (UntilTo wanted) call.wanted.channel old new (RunsUntilFor wanted (pos 0) call.ran.now told) (Lacking (pos 0) call.ran.now told)
    c.run_until.result progress c.in-Some-run_until.is
    (λ b d h. record { progress = progress; done = refl; tells = c.tell_progress.ensures; runs = h }) c.run_until.ensures.does)

-- there is no such channel
pub returns-in-None-clause-does : goal.returns-in-None-clause-does
returns-in-None-clause-does g c =
    let holds = g.M.MainStorage.holds in
    let call = c.args.self.now in
    let wanted : Wanted = record { channel = call.wanted.channel; units = call.wanted.units; until = c.in-Some.until } in
    let old = across c.args.channels.now (holds c.args.storage.now) in
    let new = across c.run_until.new.channels (holds c.run_until.new.storage) in
    subst (λ (o : Option Until). RunsUntilAny o call.wanted.channel call.wanted.units no_channel call.ran.now call.ran.now old new)
    c.in-Some.ensures
    (nobody (UntilTo wanted) call.wanted.channel old new (RunsUntilFor wanted no_channel call.ran.now call.ran.now)
    (Lacking no_channel call.ran.now call.ran.now) c.run_until.result c.in-None.is (λ b d h. h) (refl, refl) c.run_until.ensures.does)
