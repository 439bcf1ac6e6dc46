use Rattle.std.proofs.Common.{rules, ◌≡◌, ℕ, ℤ, ap, subst, sym, w32}
use Rattle.std.proofs.lemmas.Int.{to_z-of_z}
use Rattle.s360_channels.specs.Channels.{OnChannel}
use Rattle.s360_channels.specs.Selectors.{across}
use Rattle.s360_channels.specs.Turns.{Steps}
use Rattle.subsystem_calls.specs.Codes.{no_channel}
use Rattle.subsystem_calls.proofs.OtherWords.{told}
use Rattle.dasd_c.specs.Calls.{RunsFor, StepsFor}
use Rattle.dasd_c.specs.declared.turns.Ran.{Ran}
use Rattle.dasd_c.proofs.turns.StepCall.over.Goals as goal

-- units, told by how many they were
pub returns-clause-does : goal.returns-clause-does
returns-clause-does g c =
    let call = c.args.self.now in
    let before : Ran = record { units = call.done.now; subchannel = 0; device = 0; asked = 0; reserved = 0 } in
    let did = c.units_done-code in
    let code = did.result in
    let after = did.new.ran in
    let old = across c.args.channels.now (g.M.MainStorage.holds c.args.storage.now) in
    let new = across did.new.channels (g.M.MainStorage.holds did.new.storage) in
    subst (λ (code : ℤ).
    OnChannel call.channel (StepsFor call.units code after.units) ((code ≡ no_channel) × (after.units ≡ call.done.now)) old new)
    (sym (to_z-of_z w32 code (search rules)))
    (told (RunsFor call.units code after) (StepsFor call.units code after.units) ((code ≡ no_channel) × (after ≡ before))
    ((code ≡ no_channel) × (after.units ≡ call.done.now)) call.channel old new
    (λ b d h. (
      h.told,
      subst (λ (n : ℕ). Steps call.units n b d) (sym (ap (λ (r : Ran). r.units) h.shows)) (record {
        steps = h.runs.steps;
        most = h.runs.most;
      }),
    )) (λ e. (e.0, ap (λ (r : Ran). r.units) e.1)) did.ensures.does)
