use Rattle.std.proofs.Common.{◌≡◌, ◌∙◌, ap, sym, true, not, ◌&&◌}
use Rattle.std.proofs.lemmas.Bool.{ne_eqb}
use mathlib.Core.Bool.{beq}
use Rattle.s360_words.specs.declared.flags.TheConstants.UnitStatus.{CHANNEL_END, DEVICE_END}
use Rattle.s360_laws.specs.Status.{tells}
use Rattle.s360_channel.proofs.Saved.{ending_is}
use Rattle.s360_channel.proofs.saving.is_ending.Goals as goal

pub returns-then-ends_channel : goal.returns-then-ends_channel
returns-then-ends_channel c =
    let ends : tells c.args.csw.unit CHANNEL_END ≡ true = ap not (ne_eqb _ 0 c.if-ends_channel.true) in
    ap (λ b. b && not (beq (tells c.args.csw.unit DEVICE_END) c.owes.result)) (sym ends)
    ∙ (ap (λ o. tells c.args.csw.unit CHANNEL_END && not (beq (tells c.args.csw.unit DEVICE_END) o)) c.owes.ensures
    ∙ ending_is c.args.csw c.args.arm)
