use Rattle.std.proofs.Common.{◌+◌, ◌∙◌, ap, cond, sym, ◌&&◌, ◌==◌}
use Rattle.s360_words.specs.declared.flags.TheConstants.UnitStatus.{CHANNEL_END, DEVICE_END}
use Rattle.s360_laws.specs.Status.{tells}
use Rattle.s360_channel.proofs.selector.Selector.is_owed.Goals as goal

pub returns : goal.returns
returns g c = λ s m h.
    let unit = c.args.csw.unit in
    c.is_ending.ensures ∙ ap (λ n. tells unit CHANNEL_END && (cond (tells unit DEVICE_END) 1 0 + n == 1)) (sym (c.arm_of.ensures s m h))
