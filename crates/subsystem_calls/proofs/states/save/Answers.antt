use Rattle.std.proofs.Common.{◌∙◌, ap, length, refl, sym}
use Rattle.s360_channels.specs.Saves.{all_saved}
use Rattle.saved_state.proofs.Joining.{first_long}
use Rattle.subsystem_calls.proofs.Saved.{told}
use Rattle.subsystem_calls.proofs.states.save.Goals as goal

pub copy_from_slice-requires : goal.copy_from_slice-requires
copy_from_slice-requires c =
    sym (first_long c.args.into.now 538 (length c.args.into.now) refl c.if-into-lt-LENGTH.false)
    ∙ sym (ap length c.as_slice.ensures.value ∙ c.in-Some.ensures.len)

pub returns : goal.returns
returns c =
    told (all_saved c.args.subsystem.now.channels.channels) c.in-Some.bytes.items c.args.into.now c.copy_from_slice.new.self
    c.args.written.now c.in-Some.ensures.bytes c.if-into-lt-LENGTH.false (c.copy_from_slice.ensures.after ∙ c.as_slice.ensures.value)
