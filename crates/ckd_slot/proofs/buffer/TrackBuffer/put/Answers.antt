use Rattle.std.proofs.Common.{◌∙◌, rules}
use Rattle.std.proofs.lemmas.List.{with_items_is}
use Rattle.ckd_slot.proofs.Updates.{put_buffer}
use Rattle.ckd_slot.proofs.buffer.TrackBuffer.put.Goals as goal

pub invariant_of-self : goal.invariant_of-self
invariant_of-self c =
    let x = rw c.self.view_is at c.self.invariant in
    rw (
      with_items_is c.self.inside.slot c.overwrite.new.slot (search rules),
      rw (c.deref_mut.ensures.value
          ∙ c.self.view_is) at c.overwrite.ensures,
      c.max-self-inside.ensures,
    )
    (put_buffer c.args.at c.args.bytes.now x c.requires.room c.requires.records)
