use Rattle.std.proofs.Common.{◌≡◌, ◌∙◌, false, true, refl, length, arith, rules}
use Rattle.std.proofs.lemmas.List.{with_items_is}
use Rattle.ckd_track.specs.Track.{track_in}
use Rattle.ckd_track.specs.Changes.{bare_track}
use Rattle.ckd_slot.proofs.Writes.{bare_fits, indexed_slot}
use Rattle.ckd_track.proofs.Zeros.{ended_zeros}
use Rattle.ckd_track.proofs.Writing.{ha_slot}
use Rattle.ckd_slot.proofs.buffer.TrackBuffer.write_home_address.Goals as goal

pub invariant_of-self : goal.invariant_of-self
invariant_of-self c =
    let i = c.self.inside in
    let s = c.args.self.now in
    let x = rw c.self.view_is at c.self.invariant in
    let ha = c.args.home_address in
    let five : length ha ≡ 5 = search rules in
    let made = rw (c.deref_mut.ensures.value ∙ c.self.view_is) at c.put_home_address.ensures in
    rw (with_items_is i.slot c.put_home_address.new.slot (search rules)) (record {
      indexed = rw (made ∙ ha_slot s ha five c.requires) (indexed_slot (length s) (bare_track ha) i.offsets.items 0
          (bare_fits (length s) ha five c.requires) x.indexed.room x.indexed.size (omega arith) refl);
      cleared = ended_zeros s 0 ha 5 c.put_home_address.new.slot (omega (arith, five, c.requires)) c.requires made;
      charges = c.keep.ensures.kept (track_in i.slot.items).records _ refl c.self.invariant.charges;
      as_spelled = λ e. absurd (let no : false ≡ true = e in cc);
    })

pub returns-clause-slot : goal.returns-clause-slot
returns-clause-slot c =
    let made = rw (c.deref_mut.ensures.value ∙ c.self.view_is) at c.put_home_address.ensures in
    rw (with_items_is c.self.inside.slot c.put_home_address.new.slot (search rules)) (made
    ∙ ha_slot c.args.self.now c.args.home_address (search rules) c.requires)
