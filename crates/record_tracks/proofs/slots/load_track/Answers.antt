use Rattle.std.proofs.Common.{◌≡◌, ◌∙◌, ap, sym, length, ◌+◌, ◌-◌, take, drop, arith, ℕ}
use Rattle.ckd_track.specs.Track.{slot_of, end_mark}
use Rattle.record_tracks.specs.{Records.all_areas, Writing.records_front, Tracks.fitting_on, Tracks.track_bytes, Tracks.loaded_slot}
use Rattle.record_tracks.proofs.Filled.{put_behind}
use Rattle.record_tracks.proofs.slots.load_track.Goals as goal

pub returns-clause-slot : goal.returns-clause-slot
unfolding slot_of
returns-clause-slot c =
    let g = c.args.geometry in
    let n = length c.args.slot.now in
    let track = track_bytes g c.args.track in
    let left = drop c.args.from (all_areas c.args.blocks.now) in
    let count = c.args.from + c.fitting.result - c.args.from in
    let is : count ≡ fitting_on g.model left = omega arith in
    cc (put_behind n _ _ (records_front g c.args.track (take count left)) end_mark _ c.append.ensures.written
    c.spell_records-at.ensures.same (sym c.spell_records-at.ensures.next) c.spell_records-at.ensures.written)
    ∙ ap (λ (m : ℕ). loaded_slot (record g { track_size = m }) c.args.track left) c.requires.room
