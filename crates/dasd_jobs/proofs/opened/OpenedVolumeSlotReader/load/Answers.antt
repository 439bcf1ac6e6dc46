use Rattle.std.proofs.Common.{◌≡◌, ◌∙◌, ◌+◌, ◌*◌, ◌<◌, ◌≤◌, List, ℕ, None, length, map, take, slice_index_or, subst}
use Rattle.std.specs.List.{sum}
use Rattle.std.proofs.lemmas.List.{length-map}
use Rattle.ckd_track.specs.Geometry.{tracks_of}
use Rattle.ckd_image.specs.Files.{place_in}
use Rattle.dasd_volumes.specs.Reading.{IsSlotOf}
use Rattle.dasd_jobs.specs.Sources.{OpenedState, StandsIn, volume_in}
use Rattle.dasd_jobs.proofs.Reached.{slot_loaded}
use Rattle.dasd_jobs.proofs.opened.OpenedVolumeSlotReader.load.Goals as goal

pub returns-in-Ok-clause-slot : goal.returns-in-Ok-clause-slot
returns-in-Ok-clause-slot g c =
    let content = g.O.OpenedFile.content in
    let i = c.self.inside in
    let contents = map content i.files.items in
    let slot = c.load_from.new.slot in
    let size = i.geometry.track_size in
    let exists : c.args.track < tracks_of i.geometry = rw (← c.self.view_is) at c.requires.exists in
    let long : length slot ≡ size = c.load_from.auto.slot ∙ (rw (← c.self.view_is) at c.requires.size) in
    let held = c.in-Ok.held in
    let it = slot_loaded i.geometry contents i.tracks.items c.args.track c.self.invariant.2 (length-map i.files.items content
    ∙ c.self.invariant.1) exists slot held long
    (subst (λ (ts : List ℕ). c.args.track < sum ts
    → (held ≡ length slot) × StandsIn (slice_index_or contents (place_in ts c.args.track).file None)
    (512 + (place_in ts c.args.track).track * size) slot) c.as_slice.ensures.value c.in-Ok.ensures.read)
    (subst (λ (ts : List ℕ). sum ts ≤ c.args.track → held ≡ 0) c.as_slice.ensures.value c.in-Ok.ensures.lacking) in
    subst (λ (v : OpenedState). IsSlotOf (volume_in v.geometry v.contents) c.args.track (take held slot)) c.self.view_is it
