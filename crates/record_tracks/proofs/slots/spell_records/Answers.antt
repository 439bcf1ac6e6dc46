use Rattle.std.proofs.Common.{◌≡◌, ◌∙◌, ap, sym, refl, ◌+◌, ◌-◌, ◌<◌, length, take, drop, get_or, length-append, arith, ℕ}
use Rattle.std.proofs.lemmas.List.{get_or-drop, Elements.All-get_or}
use Rattle.ckd_track.specs.Track.{record_bytes}
use Rattle.record_tracks.specs.{Records.areas_of, Records.all_areas, Records.end_of_file, Records.GoesOn, Filled.filled}
use Rattle.record_tracks.specs.{Tracks.record_with, Tracks.fitting_on, Tracks.track_bytes, Writing.records_front}
use Rattle.record_tracks.proofs.{Listed.length-all, Listed.length-left, Listed.all_go, slots.spell_records.Goals.After-record_at}
use Rattle.record_tracks.proofs.{Fitting.fits_on, Fitting.sizes, Fitting.few_bytes, Filled.put_behind}
use Rattle.record_tracks.proofs.Spelled.{one_more_record, length-front, length-record_with, no_areas, room_for_one, room_for_all}
use Rattle.record_tracks.proofs.slots.spell_records.Goals as goal

pub overflow_cast-k : goal.overflow_cast-k
overflow_cast-k c = let most = (fits_on c.args.geometry.model 0 (drop c.args.part.0 (all_areas c.args.blocks.now))).few in omega arith

-- the record that comes next
next_is : (c : After-record_at) → get_or (drop c.args.part.0 (all_areas c.args.blocks.now)) c.loop-k.k end_of_file
    ≡ areas_of c.record_at.result
next_is c = get_or-drop c.args.part.0 (all_areas c.args.blocks.now) c.loop-k.k end_of_file ∙ sym c.record_at.ensures

next_there : (c : After-record_at) → c.loop-k.k < length (drop c.args.part.0 (all_areas c.args.blocks.now))
next_there c = omega (arith, length-left c.args.blocks.now c.args.part.0)

next_goes : (c : After-record_at) → GoesOn c.args.geometry.model (areas_of c.record_at.result)
next_goes c =
    let all = all_areas c.args.blocks.now in
    let number = c.args.part.0 + c.loop-k.k in
    let there : number < length all = omega (arith, length-all c.args.blocks.now) in
    rw c.record_at.ensures (All-get_or (GoesOn c.args.geometry.model) all number end_of_file there
    (all_go c.args.geometry.model c.args.blocks.now c.requires.each))

pub append_record-at-requires : goal.append_record-at-requires
append_record-at-requires c =
    let before = (goal.at.append_record-at-requires c).After-record_at in
    let left = drop c.args.part.0 (all_areas c.args.blocks.now) in
    let goes = next_goes before in
    let room = room_for_one c.args.geometry c.args.track left c.loop-k.k (areas_of c.record_at.result)
    (omega arith) (next_is before) in
    record { key = omega arith; bytes = few_bytes c.args.geometry.model (areas_of c.record_at.result) goes; room = omega arith }

pub loop-k-init : goal.loop-k-init
loop-k-init c =
    let g = c.args.geometry in
    let none = no_areas g c.args.track in record {
      size = c.begin-at.ensures.same;
      place = c.begin-at.ensures.next ∙ sym (ap length none);
      written = c.begin-at.ensures.written ∙ ap (filled (length c.args.slot.now)) (sym none);
    }

pub loop-k-preserved : goal.loop-k-preserved
loop-k-preserved c =
    let before = (goal.at.loop-k-preserved c).After-record_at in
    let g = c.args.geometry in
    let k = c.loop-k.k in
    let left = drop c.args.part.0 (all_areas c.args.blocks.now) in
    let front = records_front g c.args.track (take k left) in
    let a = areas_of c.record_at.result in
    let bytes = record_bytes (record_with (track_bytes g c.args.track) (k + 1) a) in
    let one = one_more_record g c.args.track k left a (next_there before) (next_is before) in
    let put = rw c.track_bytes-id.ensures at c.append_record-at.ensures.written in
    let size = length-record_with (track_bytes g c.args.track) (k + 1) a refl in record {
      size = c.append_record-at.ensures.same ∙ c.loop-k.invariant.size;
      place = omega (arith, ap length one, length-append front bytes);
      written = cc (put_behind (length c.args.slot.now) _ _ front bytes c.loop-k.at put c.loop-k.invariant.size
          (sym c.loop-k.invariant.place) c.loop-k.invariant.written);
    }

pub returns : goal.returns
returns c =
    let g = c.args.geometry in
    let left = drop c.args.part.0 (all_areas c.args.blocks.now) in
    let k : c.loop-k.k ≡ c.args.part.1 - c.args.part.0 = omega arith in
    let all : c.loop-k.k ≡ fitting_on g.model left = omega arith in
    let place = c.loop-k.invariant.place ∙ ap (λ (n : ℕ). length (records_front g c.args.track (take n left))) k in record {
      next = place;
      room = omega (
        arith,
        length-front g c.args.track (take c.loop-k.k left),
        ap (λ (n : ℕ). sizes (take n left)) all,
        room_for_all g c.args.track left,
      );
      same = c.loop-k.invariant.size;
      written = cc;
    }
