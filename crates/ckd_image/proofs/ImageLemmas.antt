-- An image and its files.
use Rattle.std.proofs.Common.{◌≡◌, ℕ, ◌+◌, ◌*◌, ◌<◌, ◌≤◌, List, [], ◌∷◌, length, take, drop, map, get_or, set, slice_range, Option, Result}
use Rattle.std.proofs.Common.{Ok, Err, OnOk, OnErr, refl, sym, ap, ◌∙◌, arith, length-append}
use Rattle.std.proofs.lemmas.List.Edits.{length-between}
use Rattle.std.proofs.Math.Nat.{add-mul, zero-mul, eq_of_mul-eq-mul_right}
use Rattle.std.specs.List.{concat, sum}
use Rattle.ckd_track.specs.declared.geometries.Geometry.{Geometry}
use Rattle.ckd_image.specs.declared.store.StoreFault.{StoreFault}
use Rattle.ckd_track.specs.Geometry.{tracks_of}
use Rattle.ckd_image.specs.Store.{overwritten, Torn, Counts}
use Rattle.ckd_image.specs.Slots.{slots_in}
use Rattle.ckd_image.specs.Image.{ImageState, IsImage, Holds, HoldsImage}
use Rattle.ckd_image.specs.Header.{mount_of}
use Rattle.ckd_image.specs.Files.{slot_bytes, held, each, HoldTracks}
use Rattle.ckd_image.proofs.MountLemmas.{mount_fits}
use Rattle.ckd_image.proofs.FileLemmas.{sum_cons, slot_bytes-cons, tracks_behind}
use Rattle.ckd_image.proofs.Writes.{range_is, torn_is}
use Rattle.ckd_image.proofs.SlotLemmas.{length-slots_in, get_or-slots_in, slot_within, length-slot, sizes-slots_in, concat-slots_in}
use Rattle.ckd_image.proofs.SlotLemmas.{slots_in-overwritten}

abbrev pub slots_of : Geometry → List (List ℕ) → List (List ℕ)
slots_of g files = slots_in g.track_size (tracks_of g) (slot_bytes files)

-- what is seen of an image of this geometry in these files
abbrev pub seen : Geometry → (files origins : List (List ℕ)) → (failures loads saves : ℕ) → ImageState
seen g files origins failures loads saves = record {
  geometry = g;
  slots = slots_of g files;
  lasting = record { header = concat (map (take 512) files); origins = origins };
  failures = failures;
  loads = loads;
  saves = saves;
}

-- what is mounted holds the slots behind its headers
pub holds_slots : (g : Geometry) (files : List (List ℕ)) → mount_of files ≡ Ok g → Holds files g (slots_of g files)
holds_slots g files mounts =
    let behind = (mount_fits files g mounts).is_length in
    record {
      mounts = mounts;
      count = length-slots_in g.track_size (tracks_of g) (slot_bytes files);
      sizes = sizes-slots_in g.track_size (tracks_of g) (slot_bytes files) (omega arith);
      order = sym (concat-slots_in g.track_size (tracks_of g) (slot_bytes files) behind);
    }

pub holds_image : (g : Geometry) (files origins : List (List ℕ)) (failures loads saves : ℕ) → mount_of files ≡ Ok g
    → HoldsImage files (seen g files origins failures loads saves)
holds_image g files origins failures loads saves mounts = record { holds = holds_slots g files mounts; headers = refl }

pub is_image : (g : Geometry) (files origins : List (List ℕ)) (failures loads saves : ℕ) → mount_of files ≡ Ok g
    → IsImage (seen g files origins failures loads saves)
is_image g files origins failures loads saves mounts =
    let holds = holds_slots g files mounts in
    record {
      files = files;
      holds = holds_image g files origins failures loads saves mounts;
      geometry = (mount_fits files g mounts).is_geometry;
      count = holds.count;
      sizes = holds.sizes;
    }

-- The tracks of the files are those of the geometry.

module _ {S : Type 0} where
  bytes_held : (content : S → List ℕ) (size : ℕ) (files : List (Option S)) (tracks : List ℕ) → HoldTracks content size files tracks
      → length files ≡ length tracks → length (slot_bytes (each content files)) ≡ sum tracks * size
  bytes_held content size [] [] holds count = sym (zero-mul size)
  bytes_held content size (f ∷ files) (n ∷ tracks) holds count =
      let first = tracks_behind content size f files n tracks holds in
      let ih = bytes_held content size files tracks first.1 (omega arith) in
      let all : sum (n ∷ tracks) * size ≡ n * size + sum tracks * size = ap (λ (k : ℕ). k * size) (sum_cons n tracks)
      ∙ add-mul n (sum tracks) size in
      rw slot_bytes-cons (length-append (drop 512 (held content [] f)) (slot_bytes (each content files)) ∙ omega (arith, ih, first.0, all))
  bytes_held content size _ _ holds count = absurd (omega arith)

  pub tracks_held : (content : S → List ℕ) (g : Geometry) (files : List (Option S)) (tracks : List ℕ) → mount_of (each content files) ≡ Ok g
      → HoldTracks content g.track_size files tracks → length files ≡ length tracks → sum tracks ≡ tracks_of g
  tracks_held content g files tracks mounts holds count =
      let fits = mount_fits (each content files) g mounts in
      let some = fits.is_geometry.room in
      eq_of_mul-eq-mul_right g.track_size (omega arith) (sum tracks) (tracks_of g)
      (sym (bytes_held content g.track_size files tracks holds count) ∙ fits.is_length)

-- One slot.

-- what stands in its place is the slot
pub slot_is : (g : Geometry) (files : List (List ℕ)) (track : ℕ) → track < tracks_of g
    → slice_range (slot_bytes files) (track * g.track_size) (track * g.track_size + g.track_size) ≡ get_or (slots_of g files) track []
slot_is g files track exists = range_is (slot_bytes files) (track * g.track_size) g.track_size
    ∙ sym (get_or-slots_in g.track_size (tracks_of g) track (slot_bytes files) exists)

slots_put : (g : Geometry) (files new : List (List ℕ)) (bytes : List ℕ) (track : ℕ) → mount_of files ≡ Ok g → track < tracks_of g
    → length bytes ≡ g.track_size → slot_bytes new ≡ overwritten (slot_bytes files) (track * g.track_size) bytes
    → slots_of g new ≡ set (slots_of g files) track bytes
slots_put g files new bytes track mounts exists size is =
    let behind = (mount_fits files g mounts).is_length in
    ap (slots_in g.track_size (tracks_of g)) is
    ∙ slots_in-overwritten g.track_size (tracks_of g) track (slot_bytes files) bytes exists size (omega arith)

-- an image once a slot was saved, or was not
pub record Saved (was now : ImageState) (slot : List ℕ) (track : ℕ) (r : Result (Unit {0}) StoreFault) : Type 0 where
  pub geometry : now.geometry ≡ was.geometry
  pub ok : OnOk r (now ≡ record was { saves = was.saves + 1; slots = set was.slots track slot })
  pub err : OnErr r (now ≡ record was {
    saves = was.saves + 1;
    failures = was.failures + 1;
    slots =
        set was.slots track (get_or now.slots track []);
  })
  pub size : length (get_or now.slots track []) ≡ was.geometry.track_size

-- a write of the slot of a track to the files of an image of this geometry, as it was answered and is counted
pub record WritesSlot (g : Geometry) (files new : List (List ℕ)) (slot : List ℕ) (track before now : ℕ)
    (r : Result (Unit {0}) StoreFault) : Type 0 where
  pub mounts : mount_of files ≡ Ok g
  pub mounts_now : mount_of new ≡ Ok g
  pub exists : track < tracks_of g
  pub size : length slot ≡ g.track_size
  pub headers : map (take 512) new ≡ map (take 512) files
  pub written : OnOk r (slot_bytes new ≡ overwritten (slot_bytes files) (track * g.track_size) slot)
  pub torn : OnErr r (Torn (slot_bytes files) (slot_bytes new) (track * g.track_size) g.track_size)
  pub counted : Counts before now r

-- what stands in the place of a slot that was written is as long as a slot, also where the write failed
length-slot_written : {g : Geometry} {files new : List (List ℕ)} {slot : List ℕ} {track before now : ℕ} {r : Result (Unit {0}) StoreFault}
    → WritesSlot g files new slot track before now r → length (get_or (slots_of g new) track []) ≡ g.track_size
length-slot_written {g} {files} {new} {slot} {track} w =
    let behind = (mount_fits new g w.mounts_now).is_length in
    length-slot g.track_size (tracks_of g) track (slot_bytes new) w.exists (omega arith)

-- an image whose slot was written, in all that is seen of it, since each of it stays or is counted
pub saved : {g : Geometry} {files new : List (List ℕ)} {slot : List ℕ} {track before now : ℕ} (origins : List (List ℕ))
    (loads saves : ℕ) (r : Result (Unit {0}) StoreFault) → WritesSlot g files new slot track before now r
    → Saved (seen g files origins before loads saves) (seen g new origins now loads (saves + 1)) slot track r
saved {g} {files} {new} {slot} {track} origins loads saves (Ok v) w =
    record {
      geometry = refl;
      ok = rw (w.headers, slots_put g files new slot track w.mounts w.exists w.size w.written, w.counted) refl;
      err = tt;
      size = length-slot_written w;
    }
saved {g} {files} {new} {slot} {track} origins loads saves (Err e) w =
    let at = track * g.track_size in
    let behind = (mount_fits files g w.mounts).is_length in
    let within = slot_within g.track_size (tracks_of g) track w.exists in
    let ends : at + g.track_size ≤ length (slot_bytes files) = omega arith in
    let part = slice_range (slot_bytes new) at (at + g.track_size) in
    let part_size : length part ≡ g.track_size = length-between (slot_bytes new) at (at + g.track_size) (rw w.torn.same_length ends)
    ∙ omega arith in
    let slots : slots_of g new ≡ set (slots_of g files) track part = slots_put g files new part track w.mounts w.exists part_size
    (torn_is (slot_bytes files) (slot_bytes new) at g.track_size w.torn ends) in
    let there : get_or (slots_of g new) track [] ≡ part = sym (slot_is g new track w.exists) in
    record { geometry = refl; ok = tt; err = rw (there, w.headers, slots, w.counted) refl; size = length-slot_written w }
