-- The tracks on which no block of a directory is.
use Rattle.std.proofs.Common.{◌≡◌, ◌≢◌, ◌∙◌, ap, refl, ℕ, Bool, true, false, ◌||◌}
use Rattle.std.proofs.Common.{if◌then◌else◌, nat_lt, nat_eq, List, [], ◌∷◌, length, take, drop, slice_set}
use Rattle.std.proofs.Common.{rules, tests}
use Rattle.std.proofs.lemmas.List.{get_or-set_other}
use Rattle.std.specs.List.{list_any}
use Rattle.ckd_track.specs.declared.geometries.Geometry.{Geometry}
use Rattle.ckd_track.specs.Geometry.{tracks_of}
use Rattle.volume_contents.specs.Contents.{slot_at}
use Rattle.member_changes.specs.declared.places.BlockPlace.{BlockPlace}
use Rattle.member_changes.proofs.Written.{one_written, none_written}
use Rattle.member_changes.specs.Places.{is_on, slot_with, block_written, all_written}

neither : (a b : Bool) → (a || b) ≡ false → (a ≡ false) × (b ≡ false)
neither true b is = cc
neither false b is = (refl, is)

either_way : (few : Bool) (slots more : List (List ℕ)) (n : ℕ) → slot_at more n ≡ slot_at slots n
    → slot_at (if few then slots else more) n ≡ slot_at slots n
either_way true slots more n is = refl
either_way false slots more n is = is

-- one block is written on another track
other_block : (g : Geometry) (p : BlockPlace) (block : List ℕ) (slots : List (List ℕ)) (n : ℕ) → nat_eq p.track n ≡ false
    → slot_at (block_written g p block slots) n ≡ slot_at slots n
other_block g p block slots n off = by (nat_lt p.track (tracks_of g))
  where
    new : List ℕ
    new = slot_with block p.number (slot_at slots p.track)

    other : n ≢ p.track
    other same = search (rules, tests)

    by : (there : Bool) → slot_at (if there then slice_set slots p.track new else slots) n ≡ slot_at slots n
    by true = get_or-set_other slots p.track n new [] other
    by false = refl

pub kept_elsewhere : (g : Geometry) (places : List BlockPlace) (blocks : List ℕ) (slots : List (List ℕ)) (n : ℕ)
    → list_any (is_on n) places ≡ false → slot_at (all_written g places blocks slots) n ≡ slot_at slots n
kept_elsewhere g [] blocks slots n off = ap (λ (s : List (List ℕ)). slot_at s n) (none_written g blocks slots)
kept_elsewhere g (p ∷ places) blocks slots n off =
    let each = neither (is_on n p) (list_any (is_on n) places) off in
    let next = block_written g p (take 264 blocks) slots in
    ap (λ (s : List (List ℕ)). slot_at s n) (one_written g p places blocks slots)
    ∙ either_way (nat_lt (length blocks) 264) slots (all_written g places (drop 264 blocks) next) n
    (kept_elsewhere g places (drop 264 blocks) next n each.1 ∙ other_block g p (take 264 blocks) slots n each.0)
