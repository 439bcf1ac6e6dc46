-- Messages of blocks are the same exactly where what the blocks say is.
use Rattle.std.proofs.Common.{◌≡◌, ◌∙◌, ap, sym, refl, ℕ, ◌+◌, ◌*◌, ◌/◌, ◌%◌, ◌↔◌, Bool, true}
use Rattle.std.proofs.Common.{false, List, [], ◌∷◌, ◌++◌, length, take, drop, map, slice_index, append_assoc, codes, arith, flat_map}
use Rattle.std.proofs.lemmas.List.{take_at, drop_at}
use Rattle.ckd_track.specs.Track.{Record}
use Rattle.dasd_extract.specs.Blocks.{keyed_bytes}
use Rattle.volume_hash.specs.SetMessage.{ending}
use Rattle.volume_hash.specs.SetsApart.{areas, message_of, MessageIsWhatBlocksSay}

-- bytes that begin with as many
alike : (xs ys a b : List ℕ) → length xs ≡ length ys → xs ++ a ≡ ys ++ b → (xs ≡ ys) × (a ≡ b)
alike xs ys a b long same = (
  sym (take_at xs a (length xs) refl) ∙ ap (take (length xs)) same ∙ take_at ys b (length xs) (sym long),
  sym (drop_at xs a (length xs) refl) ∙ ap (drop (length xs)) same ∙ drop_at ys b (length xs) (sym long),
)

one_length : (n m : ℕ) → n / 256 ≡ m / 256 → n % 256 ≡ m % 256 → n ≡ m
one_length n m high low = omega arith

regroup : (a b c d : List ℕ) → ((a ++ b) ++ c) ++ d ≡ a ++ (b ++ (c ++ d))
regroup a b c d = append_assoc (a ++ b) c d ∙ append_assoc a b (c ++ d)

-- the bytes of a block that says this
unfoldable keyed : List ℕ × List ℕ → List ℕ
keyed both = 1 ∷ length both.0 ∷ length both.1 / 256 ∷ length both.1 % 256 ∷ (both.0 ++ both.1)

abbrev spelled : List Record → (whole : Bool) → List ℕ
spelled blocks whole = flat_map keyed_bytes blocks ++ ending whole

abbrev AreSame : (blocks others : List Record) → (whole whole_others : Bool) → Type 0
AreSame blocks others whole whole_others = (map areas blocks ≡ map areas others) × (whole ≡ whole_others)

apart : (blocks others : List Record) (w u : Bool) → spelled blocks w ≡ spelled others u → AreSame blocks others w u
apart [] [] true true same = (refl, refl)
apart [] [] true false same = absurd (let e : 0 ≡ 1 = ap length same in omega (arith, e))
apart [] [] false true same = absurd (let e : 1 ≡ 0 = ap length same in omega (arith, e))
apart [] [] false false same = (refl, refl)
apart [] (q ∷ qs) true u same = cc
apart [] (q ∷ qs) false u same = absurd (let e : 0 ≡ 1 = ap (λ l. slice_index l 0) same in omega (arith, e))
apart (r ∷ rs) [] w true same = cc
apart (r ∷ rs) [] w false same = absurd (let e : 1 ≡ 0 = ap (λ l. slice_index l 0) same in omega (arith, e))
apart (r ∷ rs) (q ∷ qs) w u same =
    let key : length r.key_area ≡ length q.key_area = ap (λ l. slice_index l 1) same in
    let high : length r.data_area / 256 ≡ length q.data_area / 256 = ap (λ l. slice_index l 2) same in
    let low : length r.data_area % 256 ≡ length q.data_area % 256 = ap (λ l. slice_index l 3) same in
    let body = sym (regroup r.key_area r.data_area (flat_map keyed_bytes rs) (ending w)) ∙ ap (drop 4) same
    ∙ regroup q.key_area q.data_area (flat_map keyed_bytes qs) (ending u) in
    let keys = alike r.key_area q.key_area _ _ key body in
    let both = alike r.data_area q.data_area _ _ (one_length _ _ high low) keys.1 in
    let rest = apart rs qs w u both.1 in (
      ap (λ k. (k, r.data_area) ∷ map areas rs) keys.0 ∙ ap (λ d. (q.key_area, d) ∷ map areas rs) both.0
          ∙ ap (λ l. areas q ∷ l) rest.0,
      rest.1,
    )

by_areas : (blocks : List Record) → flat_map keyed_bytes blocks ≡ flat_map keyed (map areas blocks)
unfolding keyed
by_areas [] = refl
by_areas (r ∷ rs) = ap (λ l. keyed_bytes r ++ l) (by_areas rs)

together : (blocks others : List Record) (w u : Bool) → AreSame blocks others w u → message_of blocks w ≡ message_of others u
together blocks others w u same =
    let bytes = by_areas blocks ∙ ap (flat_map keyed) same.0 ∙ sym (by_areas others) in
    ap (λ l. codes "blocks" ++ (l ++ ending w)) bytes ∙ ap (λ b. codes "blocks" ++ (flat_map keyed_bytes others ++ ending b)) same.1

pub message_is_what_blocks_say : MessageIsWhatBlocksSay
message_is_what_blocks_say blocks others w u = (λ same. apart blocks others w u (ap (drop 6) same), together blocks others w u)
