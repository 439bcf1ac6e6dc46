-- Messages are the same exactly where what is said is.
use Rattle.std.proofs.Common.{◌≡◌, ◌∙◌, ap, sym, refl, inl, inr, ℕ, zero, suc, ◌<◌, ◌≤◌, ◌⊎◌, ◌^◌, List, [], ◌++◌, length, take, drop}
use Rattle.std.proofs.Common.{slice_index, slice_index_or, append_assoc, Result, Ok, Err, All, arith}
use Rattle.std.proofs.lemmas.List.{take_at, drop_at, append_cancel_left}
use Rattle.std.proofs.lemmas.Nat.{from_be_bytes-to_be_bytes_2, from_be_bytes-to_be_bytes_4}
use Rattle.std.proofs.lemmas.Bool.{cases_lt}
use Rattle.std.specs.Int.{w16, w32, to_be_bytes, from_be_bytes}
use Rattle.ckd_track.specs.declared.fault.SlotFault.{SlotFault}
use Rattle.ckd_track.specs.declared.model.DriveModel.{DriveModel}
use Rattle.ckd_track.specs.declared.model.DriveModel.TheVariants.{D2311, D2314}
use Rattle.ckd_track.specs.declared.geometries.Geometry.{Geometry}
use Rattle.ckd_track.specs.Geometry.{tracks_of}
use Rattle.ckd_track.specs.Track.{Track, IsRecord, spelling, track_of}
use Rattle.ckd_track.proofs.Laws.{spelled_is_read, read_is_spelled}
use Rattle.ckd_track.specs.Model.{model_number_of}
use Rattle.dasd_volumes.specs.Volumes.{of_each}
use Rattle.volume_hash.specs.Message.{said_by, says, track_message, volume_head, tracks_message, volume_message}
use Rattle.volume_hash.specs.Apart.{IsSlot, IsVolume, SaySame, MessageIsWhatTheySay}

-- bytes that begin with as many
alike : (xs ys a b : List ℕ) → length xs ≡ length ys → xs ++ a ≡ ys ++ b → (xs ≡ ys) × (a ≡ b)
alike xs ys a b long same = (
  sym (take_at xs a (length xs) refl) ∙ ap (take (length xs)) same ∙ take_at ys b (length xs) (sym long),
  sym (drop_at xs a (length xs) refl) ∙ ap (drop (length xs)) same ∙ drop_at ys b (length xs) (sym long),
)

-- what a slot can say
abbrev CanSay : Result Track (List ℕ) → Type 0
CanSay (Ok t) = (length t.home_address ≡ 5) × All IsRecord t.records
CanSay (Err slot) = length slot < 2 ^ 32

can_say : (slot : List ℕ) → IsSlot slot → CanSay (says slot)
can_say slot is = by (track_of slot) refl
  where
    by : (read : Result Track SlotFault) → track_of slot ≡ read → CanSay (said_by slot read)
    by (Ok t) e = let s = read_is_spelled slot t is.bytes e in (s.home_address, s.records)
    by (Err fault) e = is.size

-- a track's message ends by itself
track_apart : (x y : Result Track (List ℕ)) (a b : List ℕ) → CanSay x → CanSay y → track_message x ++ a ≡ track_message y ++ b
    → (x ≡ y) × (a ≡ b)
track_apart (Ok t) (Ok u) a b can could same =
    let cut : spelling t ++ a ≡ spelling u ++ b = ap (drop 1) same in
    let s = spelling t ++ a in
    let first : track_of s ≡ Ok t = spelled_is_read s t (record { home_address = can.0; records = can.1; rest = a; bytes = refl }) in
    let second : track_of s ≡ Ok u = spelled_is_read s u (record { home_address = could.0; records = could.1; rest = b; bytes = cut }) in
    let one : t ≡ u = cc in
    (ap Ok one, append_cancel_left (spelling t) a b (cut ∙ ap (λ v. spelling v ++ b) (sym one)))
track_apart (Ok t) (Err other) a b can could same = let e : 1 ≡ 0 = ap (λ l. slice_index l 0) same in absurd (omega (arith, e))
track_apart (Err slot) (Ok u) a b can could same = let e : 0 ≡ 1 = ap (λ l. slice_index l 0) same in absurd (omega (arith, e))
track_apart (Err slot) (Err other) a b can could same =
    let n = to_be_bytes w32 (length slot) in
    let m = to_be_bytes w32 (length other) in
    let cut : n ++ (slot ++ a) ≡ m ++ (other ++ b) = sym (append_assoc n slot a) ∙ ap (drop 1) same ∙ append_assoc m other b in
    let parts = alike n m (slot ++ a) (other ++ b) refl cut in
    let long : length slot ≡ length other =
    sym (from_be_bytes-to_be_bytes_4 (length slot) can) ∙ ap (from_be_bytes w32) parts.0
    ∙ from_be_bytes-to_be_bytes_4 (length other) could in
    let rest = alike slot other a b long parts.1 in
    (ap Err rest.0, rest.1)

-- and so do those of tracks one after another
abbrev messages : (ℕ → Result Track (List ℕ)) → ℕ → List ℕ
messages of n = of_each (λ i. track_message (of i)) n

module _ (f h : ℕ → Result Track (List ℕ)) where
  abbrev AreSame : ℕ → Type 0
  AreSame n = (i : ℕ) → i < n → f i ≡ h i

  one_more : (n : ℕ) → AreSame n → f n ≡ h n → AreSame (suc n)
  one_more n before last i lt = by (cases_lt i n)
    where
      by : (i < n) ⊎ (n ≤ i) → f i ≡ h i
      by (inl less) = before i less
      by (inr le) = let e : i ≡ n = omega (arith, lt, le) in ap f e ∙ last ∙ sym (ap h e)

  apart : (n : ℕ) (a b : List ℕ) → ((i : ℕ) → i < n → CanSay (f i)) → ((i : ℕ) → i < n → CanSay (h i))
      → messages f n ++ a ≡ messages h n ++ b → AreSame n × (a ≡ b)
  unfolding of_each
  apart zero a b can could same = (λ i lt. absurd (omega (arith, lt)), same)
  apart (suc n) a b can could same =
      let x = track_message (f n) in
      let y = track_message (h n) in
      let cut : messages f n ++ (x ++ a) ≡ messages h n ++ (y ++ b) =
      sym (append_assoc (messages f n) x a) ∙ same ∙ append_assoc (messages h n) y b in
      let before = apart n (x ++ a) (y ++ b) (λ i lt. can i (omega (arith, lt))) (λ i lt. could i (omega (arith, lt))) cut in
      let last = track_apart (f n) (h n) a b (can n (omega arith)) (could n (omega arith)) before.1 in
      (one_more n before.0 last.0, last.1)

  together : (n : ℕ) → AreSame n → messages f n ≡ messages h n
  unfolding of_each
  together zero same = refl
  together (suc n) same =
      ap (λ l. l ++ track_message (f n)) (together n (λ i lt. same i (omega (arith, lt))))
      ∙ ap (λ x. messages h n ++ track_message x) (same n (omega arith))

-- what stands before the tracks
one_model : (a b : DriveModel) → model_number_of a ≡ model_number_of b → a ≡ b
one_model D2311 D2311 e = refl
one_model D2311 D2314 e = absurd (omega (arith, e))
one_model D2314 D2311 e = absurd (omega (arith, e))
one_model D2314 D2314 e = refl

few : (a : DriveModel) → model_number_of a < 2 ^ 16
few D2311 = omega arith
few D2314 = omega arith

one_number : (n m : ℕ) → n < 2 ^ 16 → m < 2 ^ 16 → to_be_bytes w16 n ≡ to_be_bytes w16 m → n ≡ m
one_number n m small less same =
    sym (from_be_bytes-to_be_bytes_2 n small) ∙ ap (from_be_bytes w16) same ∙ from_be_bytes-to_be_bytes_2 m less

heads_apart : (g h : Geometry) → g.cylinders < 2 ^ 16 → h.cylinders < 2 ^ 16 → volume_head g ≡ volume_head h
    → (g.model ≡ h.model) × (g.cylinders ≡ h.cylinders)
heads_apart g h small less same =
    let of = λ (k : Geometry). to_be_bytes w16 k.cylinders in
    let cut = ap (drop 6) same in
    let parts = alike (to_be_bytes w16 (model_number_of g.model)) (to_be_bytes w16 (model_number_of h.model)) (of g) (of h) refl cut in
    (one_model g.model h.model (one_number _ _ (few g.model) (few h.model) parts.0), one_number g.cylinders h.cylinders small less parts.1)

-- as many tracks
as_many : (g h : Geometry) → g.model ≡ h.model → g.cylinders ≡ h.cylinders → tracks_of g ≡ tracks_of h
as_many g h model cylinders = rw (model, cylinders) refl

module _ (g h : Geometry) (slots others : List (List ℕ)) where
  abbrev of_one : ℕ → Result Track (List ℕ)
  of_one i = says (slice_index_or slots i [])

  abbrev of_other : ℕ → Result Track (List ℕ)
  of_other i = says (slice_index_or others i [])

  say_same : IsVolume g slots → IsVolume h others → volume_message g slots ≡ volume_message h others → SaySame g slots h others
  say_same is are same =
      let parts = alike (volume_head g) (volume_head h) (tracks_message g slots) (tracks_message h others) refl same in
      let first = heads_apart g h is.cylinders are.cylinders parts.0 in
      let many : tracks_of h ≡ tracks_of g = sym (as_many g h first.0 first.1) in
      let tracks : messages of_one (tracks_of g) ++ [] ≡ messages of_other (tracks_of g) ++ [] =
      ap (λ l. l ++ []) (parts.1 ∙ ap (messages of_other) many) in
      let able = λ (i : ℕ) (lt : i < tracks_of g). can_say (slice_index_or others i []) (are.tracks i (omega (arith, lt, many))) in
      record {
        model = first.0;
        cylinders = first.1;
        tracks = (apart of_one of_other (tracks_of g) [] [] (λ i lt. can_say (slice_index_or slots i []) (is.tracks i lt)) able tracks).0;
      }

  one_message : SaySame g slots h others → volume_message g slots ≡ volume_message h others
  one_message same =
      let first : volume_head g ≡ volume_head h = rw (same.model, same.cylinders) refl in
      let tracks = together of_one of_other (tracks_of g) same.tracks ∙ ap (messages of_other) (as_many g h same.model same.cylinders) in
      ap (λ l. l ++ tracks_message g slots) first ∙ ap (λ l. volume_head h ++ l) tracks

pub message_is_what_they_say : MessageIsWhatTheySay
message_is_what_they_say g h slots others is are = (say_same g h slots others is are, one_message g h slots others)
