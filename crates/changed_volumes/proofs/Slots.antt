-- A new volume with a label that is written track by track.
use Rattle.std.proofs.Common.{◌≡◌, ◌∙◌, ap, sym, refl, ℕ, ◌+◌, ◌*◌, List, [], ◌∷◌, ◌++◌, length, drop, map, arith}
use Rattle.std.proofs.Common.{length-append, append_assoc, append-nil}
use Rattle.std.proofs.Math.Nat.{zero-add}
use Rattle.std.proofs.Math.Seq.{drop-nil}
use Rattle.std.proofs.lemmas.List.{take_all, drop_all}
use Rattle.std.proofs.lemmas.List.Folds.{concat-append}
use Rattle.std.proofs.lemmas.List.FromFn.{map-range_with_len_more}
use Rattle.std.specs.List.{concat, range_with_len}
use Rattle.ckd_track.specs.declared.model.DriveModel.{DriveModel}
use Rattle.ckd_track.specs.declared.model.DriveModel.TheVariants.{D2311, D2314}
use Rattle.ckd_track.specs.declared.geometries.Geometry.{Geometry}
use Rattle.ckd_image.specs.Header.{new_header}
use Rattle.ckd_image.specs.Store.{overwritten}
use Rattle.new_labels.specs.declared.labels.NewLabel.{NewLabel}
use Rattle.new_labels.specs.Tracks.{labelled_slot}

-- the slots of so many tracks, from the first on
abbrev pub slots : Geometry → NewLabel → (count : ℕ) → List ℕ
slots g l count = concat (map (labelled_slot g l) (range_with_len 0 count))

length-new_header : (model : DriveModel) → length (new_header model) ≡ 512
length-new_header D2311 = refl
length-new_header D2314 = refl

-- what is written into a file without bytes is all that it holds
pub first_written : (old bytes now : List ℕ) → old ≡ [] → now ≡ overwritten old 0 bytes → now ≡ bytes ++ []
first_written old bytes now none is =
    is ∙ ap (λ (s : List ℕ). overwritten s 0 bytes) none ∙ ap (λ (more : List ℕ). bytes ++ more) (drop-nil {A = ℕ} (0 + length bytes))

-- what is written at the end of a file stands behind what it held
written_behind : (old bytes : List ℕ) (at : ℕ) → length old ≡ at → overwritten old at bytes ≡ old ++ bytes
written_behind old bytes at end =
    ap (λ (front : List ℕ). (front ++ bytes) ++ drop (at + length bytes) old) (take_all at old (omega (arith, end)))
    ∙ ap (λ (behind : List ℕ). (old ++ bytes) ++ behind) (drop_all (at + length bytes) old (omega (arith, end)))
    ∙ append-nil (old ++ bytes)

slots_more : (g : Geometry) (l : NewLabel) (n : ℕ) → slots g l (n + 1) ≡ slots g l n ++ labelled_slot g l n
slots_more g l n =
    let slot = labelled_slot g l n in
    ap concat (map-range_with_len_more (labelled_slot g l) 0 n n (zero-add n))
    ∙ concat-append (map (labelled_slot g l) (range_with_len 0 n)) (slot ∷ [])
    ∙ ap (λ (bytes : List ℕ). slots g l n ++ bytes) (append-nil slot)

-- how long the file is
pub file_size : (g : Geometry) (l : NewLabel) (now : List ℕ) (n : ℕ) → now ≡ new_header g.model ++ slots g l n
    → length (slots g l n) ≡ n * g.track_size → length now ≡ 512 + n * g.track_size
file_size g l now n is size =
    ap length is ∙ length-append (new_header g.model) (slots g l n) ∙ omega (arith, length-new_header g.model, size)

pub size_more : (g : Geometry) (l : NewLabel) (n : ℕ) → length (slots g l n) ≡ n * g.track_size
    → length (labelled_slot g l n) ≡ g.track_size → length (slots g l (n + 1)) ≡ (n + 1) * g.track_size
size_more g l n size one =
    ap length (slots_more g l n) ∙ length-append (slots g l n) (labelled_slot g l n) ∙ omega (arith, size, one)

-- one track more
pub one_more : (g : Geometry) (l : NewLabel) (old now : List ℕ) (n : ℕ) → old ≡ new_header g.model ++ slots g l n
    → length (slots g l n) ≡ n * g.track_size → now ≡ overwritten old (512 + n * g.track_size) (labelled_slot g l n)
    → now ≡ new_header g.model ++ slots g l (n + 1)
one_more g l old now n is size written =
    let slot = labelled_slot g l n in
    written ∙ written_behind old slot (512 + n * g.track_size) (file_size g l old n is size)
    ∙ ap (λ (s : List ℕ). s ++ slot) is ∙ append_assoc (new_header g.model) (slots g l n) slot
    ∙ ap (λ (s : List ℕ). new_header g.model ++ s) (sym (slots_more g l n))
