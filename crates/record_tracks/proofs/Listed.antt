-- Records that go on tracks.
use Rattle.std.proofs.Common.{◌≡◌, ℕ, ◌≤◌, List, [], length, true, arith, ◌∙◌, ap, sym, subst, ◌+◌, ◌-◌, ◌<◌, drop, get_or, All}
use Rattle.std.proofs.Common.{length-drop, ◌∷◌, ◌++◌, take, sum_by}
use Rattle.std.proofs.lemmas.{Bool.Decides.nat_tests, List.Elements.All-map, List.Sums.sum_by_push}
use Rattle.std.proofs.lemmas.List.{get_or-drop, get_or-map, length-map, take_more, take-map, drop-map}
use Rattle.ckd_track.specs.declared.model.DriveModel.{DriveModel, TheVariants.D2311, TheVariants.D2314}
use Rattle.ckd_track.specs.Model.{capacity_of}
use Rattle.record_tracks.specs.Records.{Areas, GoesOn, goes_on, end_of_file, areas_of, all_areas, RecordGoesOn, charge_for, balance_behind}
use Rattle.record_tracks.specs.declared.records.NewRecord.{NewRecord}

-- a record without a key goes on a track that has room for its data, and so does an end of file
pub keyless_goes : (model : DriveModel) (bytes : List ℕ) → length bytes ≤ capacity_of model
    → GoesOn model (record { key_area = []; data_area = bytes })
keyless_goes D2311 bytes few = record { key = omega arith; most = omega arith }
keyless_goes D2314 bytes few = record { key = omega arith; most = omega arith }

pub end_goes : (model : DriveModel) → GoesOn model end_of_file
end_goes D2311 = keyless_goes D2311 [] (omega arith)
end_goes D2314 = keyless_goes D2314 [] (omega arith)

-- a record goes on a track by the test
pub goes_by_test : (model : DriveModel) (a : Areas) → goes_on model a ≡ true → GoesOn model a
goes_by_test model a is = record { key = grind (arith, nat_tests, is); most = grind (arith, nat_tests, is) }

pub length-all : (blocks : List NewRecord) → length (all_areas blocks) ≡ length blocks
length-all blocks = length-map blocks areas_of

pub length-left : (blocks : List NewRecord) (from : ℕ) → length (drop from (all_areas blocks)) ≡ length blocks - from
length-left blocks from = omega (arith, length-drop from (all_areas blocks), length-all blocks)

pub area_at : (blocks : List NewRecord) (from k : ℕ) (d : NewRecord) → from + k < length blocks
    → get_or (drop from (all_areas blocks)) k end_of_file ≡ areas_of (get_or blocks (from + k) d)
area_at blocks from k d there =
    get_or-drop from (all_areas blocks) k end_of_file ∙ get_or-map areas_of blocks (from + k) d end_of_file there

pub all_go : (model : DriveModel) (blocks : List NewRecord) → All (RecordGoesOn model) blocks → All (GoesOn model) (all_areas blocks)
all_go model blocks each = All-map (GoesOn model) areas_of blocks each

-- records with these areas, which go on tracks
pub blocks_go : (model : DriveModel) (items : List NewRecord) (areas : List Areas) → all_areas items ≡ areas → All (GoesOn model) areas
    → All (RecordGoesOn model) items
blocks_go model items areas is each k d there =
    let here : k < length areas = omega (arith, length-all items, ap length is) in
    let same = ap (λ (xs : List Areas). get_or xs k end_of_file) (sym is) ∙ get_or-map areas_of items k d end_of_file there in
    subst (GoesOn model) same (each k end_of_file here)

-- what one record more leaves
pub one_less : (model : DriveModel) (blocks : List NewRecord) (k left c : ℕ) (d : NewRecord) → k < length blocks
    → left ≡ balance_behind model (take k (all_areas blocks)) → c ≡ charge_for model (areas_of (get_or blocks k d))
    → left - c ≡ balance_behind model (take (k + 1) (all_areas blocks))
one_less model blocks k left c d there is charged =
    let all = all_areas blocks in
    let a = areas_of (get_or blocks k d) in
    let two = take_more all k end_of_file (omega (arith, length-all blocks)) in
    let one : take (k + 1) all ≡ take k all ++ a ∷ [] = cc (get_or-map areas_of blocks k d end_of_file there) in
    let sum = ap (sum_by (charge_for model)) one ∙ sum_by_push (charge_for model) (take k all) a in omega arith

-- the areas of some of the records
pub areas_between : (blocks : List NewRecord) (first count : ℕ)
    → all_areas (take count (drop first blocks)) ≡ take count (drop first (all_areas blocks))
areas_between blocks first count = sym (cc (drop-map areas_of first blocks, take-map areas_of count (drop first blocks)))
