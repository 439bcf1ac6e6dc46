-- A run of free tracks is on its volume.
use Rattle.std.proofs.Common.{◌≡◌, ◌∙◌, ap, sym, refl, ℕ, zero, suc, ◌+◌, ◌-◌, ◌≤◌, ◌<◌, ◌⊎◌, inl, inr, List, [], length, true, Some, arith}
use Rattle.std.proofs.Math.Nat.{le-max_right}
use Rattle.std.proofs.Math.Seq.{drop-nil}
use Rattle.std.proofs.lemmas.Bool.{cases_lt}
use Rattle.std.proofs.lemmas.Bool.Decides.{nat_tests}
use Rattle.ckd_track.specs.declared.geometries.Geometry.{Geometry}
use Rattle.ckd_track.specs.Geometry.{tracks_of}
use Rattle.ckd_track.specs.declared.model.DriveModel.{DriveModel}
use Rattle.record_tracks.specs.declared.records.NewRecord.{NewRecord}
use Rattle.record_tracks.specs.Records.{Areas, all_areas}
use Rattle.record_tracks.specs.Tracks.{Takes, StandsAt, fitting, fitting_on, left_behind}
use Rattle.record_tracks.proofs.Listed.{length-all}
use Rattle.loaded_sets.specs.declared.plans.PlacedSet.{PlacedSet}
use Rattle.loaded_sets.specs.Sets.{areas, HasRoom, IsLast}
use Rattle.loaded_sets.proofs.Tracks.{none_behind, one_behind}
use Rattle.new_labels.specs.Runs.{Space, is_free, IsFirstRun}

on_volume : (g : Geometry) (s : Space) (m : ℕ) → is_free g s m ≡ true → m < tracks_of g
on_volume g s m is = grind (arith, nat_tests)

pub run_within : (g : Geometry) (s : Space) (tracks first : ℕ) → 1 ≤ tracks → IsFirstRun g s tracks (Some first)
    → first + tracks ≤ tracks_of g
run_within g s tracks first some run = let last = on_volume g s (first + (tracks - 1)) (run.0 (tracks - 1) (omega arith)) in omega arith

-- records take a track at least
pub some_tracks : (model : DriveModel) (records : List NewRecord) (tracks : ℕ) → 1 ≤ length records
    → Takes model (all_areas records) tracks → 1 ≤ tracks
some_tracks model records zero some takes =
    let none = none_behind model (all_areas records) ∙ takes.all in absurd (omega (arith, some, length-all records, ap length none))
some_tracks model records (suc n) some takes = omega arith

-- a data set with records gets a track at least
pub some_room : (model : DriveModel) (set : PlacedSet) (tracks : ℕ) → 1 ≤ length set.records.now → HasRoom model set tracks → 1 ≤ tracks
some_room model set tracks some room =
    omega (arith, some_tracks model set.records.now room.used some room.takes, room.all, le-max_right set.label.tracks room.used)

-- nothing is left behind more tracks than are taken
none_left : (model : DriveModel) (areas : List Areas) (tracks k : ℕ) → left_behind model areas tracks ≡ []
    → left_behind model areas (tracks + k) ≡ []
none_left model areas tracks zero all = ap (left_behind model areas) (omega arith) ∙ all
none_left model areas tracks (suc k) all =
    let e : tracks + suc k ≡ suc (tracks + k) = omega arith in
    cc (one_behind model areas (tracks + k), none_left model areas tracks k all, drop-nil (fitting_on model []))

-- a record that stands on a track stands on one of those that are taken
pub stands_within : (model : DriveModel) (areas : List Areas) (tracks k track number : ℕ) → Takes model areas tracks
    → StandsAt model areas k track number → track < tracks
unfolding fitting
stands_within model areas tracks k track number takes stands = by (cases_lt track tracks)
  where
    by : (track < tracks) ⊎ (tracks ≤ track) → track < tracks
    by (inl less) = less
    by (inr more) =
        let e : tracks + (track - tracks) ≡ track = omega arith in
        let none = ap (left_behind model areas) (sym e) ∙ none_left model areas tracks (track - tracks) takes.all in
        let fit : fitting_on model (left_behind model areas track) ≡ 0 = ap (fitting_on model) none in absurd (omega arith)

-- the last of some records stands within two bytes' numbers of tracks
pub last_within : (model : DriveModel) (set : PlacedSet) (tracks count track number : ℕ) → HasRoom model set tracks → tracks ≤ 65536
    → IsLast model (areas set) count track number → track < 65536
last_within model set tracks zero track number room few last = omega (arith, (last.none refl).0)
last_within model set tracks (suc k) track number room few last = omega (
  arith,
  le-max_right set.label.tracks room.used,
  stands_within model (areas set) room.used (suc k - 1) track number room.takes (last.some (omega arith)),
)
