-- What a comparison of the volumes of two lists of files prints.
use Rattle.std.specs.Prelude.{◌≡◌, ◌≢◌, ◌⊎◌, ℕ, Bool, List, [], ◌∷◌, map, codes, Result, IfOk, OnOk}
use Rattle.std.specs.List.{concat}
use Rattle.std.specs.Fmt.{decimal}
use Rattle.counted_io.specs.Streams.{Stream, IsFlushed}
use Rattle.counted_io.specs.Quantities.{quantity_text}
use Rattle.ckd_track.specs.declared.geometries.Geometry.{Geometry}
use Rattle.dasd_volumes.specs.declared.fault.VolumeFault.{VolumeFault}
use Rattle.dasd_volumes.specs.Lines.{line_feed}
use Rattle.dasd_volumes.specs.Printing.{CountsWrites}
use Rattle.dasd_volumes.specs.Reading.{KnownVolume}
use Rattle.dasd_volumes.specs.declared.forms.Style.{Style}
use Rattle.dasd_volumes.specs.declared.forms.Style.TheVariants.{Text, Json}
use Rattle.dasd_archive.specs.Compare.{compare_text, changed_in, PrintsBoth, NumberOfBoth}
use Rattle.dasd_volumes.specs.Printing.{PrintsBytes}
use Rattle.dasd_words.specs.declared.requests.ComparedVolumes.{ComparedVolumes}
use Rattle.ckd_track.specs.Model.{model_number_of}
use Rattle.dasd_jobs.specs.Sources.{SourceFile, OfVolume}
use Rattle.dasd_run.specs.declared.commands.Ending.{Ending}
use Rattle.dasd_run.specs.declared.commands.Ending.TheVariants.{Findings}
use Rattle.program_faults.specs.declared.fault.ProgramFault.{ProgramFault}
use Rattle.dasd_run.specs.Ended.{ended, counted_ending}
use Rattle.program_faults.specs.Faults.{printing_fault}
use Rattle.dasd_run.specs.Outside.{Outside}
use Rattle.dasd_run.specs.Paths.{quoted_paths}
use Rattle.dasd_run.specs.Printed.{style_of, IsUnopened}

-- a geometry in words
abbrev pub shape_text : Geometry → List ℕ
shape_text g = concat (
    decimal (model_number_of g.model) ∷ codes " " ∷ quantity_text g.cylinders (codes "cylinder") (codes "cylinders") ∷ codes " slot "
    ∷ decimal g.track_size ∷ [])

-- the line of two geometries that differ
abbrev pub geometries_line : Style → (path other : List ℕ) → (one beside : Geometry) → List ℕ
geometries_line Text path other one beside = concat (codes "geometry " ∷ shape_text one ∷ codes " and " ∷ shape_text beside ∷ line_feed ∷ [])
geometries_line Json path other one beside = concat (
    codes "{\"path\":" ∷ path ∷ codes ",\"other\":" ∷ other ∷ codes ",\"text\":\"geometry " ∷ shape_text one ∷ codes " and " ∷ shape_text beside ∷ codes "\"}"
    ∷ line_feed ∷ [])

-- the paths of the files of both volumes
abbrev pub one_of : ComparedVolumes → List (List ℕ)
one_of asked = map (λ path. path.now) asked.one.items

abbrev pub other_of : ComparedVolumes → List (List ℕ)
other_of asked = map (λ path. path.now) asked.other.items

-- what differs of two volumes is printed, and none of it held back, and how many tracks differ is told
abbrev pub ComparesTracks : Result Ending ProgramFault → Style → (path other : List ℕ) → (lists : Bool) → (v w : KnownVolume) → (before now : Stream) → Type 0
ComparesTracks result style path other lists v w before now =
    (comparing : Result ℕ VolumeFault) × (result ≡ ended printing_fault counted_ending comparing) × IfOk comparing (NumberOfBoth changed_in v w)
    × PrintsBoth comparing (compare_text style path other lists) v w before now × CountsWrites comparing before now × OnOk comparing (IsFlushed now)

-- the geometries of two volumes are printed
abbrev pub ComparesGeometries : Result Ending ProgramFault → Style → (path other : List ℕ) → (v w : KnownVolume) → (before now : Stream) → Type 0
ComparesGeometries result style path other v w before now =
    (printing : Result (Unit {0}) VolumeFault) × (result ≡ ended printing_fault (λ done. Findings) printing)
    × PrintsBytes printing (geometries_line style path other v.geometry w.geometry) before now × CountsWrites printing before now
    × OnOk printing (IsFlushed now)

-- tracks are compared where the volumes have one geometry
abbrev pub ComparesVolumes : Result Ending ProgramFault → Style → (path other : List ℕ) → (lists : Bool) → (v w : KnownVolume) → (before now : Stream) → Type 0
ComparesVolumes result style path other lists v w before now =
    ((w.geometry ≡ v.geometry) × ComparesTracks result style path other lists v w before now)
    ⊎ ((w.geometry ≢ v.geometry) × ComparesGeometries result style path other v w before now)

-- The files at the paths of the first list were opened, then those of the second, and no other file; and this is said of the volumes
-- that they hold.
pub record OfVolumes (as_far : Bool) (paths other_paths : List (List ℕ)) (before now : List SourceFile) (P : KnownVolume → KnownVolume → Type 0) : Type 0 where
  pub between : List SourceFile
  pub so : OfVolume as_far paths before between (λ v. OfVolume as_far other_paths between now (λ w. P v w))

-- The first is not opened; or it is, and the other is not; and nothing is printed.
abbrev pub NotBothOpened : Result Ending ProgramFault → ComparedVolumes → (before now : Outside) → Type 0
NotBothOpened result asked before now =
    IsUnopened asked.as_far result (one_of asked) before.opened now.opened before.printed now.printed
    ⊎ ((between : List SourceFile) × OfVolume asked.as_far (one_of asked) before.opened between (λ v. Unit {0})
    × IsUnopened asked.as_far result (other_of asked) between now.opened before.printed now.printed)

-- the volumes of two lists of files are compared; or they are not opened
abbrev pub ComparesFiles : Result Ending ProgramFault → ComparedVolumes → (before now : Outside) → Type 0
ComparesFiles result asked before now =
    NotBothOpened result asked before now
    ⊎ OfVolumes asked.as_far (one_of asked) (other_of asked) before.opened now.opened
    (λ v w. ComparesVolumes result (style_of asked.json) (quoted_paths (one_of asked)) (quoted_paths (other_of asked)) asked.lists v w
    before.printed now.printed)
