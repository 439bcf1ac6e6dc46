-- Files that were opened to be read, and the volumes that they hold.
use Rattle.std.specs.Prelude.{◌≡◌, ◌⊎◌, ℕ, ◌+◌, ◌≤◌, List, [], ◌∷◌, ◌++◌, length, take, map, slice_range, Bool}
use Rattle.std.specs.Prelude.{Option, Some, None, option_map, Result, Ok, Err}
use Rattle.std.specs.List.{AllZip}
use Rattle.ckd_track.specs.declared.geometries.Geometry.{Geometry}
use Rattle.ckd_track.specs.Geometry.{tracks_of}
use Rattle.ckd_image.specs.declared.fault.MountFault.{MountFault}
use Rattle.ckd_image.specs.Slots.{slots_in}
use Rattle.ckd_image.specs.Files.{slot_bytes}
use Rattle.dasd_volumes.specs.Reading.{KnownVolume}
use Rattle.dasd_jobs.specs.declared.lengths.Reach.{Reach}
use Rattle.dasd_jobs.specs.Lengths.{mounted_by, held_part, tracks_lacking, bytes_left_out}

-- What a file holds, where that is known: all its bytes, as of one in memory. Of one that others may change while it is read it is not.
abbrev pub Content : Type 0
Content = Option (List ℕ)

-- a number is that of the bytes of a file
abbrev pub IsLength : Content → ℕ → Type 0
IsLength content n = (bytes : List ℕ) → content ≡ Some bytes → n ≡ length bytes

-- these bytes stand in a file, from a place on
abbrev pub StandsIn : Content → (at : ℕ) → (read : List ℕ) → Type 0
StandsIn content at read = (bytes : List ℕ) → content ≡ Some bytes → read ≡ slice_range bytes at (at + length read)

-- a file's header is its first 512 bytes
abbrev pub IsHeader : Content → (header : List ℕ) → Type 0
IsHeader content header = (length header ≡ 512) × StandsIn content 0 header

-- these are all the bytes of a file
abbrev pub IsWhole : Content → (read : List ℕ) → Type 0
IsWhole content read = (bytes : List ℕ) → content ≡ Some bytes → read ≡ bytes

-- a file that was opened: the path that was asked for, and what it holds
pub record SourceFile : Type 0 where
  pub path : List ℕ
  pub content : Content

-- these files, and one more behind them
abbrev pub with_source : List SourceFile → (path : List ℕ) → Content → List SourceFile
with_source opened path content = opened ++ record { path = path; content = content } ∷ []

-- a file was opened by this path, or none was
abbrev pub OpensFile : {A E : Type 0} → Result A E → (content : A → Content) → (path : List ℕ) → (before now : List SourceFile) → Type 0
OpensFile (Ok file) content path before now = now ≡ with_source before path (content file)
OpensFile (Err _) content path before now = now ≡ before

-- a file was opened by this path, or none was
abbrev pub OpensMaybe : (path : List ℕ) → (before now : List SourceFile) → Type 0
OpensMaybe path before now = (now ≡ before) ⊎ ((content : Content) × (now ≡ with_source before path content))

-- The file at this path was opened, and these are its first bytes: so many of them, or all where it has no more.
pub record ReadsFront (path : List ℕ) (most : ℕ) (read : List ℕ) (before now : List SourceFile) : Type 0 where
  pub content : Content
  pub opened : now ≡ with_source before path content
  pub few : length read ≤ most
  pub front : (bytes : List ℕ) → content ≡ Some bytes → read ≡ take most bytes

-- the files at these paths, in their order, hold this
abbrev pub sources : (paths : List (List ℕ)) → (contents : List Content) → List SourceFile
sources [] contents = []
sources (path ∷ paths) [] = []
sources (path ∷ paths) (content ∷ contents) = record { path = path; content = content } ∷ sources paths contents

-- all that files hold, where it is known of each
abbrev pub known : List Content → Option (List (List ℕ))
known [] = Some []
known (None ∷ contents) = None
known (Some bytes ∷ contents) = option_map (λ more. bytes ∷ more) (known contents)

-- Files were opened by these paths, in their order, and no other file was.
pub record OpensPaths (paths : List (List ℕ)) (contents : List Content) (before now : List SourceFile) : Type 0 where
  pub opened : now ≡ before ++ sources paths contents
  pub count : length contents ≡ length paths

-- The first so many of the files at these paths were opened, in their order, and no other file was.
pub record OpensFirst (number : ℕ) (paths : List (List ℕ)) (before now : List SourceFile) : Type 0 where
  pub contents : List Content
  pub few : number ≤ length paths
  pub opens : OpensPaths (take number paths) contents before now

-- The files at these paths were read whole, and no other file was opened: these are all the bytes of each.
pub record ReadsWhole (paths bytes : List (List ℕ)) (before now : List SourceFile) : Type 0 where
  pub contents : List Content
  pub opens : OpensPaths paths contents before now
  pub whole : AllZip IsWhole contents bytes

-- Files hold the volume of this geometry: their headers and lengths keep the rules of a mount, but for the length of the last one where they
-- are read as far as they go.
abbrev pub Mounts : (as_far : Bool) → List Content → Geometry → Type 0
Mounts as_far contents g = (files : List (List ℕ)) → known contents ≡ Some files → mounted_by as_far files ≡ Ok g

-- Files hold no image: this is the first rule of a mount that they break, where all is known that they hold.
abbrev pub NotMounted : (as_far : Bool) → List Content → MountFault → Type 0
NotMounted as_far contents broken = (files : List (List ℕ)) → known contents ≡ Some files → mounted_by as_far files ≡ Err broken

-- The volume of this geometry in files: its slots are those that stand whole behind their headers, in their order. The slots of tracks that
-- the files lack have no bytes.
abbrev pub volume_in : Geometry → List Content → KnownVolume
volume_in g contents = record {
  geometry = g;
  slots = option_map (λ files. slots_in g.track_size (tracks_of g) (slot_bytes (map (held_part g) files))) (known contents);
  header = [];
  saves = 0;
}

-- these files lack so many tracks of the volume, and so many of their bytes are left out
abbrev pub IsReach : Geometry → List Content → Reach → Type 0
IsReach g contents reach =
    (files : List (List ℕ)) → known contents ≡ Some files → (reach.lacking ≡ tracks_lacking g files) × (reach.left_out ≡ bytes_left_out g files)

-- The files at these paths were opened, and no other file; and this is said of the volume that they hold.
pub record OfVolume (as_far : Bool) (paths : List (List ℕ)) (before now : List SourceFile) (P : KnownVolume → Type 0) : Type 0 where
  pub geometry : Geometry
  pub contents : List Content
  pub opens : OpensPaths paths contents before now
  pub mounts : Mounts as_far contents geometry
  pub so : P (volume_in geometry contents)

-- the same, and of how far the files go
pub record OfReach (as_far : Bool) (paths : List (List ℕ)) (before now : List SourceFile) (P : KnownVolume → Reach → Type 0) : Type 0 where
  pub geometry : Geometry
  pub contents : List Content
  pub opens : OpensPaths paths contents before now
  pub mounts : Mounts as_far contents geometry
  pub reach : Reach
  pub is_reach : IsReach geometry contents reach
  pub so : P (volume_in geometry contents) reach

-- a volume in files that were opened, as it is seen: what the files hold, in their order, and how many reads failed
pub record OpenedState : Type 0 where
  pub geometry : Geometry
  pub contents : List Content
  pub failures : ℕ
