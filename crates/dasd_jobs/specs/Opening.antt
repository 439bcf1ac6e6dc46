-- How files are opened one after another, and what is known of their headers. No contract above cites this.
use Rattle.std.specs.Prelude.{◌≡◌, ℕ, ◌+◌, ◌-◌, ◌*◌, ◌<◌, ◌≤◌, Bool, if◌then◌else◌, List, [], ◌∷◌, ◌++◌, length, take, map, replicate, Some, Err}
use Rattle.ckd_track.specs.declared.geometries.Geometry.{Geometry}
use Rattle.ckd_image.specs.Header.{mount_of}
use Rattle.ckd_image.specs.Files.{HoldTracks}
use Rattle.ckd_image.specs.declared.fault.MountFault.{MountFault}
use Rattle.ckd_image.specs.declared.fault.MountFault.TheVariants.{Split, StoreFault}
use Rattle.dasd_jobs.specs.Causes.{mounting_fault}
use Rattle.dasd_jobs.specs.Lengths.{judged_length, last_made, slots_held, held_part}
use Rattle.dasd_jobs.specs.declared.faults.JobFault.{JobFault}
use Rattle.dasd_jobs.specs.declared.faults.JobFault.TheVariants.{Mount, Write, Store, InUse, Exists}
use Rattle.dasd_jobs.specs.declared.reasons.Head.{Head}
use Rattle.dasd_jobs.specs.Sources.{Content, SourceFile, OpensMaybe, with_source, known}

-- this is the header and the length of a file; of one that is shorter than a header only the length
abbrev pub IsHeadOf : Content → Head → Type 0
IsHeadOf content head = (bytes : List ℕ) → content ≡ Some bytes → (head.len ≡ length bytes) × (512 ≤ length bytes → head.header ≡ take 512 bytes)

-- a header with zeros behind it, as many bytes as its file
abbrev pub alone : Head → List ℕ
alone head = take head.len (head.header ++ replicate head.len 0)

-- a header and a length as if the file had all of the cylinders that it has a slot of
abbrev pub whole_head : Head → Head
whole_head head = record head { len = judged_length head.header head.len }

-- the headers as they are judged of files that are read in this way, as far as they go or not
abbrev pub judged : (as_far : Bool) → List Head → List Head
judged as_far heads = if as_far then last_made whole_head heads else heads

-- this many slots of a volume are whole in a file of this length
abbrev pub AreTracks : Geometry → Head → (tracks : ℕ) → Type 0
AreTracks g head tracks = tracks ≡ slots_held g head.len

-- how many bytes stand behind the slots of the last of several files
abbrev pub left_behind : Geometry → List Head → ℕ
left_behind g [] = 0
left_behind g (last ∷ []) = last.len - (512 + slots_held g last.len * g.track_size)
left_behind g (first ∷ second ∷ rest) = left_behind g (second ∷ rest)

-- files hold so many whole slots each, behind their headers
abbrev pub Lies : Geometry → List Content → (tracks : List ℕ) → Type 0
Lies g contents tracks = (files : List (List ℕ)) → known contents ≡ Some files → HoldTracks (held_part g) g.track_size (map Some files) tracks

-- one file more stands behind the others, and its header behind theirs
pub record AddsHead (content : Content) (contents_before contents : List Content) (heads_before heads : List Head) : Type 0 where
  pub head : Head
  pub file : contents ≡ contents_before ++ content ∷ []
  pub headed : heads ≡ heads_before ++ head ∷ []
  pub is_head : IsHeadOf content head

-- and it was opened by a path
pub record AddsFile (path : List ℕ) (contents_before contents : List Content) (heads_before heads : List Head) (before now : List SourceFile) : Type 0 where
  pub content : Content
  pub opened : now ≡ with_source before path content
  pub adds : AddsHead content contents_before contents heads_before heads

-- why no file more stands behind others: it is not opened, or its header can't be read, or there is no memory for it
abbrev pub NotAdded : JobFault → (path : List ℕ) → (before now : List SourceFile) → Type 0
NotAdded (Mount broken) path before now = ⊥
NotAdded Write path before now = ⊥
NotAdded Store path before now = ⊥
NotAdded InUse path before now = now ≡ before
NotAdded Exists path before now = now ≡ before
NotAdded f path before now = OpensMaybe path before now

-- or it was locked before, with others in front of it
abbrev pub NotLocked : JobFault → (in_front : ℕ) → (path : List ℕ) → (before now : List SourceFile) → Type 0
NotLocked (Mount broken) in_front path before now = (broken ≡ Split) × (0 < in_front) × (now ≡ before)
NotLocked f in_front path before now = NotAdded f path before now

-- why these files are not mounted: the first rule that they break, where their headers were read
abbrev pub IsBroken : MountFault → (files : List (List ℕ)) → Type 0
IsBroken StoreFault files = Unit {0}
IsBroken broken files = mount_of files ≡ Err broken

-- and what that is to a job
abbrev pub IsNoImage : JobFault → (files : List (List ℕ)) → Type 0
IsNoImage f files = (broken : MountFault) × (f ≡ mounting_fault broken) × IsBroken broken files
