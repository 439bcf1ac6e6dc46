-- What a change of a volume in files leaves and prints.
use Rattle.std.specs.Prelude.{◌≡◌, ◌⊎◌, ℕ, Bool, true, false, List, [], ◌∷◌, ◌++◌, if◌then◌else◌, codes, Option, Some, None, Result, Ok, Err, String}
use Rattle.std.specs.Global.{Global}
use Rattle.std.specs.String.{string_bytes}
use Rattle.std.specs.List.{concat, flat_map, position}
use Rattle.std.specs.Fmt.{decimal}
use Rattle.counted_io.specs.Streams.{Stream, Takes, TakesFront, NoneFailed, OneFailed}
use Rattle.ckd_track.specs.declared.geometries.Geometry.{Geometry}
use Rattle.ckd_image.specs.Image.{ImageState, HoldsImage}
use Rattle.dasd_extract.specs.Names.{Names, is_name}
use Rattle.dasd_jobs.specs.Back.{WritesBack}
use Rattle.ckd_track.specs.Model.{model_number_of}
use Rattle.dasd_jobs.specs.Sources.{SourceFile, ReadsWhole}
use Rattle.dasd_jobs.specs.Unopened.{NotRead}
use Rattle.dasd_jobs.specs.Written.{Replaced}
use Rattle.dasd_jobs.specs.declared.faults.JobFault.{JobFault}
use Rattle.dasd_jobs.specs.declared.faults.JobFault.TheVariants.{Write}
use Rattle.dasd_jobs.specs.declared.files.SavePlan.{SavePlan}
use Rattle.dasd_jobs.specs.declared.files.SavePlan.TheVariants.{Replaced as by_new, InPlace}
use Rattle.volume_labels.specs.declared.fields.Extent.{Extent}
use Rattle.volume_contents.specs.declared.blocks.Block.{Block}
use Rattle.volume_contents.specs.Contents.{Said, block_in, contents_of}
use Rattle.volume_contents.specs.Sets.{has_name, extents_behind}
use Rattle.volume_changes.specs.declared.refusal.ChangeRefusal.{ChangeRefusal}
use Rattle.volume_changes.specs.declared.refusal.ChangeRefusal.TheVariants.{NoName, NoDataSet}
use Rattle.volume_changes.specs.Names.{is_set_name}
use Rattle.volume_changes.specs.Volumes.{renamed}
use Rattle.volume_changes.specs.Deletions.{deleted}
use Rattle.changed_volumes.specs.declared.fault.ChangeFault.{ChangeFault}
use Rattle.changed_volumes.specs.declared.fault.ChangeFault.TheVariants as fault
use Rattle.changed_volumes.specs.Changes.{Changing, changing, IsSameImage, IsHindered}

-- how the files are saved: a new one takes the place of each, where that is asked, and else each keeps its place
abbrev pub plan_of : (replaces : Bool) → SavePlan
plan_of replaces = if replaces then by_new else InPlace

-- what is outside of a change: the files that were opened, those that were written, and what was printed
pub record Around : Type 0 where
  pub opened : List SourceFile
  pub written : List Replaced
  pub printed : Stream

-- the files at these paths were read whole, and no other was opened: they hold this image
pub record ReadsImage (paths : List (List ℕ)) (i : ImageState) (before now : List SourceFile) : Type 0 where
  pub holds : HoldsImage i.lasting.origins i
  pub whole : ReadsWhole paths i.lasting.origins before now

-- The volume in the files at these paths was read whole and changed, with this answer, and the files of it that changed were written: all of
-- them, or none.
pub record SavesChanged {A R : Type 0} (result : Result (Unit {0}) JobFault) (change : Changing A R) (answer : A) (paths : List (List ℕ))
    (opened_before opened : List SourceFile) (before now : List Replaced) : Type 0 where
  pub image : ImageState
  pub changed : ImageState
  pub reads : ReadsImage paths image opened_before opened
  pub same : IsSameImage image changed
  pub makes : change.makes image.geometry image.slots answer changed.slots
  pub saves : WritesBack result paths changed before now

-- the volume in the files is not changed, for this reason
pub record Refuses {A R : Type 0} (refusal : R) (change : Changing A R) (paths : List (List ℕ)) (before now : List SourceFile) : Type 0 where
  pub image : ImageState
  pub reads : ReadsImage paths image before now
  pub refused : change.refuses refusal image.geometry image.slots

-- the files are not read; or they are, and something hinders the change
abbrev pub Hinders : JobFault → (paths : List (List ℕ)) → (before now : List SourceFile) → Type 0
Hinders f paths before now = NotRead f paths before now ⊎ (IsHindered f × (i : ImageState) × ReadsImage paths i before now)

-- A volume in files is changed and saved; or it stays, and no file is written.
abbrev pub ChangesFiles : {A R : Type 0} → Result A (ChangeFault R) → Changing A R → (paths : List (List ℕ))
    → (opened_before opened : List SourceFile) → (before now : List Replaced) → Type 0
ChangesFiles (Ok answer) change paths opened_before opened before now =
    SavesChanged (Ok tt) change answer paths opened_before opened before now
ChangesFiles {A} (Err (fault.Save f)) change paths opened_before opened before now =
    (answer : A) × SavesChanged (Err f) change answer paths opened_before opened before now
ChangesFiles (Err (fault.Refused refusal)) change paths opened_before opened before now =
    Refuses refusal change paths opened_before opened × (now ≡ before)
ChangesFiles (Err (fault.Job f)) change paths opened_before opened before now = Hinders f paths opened_before opened × (now ≡ before)

-- The same, and the line or lines of the answer are printed; with a write fault it may be only their beginning, and a write or a flush has
-- failed. With every other fault nothing is printed.
abbrev pub TellsChange : {A B R : Type 0} → Result B (ChangeFault R) → Changing A R → (paths : List (List ℕ)) → (line : A → List ℕ)
    → (before now : Around) → Type 0
TellsChange {A} (Ok _) change paths line before now =
    (answer : A) × ChangesFiles (Ok answer) change paths before.opened now.opened before.written now.written
    × Takes before.printed now.printed (line answer) × NoneFailed before.printed now.printed
TellsChange {A} (Err f) change paths line before now =
    (ChangesFiles (Err f) change paths before.opened now.opened before.written now.written × (now.printed ≡ before.printed))
    ⊎ ((f ≡ fault.Job Write) × (answer : A) × ChangesFiles (Ok answer) change paths before.opened now.opened before.written now.written
    × TakesFront before.printed now.printed (line answer) × OneFailed before.printed now.printed)

-- what a rename prints
abbrev pub renamed_line : (old new : List ℕ) → List ℕ
renamed_line old new = concat (codes "renamed " ∷ old ∷ codes " to " ∷ new ∷ (10 ∷ []) ∷ [])

-- what a change of the label prints
abbrev pub relabelled_line : Geometry → List ℕ
relabelled_line g =
    concat (codes "relabelled " ∷ decimal (model_number_of g.model) ∷ codes " " ∷ decimal g.cylinders ∷ codes " cylinders" ∷ (10 ∷ []) ∷ [])

-- these texts are names: the old one may stand on a volume, and the new one may be given to a data set
pub record AreNames (old new old_name new_name : List ℕ) : Type 0 where
  pub may_be_given : is_set_name new ≡ true
  pub of_old : Names old old_name
  pub of_new : Names new new_name

-- why names are refused before a file is opened
abbrev pub NoNames : ChangeRefusal → (old new : List ℕ) → Type 0
NoNames NoName old new = is_set_name new ≡ false
NoNames NoDataSet old new = (is_set_name new ≡ true) × (is_name 44 old ≡ false)
NoNames refusal old new = ⊥

-- A data set of the volume in files gets another name; or the names are refused, and no file is opened or written and nothing printed.
abbrev pub RenamesSet : {A : Type 0} → Result A (ChangeFault ChangeRefusal) → (paths : List (List ℕ)) → (old new : List ℕ) → (before now : Around) → Type 0
RenamesSet result paths old new before now =
    ((refusal : ChangeRefusal) × (result ≡ Err (fault.Refused refusal)) × NoNames refusal old new × (now ≡ before))
    ⊎ ((old_name new_name : List ℕ) × AreNames old new old_name new_name
    × TellsChange result (changing (renamed old_name new_name)) paths (λ g. renamed_line old new) before now)

-- the first and the last track of an extent, each by its cylinder and head
abbrev pub run_text : Extent → List ℕ
run_text e = concat (
    decimal e.first.cylinder ∷ codes ":" ∷ decimal e.first.head ∷ codes "-" ∷ decimal e.last.cylinder ∷ codes ":" ∷ decimal e.last.head ∷ [])

-- an extent after another one
abbrev pub next_run : Extent → List ℕ
next_run e = codes "," ++ run_text e

-- the tracks that a data set had, in the order of its extents; no line if it had none
abbrev pub tracks_line : List Extent → List ℕ
tracks_line [] = []
tracks_line (e ∷ others) = concat (codes "its tracks were " ∷ run_text e ∷ flat_map next_run others ∷ (10 ∷ []) ∷ [])

-- what a deletion prints
abbrev pub deleted_text : (name : List ℕ) → List Extent → List ℕ
deleted_text name extents = concat (codes "deleted " ∷ name ∷ (10 ∷ []) ∷ tracks_line extents ∷ [])

-- the extents of the first data set of a name among control blocks
abbrev pub extents_at : List Block → Option ℕ → List Extent
extents_at blocks None = []
extents_at blocks (Some i) = extents_behind blocks (block_in blocks i)

abbrev pub extents_of : Said → (name : List ℕ) → List Extent
extents_of s name = extents_at s.blocks (position (has_name name) s.blocks)

-- the data set of a name, in EBCDIC, is deleted, and the answer says so, and where it was on the volume as it was read
abbrev pub deleting : (name of_set : List ℕ) → Changing (String Global) ChangeRefusal
deleting name of_set = record {
  makes = λ g before text now. (deleted of_set g before ≡ Ok now)
      × (string_bytes text ≡ deleted_text name (extents_of (contents_of g before) of_set));
  refuses = λ r g slots. deleted of_set g slots ≡ Err r;
}

-- A data set of the volume in files is deleted; or no volume has the name, and no file is opened or written and nothing printed.
abbrev pub DeletesSet : {A : Type 0} → Result A (ChangeFault ChangeRefusal) → (paths : List (List ℕ)) → (name : List ℕ) → (before now : Around) → Type 0
DeletesSet result paths name before now =
    ((result ≡ Err (fault.Refused NoDataSet)) × (is_name 44 name ≡ false) × (now ≡ before))
    ⊎ ((of_set : List ℕ) × Names name of_set × TellsChange result (deleting name of_set) paths string_bytes before now)
