-- What becomes of the slots of a volume of which a member is changed, or why it stays.
use Rattle.std.specs.Prelude.{ℕ, Bool, false, if◌then◌else◌, List, Result, Ok, Err}
use Rattle.ckd_track.specs.declared.geometries.Geometry.{Geometry}
use Rattle.volume_labels.specs.declared.fields.Extent.{Extent}
use Rattle.volume_contents.specs.Contents.{contents_of}
use Rattle.record_tracks.specs.Entries.{EntryContents}
use Rattle.member_changes.specs.declared.entries.EntryChange.{EntryChange}
use Rattle.member_changes.specs.declared.refusal.MemberRefusal.{MemberRefusal}
use Rattle.member_changes.specs.declared.refusal.MemberRefusal.TheVariants as refusal
use Rattle.member_changes.specs.Plans.{Plan, and_then, plan_of}
use Rattle.member_changes.specs.Confirms.{has_entries}
use Rattle.member_changes.specs.Libraries.{ReadDirectory, directory_on, library_of}
use Rattle.member_changes.specs.Places.{places_up_to, all_written}

-- The changed slots are kept where the directory, read again, has the entries of the plan.
abbrev pub reads_back : List EntryContents → Result ReadDirectory MemberRefusal → Bool
reads_back entries (Ok d) = has_entries entries d.bytes
reads_back entries (Err r) = false

abbrev pub confirmed : List Extent → List EntryContents → Geometry → (slots : List (List ℕ)) → Result (List (List ℕ)) MemberRefusal
confirmed extents entries g slots = if reads_back entries (directory_on extents g slots) then Ok slots else Err refusal.Unconfirmed

-- the blocks of the plan stand where those of the directory were; every other record, track and slot stays
abbrev pub planned_slots : List Extent → (last : ℕ) → Geometry → (slots : List (List ℕ)) → Plan → List (List ℕ)
planned_slots extents last g slots plan = all_written g (places_up_to extents g slots last) plan.blocks slots

abbrev pub with_plan : List Extent → (last : ℕ) → Geometry → (slots : List (List ℕ)) → Plan → Result (List (List ℕ)) MemberRefusal
with_plan extents last g slots plan = confirmed extents plan.entries g (planned_slots extents last g slots plan)

abbrev pub with_directory : EntryChange → List Extent → Geometry → (slots : List (List ℕ)) → ReadDirectory → Result (List (List ℕ)) MemberRefusal
with_directory change extents g slots d = and_then (plan_of change d.bytes) (with_plan extents d.last g slots)

-- the library with these extents, of whose directory an entry is changed
abbrev pub library_changed : EntryChange → Geometry → (slots : List (List ℕ)) → List Extent → Result (List (List ℕ)) MemberRefusal
library_changed change g slots extents = and_then (directory_on extents g slots) (with_directory change extents g slots)

-- The member of a library gets another name or is deleted in the blocks of the library's directory alone.
abbrev pub member_changed : (library : List ℕ) → EntryChange → Geometry → (slots : List (List ℕ)) → Result (List (List ℕ)) MemberRefusal
member_changed library change g slots = and_then (library_of (contents_of g slots) library) (library_changed change g slots)
