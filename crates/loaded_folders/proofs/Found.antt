-- A library of a volume that is found and read, or is not.
use Rattle.std.proofs.Common.{◌≡◌, ◌∙◌, ap, sym, subst, ℕ, List, [], Result, Ok, Err, IfOk, IfErr}
use Rattle.std.specs.List.{position}
use Rattle.ckd_track.specs.declared.geometries.Geometry.{Geometry}
use Rattle.volume_labels.specs.declared.blocks.DataSetBlock.{DataSetBlock}
use Rattle.volume_labels.specs.declared.fields.Extent.{Extent}
use Rattle.volume_contents.specs.declared.blocks.Block.{Block}
use Rattle.volume_contents.specs.declared.sets.DataSet.{DataSet}
use Rattle.volume_contents.specs.Contents.{contents_of}
use Rattle.volume_contents.specs.Sets.{DataSetOf, extents_behind, has_name}
use Rattle.loaded_sets.specs.declared.place_fault.PlaceFault.{PlaceFault}
use Rattle.loaded_sets.specs.declared.place_fault.PlaceFault.TheVariants as place
use Rattle.loaded_sets.specs.Volumes.{Labelled, SaysOf, IsUnfit, all_findings}
use Rattle.loaded_sets.proofs.Fits.{fit}
use Rattle.loaded_sets.specs.declared.contents.KeptLabel.{KeptLabel}
use Rattle.loaded_folders.specs.declared.added.OldLibrary.{OldLibrary}
use Rattle.loaded_folders.specs.declared.old.LibrarySet.{LibrarySet}
use Rattle.loaded_folders.specs.Faults.{NewMemberFault}
use Rattle.changed_volumes.specs.declared.fault.ChangeFault.TheVariants as fault
use Rattle.loaded_folders.specs.declared.member_fault.NewMemberRefusal.TheVariants as refusal
use Rattle.loaded_folders.specs.Faults.{placing_fault}
use Rattle.loaded_folders.specs.Libraries.{found_library, library_block, library_unless_unfit, kept_in, label_in, IsReadOf, IsOld}
use Rattle.loaded_folders.specs.Libraries.{IsNotRead}
use Rattle.loaded_folders.specs.MemberParts.{IsNoLibrary, IsLibrarySet, IsNotReadIn}

-- what is known where a call went well, or failed
pub if_ok : {A E : Type 0} (r : Result A E) (P Q : A → Type 0) → ((a : A) → P a → Q a) → IfOk r P → IfOk r Q
if_ok (Ok a) P Q more is = more a is
if_ok (Err e) P Q more is = tt

pub if_err : {A E : Type 0} (r : Result A E) (P Q : E → Type 0) → ((e : E) → P e → Q e) → IfErr r P → IfErr r Q
if_err (Ok a) P Q more is = tt
if_err (Err e) P Q more is = more e is

-- a volume onto which nothing is put has no library that gets a member
pub unfit : (g : Geometry) (slots : List (List ℕ)) (name : List ℕ) (f : PlaceFault) → IsUnfit f g (contents_of g slots)
    → IsNotRead (placing_fault f) name g slots
unfit g slots name (place.Refused r) why = ap (library_unless_unfit name (contents_of g slots).blocks) why
unfit g slots name (place.Job f) why = why

module _ (g : Geometry) (slots : List (List ℕ)) (v : Labelled) (says : SaysOf g (contents_of g slots) v) where
  module _ (nothing : all_findings g (contents_of g slots) ≡ []) (name : List ℕ) where
    found : found_library g name (contents_of g slots) ≡ library_block v.blocks (position (has_name name) v.blocks)
    found =
        ap (library_unless_unfit name (contents_of g slots).blocks) (fit g (contents_of g slots) v says nothing)
        ∙ ap (λ (b : List Block). library_block b (position (has_name name) b)) says.blocks

    pub no_library : (f : NewMemberFault) → IsNoLibrary f v.blocks name → IsNotRead f name g slots
    no_library (fault.Refused refusal.NoDataSet) why = found ∙ why
    no_library (fault.Refused refusal.NotPartitioned) why = found ∙ why
    no_library (fault.Refused refusal.NoName) why = elim why [ ]
    no_library (fault.Refused refusal.NoMemberName) why = elim why [ ]
    no_library (fault.Refused (refusal.Volume r)) why = elim why [ ]
    no_library (fault.Refused (refusal.Read r)) why = elim why [ ]
    no_library (fault.Refused refusal.NameTaken) why = elim why [ ]
    no_library (fault.Refused (refusal.NoteList n)) why = elim why [ ]
    no_library (fault.Refused (refusal.Content r)) why = elim why [ ]
    no_library (fault.Refused (refusal.Deletion r)) why = elim why [ ]
    no_library (fault.Refused (refusal.Load r)) why = elim why [ ]
    no_library (fault.Job f) why = why
    no_library (fault.Save f) why = elim why [ ]

    module _ (set : DataSet) (b : Block) (is : library_block v.blocks (position (has_name name) v.blocks) ≡ Ok b)
        (of : DataSetOf v.blocks b set) where
      at : set.extents.items ≡ extents_behind (contents_of g slots).blocks b
      at = of.extents ∙ ap (λ (l : List Block). extents_behind l b) (sym says.blocks)

      read_so : (kept : KeptLabel) → kept ≡ kept_in v.geometry b set.extents.items → (old : OldLibrary)
          → IsReadOf set.block kept set.extents.items g slots old → IsOld name g slots old
      read_so kept keeps old read = record {
        block = b;
        found = found ∙ is;
        read = subst (λ (e : List Extent). IsReadOf (label_in b) (kept_in g b e) e g slots old) at
            (subst (λ (d : DataSetBlock). IsReadOf d (kept_in g b set.extents.items) set.extents.items g slots old) of.block
            (subst (λ (k : KeptLabel). IsReadOf set.block k set.extents.items g slots old)
            (keeps ∙ ap (λ (h : Geometry). kept_in h b set.extents.items) says.geometry) read));
      }

      unread : (f : NewMemberFault) → IsNotReadIn f set.extents.items g slots → IsNotRead f name g slots
      unread (fault.Refused (refusal.Read f)) why = record {
        block = b;
        found = found ∙ is;
        broken = subst (λ (e : List Extent). IsNotReadIn (fault.Refused (refusal.Read f)) e g slots) at why;
      }
      unread (fault.Refused refusal.NoDataSet) why = elim why [ ]
      unread (fault.Refused refusal.NotPartitioned) why = elim why [ ]
      unread (fault.Refused refusal.NoName) why = elim why [ ]
      unread (fault.Refused refusal.NoMemberName) why = elim why [ ]
      unread (fault.Refused (refusal.Volume r)) why = elim why [ ]
      unread (fault.Refused refusal.NameTaken) why = elim why [ ]
      unread (fault.Refused (refusal.NoteList n)) why = elim why [ ]
      unread (fault.Refused (refusal.Content r)) why = elim why [ ]
      unread (fault.Refused (refusal.Deletion r)) why = elim why [ ]
      unread (fault.Refused (refusal.Load r)) why = elim why [ ]
      unread (fault.Job f) why = why
      unread (fault.Save f) why = elim why [ ]

    pub old_read : (l : LibrarySet) → IsLibrarySet v.geometry v.blocks name l → (old : OldLibrary)
        → IsReadOf l.set.block l.kept l.set.extents.items g slots old → IsOld name g slots old
    old_read l (b, is, of, keeps) old read = read_so l.set b is of l.kept keeps old read

    pub old_unread : (l : LibrarySet) → IsLibrarySet v.geometry v.blocks name l → (f : NewMemberFault)
        → IsNotReadIn f l.set.extents.items g slots → IsNotRead f name g slots
    old_unread l (b, is, of, keeps) f why = unread l.set b is of f why
