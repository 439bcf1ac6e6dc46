-- A library on a volume is read: its directory, and the bytes of its members.
use Rattle.std.proofs.Common.{◌≡◌, ap, sym, refl, subst, ℕ, zero, suc, ◌+◌, ◌<◌, List, [], ◌∷◌, length, map, get_or, flat_map, arith}
use Rattle.std.proofs.Common.{All, Result, Ok, Err, IfOk, IfErr, inr}
use Rattle.std.proofs.Math.ListN as at
use Rattle.std.proofs.lemmas.List.Elements.{All-nil, All-head, All-tail}
use Rattle.ckd_track.specs.declared.model.DriveModel.{DriveModel}
use Rattle.volume_labels.specs.declared.fields.Extent.{Extent}
use Rattle.dasd_extract.specs.Walk.{wanted, source_written}
use Rattle.record_tracks.specs.Records.{Areas}
use Rattle.record_tracks.specs.Tracks.{Takes}
use Rattle.record_tracks.specs.ReadBack.{IsLoaded, IsWrittenAs, ended_by_file}
use Rattle.record_tracks.specs.declared.blocks.Cut.{Cut}
use Rattle.record_tracks.specs.Blocks.{block_areas, IsBlock}
use Rattle.record_tracks.specs.Extracted.{form_of}
use Rattle.record_tracks.proofs.Rests.{none_left}
use Rattle.record_tracks.proofs.Texts.{text_of, blocks_text, have_texts, IsByte}
use Rattle.record_tracks.specs.Entries.{entry_read}
use Rattle.record_tracks.specs.declared.libraries.MemberEntry.{MemberEntry}
use Rattle.record_tracks.specs.declared.libraries.NewLibrary.{NewLibrary}
use Rattle.record_tracks.specs.Library.{blocks_of_member}
use Rattle.record_tracks.specs.MemberEntries.{block_address, entry_contents}
use Rattle.record_tracks.specs.LibraryRead.{own_areas, HasRecords, IsReadFrom}
use Rattle.volume_contents.specs.Contents.{contents_of, block_in}
use Rattle.volume_contents.specs.Sets.{extents_behind}
use Rattle.loaded_sets.specs.declared.plans.SetLabel.{SetLabel}
use Rattle.loaded_sets.specs.Volumes.{Labelled}
use Rattle.loaded_sets.specs.Faults.{LoadFault}
use Rattle.changed_volumes.specs.declared.fault.ChangeFault.TheVariants as fault
use Rattle.loaded_sets.specs.Contents.{label_of}
use Rattle.loaded_sets.specs.declared.libraries.LoadedLibrary.{LoadedLibrary}
use Rattle.loaded_sets.specs.declared.libraries.NamedLibrary.{NamedLibrary}
use Rattle.loaded_sets.specs.Members.{MemberBlocks, fitting_members}
use Rattle.loaded_sets.specs.LoadedLibraries.{IsLibraryOf, GetsRecords, GetsLibrary, IsMemberRead, HasNone}
use Rattle.loaded_sets.proofs.PlacedRead.{first_loaded}
use Rattle.loaded_sets.specs.LibraryParts.{HasBlocks, IsNamed, IsNotNamed, IsSet, IsNotSet}

-- what holds of each element and of the one behind them holds of the one of any number
at_any : (P : List ℕ → Type 0) (xs : List (List ℕ)) (i : ℕ) → All P xs → P [] → P (get_or xs i [])
at_any P [] i each none = none
at_any P (x ∷ xs) zero each none = All-head P x xs each
at_any P (x ∷ xs) (suc i) each none = at_any P xs i (All-tail P x xs each) none

-- a member without bytes has no blocks
no_blocks : (cut : Cut) → block_areas cut [] ≡ []
no_blocks cut = ap (map _) (none_left cut 0 [] (omega arith))

nothing : (model : DriveModel) (cut : Cut) → HasBlocks model cut []
nothing model cut = record {
  blocks = subst (All (IsBlock model cut)) (sym (none_left cut 0 [] (omega arith))) (All-nil (IsBlock model cut));
  below = All-nil IsByte;
}

module _ (v : Labelled) (library : LoadedLibrary) (b : MemberBlocks) (l : NewLibrary) (is : IsLibraryOf library b l) where
  abbrev model : DriveModel
  model = v.geometry.model

  module _ (sound : All (HasBlocks v.geometry.model b.cut) b.members) (before : List (List ℕ)) (tracks : ℕ) (now : List (List ℕ)) where
    module _ (gets : GetsRecords v library.name (label_of library.form library.kept b.layout) l before tracks now) where
      abbrev found : List Extent
      found = extents_behind (contents_of v.geometry now).blocks (block_in (contents_of v.geometry now).blocks gets.gets.place)

      has : HasRecords v.geometry.model (own_areas v.geometry.model l) v.geometry found now
      has = record {
        same = refl;
        tracks = gets.gets.gets.room.used;
        takes = subst (λ (a : List Areas). Takes v.geometry.model a gets.gets.gets.room.used) gets.is.records gets.gets.gets.room.takes;
        loaded = subst (λ (a : List Areas). IsLoaded v.geometry found now a gets.gets.gets.room.used) gets.is.records
            (first_loaded v gets.placed before tracks now gets.gets);
      }

      member_read : (e : MemberEntry) → IsReadFrom v.geometry.model l (entry_read (entry_contents v.geometry.model l e)).address e.member 0
          → IsMemberRead v.geometry found now b l e
      member_read e from most within =
          let bytes = get_or b.members e.member [] in
          let its = at_any (HasBlocks v.geometry.model b.cut) b.members e.member sound (nothing v.geometry.model b.cut) in
          let start = (entry_read (entry_contents v.geometry.model l e)).address in
          let are : blocks_of_member l.members.now e.member ≡ block_areas b.cut bytes =
          cc (no_blocks b.cut, at.get_or-map (block_areas b.cut) b.members e.member []) in
          let end = (block_address v.geometry.model l e.member (length (block_areas b.cut bytes))).track in
          let read = subst (λ (blocks : List Areas).
          (block_address v.geometry.model l e.member (length blocks)).track < start.track + most
          → All (IsWrittenAs (form_of b.cut) (text_of b.cut)) blocks
          → source_written (wanted (form_of b.cut) found start most) v.geometry now
          ≡ ended_by_file (flat_map (text_of b.cut) blocks) (block_address v.geometry.model l e.member (length blocks)).track) are
          (from (form_of b.cut) (text_of b.cut) v.geometry found now most has) in
          let one = read within (have_texts v.geometry.model b.cut bytes its.blocks) in
          cc (blocks_text v.geometry.model b.cut bytes its.below its.blocks)

      pub gets_library : GetsLibrary v library b before tracks now
      gets_library = record {
        made = l;
        is = is;
        records = gets;
        extents = found;
        found = refl;
        has = has;
        directory = gets.read.directory v.geometry found now has;
        members = subst (All (IsMemberRead v.geometry found now b l)) is.entries
            (λ k d there. member_read (get_or l.entries.now k d) (gets.read.members k d there));
      }

-- the library that the code has gets its records, or does not
module _ (v : Labelled) (library : LoadedLibrary) (b : MemberBlocks) (n : NamedLibrary) (name : n.name ≡ library.name) where
  module _ (label : n.label ≡ label_of library.form library.kept b.layout) (is : IsLibraryOf library b n.library)
      (slots : List (List ℕ)) where
    module _ (fit : fitting_members v.geometry.model library.form.key_length b ≡ Ok b.members) where
      renamed : (tracks : ℕ) (now : List (List ℕ)) → IsNamed v n slots tracks now
          → GetsRecords v library.name (label_of library.form library.kept b.layout) n.library slots tracks now
      renamed tracks now gets = subst (λ (its : SetLabel). GetsRecords v library.name its n.library slots tracks now) label
          (subst (λ (its : List ℕ). GetsRecords v its n.label n.library slots tracks now) name gets)

      pub is_set : All (HasBlocks v.geometry.model b.cut) b.members → (now : List (List ℕ)) (r : Result ℕ LoadFault)
          → IfOk r (λ tracks. IsNamed v n slots tracks now) → IfOk r (λ tracks. IsSet v library b slots tracks now)
      is_set sound now (Ok tracks) gets = (fit, gets_library v library b n.library is sound slots tracks now (renamed tracks now gets))
      is_set sound now (Err f) gets = tt

      not_set : (f : LoadFault) → IsNotNamed f v n slots → IsNotSet f v library b slots
      not_set (fault.Refused r) why = inr (
        n.library,
        fit,
        is,
        subst (λ (its : SetLabel). HasNone r v library.name its n.library slots) label
            (subst (λ (its : List ℕ). HasNone r v its n.label n.library slots) name why),
      )
      not_set (fault.Job f) why = why
      not_set (fault.Save f) why = why

      pub is_not_set : (r : Result ℕ LoadFault) → IfErr r (λ f. IsNotNamed f v n slots) → IfErr r (λ f. IsNotSet f v library b slots)
      is_not_set (Ok tracks) why = tt
      is_not_set (Err f) why = not_set f why
