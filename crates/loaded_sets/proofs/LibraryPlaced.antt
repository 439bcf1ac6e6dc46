-- The records of a library on a volume.
use Rattle.std.proofs.Common.{◌≡◌, ◌∙◌, ap, sym, ℕ, ◌≤◌, ◌<◌, List, [], ◌∷◌, length, map, arith, All, get_or, length-append, None, ◌++◌}
use Rattle.std.proofs.lemmas.List.{get_or-map, length-map}
use Rattle.std.proofs.lemmas.List.Elements.{All-map}
use Rattle.ckd_track.specs.declared.model.DriveModel.{DriveModel}
use Rattle.record_tracks.specs.Records.{end_of_file, GoesOn, RecordGoesOn}
use Rattle.record_tracks.proofs.Listed.{length-all, blocks_go}
use Rattle.record_tracks.specs.declared.blocks.Cut.{Cut}
use Rattle.record_tracks.specs.Blocks.{first_areas, rests_of, block_areas, AreBlocks}
use Rattle.record_tracks.specs.declared.libraries.NewMember.{NewMember}
use Rattle.record_tracks.specs.Library.{directory_areas, members_areas, member_areas, library_areas, MemberGoesOn}
use Rattle.record_tracks.specs.LibraryFaults.{library_fault}
use Rattle.record_tracks.specs.LibraryRead.{own_areas}
use Rattle.record_tracks.specs.MemberEntries.{directory_bytes}
use Rattle.loaded_sets.specs.declared.place_fault.PlaceFault.{PlaceFault}
use Rattle.loaded_sets.specs.declared.place_fault.PlaceFault.TheVariants as place
use Rattle.loaded_sets.specs.declared.plans.PlacedSet.{PlacedSet}
use Rattle.loaded_sets.specs.Volumes.{Labelled}
use Rattle.loaded_sets.specs.Sets.{areas, CanBePlaced}
use Rattle.loaded_sets.specs.Placed.{IsNotPlaced}
use Rattle.loaded_sets.specs.Faults.{placing_fault}
use Rattle.loaded_sets.specs.declared.libraries.NamedLibrary.{NamedLibrary}
use Rattle.loaded_sets.specs.LoadedLibraries.{IsSetOf}
use Rattle.loaded_sets.specs.LibraryParts.{HasBlocks, IsNotNamed}

-- the records of a library are some
some_records : (directory : List ℕ) (members : List NewMember) → 1 ≤ length (library_areas directory members)
some_records directory members = omega (
  arith,
  length-append (directory_areas directory) (end_of_file ∷ []),
  length-append (directory_areas directory ++ (end_of_file ∷ [])) (members_areas members),
)

-- they can be put onto a volume
pub can_be : (model : DriveModel) (p : PlacedSet) (directory : List ℕ) (members : List NewMember)
    → areas p ≡ library_areas directory members → All (RecordGoesOn model) p.records.now → p.last ≤ length p.records.now
    → CanBePlaced model p
can_be model p directory members is each last = record {
  each = each;
  some = omega (arith, length-all p.records.now, ap length is, some_records directory members);
  last = last;
}

-- they are its data set
pub set_of : (n : NamedLibrary) (model : DriveModel) (p : PlacedSet) (directory : List ℕ) → directory ≡ directory_bytes model n.library
    → p.name ≡ n.name → p.label ≡ n.label → areas p ≡ library_areas directory n.library.members.now → p.last ≡ length p.records.now
    → IsSetOf n.name n.label model n.library p
set_of n model p directory made name label is last =
    let own : areas p ≡ own_areas model n.library = is ∙ ap (λ (bytes : List ℕ). library_areas bytes n.library.members.now) made in
    record { name = name; label = label; records = own; last = last ∙ sym (length-all p.records.now) ∙ ap length own }

-- they have no place
pub not_named : (v : Labelled) (n : NamedLibrary) (p : PlacedSet) (slots : List (List ℕ)) → library_fault v.geometry.model n.library ≡ None
    → IsSetOf n.name n.label v.geometry.model n.library p → (f : PlaceFault) → IsNotPlaced f v p slots
    → IsNotNamed (placing_fault f) v n slots
not_named v n p slots sound is (place.Refused r) why = (sound, p, is, why)
not_named v n p slots sound is (place.Job f) why = why

-- blocks go on tracks, and so do the records of members that have them
blocks_go_on : (model : DriveModel) (cut : Cut) (bytes : List ℕ) → AreBlocks model cut bytes → All (GoesOn model) (block_areas cut bytes)
blocks_go_on model cut bytes each = All-map (GoesOn model) (first_areas cut) (rests_of cut bytes) (λ k d there. (each k d there).goes)

pub members_go : (model : DriveModel) (cut : Cut) (members : List NewMember) (files : List (List ℕ))
    → map member_areas members ≡ map (block_areas cut) files → All (HasBlocks model cut) files → All (MemberGoesOn model) members
members_go model cut members files are each k d there =
    let here : k < length files = omega (arith, length-map members member_areas, length-map files (block_areas cut), ap length are) in
    blocks_go model (get_or members k d).records.now (block_areas cut (get_or files k []))
    (cc (get_or-map member_areas members k d [] there, get_or-map (block_areas cut) files k [] [] here))
    (blocks_go_on model cut (get_or files k []) (each k [] here).blocks)
