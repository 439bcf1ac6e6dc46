-- A library is read by its own directory.
use Rattle.std.proofs.Common.{◌≡◌, ◌∙◌, ap, sym, refl, subst, ℕ, zero, suc, ◌+◌, ◌*◌, ◌/◌, ◌%◌, ◌≤◌, ◌<◌, List, [], ◌∷◌, ◌++◌, length, map}
use Rattle.std.proofs.Common.{flat_map, take, drop, get_or, slice_index, arith, All, append_assoc, append-nil, length-append}
use Rattle.std.specs.List.{concat, range_with_len}
use Rattle.std.proofs.lemmas.List.{take_at, drop_at, length-replicate, length-take-le, get_or_append_left, Concat.get_or-flat_map}
use Rattle.std.proofs.lemmas.List.Elements.{All-nil, All-cons, All-head, All-tail, All-drop}
use Rattle.std.proofs.lemmas.List.Folds.{flat_map-map}
use Rattle.ckd_track.specs.declared.{model.DriveModel.DriveModel, geometries.Geometry.Geometry}
use Rattle.volume_labels.specs.declared.fields.{Extent.Extent, RelativeAddress.RelativeAddress}
use Rattle.volume_labels.specs.Fields.{number_at, relative_address_at}
use Rattle.dasd_extract.specs.Walk.{source_written}
use Rattle.record_tracks.specs.MemberEntries.{blank_directory, blank_areas, block_address, note_bytes, entry_notes, entry_user_data}
use Rattle.record_tracks.specs.{MemberEntries.directory_entries, MemberEntries.directory_bytes, declared.libraries.MemberEntry.MemberEntry}
use Rattle.record_tracks.specs.{Records.Areas, Directory.going_in, Directory.blocks_of, Directory.left_behind, Directory.behind_block}
use Rattle.record_tracks.specs.{ReadBack.ended_by_file, declared.libraries.NewLibrary.NewLibrary, declared.libraries.MemberNote.MemberNote}
use Rattle.record_tracks.specs.{Entries.all_entries, DirectoryFaults.AreEntries, Addresses.address_of, Placed.Leads}
use Rattle.record_tracks.specs.Library.{directory_area, directory_areas, blocks_of_member, first_record, MemberGoesOn}
use Rattle.record_tracks.specs.LibraryRead.{HasRecords, own_areas, IsReadFrom, IsLibraryRead, directory_end, own_directory_end, HasEntries}
use Rattle.record_tracks.proofs.{Going.IsShort, Going.entries_short, Members.same_library, Members.directory_read, Members.members_read}
use Rattle.record_tracks.proofs.{DirectoryReading.length-block, DirectoryReading.read_back, Parted.length-notes, Standing.same_address}
use Rattle.dasd_extract.specs.Members as members
use Rattle.record_tracks.specs.ReadBack as tracks
use Rattle.record_tracks.specs.Directory as blocks

-- a block of a directory has 264 bytes
abbrev IsWhole : List ℕ → Type 0
IsWhole b = length b ≡ 264

abbrev area_in : List ℕ → Areas
area_in b = record { key_area = take 8 b; data_area = drop 8 b }

length-whole : (bs : List (List ℕ)) → All IsWhole bs → length (concat bs) ≡ length bs * 264
length-whole [] each = refl
length-whole (b ∷ bs) each =
    omega (arith, length-append b (concat bs), All-head IsWhole b bs each, length-whole bs (All-tail IsWhole b bs each))

-- blocks one behind another are cut into these blocks
cut_again : (bs : List (List ℕ)) (front : List ℕ) (j : ℕ) → All IsWhole bs → length front ≡ j * 264
    → map (directory_area (front ++ concat bs)) (range_with_len j (length bs)) ≡ map area_in bs
cut_again [] front j each at = refl
cut_again (b ∷ bs) front j each at =
    let whole = All-head IsWhole b bs each in
    let this : take 264 (drop (j * 264) (front ++ (b ++ concat bs))) ≡ b =
    cc (drop_at front (b ++ concat bs) (j * 264) at, take_at b (concat bs) 264 whole) in
    let others = cut_again bs (front ++ b) (j + 1) (All-tail IsWhole b bs each) (omega (arith, length-append front b, whole)) in
    ap (λ (x : List ℕ). area_in x ∷ map (directory_area (front ++ (b ++ concat bs))) (range_with_len (j + 1) (length bs))) this
    ∙ ap (λ (xs : List ℕ). area_in b ∷ map (directory_area xs) (range_with_len (j + 1) (length bs)))
    (sym (append_assoc front b (concat bs))) ∙ ap (λ (xs : List Areas). area_in b ∷ xs) others

all_whole : (left : List (List ℕ)) (n : ℕ) → All IsShort left → All IsWhole (blocks_of left n)
unfolding blocks_of
all_whole left zero short = All-nil IsWhole
all_whole left (suc n) short = All-cons IsWhole (blocks.block_of left) (blocks_of (behind_block left) n) (length-block left short)
    (all_whole (behind_block left) n (All-drop IsShort (going_in 2 left) left short))

length-blocks : (left : List (List ℕ)) (n : ℕ) → length (blocks_of left n) ≡ n
unfolding blocks_of
length-blocks left zero = refl
length-blocks left (suc n) = ap suc (length-blocks (behind_block left) n)

-- A library whose directory can have the entries.
module _ (model : DriveModel) (l : NewLibrary) (goes : All (MemberGoesOn model) l.members.now)
    (are : AreEntries (directory_entries model l)) where
  abbrev bs : List (List ℕ)
  bs = blocks_of (all_entries (directory_entries model l)) l.directory_blocks

  whole : All IsWhole bs
  whole = all_whole (all_entries (directory_entries model l)) l.directory_blocks (entries_short (directory_entries model l) are.each)

  length-bytes : length (directory_bytes model l) ≡ l.directory_blocks * 264
  length-bytes = cc (length-whole bs whole, length-blocks (all_entries (directory_entries model l)) l.directory_blocks)

  block_count : length (directory_bytes model l) / 264 ≡ l.directory_blocks
  block_count = omega (arith, length-bytes)

  cut : directory_areas (directory_bytes model l) ≡ map area_in bs
  cut =
      let n : length (directory_bytes model l) / 264 ≡ length bs =
      block_count ∙ sym (length-blocks (all_entries (directory_entries model l)) l.directory_blocks) in
      cc (cut_again bs [] 0 whole refl)

  data_is : tracks.data_of (directory_areas (directory_bytes model l)) ≡ blocks.data_of bs
  data_is = cc (cut, flat_map-map (λ (a : Areas). a.data_area) area_in bs)

  -- records stand where they would with a directory of zeros
  same : (k : ℕ) → address_of model (own_areas model l) k ≡ address_of model (blank_areas l) k
  same k = same_address model (k + 1) (own_areas model l) (blank_areas l) 0 k
      (same_library (directory_bytes model l) (blank_directory l) l.members.now
      (length-bytes ∙ sym (length-replicate (l.directory_blocks * 264) 0)))

  pub own_entries : left_behind (all_entries (directory_entries model l)) l.directory_blocks ≡ []
      → (g : Geometry) (extents : List Extent) (slots : List (List ℕ)) → HasRecords model (own_areas model l) g extents slots
      → own_directory_end model l < 512 → HasEntries model l (source_written (members.directory extents) g slots)
  own_entries room g extents slots has within =
      let end : directory_end model (directory_bytes model l) l.members.now ≡ own_directory_end model l =
      cc (block_count, same l.directory_blocks) in
      let read = directory_read model (directory_bytes model l) l.members.now goes g extents slots has (omega arith) in record {
        entries = cc (data_is, append-nil (blocks.data_of bs), read_back (directory_entries model l) l.directory_blocks are.each room []);
        stop = cc;
      }

  -- a block of a member stands there
  own_address : (member k : ℕ)
      → address_of model (own_areas model l) (first_record (length (directory_bytes model l) / 264) l.members.now member + k)
      ≡ block_address model l member k
  own_address member k = cc (block_count, same (first_record l.directory_blocks l.members.now member + k))

  pub own_member : (member k : ℕ) → member < length l.members.now → k ≤ length (blocks_of_member l.members.now member)
      → IsReadFrom model l (block_address model l member k) member k
  own_member member k there few form text g extents slots most has within written =
      let blocks = blocks_of_member l.members.now member in
      let track : RelativeAddress → ℕ = λ a. a.track in
      let start = own_address member k in
      let end = own_address member (length blocks) in
      cc (members_read model (directory_bytes model l) l.members.now goes form text member k there few g extents slots has most
      (omega (arith, ap track start, ap track end)) written)

-- An address in the user data of an entry is that of its block.
module _ (model : DriveModel) (l : NewLibrary) (e : MemberEntry) (j : ℕ) (d : MemberNote) (there : j < length e.notes.now) where
  abbrev bytes_of_note : MemberNote → List ℕ
  bytes_of_note n = note_bytes (block_address model l e.member n.block) n.count

  byte_at : (i : ℕ) → i < 4 → slice_index (entry_user_data model l e) (4 * j + i) ≡ get_or (bytes_of_note (get_or e.notes.now j d)) i 0
  byte_at i within =
      let notes = e.notes.now in
      let before : length (flat_map bytes_of_note (take j notes)) ≡ 4 * j =
      cc (length-notes model l e.member (take j notes), length-take-le j notes (omega arith)) in
      let all = length-notes model l e.member notes in
      get_or_append_left (entry_notes model l e) e.user_data.now 0 (4 * j + i) (omega arith)
      ∙ ap (λ (n : ℕ). get_or (flat_map bytes_of_note notes) (n + i) 0) (sym before)
      ∙ get_or-flat_map bytes_of_note notes j i d 0 there (omega arith)

  pub note_address : relative_address_at (entry_user_data model l e) (4 * j) ≡ block_address model l e.member (get_or e.notes.now j d).block
  note_address =
      let a = block_address model l e.member (get_or e.notes.now j d).block in
      let bytes = entry_user_data model l e in
      let none : 4 * j ≡ 4 * j + 0 = omega arith in
      let high : slice_index bytes (4 * j) ≡ a.track / 256 = cc (byte_at 0 (omega arith)) in
      let low : slice_index bytes (4 * j + 1) ≡ a.track % 256 = byte_at 1 (omega arith) in
      let number : slice_index bytes (4 * j + 2) ≡ a.number = byte_at 2 (omega arith) in
      let track : number_at bytes (4 * j) ≡ a.track = omega arith in
      ap (λ (t : ℕ). record a { track = t; number = slice_index bytes (4 * j + 2) }) track ∙ ap (λ (n : ℕ). record a { number = n }) number

pub own_read : (model : DriveModel) (l : NewLibrary) → All (MemberGoesOn model) l.members.now → All (Leads l) l.entries.now
    → AreEntries (directory_entries model l) → left_behind (all_entries (directory_entries model l)) l.directory_blocks ≡ []
    → IsLibraryRead model l
own_read model l goes lead are room = record {
  directory = own_entries model l goes are room;
  members = λ k d there.
      let leads = lead k d there in own_member model l goes are (get_or l.entries.now k d).member 0 leads.member (omega arith);
  notes = λ k d there j n here.
      let e = get_or l.entries.now k d in
      let leads = lead k d there in
      let note = get_or e.notes.now j n in
      subst (λ (a : RelativeAddress). IsReadFrom model l a e.member note.block) (sym (note_address model l e j n here))
      (own_member model l goes are e.member note.block leads.member (omega (arith, leads.notes j n here)));
}
