-- The user data of entries one behind another: that of the next one, and what stands behind it.
use Rattle.std.proofs.Common.{◌≡◌, ◌∙◌, ap, sym, refl, ℕ, ◌+◌, ◌*◌, ◌≤◌, ◌<◌, List, [], ◌∷◌, ◌++◌, length, map, flat_map, take, drop}
use Rattle.std.proofs.Common.{get_or, false, arith, length-append}
use Rattle.std.proofs.lemmas.List.{drop_more, take_more, take_at, drop_at, map-append}
use Rattle.ckd_track.specs.declared.model.DriveModel.{DriveModel}
use Rattle.record_tracks.specs.declared.libraries.{MemberEntry.MemberEntry, NewLibrary.NewLibrary, MemberNote.MemberNote}
use Rattle.record_tracks.specs.Entries.{EntryContents}
use Rattle.record_tracks.specs.MemberEntries.{block_address, note_bytes, entry_notes, entry_user_data, entry_contents}

-- what stands where there is no entry
abbrev pub no_entry : MemberEntry
no_entry = record {
  name = [];
  member = 0;
  is_alias = false;
  notes = record { ref_ptr = (0, 0); now = [] };
  user_data = record { ref_ptr = (0, 0); now = [] };
}

module _ (model : DriveModel) (l : NewLibrary) where
  -- each note has four bytes
  pub length-notes : (member : ℕ) (notes : List MemberNote)
      → length (flat_map (λ n. note_bytes (block_address model l member n.block) n.count) notes) ≡ 4 * length notes
  length-notes member [] = refl
  length-notes member (n ∷ others) =
      let first = note_bytes (block_address model l member n.block) n.count in
      let rest = flat_map (λ (x : MemberNote). note_bytes (block_address model l member x.block) x.count) others in
      omega (arith, length-append first rest, length-notes member others)

  pub length-user_data : (e : MemberEntry) → length (entry_user_data model l e) ≡ 4 * length e.notes.now + length e.user_data.now
  length-user_data e = omega (arith, length-append (entry_notes model l e) e.user_data.now, length-notes e.member e.notes.now)

  module _ (entries : List MemberEntry) (k : ℕ) (there : k < length entries) where
    abbrev e : MemberEntry
    e = get_or entries k no_entry

    abbrev others : List ℕ
    others = flat_map (entry_user_data model l) (drop (k + 1) entries)

    pub next_first : flat_map (entry_user_data model l) (drop k entries) ≡ entry_user_data model l e ++ others
    next_first = ap (flat_map (entry_user_data model l)) (drop_more entries k no_entry there)

    pub next_size : 4 * length e.notes.now + length e.user_data.now
        ≤ length (flat_map (entry_user_data model l) (drop k entries))
    next_size = let own = entry_user_data model l e in omega (arith, ap length next_first, length-append own others, length-user_data e)

    pub next_own : (rest : List ℕ) (n : ℕ) → rest ≡ flat_map (entry_user_data model l) (drop k entries)
        → n ≡ 4 * length e.notes.now + length e.user_data.now → take n rest ≡ entry_user_data model l e
    next_own rest n is size = cc (next_first, take_at (entry_user_data model l e) others n (length-user_data e ∙ sym size))

    pub next_others : (rest : List ℕ) (n : ℕ) → rest ≡ flat_map (entry_user_data model l) (drop k entries)
        → n ≡ 4 * length e.notes.now + length e.user_data.now → drop n rest ≡ others
    next_others rest n is size = cc (next_first, drop_at (entry_user_data model l e) others n (length-user_data e ∙ sym size))

    pub one_more : (done : List EntryContents) (x : EntryContents) → done ≡ map (entry_contents model l) (take k entries)
        → x ≡ entry_contents model l e → done ++ x ∷ [] ≡ map (entry_contents model l) (take (k + 1) entries)
    one_more done x so_far is =
        let one = entry_contents model l in cc (take_more entries k no_entry there, map-append one (take k entries) (e ∷ []))
