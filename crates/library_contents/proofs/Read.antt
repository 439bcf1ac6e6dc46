-- The entries of a library that are read one after another.
use Rattle.std.proofs.Common.{ℕ, ◌+◌, ◌<◌, ◌≤◌, ◌≡◌, ◌∙◌, List, [], ◌∷◌, ◌++◌, length, map, take, drop, get_or, Some, Result, Ok}
use Rattle.std.proofs.Common.{Err, ap, sym, refl, subst, append_assoc, append-nil, position}
use Rattle.std.proofs.lemmas.List.{map-append, take_more, drop_more, drop_all}
use Rattle.volume_labels.specs.declared.fields.Extent.{Extent}
use Rattle.volume_labels.specs.declared.fields.RelativeAddress.{RelativeAddress}
use Rattle.dasd_volumes.specs.Reading.{KnownVolume}
use Rattle.library_contents.specs.declared.contents.ReadEntry.{ReadEntry}
use Rattle.library_contents.specs.declared.contents.LibraryReadFault.{LibraryReadFault}
use Rattle.library_contents.specs.declared.contents.LibraryReadFault.TheVariants.{Volume, Directory, Member, ShortUserData, NoBlock}
use Rattle.library_contents.specs.declared.directories.PlacedEntry.{PlacedEntry}
use Rattle.library_contents.specs.declared.entries.Numbered.{Numbered}
use Rattle.library_contents.specs.Members.{Library, same_address, with_start, starts_from, starts_of}
use Rattle.library_contents.specs.Entries.{EntryRead, said_by, entry_read, and_entries, entries_read, GivesEntry, ReadsEntry}
use Rattle.library_contents.specs.Libraries.{numbers_in, member_of, IsFault}
use Rattle.library_contents.proofs.Starts.{more_starts, no_starts, stays_in}

-- entries before those of a list, if there is one
abbrev pub after_these : List EntryRead → Result (List EntryRead) LibraryReadFault → Result (List EntryRead) LibraryReadFault
after_these these (Ok more) = Ok (these ++ more)
after_these these (Err fault) = Err fault

none_before : (r : Result (List EntryRead) LibraryReadFault) → r ≡ after_these [] r
none_before (Ok more) = refl
none_before (Err fault) = refl

one_before : (these : List EntryRead) (e : EntryRead) (more : Result (List EntryRead) LibraryReadFault)
    → after_these these (and_entries (Ok e) more) ≡ after_these (these ++ e ∷ []) more
one_before these e (Ok more) = ap Ok (sym (append_assoc these (e ∷ []) more))
one_before these e (Err fault) = refl

module _ (l : Library) (bytes : List ℕ) where
  more_entries : (number : ℕ) (p : PlacedEntry) (placed : List PlacedEntry) → entries_read l bytes number (p ∷ placed)
      ≡ and_entries (entry_read l bytes number p) (entries_read l bytes (number + 1) placed)
  unfolding entries_read
  more_entries number p placed = refl

  no_entries : (number : ℕ) → entries_read l bytes number [] ≡ Ok []
  unfolding entries_read
  no_entries number = refl

  pub none_read : (placed : List PlacedEntry) (entries : List ReadEntry) → entries ≡ []
      → entries_read l bytes 1 placed ≡ after_these (map said_by entries) (entries_read l bytes (0 + 1) (drop 0 placed))
  none_read placed entries are = cc (none_before (entries_read l bytes 1 placed))

  module _ (placed : List PlacedEntry) (k : ℕ) (entries : List ReadEntry)
      (so_far : entries_read l bytes 1 placed ≡ after_these (map said_by entries) (entries_read l bytes (k + 1) (drop k placed))) where
    this_entry : (d : PlacedEntry) → k < length placed → entries_read l bytes 1 placed
        ≡ after_these (map said_by entries) (and_entries (entry_read l bytes (k + 1) (get_or placed k d))
        (entries_read l bytes ((k + 1) + 1) (drop (k + 1) placed)))
    this_entry d inside = cc (drop_more placed k d inside, more_entries (k + 1) (get_or placed k d) (drop (k + 1) placed))

    pub one_more_entry : (d : PlacedEntry) (e : ReadEntry) → k < length placed
        → entry_read l bytes (k + 1) (get_or placed k d) ≡ Ok (said_by e)
        → entries_read l bytes 1 placed ≡ after_these (map said_by (entries ++ e ∷ []))
        (entries_read l bytes ((k + 1) + 1) (drop (k + 1) placed))
    one_more_entry d e inside is =
        let rest = entries_read l bytes ((k + 1) + 1) (drop (k + 1) placed) in
        cc (this_entry d inside, one_before (map said_by entries) (said_by e) rest, map-append said_by entries (e ∷ []))

    one_fault : (d : PlacedEntry) (f : LibraryReadFault) → k < length placed → entry_read l bytes (k + 1) (get_or placed k d) ≡ Err f
        → entries_read l bytes 1 placed ≡ Err f
    one_fault d f inside is = cc (this_entry d inside)

    pub all_entries : length placed ≤ k → entries_read l bytes 1 placed ≡ Ok (map said_by entries)
    all_entries passed = cc (drop_all k placed passed, no_entries (k + 1), append-nil (map said_by entries))

    pub that_fault : (f : LibraryReadFault) (d : PlacedEntry) → k < length placed
        → GivesEntry (entry_read l bytes (k + 1) (get_or placed k d)) (Err f) → IsFault l bytes placed f
    that_fault (Volume fault) d inside is = tt
    that_fault Directory d inside is = is
    that_fault (Member number) d inside is = one_fault d (Member number) inside is
    that_fault (ShortUserData number) d inside is = one_fault d (ShortUserData number) inside is
    that_fault (NoBlock number) d inside is = one_fault d (NoBlock number) inside is

-- The addresses of members, and the numbers of the members of entries.
module _ (placed : List PlacedEntry) (k : ℕ) (starts : List RelativeAddress)
    (left : starts_from starts (drop k placed) ≡ starts_of placed) where
  pub all_starts : length placed ≤ k → starts ≡ starts_of placed
  all_starts passed = sym (no_starts starts) ∙ ap (starts_from starts) (sym (drop_all k placed passed)) ∙ left

  module _ (d : PlacedEntry) (inside : k < length placed) (now : List RelativeAddress)
      (is : now ≡ with_start starts (get_or placed k d).entry.address) where
    pub next_starts : starts_from now (drop (k + 1) placed) ≡ starts_of placed
    next_starts = cc (more_starts starts (get_or placed k d) (drop (k + 1) placed), drop_more placed k d inside)

    pub one_more_number : (entries : List ReadEntry) (e : ReadEntry)
        → position (same_address (get_or placed k d).entry.address) now ≡ Some e.member
        → numbers_in entries ≡ map (member_of placed) (take k placed)
        → numbers_in (entries ++ e ∷ []) ≡ map (member_of placed) (take (k + 1) placed)
    one_more_number entries e found so_far =
        let p = get_or placed k d in
        let one = stays_in (drop (k + 1) placed) now p.entry.address e.member found in
        let own : member_of placed p ≡ Some e.member = cc (next_starts) in
        let two = map-append (λ (e : ReadEntry). Some e.member) entries (e ∷ []) in
        cc (map-append (member_of placed) (take k placed) (p ∷ []), take_more placed k d inside)

-- what was read of a volume that stayed
pub of_same_volume : (extents : List Extent) (v w : KnownVolume) (bytes : List ℕ) (n : Numbered)
    (r : Result ReadEntry LibraryReadFault) → w ≡ v → ReadsEntry w extents bytes n r → ReadsEntry v extents bytes n r
of_same_volume extents v w bytes n r is read = subst (λ (v : KnownVolume). ReadsEntry v extents bytes n r) is read
