-- What a directory is to have after a change of one of its entries.
use Rattle.std.specs.Prelude.{◌≡◌, ℕ, ◌/◌, List, length, Option, Some, None, Result, Ok, Err}
use Rattle.std.specs.List.{concat}
use Rattle.record_tracks.specs.declared.library_faults.LibraryFault.{LibraryFault}
use Rattle.record_tracks.specs.Entries.{EntryContents, all_entries}
use Rattle.record_tracks.specs.Directory.{blocks_of}
use Rattle.record_tracks.specs.LibraryFaults.{directory_fault}
use Rattle.member_changes.specs.declared.entries.EntryChange.{EntryChange}
use Rattle.member_changes.specs.declared.refusal.MemberRefusal.{MemberRefusal}
use Rattle.member_changes.specs.declared.refusal.MemberRefusal.TheVariants as refusal
use Rattle.member_changes.specs.declared.refusal.PlanFault.{PlanFault}
use Rattle.member_changes.specs.declared.refusal.PlanFault.TheVariants as fault
use Rattle.member_changes.specs.Entries.{entries_in, changed}

-- a value, and what is done with it, unless it is refused
abbrev pub and_then : {A B : Type 0} → Result A MemberRefusal → (A → Result B MemberRefusal) → Result B MemberRefusal
and_then (Ok a) f = f a
and_then (Err r) f = Err r

-- it is refused for this reason, or there is no memory
abbrev pub IsRefused : {A : Type 0} → PlanFault → Result A MemberRefusal → Type 0
IsRefused (fault.Refused r) planned = planned ≡ Err r
IsRefused fault.OutOfMemory planned = Unit {0}

-- the entries of a directory and its blocks, one after another: 8 bytes of a key and 256 bytes of data each
pub record Plan : Type 0 where
  pub entries : List EntryContents
  pub blocks : List ℕ

abbrev pub unless_fault : (blocks : List ℕ) → Option LibraryFault → Result (List ℕ) MemberRefusal
unless_fault blocks None = Ok blocks
unless_fault blocks (Some f) = Err (refusal.Directory f)

-- so many blocks with these entries: each has as many as it has room for
abbrev pub blocks_with : (blocks : ℕ) → List EntryContents → Result (List ℕ) MemberRefusal
blocks_with blocks entries = unless_fault (concat (blocks_of (all_entries entries) blocks)) (directory_fault blocks entries)

abbrev pub plan_with : (blocks : ℕ) → List EntryContents → Result Plan MemberRefusal
plan_with blocks entries = and_then (blocks_with blocks entries) (λ made. Ok (record { entries = entries; blocks = made }))

abbrev pub plan_for : EntryChange → (blocks : ℕ) → Option (List EntryContents) → Result Plan MemberRefusal
plan_for change blocks None = Err refusal.NotWhole
plan_for change blocks (Some entries) = and_then (changed change entries) (plan_with blocks)

-- The directory with these blocks of 256 bytes keeps their number, and has the entries after the change.
abbrev pub plan_of : EntryChange → (bytes : List ℕ) → Result Plan MemberRefusal
plan_of change bytes = plan_for change (length bytes / 256) (entries_in bytes)
