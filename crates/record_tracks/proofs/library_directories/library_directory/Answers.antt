use Rattle.std.proofs.Common.{◌≡◌, ◌∙◌, ap, sym}
use Rattle.record_tracks.specs.{Entries.all_contents, MemberEntries.directory_entries}
use Rattle.record_tracks.proofs.{Members.are_records, OwnRead.own_read}
use Rattle.record_tracks.proofs.library_directories.library_directory.Goals as goal

pub length_fault-requires : goal.length_fault-requires
length_fault-requires c = are_records _ c.in_ok-records.records.items c.deref.result.now c.in_ok-zeros.zeros.items c.deref-2.ensures.value
    c.in_ok-records.ensures.records c.deref.ensures.value c.in_ok-zeros.ensures (c.in_ok-records.ensures.fit c.args.model c.requires)

pub user_data-requires-clause-placed : goal.user_data-requires-clause-placed
user_data-requires-clause-placed c = record {
  are = are_records _ c.in_ok-records.records.items c.deref.result.now c.in_ok-zeros.zeros.items c.deref-2.ensures.value
      c.in_ok-records.ensures.records c.deref.ensures.value c.in_ok-zeros.ensures (c.in_ok-records.ensures.fit c.args.model c.requires);
  within = sym c.length_fault.ensures ∙ c.in_default-length_fault.is;
}

pub new_entries-requires-clause-placed : goal.new_entries-requires-clause-placed
new_entries-requires-clause-placed c = record {
  are = are_records _ c.in_ok-records.records.items c.deref.result.now c.in_ok-zeros.zeros.items c.deref-2.ensures.value
      c.in_ok-records.ensures.records c.deref.ensures.value c.in_ok-zeros.ensures (c.in_ok-records.ensures.fit c.args.model c.requires);
  within = sym c.length_fault.ensures ∙ c.in_default-length_fault.is;
}

pub returns-clause-read : goal.returns-clause-read
returns-clause-read c =
    let l = c.args.library.now in
    let is : all_contents c.deref-4.result.now ≡ directory_entries c.args.model l =
    ap all_contents c.deref-4.ensures.value ∙ c.in_ok-entries.ensures in
    own_read c.args.model l c.requires c.in_default.ensures.lead (rw is at c.in_default-directory_fault.ensures.entries)
    (rw is at c.in_default-directory_fault.ensures.room)
