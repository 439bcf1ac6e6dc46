use Rattle.std.proofs.Common.{◌∙◌, ap, sym, map, drop, ◌+◌}
use Rattle.loaded_folders.specs.Entries.{entries_behind}
use Rattle.loaded_folders.specs.Parts.{folder_entry}
use Rattle.loaded_folders.proofs.Chains.{next_of}
use Rattle.loaded_folders.proofs.Told.{entry_fault}
use Rattle.loaded_folders.proofs.entries.entries_of.Goals as goal

-- the next entry leads nowhere
pub returns-in-Err-clause-fault : goal.returns-in-Err-clause-fault
returns-in-Err-clause-fault c =
    let done = map folder_entry c.loop-entry.made.items in
    entry_fault c.in-Ok.members.items done c.entry-item.result.now
    (map (λ e. e.now) (drop (c.loop-entry.entry-index + 1) c.args.entries.now)) _
    (sym (ap (entries_behind c.in-Ok.members.items done)
    (next_of (λ e. e.now) c.args.entries.now c.loop-entry.entry-index c.entry-item.result c.entry-item.is c.loop-entry-test.true))
    ∙ c.loop-entry.invariant)
    c.of_entry.result c.args.data_set.now c.in-Err.fault (rw c.as_slice.ensures.value at c.in-Err.ensures.fault) c.of_entry.ensures
