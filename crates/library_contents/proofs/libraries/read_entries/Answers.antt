use Rattle.std.proofs.Common.{◌∙◌, ◌+◌, ap, map, get_or, [], false, Err, rules, tests}
use Rattle.std.proofs.lemmas.List.{take_all}
use Rattle.volume_labels.specs.declared.directories.DirectoryEntry.{DirectoryEntry}
use Rattle.library_contents.specs.Members.{library_on, blocks_at}
use Rattle.library_contents.specs.Libraries.{member_of}
use Rattle.library_contents.proofs.Read.{that_fault, one_more_entry, all_entries, next_starts, one_more_number, all_starts, of_same_volume}
use Rattle.library_contents.proofs.libraries.read_entries.Goals as goal

pub returns-in-Err-clause-library : goal.returns-in-Err-clause-library
returns-in-Err-clause-library g c = λ slots known.
    let nobody : DirectoryEntry =
    record { name = []; address = record { track = 0; number = 0 }; is_alias = false; notes = 0; user_bytes = 0 } in
    let placed = get_or c.args.placed.now c.loop-number.number (record { entry = nobody; end = 0 }) in
    let entry = of_same_volume c.args.directory.extents.now (g.V.SlotReader.volume c.args.volume.now)
    (g.V.SlotReader.volume c.loop-number.volume) c.args.directory.bytes.now (record { placed = placed; number = c.loop-number.number + 1 })
    (Err c.in-Err.fault) c.loop-number.invariant.volume c.in-Err.ensures.entry in
    that_fault _ _ _ _ _ (c.loop-number.invariant.entries slots known) c.in-Err.fault _ c.loop-number-test.true (entry slots known)

pub loop-number-preserved : goal.loop-number-preserved
loop-number-preserved g c =
    let so_far = c.loop-number.invariant in
    let inside = c.loop-number-test.true in
    let entry = rw (so_far.volume) at c.in-Ok.ensures.entry in
    let m = rw (so_far.volume) at c.in-Ok.ensures.member in record {
      entries = λ slots known. rw (c.in_default.ensures.entries)
          (one_more_entry _ _ _ _ _ (so_far.entries slots known) _ c.in-Ok.entry inside (entry slots known));
      starts = next_starts _ _ _ so_far.starts _ inside _ m.starts;
      numbers = rw (c.in_default.ensures.entries)
          (one_more_number _ _ _ so_far.starts _ inside _ m.starts _ c.in-Ok.entry m.number so_far.numbers);
      members = m.read;
      volume = search (rules, tests);
      failures = search (rules, tests);
    }

pub returns-clause-library : goal.returns-clause-library
returns-clause-library g c = λ slots known.
    let so_far = c.loop-number.invariant in
    let passed = c.loop-number-test.false in
    let placed = c.args.placed.now in
    let l = library_on c.args.directory.extents.now (g.V.SlotReader.volume c.args.volume.now).geometry slots in record {
      entries = all_entries _ _ _ _ _ (so_far.entries slots known) passed;
      numbers = so_far.numbers ∙ ap (map (member_of placed)) (take_all c.loop-number.number placed passed);
      members = so_far.members.blocks slots known
          ∙ ap (map (blocks_at l)) (all_starts placed c.loop-number.number c.loop-number.members.starts.items so_far.starts passed);
    }
