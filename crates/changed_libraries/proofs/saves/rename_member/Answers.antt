use Rattle.std.proofs.Common.{inr}
use Rattle.counted_io.specs.Streams.{seen_by}
use Rattle.changed_volumes.specs.Files.{Around}
use Rattle.changed_volumes.proofs.Told.{told}
use Rattle.member_changes.specs.declared.entries.EntryChange.TheVariants.{Rename}
use Rattle.changed_libraries.specs.Changes.{changing}
use Rattle.changed_libraries.specs.Files.{renamed_line}
use Rattle.changed_libraries.proofs.saves.rename_member.Goals as goal

pub returns-in-Ok-clause-renames : goal.returns-in-Ok-clause-renames
returns-in-Ok-clause-renames g c =
    let before : Around = record {
      opened = g.F.ImageFiles.opened c.args.files.now;
      written = g.F.ImageFiles.written c.args.files.now;
      printed = seen_by g.W.Write.contents c.args.writer.now;
    } in
    let now : Around = record {
      opened = g.F.ImageFiles.opened c.change_files.new.files;
      written = g.F.ImageFiles.written c.change_files.new.files;
      printed = seen_by g.W.Write.contents c.write_renamed.new.writer;
    } in
    let names = c.args.names.now in
    let library = c.in-Some-data_set_name.library in
    let old = c.in-Some-member_name.old in
    let new = c.in-Some.new in
    inr (
      library,
      old,
      new,
      record { of_library = c.in-Some-data_set_name.ensures.named; of_member = c.in-Some-member_name.ensures.named },
      c.in-Some.ensures.0,
      c.in-Some.ensures.1,
      rw c.of_line.ensures
          (told (changing library (Rename old new)) _ (λ done. renamed_line names.library.now names.old.now names.new.now) c.in-Ok.field-0
          before now c.write_renamed.result c.in-Ok.ensures c.write_renamed.ensures.written),
    )
