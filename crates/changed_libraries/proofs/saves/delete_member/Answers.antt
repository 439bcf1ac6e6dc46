use Rattle.std.proofs.Common.{inr}
use Rattle.counted_io.specs.Streams.{seen_by}
use Rattle.changed_volumes.specs.Files.{Around}
use Rattle.changed_volumes.proofs.Told.{told}
use Rattle.member_changes.specs.declared.entries.EntryChange.TheVariants.{Delete}
use Rattle.changed_libraries.specs.Changes.{changing}
use Rattle.changed_libraries.specs.Files.{deleted_line}
use Rattle.changed_libraries.proofs.saves.delete_member.Goals as goal

pub returns-in-Ok-clause-deletes : goal.returns-in-Ok-clause-deletes
returns-in-Ok-clause-deletes g c =
    let before : Around = record {
      opened = g.F.ImageFiles.opened c.args.files.now;
      written = g.F.ImageFiles.written c.args.files.now;
      printed = seen_by g.W.Write.contents c.args.writer.now;
    } in
    let now : Around = record {
      opened = g.F.ImageFiles.opened c.change_files.new.files;
      written = g.F.ImageFiles.written c.change_files.new.files;
      printed = seen_by g.W.Write.contents c.write_deleted.new.writer;
    } in
    let name = c.args.name.now in
    let library = c.in-Some.library in
    let member = c.in-Some-member_name.member in
    inr (
      library,
      member,
      record { of_library = c.in-Some.ensures.named; of_member = c.in-Some-member_name.ensures.named },
      rw c.of_line.ensures
          (told (changing library (Delete member)) _ (λ done. deleted_line name.library.now name.member.now) c.in-Ok.field-0 before now
          c.write_deleted.result c.in-Ok.ensures c.write_deleted.ensures.written),
    )
