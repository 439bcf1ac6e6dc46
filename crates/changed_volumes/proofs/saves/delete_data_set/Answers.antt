use Rattle.std.proofs.Common.{inr}
use Rattle.std.specs.String.{string_bytes}
use Rattle.counted_io.specs.Streams.{seen_by}
use Rattle.changed_volumes.specs.Files.{Around, deleting}
use Rattle.changed_volumes.proofs.Told.{told}
use Rattle.changed_volumes.proofs.saves.delete_data_set.Goals as goal

pub returns-in-Ok-clause-deletes : goal.returns-in-Ok-clause-deletes
returns-in-Ok-clause-deletes g c =
    let before : Around = record {
      opened = g.F.ImageFiles.opened c.args.files.now;
      written = g.F.ImageFiles.written c.args.files.now;
      printed = seen_by g.W.Write.contents c.args.writer.now;
    } in
    let now : Around = record {
      opened = g.F.ImageFiles.opened c.change_files.new.files;
      written = g.F.ImageFiles.written c.change_files.new.files;
      printed = seen_by g.W.Write.contents c.write_flushed.new.writer;
    } in
    inr (
      c.in-Some.of_set,
      c.in-Some.ensures.named,
      rw c.of_line.ensures
          (told (deleting c.args.name.now c.in-Some.of_set) _ string_bytes c.in-Ok.text before now c.write_flushed.result c.in-Ok.ensures
          (rw c.as_bytes.ensures.value at c.write_flushed.ensures.written)),
    )
