use Rattle.std.proofs.Common.{map}
use Rattle.std.specs.String.{string_bytes}
use Rattle.counted_io.specs.Streams.{seen_by}
use Rattle.changed_volumes.specs.Files.{Around}
use Rattle.changed_volumes.proofs.Told.{told}
use Rattle.loaded_folders.specs.Loads.{loading_all}
use Rattle.loaded_folders.specs.Parts.{folder_set}
use Rattle.loaded_folders.proofs.saves.load_and_tell.Goals as goal

pub returns-in-Ok-clause-tells : goal.returns-in-Ok-clause-tells
returns-in-Ok-clause-tells g c =
    let before : Around = record {
      opened = g.F.ImageFiles.opened c.args.files.now;
      written = g.F.ImageFiles.written c.args.files.now;
      printed = seen_by g.W.Write.contents c.args.writer.now;
    } in
    let now : Around = record {
      opened = g.F.ImageFiles.opened c.change_files.new.files;
      written = g.F.ImageFiles.written c.change_files.new.files;
      printed = seen_by g.W.Write.contents c.write_flushed.new.writer;
    } in
    rw c.of_line.ensures
    (told (loading_all c.args.loaded.now.source (map folder_set c.args.loaded.now.sets.now)) _ string_bytes c.in-Ok.lines before now
    c.write_flushed.result c.in-Ok.ensures (rw c.as_bytes.ensures.value at c.write_flushed.ensures.written))
