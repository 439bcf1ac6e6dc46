use Rattle.counted_io.specs.Streams.{seen_by}
use Rattle.changed_volumes.specs.Files.{Around}
use Rattle.changed_volumes.proofs.Told.{told}
use Rattle.loaded_sets.specs.Loads.{loading, loaded_line}
use Rattle.loaded_sets.proofs.saves.load_and_tell.Goals as goal

pub returns-in-Ok-clause-tells : goal.returns-in-Ok-clause-tells
returns-in-Ok-clause-tells g c =
    let before : Around = record {
      opened = g.F.ImageFiles.opened c.args.files.now;
      written = g.F.ImageFiles.written c.args.files.now;
      printed = seen_by g.W.Write.contents c.args.writer.now;
    } in
    let now : Around = record {
      opened = g.F.ImageFiles.opened c.change_files.new.files;
      written = g.F.ImageFiles.written c.change_files.new.files;
      printed = seen_by g.W.Write.contents c.write_loaded.new.writer;
    } in
    rw c.of_line.ensures
    (told (loading c.args.named.0.now) _ (loaded_line c.args.named.1.now) c.in-Ok.tracks before now c.write_loaded.result c.in-Ok.ensures
    c.write_loaded.ensures.written)
