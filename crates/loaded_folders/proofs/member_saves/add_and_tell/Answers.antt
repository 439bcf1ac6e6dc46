use Rattle.counted_io.specs.Streams.{seen_by, IsFlushed}
use Rattle.changed_volumes.specs.Files.{Around}
use Rattle.loaded_folders.specs.declared.member_fault.NewMemberRefusal.{NewMemberRefusal}
use Rattle.loaded_folders.specs.MemberLoads.{adding, added_line}
use Rattle.changed_volumes.proofs.Told.{told, flushed}
use Rattle.loaded_folders.proofs.member_saves.add_and_tell.Goals as goal

pub returns-in-Ok-clause-tells : goal.returns-in-Ok-clause-tells
returns-in-Ok-clause-tells g c =
    let before : Around = record {
      opened = g.F.ImageFiles.opened c.args.files.now;
      written = g.F.ImageFiles.written c.args.files.now;
      printed = seen_by g.W.Write.contents c.args.writer.now;
    } in
    let now : Around = record {
      opened = g.F.ImageFiles.opened c.change_files.new.files;
      written = g.F.ImageFiles.written c.change_files.new.files;
      printed = seen_by g.W.Write.contents c.write_added.new.writer;
    } in
    rw c.of_line.ensures
    (told (adding c.args.asked.0.now) _ (added_line c.args.asked.1.now.library.now c.args.asked.1.now.member.now) c.in-Ok.tracks before now
    c.write_added.result c.in-Ok.ensures c.write_added.ensures.written)

pub returns-in-Ok-clause-flushed : goal.returns-in-Ok-clause-flushed
returns-in-Ok-clause-flushed g c =
    rw c.of_line.ensures
    (flushed NewMemberRefusal c.write_added.result (IsFlushed (seen_by g.W.Write.contents c.write_added.new.writer))
    c.write_added.ensures.flushed)
