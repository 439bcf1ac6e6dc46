use Rattle.std.proofs.Common.{◌∙◌, ap, sym, refl, List, map}
use Rattle.std.proofs.lemmas.List.{length-map}
use Rattle.std.specs.String.{string_bytes}
use Rattle.counted_io.specs.Streams.{seen_by}
use Rattle.changed_volumes.specs.Files.{Around}
use Rattle.dasd_jobs.specs.Written.{Replaced}
use Rattle.loaded_folders.specs.Parts.{lines_of}
use Rattle.loaded_folders.proofs.Unread.{unread, not_read, files_read, told}
use Rattle.loaded_folders.proofs.saves.load_folder.Goals as goal

-- one of the files is not read
pub returns-in-Err-read_files-clause-loads : goal.returns-in-Err-read_files-clause-loads
returns-in-Err-read_files-clause-loads g c =
    let before : Around = record {
      opened = g.F.ImageFiles.opened c.args.files.now;
      written = g.F.ImageFiles.written c.args.files.now;
      printed = seen_by g.W.Write.contents c.args.writer.now;
    } in
    not_read c.in-Err-read_files.fault c.args.asked.now _ before (g.F.ImageFiles.opened c.read_files.new.files)
    (g.F.ImageFiles.written c.read_files.new.files) (c.in-Err-read_files.ensures.kept ∙ c.in-Ok.ensures.kept)
    (unread c.args.asked.now.folder.now c.in-Ok.text.items (g.F.ImageFiles.opened c.args.files.now)
    (g.F.ImageFiles.opened c.read_text.new.files) c.in-Ok.ensures.text c.in-Ok-parse_text.forms.items
    (rw c.as_slice.ensures.value at c.in-Ok-parse_text.ensures.forms) (map lines_of c.in-Ok-sets_of.lines.items)
    (rw c.as_slice-2.ensures.value at c.in-Ok-sets_of.ensures) (map string_bytes c.in-Ok-file_names.names.items)
    (rw c.as_slice-3.ensures.value at c.in-Ok-file_names.ensures) (g.F.ImageFiles.opened c.read_files.new.files)
    c.in-Err-read_files.fault (rw c.as_slice-4.ensures.value at c.in-Err-read_files.ensures.fault))

-- there are as many files as the data sets have
pub load_read-requires : goal.load_read-requires
load_read-requires g c =
    rw (c.as_slice-6.ensures.value, c.as_slice-5.ensures.value)
    (sym (length-map c.in-Ok-read_files.bytes.items (λ b. b.items))
    ∙ files_read c.args.asked.now.folder.now c.in-Ok.text.items (g.F.ImageFiles.opened c.args.files.now)
    (g.F.ImageFiles.opened c.read_text.new.files) c.in-Ok.ensures.text c.in-Ok-parse_text.forms.items
    (rw c.as_slice.ensures.value at c.in-Ok-parse_text.ensures.forms) (map lines_of c.in-Ok-sets_of.lines.items)
    (rw c.as_slice-2.ensures.value at c.in-Ok-sets_of.ensures) (map string_bytes c.in-Ok-file_names.names.items)
    (rw c.as_slice-3.ensures.value at c.in-Ok-file_names.ensures) (g.F.ImageFiles.opened c.read_files.new.files)
    (map (λ b. b.items) c.in-Ok-read_files.bytes.items) (rw c.as_slice-4.ensures.value at c.in-Ok-read_files.ensures.read))

-- all was read
pub returns-clause-loads : goal.returns-clause-loads
returns-clause-loads g c =
    let before : Around = record {
      opened = g.F.ImageFiles.opened c.args.files.now;
      written = g.F.ImageFiles.written c.args.files.now;
      printed = seen_by g.W.Write.contents c.args.writer.now;
    } in
    let between : Around = record {
      opened = g.F.ImageFiles.opened c.read_files.new.files;
      written = g.F.ImageFiles.written c.read_files.new.files;
      printed = seen_by g.W.Write.contents c.args.writer.now;
    } in
    let now : Around = record {
      opened = g.F.ImageFiles.opened c.load_read.new.files;
      written = g.F.ImageFiles.written c.load_read.new.files;
      printed = seen_by g.W.Write.contents c.load_read.new.writer;
    } in
    told c.args.asked.now.folder.now c.in-Ok.text.items (g.F.ImageFiles.opened c.args.files.now)
    (g.F.ImageFiles.opened c.read_text.new.files) c.in-Ok.ensures.text c.in-Ok-parse_text.forms.items
    (rw c.as_slice.ensures.value at c.in-Ok-parse_text.ensures.forms) (map lines_of c.in-Ok-sets_of.lines.items)
    (rw c.as_slice-2.ensures.value at c.in-Ok-sets_of.ensures) (map string_bytes c.in-Ok-file_names.names.items)
    (rw c.as_slice-3.ensures.value at c.in-Ok-file_names.ensures) (g.F.ImageFiles.opened c.read_files.new.files)
    (map (λ b. b.items) c.in-Ok-read_files.bytes.items) (rw c.as_slice-4.ensures.value at c.in-Ok-read_files.ensures.read)
    c.load_read.result c.args.asked.now _ before between now refl refl
    (ap (λ (w : List Replaced). record { opened = between.opened; written = w; printed = before.printed })
    (sym (c.in-Ok-read_files.ensures.kept ∙ c.in-Ok.ensures.kept)))
    (rw (c.as_slice-5.ensures.value, c.as_slice-6.ensures.value) at c.load_read.ensures.tells)
