use Rattle.std.proofs.Common.{◌∙◌, ap}
use Rattle.dasd_extract.specs.Raw.{tracks_copied}
use Rattle.dasd_jobs.specs.Written.{with_file}
use Rattle.dasd_unload.proofs.Through.{extracted, through}
use Rattle.dasd_unload.proofs.tracks.copy_to.Goals as goal

pub returns-in-Ok-put_file-clause-file : goal.returns-in-Ok-put_file-clause-file
returns-in-Ok-put_file-clause-file g c =
    let bytes = g.F.Draft.ImageStore.content c.into_inner-written.result.draft in
    let s = tracks_copied c.args.extents.now in
    let v = g.V.SlotReader.volume c.args.volume.now in record {
      bytes = bytes;
      put = c.in-Ok-put_file.ensures.file ∙ ap (λ l. with_file l c.args.path.now bytes) c.begin_file.ensures.kept;
      tracks = through s v _ _ _ bytes (ap (λ n. g.F.Draft.ImageStore.content n.draft) c.new-writer.ensures.inner ∙ c.in-Ok.ensures.empty)
          (ap (λ n. g.F.Draft.ImageStore.content n.draft) c.into_inner-written.ensures)
          (extracted s v _ _ _ c.in-Ok-copy_tracks.ensures.written);
    }
