use Rattle.std.proofs.Common.{◌∙◌, ap, sym}
use Rattle.record_tracks.specs.Blocks.{cut_by}
use Rattle.record_tracks.specs.declared.blocks.Cut.TheVariants as cut
use Rattle.loaded_sets.specs.declared.contents.SourceForm.{SourceForm}
use Rattle.loaded_sets.specs.Contents.{blocks_by, cut_so}
use Rattle.loaded_sets.specs.Parts.{file_blocks}
use Rattle.loaded_sets.specs.Volumes.{labelled}
use Rattle.loaded_sets.proofs.Placed.{put, made_so}
use Rattle.loaded_sets.proofs.images.put_new.Goals as goal

pub returns-in-Blocks-clause-put : goal.returns-in-Blocks-clause-put
returns-in-Blocks-clause-put c = put (labelled c.args.volume.now) c.args.set.now c.requires.free c.in-Ok.layout (sym c.in-Ok.ensures)
    (file_blocks c.of_bytes.result)
    (cc (made_so c.in-Ok.layout (cut_by c.in-Ok.layout.form c.in-Ok.layout.longest) c.args.set.now.bytes.now _ c.of_bytes.ensures.layout
    (c.of_bytes.ensures.cut ∙ c.cut_of-cut.ensures) c.of_bytes.ensures.bytes))
    c.args.image.now.slots c.put_blocks.new.image.slots c.put_blocks.result c.put_blocks.ensures.set

pub returns-in-WithLengths-clause-put : goal.returns-in-WithLengths-clause-put
returns-in-WithLengths-clause-put c = put (labelled c.args.volume.now) c.args.set.now c.requires.free c.in-Ok.layout (sym c.in-Ok.ensures)
    (file_blocks c.of_bytes-in-WithLengths.result)
    (cc (made_so c.in-Ok.layout cut.WithLengths c.args.set.now.bytes.now _ c.of_bytes-in-WithLengths.ensures.layout
    c.of_bytes-in-WithLengths.ensures.cut c.of_bytes-in-WithLengths.ensures.bytes))
    c.args.image.now.slots c.put_blocks-in-WithLengths.new.image.slots c.put_blocks-in-WithLengths.result
    c.put_blocks-in-WithLengths.ensures.set

pub returns-in-Ok-text_bytes-clause-put : goal.returns-in-Ok-text_bytes-clause-put
returns-in-Ok-text_bytes-clause-put c = put (labelled c.args.volume.now) c.args.set.now c.requires.free c.in-Ok.layout (sym c.in-Ok.ensures)
    (file_blocks c.of_bytes-in-Text.result)
    (ap (λ (f : SourceForm). blocks_by f c.in-Ok.layout c.args.set.now.bytes.now) c.in-Text.is
    ∙ ap (cut_so c.in-Ok.layout (cut_by c.in-Ok.layout.form c.in-Ok.layout.longest)) c.in-Ok-text_bytes.ensures.bytes
    ∙ made_so c.in-Ok.layout (cut_by c.in-Ok.layout.form c.in-Ok.layout.longest) c.in-Ok-text_bytes.records.items _
    c.of_bytes-in-Text.ensures.layout (c.of_bytes-in-Text.ensures.cut ∙ c.cut_of-cut.ensures)
    (c.of_bytes-in-Text.ensures.bytes ∙ c.as_slice.ensures.value))
    c.args.image.now.slots c.put_blocks-in-Text.new.image.slots c.put_blocks-in-Text.result c.put_blocks-in-Text.ensures.set
