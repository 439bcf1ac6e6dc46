use Rattle.std.proofs.Common.{◌≡◌, ◌∙◌, subst}
use Rattle.counted_io.specs.Streams.{seen_by, WritesWhole}
use Rattle.ckd_track.specs.Track.{record_in}
use Rattle.dasd_volumes.specs.Lines.{record_line}
use Rattle.dasd_volumes.proofs.Formats.{identifier_is, record_is}
use Rattle.dasd_volumes.proofs.lists.list_record.Goals as goal

pub returns : goal.returns
returns g c = subst (λ t. WritesWhole c.write_whole.result (seen_by g.W.Write.contents c.args.writer.now)
    (seen_by g.W.Write.contents c.write_whole.new.writer) t) text c.write_whole.ensures
  where
    line : c.push_str-4.new.self.bytes ≡ record_line (record_in c.args.view.now c.args.i)
    line =
        rw (
          c.push_str-4.ensures.bytes,
          c.put_count-2.ensures.text,
          c.push_str-3.ensures.bytes,
          c.put_count.ensures.text,
          c.push_str-2.ensures.bytes,
          c.put_bytes.ensures.text,
          c.push_str.ensures.bytes,
          c.new-line.ensures,
          identifier_is _ _ c.count_of.ensures.bytes c.count_of.ensures.is_record,
          c.key_of.ensures.bytes,
          c.data_of.ensures.bytes,
        ) (record_is _ _ _)

    text : c.as_bytes.result.now ≡ record_line (record_in c.args.view.now c.args.i)
    text = c.as_bytes.ensures.value ∙ (c.deref.ensures.0 ∙ line)
