use Rattle.std.proofs.Common.{◌≡◌, ◌∙◌, subst, append_assoc}
use Rattle.counted_io.specs.Streams.{seen_by, WritesWhole}
use Rattle.dasd_volumes.proofs.Formats.{identifier_is}
use Rattle.dasd_volumes.specs.Listing.{listed_record}
use Rattle.dasd_volumes.proofs.objects.list_record.Goals as goal

pub returns : goal.returns
returns g c = subst (λ t. WritesWhole c.write_whole.result (seen_by g.W.Write.contents c.args.writer.now)
    (seen_by g.W.Write.contents c.write_whole.new.writer) t) text c.write_whole.ensures
  where
    line : c.put_lengths.new.line.bytes ≡ listed_record c.args.view.now c.args.i
    line =
        rw (
          c.put_lengths.ensures,
          c.put_bytes.ensures.text,
          c.push_str-2.ensures.bytes,
          c.push_str.ensures.bytes,
          c.new-line.ensures,
          c.comma_before.ensures.text,
          identifier_is _ _ c.count_of.ensures.bytes c.count_of.ensures.is_record,
          c.key_of.ensures.bytes,
          c.data_of.ensures.bytes,
        ) (simp (append_assoc))

    text : c.as_bytes.result.now ≡ listed_record c.args.view.now c.args.i
    text = c.as_bytes.ensures.value ∙ (c.deref.ensures.0 ∙ line)
