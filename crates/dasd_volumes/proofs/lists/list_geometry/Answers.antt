use Rattle.std.proofs.Common.{◌≡◌, ◌∙◌, subst, append_assoc}
use Rattle.counted_io.specs.Streams.{seen_by, WritesWhole}
use Rattle.dasd_volumes.specs.Lines.{volume_line}
use Rattle.dasd_volumes.proofs.lists.list_geometry.Goals as goal

pub returns : goal.returns
returns g c = subst (λ t. WritesWhole c.write_whole.result (seen_by g.W.Write.contents c.args.writer.now)
    (seen_by g.W.Write.contents c.write_whole.new.writer) t) text c.write_whole.ensures
  where
    line : c.push_str-4.new.self.bytes ≡ volume_line c.args.geometry
    line =
        rw (
          c.push_str-4.ensures.bytes,
          c.put_decimal-4.ensures.text,
          c.push_str-3.ensures.bytes,
          c.put_decimal-3.ensures.text,
          c.push_str-2.ensures.bytes,
          c.put_decimal-2.ensures.text,
          c.push_str.ensures.bytes,
          c.put_decimal.ensures.text,
          c.new-line.ensures,
          c.from.ensures,
          c.from-2.ensures,
          c.from-3.ensures,
          c.number.ensures,
          c.heads.ensures,
        ) (simp (append_assoc))

    text : c.as_bytes.result.now ≡ volume_line c.args.geometry
    text = c.as_bytes.ensures.value ∙ (c.deref.ensures.0 ∙ line)
