use Rattle.std.proofs.Common.{◌≡◌, ◌∙◌, subst, append_assoc}
use Rattle.counted_io.specs.Streams.{seen_by, WritesWhole}
use Rattle.dasd_volumes.specs.Lines.{track_line}
use Rattle.dasd_volumes.proofs.lists.list_home_address.Goals as goal

pub returns : goal.returns
returns g c = subst (λ t. WritesWhole c.write_whole.result (seen_by g.W.Write.contents c.args.writer.now)
    (seen_by g.W.Write.contents c.write_whole.new.writer) t) text c.write_whole.ensures
  where
    line : c.push_str-4.new.self.bytes ≡ track_line c.args.track.geometry.model c.args.track.cylinder c.args.track.head c.args.view.now
    line =
        rw (
          c.push_str-4.ensures.bytes,
          c.put_decimal.ensures.text,
          c.push_str-3.ensures.bytes,
          c.put_count.ensures.text,
          c.push_str-2.ensures.bytes,
          c.put_bytes.ensures.text,
          c.push_str.ensures.bytes,
          c.put_address.ensures.text,
          c.new-line.ensures,
          c.ha.ensures.bytes,
          c.len.ensures.number,
          c.used.ensures,
        ) (simp (append_assoc))

    text : c.as_bytes.result.now ≡ track_line c.args.track.geometry.model c.args.track.cylinder c.args.track.head c.args.view.now
    text = c.as_bytes.ensures.value ∙ (c.deref.ensures.0 ∙ line)
