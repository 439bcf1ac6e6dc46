use Rattle.std.proofs.Common.{◌≡◌, ◌∙◌, subst, append_assoc}
use Rattle.counted_io.specs.Streams.{seen_by, WritesWhole}
use Rattle.dasd_volumes.specs.Lines.{unreadable_line}
use Rattle.dasd_volumes.proofs.lists.list_unreadable_line.Goals as goal

pub returns : goal.returns
returns g c = subst (λ t. WritesWhole c.write_whole.result (seen_by g.W.Write.contents c.args.writer.now)
    (seen_by g.W.Write.contents c.write_whole.new.writer) t) text c.write_whole.ensures
  where
    line : c.push_str-2.new.self.bytes ≡ unreadable_line c.args.address.cylinder c.args.address.head c.args.fault
    line = rw (
      c.push_str-2.ensures.bytes,
      c.put_fault.ensures.text,
      c.push_str.ensures.bytes,
      c.put_address.ensures.text,
      c.new-line.ensures,
    ) (simp (append_assoc))

    text : c.as_bytes.result.now ≡ unreadable_line c.args.address.cylinder c.args.address.head c.args.fault
    text = c.as_bytes.ensures.value ∙ (c.deref.ensures.0 ∙ line)
