use Rattle.std.proofs.Common.{◌≡◌, ◌∙◌, subst, append_assoc}
use Rattle.counted_io.specs.Streams.{seen_by, WritesWhole}
use Rattle.dasd_volumes.specs.Checks.{finding_line}
use Rattle.dasd_volumes.proofs.checks.write_finding.Goals as goal

pub returns : goal.returns
returns g c = subst (λ t. WritesWhole c.write_flushed.result (seen_by g.W.Write.contents c.args.writer.now)
    (seen_by g.W.Write.contents c.write_flushed.new.writer) t) text c.write_flushed.ensures.written
  where
    line : c.push_str-2.new.self.bytes ≡ finding_line (record {
      cylinder = c.args.address.cylinder;
      head = c.args.address.head;
      fault =
          c.args.fault;
    })
    line = rw (
      c.push_str-2.ensures.bytes,
      c.put_fault.ensures.text,
      c.push_str.ensures.bytes,
      c.put_address.ensures.text,
      c.new-line.ensures,
    ) (simp (append_assoc))

    text : c.as_bytes.result.now ≡ finding_line (record {
      cylinder = c.args.address.cylinder;
      head = c.args.address.head;
      fault =
          c.args.fault;
    })
    text = c.as_bytes.ensures.value ∙ (c.deref.ensures.0 ∙ line)
