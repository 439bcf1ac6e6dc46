use Rattle.std.proofs.Common.{◌≡◌, ◌∙◌, subst, append_assoc}
use Rattle.counted_io.specs.Streams.{seen_by, WritesWhole}
use Rattle.dasd_volumes.specs.Checks.{number_line}
use Rattle.dasd_volumes.proofs.checks.write_number.Goals as goal

pub returns-clause-written : goal.returns-clause-written
returns-clause-written g c = subst (λ t. WritesWhole c.write_flushed.result (seen_by g.W.Write.contents c.args.writer.now)
    (seen_by g.W.Write.contents c.write_flushed.new.writer) t) text c.write_flushed.ensures.written
  where
    line : c.push_str.new.self.bytes ≡ number_line c.args.findings
    line = rw (c.push_str.ensures.bytes, c.put_decimal.ensures.text, c.new-line.ensures) (simp (append_assoc))

    text : c.as_bytes.result.now ≡ number_line c.args.findings
    text = c.as_bytes.ensures.value ∙ (c.deref.ensures.0 ∙ line)
