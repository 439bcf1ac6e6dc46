use Rattle.std.proofs.Common.{arith, length-append, sym}
use Rattle.set_forms.proofs.Reading.{one_name_byte_more, no_name_byte, left_shorter}
use Rattle.set_forms.proofs.names.name_bytes.Goals as goal

pub loop-rest-preserved : goal.loop-rest-preserved
loop-rest-preserved c =
    let fewer = left_shorter c.loop-rest.rest.now _ c.in-len1-up.len_at_least c.in_ok-byte.ensures.left in rw c.push.ensures.items (record {
      spelled = one_name_byte_more c.loop-rest.bytes.items c.loop-rest.rest.now _ _ _ _ c.in-len1-up.len_at_least c.loop-rest.invariant.size
          c.in_ok-byte.ensures.spelled c.in_ok-byte.ensures.left c.loop-rest.invariant.spelled;
      size = simp length-append (omega arith);
    })

pub returns-in_err-byte : goal.returns-in_err-byte
returns-in_err-byte c = rw c.from_residual.ensures (no_name_byte c.loop-rest.bytes.items c.loop-rest.rest.now _ _ c.in-len1-up.len_at_least
    c.loop-rest.invariant.size (sym c.in_err-byte.ensures.spelled) c.loop-rest.invariant.spelled)
