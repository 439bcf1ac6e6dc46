use Rattle.std.proofs.Common.{arith, length-append, length-drop}
use Rattle.std.proofs.lemmas.List.{take_rest}
use Rattle.set_forms.proofs.Reading.{one_byte_more}
use Rattle.set_forms.proofs.numbers.bytes_of.Goals as goal

pub loop-rest-preserved : goal.loop-rest-preserved
loop-rest-preserved c = rw c.push.ensures.items (record {
  spelled = one_byte_more c.loop-rest.bytes.items c.loop-rest.rest.now _ _ c.in-len2-up.len_at_least c.in_ok-byte.ensures
      c.loop-rest.invariant.spelled;
  size = rw (take_rest c.loop-rest.rest.now 2) (simp (length-append, length-drop) (omega arith));
})
