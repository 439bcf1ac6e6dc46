use Rattle.std.proofs.Common.{append_assoc}
use Rattle.dasd_volumes.proofs.pieces.put_address.Goals as goal

pub returns-clause-text : goal.returns-clause-text
returns-clause-text c =
    rw (c.put_hexadecimal-2.ensures.text, c.push_str.ensures.bytes, c.put_hexadecimal.ensures.text, c.from.ensures, c.from-2.ensures)
    (simp (append_assoc))
