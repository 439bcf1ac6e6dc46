use Rattle.dasd_archive.proofs.Columns.{front_is}
use Rattle.dasd_archive.proofs.rows.put_front.Goals as goal

pub returns-clause-text : goal.returns-clause-text
returns-clause-text c =
    rw (
      c.put-3.ensures.text,
      c.put_byte-2.ensures.text,
      c.put_byte.ensures.text,
      c.put-2.ensures.text,
      c.push.ensures.items,
      c.put.ensures.text,
    ) (front_is c.args.line.now.items c.args.letter c.args.offset c.requires.short)
