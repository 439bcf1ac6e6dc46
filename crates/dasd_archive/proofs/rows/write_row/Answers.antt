use Rattle.std.proofs.Common.{◌≡◌, ◌∙◌, ◌*◌, [], ◌∷◌, OnOk, subst}
use Rattle.std.specs.Io.KnownBytes.{Appends}
use Rattle.dasd_volumes.specs.Lines.{hexadecimal}
use Rattle.dasd_archive.specs.Dump.{row_line}
use Rattle.dasd_archive.proofs.Columns.{line_is}
use Rattle.dasd_archive.proofs.rows.write_row.Goals as goal

pub returns : goal.returns
returns g c =
    subst (λ l. OnOk c.write_all.result (Appends (g.W.Write.contents c.args.writer.now) (g.W.Write.contents c.write_all.new.self) l))
    (c.as_slice.ensures.value ∙ line) c.write_all.ensures.bytes
  where
    line : c.put-2.new.line.items ≡ row_line (c.args.letter ∷ []) c.args.bytes.now c.args.i
    line =
        rw (
          c.put-2.ensures.text,
          c.put_characters.ensures.text,
          c.put.ensures.text,
          c.put_blanks.ensures.text,
          c.put_spaced.ensures.text,
          c.put_front.ensures.text,
          c.new-line.ensures,
          c.min-to.ensures,
        ) (line_is (c.args.letter ∷ []) (hexadecimal 6 (16 * c.args.i)) _ _ _)
