use Rattle.std.proofs.Common.{length}
use Rattle.dasd_volumes.proofs.Formats.{padded_hexadecimal}
use Rattle.library_contents.specs.Lines.{member_line}
use Rattle.library_contents.proofs.Columns.{column_is}
use Rattle.library_contents.proofs.lines.write_line.Goals as goal

pub returns : goal.returns
unfolding member_line
returns g c =
    let m = c.args.listed in
    let written = rw (
      c.in_radix.ensures,
      c.laid_out.ensures,
      c.in_radix-2.ensures,
      c.laid_out-2.ensures,
      c.laid_out-3.ensures,
      c.laid_out-4.ensures,
      c.alias_word-alias.ensures,
    ) at c.writeln.ensures.bytes in
    rw (
      padded_hexadecimal 4 m.entry.address.track,
      padded_hexadecimal 2 m.entry.address.number,
      column_is 4 (length m.user.now),
      column_is 8 m.bytes,
    )
    at written
