use Rattle.std.proofs.Common.{length}
use Rattle.dasd_contents.specs.Lines.{number_columns}
use Rattle.dasd_contents.proofs.Columns.{column_is}
use Rattle.dasd_contents.proofs.lines.write_numbers.Goals as goal

pub returns : goal.returns
unfolding number_columns
returns g c =
    let block = c.args.set.now.block in
    let written =
    rw (
      c.laid_out.ensures,
      c.laid_out-2.ensures,
      c.laid_out-3.ensures,
      c.laid_out-4.ensures,
      c.laid_out-5.ensures,
    ) at c.writeln.ensures.bytes in
    let columns =
    rw (
      column_is 5 block.record_length,
      column_is 5 block.block_length,
      column_is 6 c.tracks_owned-tracks.result,
      column_is 6 c.tracks_used-used.result,
      column_is 7 (length c.as_slice-extents.result.now),
    )
    at written in
    rw (c.tracks_owned-tracks.ensures, c.tracks_used-used.ensures, c.as_slice-extents.ensures.value) at columns
