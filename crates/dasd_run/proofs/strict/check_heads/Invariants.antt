use Rattle.std.proofs.Common.{◌+◌, [], min, slice_index_or}
use Rattle.counted_io.specs.Streams.{seen_by, Takes, NoneFailed}
use Rattle.dasd_volumes.specs.Volumes.{of_each}
use Rattle.dasd_archive.specs.Reports.{finding_lines, CountsUp}
use Rattle.dasd_archive.specs.Strict.{findings_in_header}
use Rattle.dasd_run.proofs.strict.check_heads.Given as goal

-- what is found of the headers so far is printed and counted, and no call failed
abbrev pub invariant-loop-i : goal.invariant-loop-i
invariant-loop-i g l =
    let before = seen_by g.W.Write.contents l.fn.writer in
    let so_far = seen_by g.W.Write.contents l.writer in
    let found = of_each (λ i. findings_in_header (min (i + 1) 255) (slice_index_or l.fn.heads i [])) l.i in record {
      found : Takes before so_far (finding_lines l.fn.form.style l.fn.form.path.now found) × CountsUp l.fn.tally l.tally found;
      sound : NoneFailed before so_far;
    }
