use Rattle.std.proofs.Common.{sym, arith}
use Rattle.new_labels.specs.Runs.{Space}
use Rattle.new_labels.proofs.Apart.{apart}
use Rattle.new_labels.proofs.Walked.{begun, over_free, found, nowhere}
use Rattle.new_labels.proofs.runs.free_run.Goals as goal

pub loop-track-init : goal.loop-track-init
loop-track-init c = begun c.args.geometry (record { extents = c.args.extents.now; marks = c.args.marks.now }) c.args.tracks c.requires.some

pub loop-track-preserved : goal.loop-track-preserved
loop-track-preserved c =
    let s : Space = record { extents = c.args.extents.now; marks = c.args.marks.now } in
    over_free c.args.geometry s c.args.tracks c.loop-track.track c.loop-track.free c.loop-track.invariant
    (rw c.if-not-is_free.false at (sym c.is_free.ensures)) (omega (arith, c.loop-track.invariant.few, c.if-free-tracks.false))

pub returns-then-free-tracks-clause-apart : goal.returns-then-free-tracks-clause-apart
returns-then-free-tracks-clause-apart c =
    let s : Space = record { extents = c.args.extents.now; marks = c.args.marks.now } in
    let all = found c.args.geometry s c.args.tracks c.loop-track.track c.loop-track.free c.loop-track.invariant
    (rw c.if-not-is_free.false at (sym c.is_free.ensures)) c.if-free-tracks.true in
    apart c.args.geometry s c.args.tracks _ all.0

pub returns-clause-first : goal.returns-clause-first
returns-clause-first c =
    nowhere c.args.geometry (record { extents = c.args.extents.now; marks = c.args.marks.now }) c.args.tracks c.loop-track.track
    c.loop-track.free c.loop-track.invariant c.requires.some (omega arith)
