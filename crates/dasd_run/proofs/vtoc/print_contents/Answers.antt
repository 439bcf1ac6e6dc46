use Rattle.std.specs.Option.{option_copied}
use Rattle.std.proofs.lemmas.Result.{err_from_is_err_and}
use Rattle.dasd_run.proofs.Held.{all_held, some_held, none_held}
use Rattle.dasd_run.proofs.vtoc.print_contents.Goals as goal

pub returns-in_err-contents : goal.returns-in_err-contents
returns-in_err-contents g c =
    let p = err_from_is_err_and c.from_residual.result c.from_residual.ensures.1 in
    rw (p.1, p.2) (none_held (option_copied c.args.json) (g.V.SlotReader.volume c.args.volume.now) c.in_err-contents.field-0.0 _
    c.in_err-contents.ensures.fault)

pub returns-in_err-write_contents : goal.returns-in_err-write_contents
returns-in_err-write_contents g c =
    let p = err_from_is_err_and c.from_residual-in_err-write_contents.result c.from_residual-in_err-write_contents.ensures.1 in
    let read = c.in_ok-contents in
    rw (p.1, p.2)
    (some_held (option_copied c.args.json) (g.V.SlotReader.volume c.args.volume.now) read.contents read.ensures.says _ _
    c.in_err-write_contents.field-0.0
    (rw c.geometry-geometry.ensures.geometry at c.in_err-write_contents.ensures.front) c.in_err-write_contents.ensures.writes)

pub returns : goal.returns
returns g c =
    let p = c.in_ok-write_contents.ensures in
    let read = c.in_ok-contents in
    all_held (option_copied c.args.json) (g.V.SlotReader.volume c.args.volume.now) read.contents read.ensures.says _ _ _
    c.held_ending.ensures (rw c.geometry-geometry.ensures.geometry at p.text) p.writes p.flushed
