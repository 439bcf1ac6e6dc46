use Rattle.std.proofs.Common.{◌∙◌, inl, inr, refl, rules, tests}
use Rattle.std.proofs.lemmas.Result.{err_from_is_err_and}
use Rattle.counted_io.specs.Streams.{seen_by}
use Rattle.dasd_run.specs.declared.commands.Ending.TheVariants.{Done}
use Rattle.dasd_run.proofs.Told.{stays_seen, kept_if_told}
use Rattle.dasd_run.proofs.commands.run_volumes.Goals as goal

-- it did not come to its deck
pub returns-in_err-tracer-clause-runs : goal.returns-in_err-tracer-clause-runs
returns-in_err-tracer-clause-runs g c =
    let p = err_from_is_err_and c.from_residual.result c.from_residual.ensures.1 in
    let same = c.begin_trace.ensures.same ∙ c.plan_saving.ensures.same in
    let kept = c.begin_trace.ensures.kept ∙ c.plan_saving.ensures.kept in
    rw (p.1, p.2, ← c.host.view_is) (inr (inl (c.in_err-tracer.ensures.no_trace, same, refl), kept, refl))

pub returns-in_err-channel-clause-runs : goal.returns-in_err-channel-clause-runs
returns-in_err-channel-clause-runs g c =
    let p = err_from_is_err_and c.from_residual-in_err-channel.result c.from_residual-in_err-channel.ensures.1 in
    let same = c.begin_trace.ensures.same ∙ c.plan_saving.ensures.same in
    let kept = c.build.ensures.kept ∙ c.begin_trace.ensures.kept ∙ c.plan_saving.ensures.kept in
    rw (p.1, p.2, ← c.host.view_is)
    (inr (inr (inl (rw (c.as_slice-volumes.ensures.value, same) at c.in_err-channel.ensures.not_built, refl)), kept, refl))

pub returns-in_err-text-clause-runs : goal.returns-in_err-text-clause-runs
returns-in_err-text-clause-runs g c =
    let p = err_from_is_err_and c.from_residual-in_err-text.result c.from_residual-in_err-text.ensures.1 in
    let same = c.begin_trace.ensures.same ∙ c.plan_saving.ensures.same in
    let kept = c.read_deck.ensures.kept ∙ c.build.ensures.kept ∙ c.begin_trace.ensures.kept ∙ c.plan_saving.ensures.kept in
    let opens = rw (c.as_slice-volumes.ensures.value, same, ← c.in_err-text.ensures.none) at c.in_ok-channel.ensures.drives in
    rw (p.1, p.2, ← c.host.view_is)
    (inr (inr (inr ((c.in_ok-channel.channel.drives, opens), c.in_err-text.ensures.not_read)), kept, refl))

-- a fault of the files is told first, and that of the trace last
pub returns-clause-runs : goal.returns-clause-runs
returns-clause-runs g c =
    let same = c.begin_trace.ensures.same ∙ c.plan_saving.ensures.same in
    let kept = c.tell_fault.ensures.kept ∙ c.read_deck.ensures.kept ∙ c.build.ensures.kept ∙ c.begin_trace.ensures.kept
    ∙ c.plan_saving.ensures.kept in
    let none_behind = c.end_run-concluded.ensures.same ∙ c.tell_fault.ensures.same in
    rw (← c.host.view_is) (inl (record {
      built = c.in_ok-channel.channel;
      is_new = c.in_ok-channel.ensures.is_new;
      opened = g.F.ImageFiles.opened c.build.new.files;
      drives = rw (c.as_slice-volumes.ensures.value, same) at c.in_ok-channel.ensures.drives;
      text = c.in_ok-text.text.items;
      reads = rw (← none_behind) at c.in_ok-text.ensures.read;
      run = c.run_deck-run.result;
      last = c.run_deck-run.new.channel;
      runs = rw c.as_slice-text.ensures.value at c.run_deck-run.ensures.runs;
      flushed = c.run_deck-run.ensures.flushed;
      unless_run = stays_seen (seen_by g.W.Write.contents) c.run_deck-run.result _ _ c.run_deck-run.ensures.nothing_written;
      concluded = c.end_run-concluded.result;
      concludes = rw kept at c.end_run-concluded.ensures.ends;
      traced = c.end_trace-traced.result;
      no_other = c.end_trace-traced.ensures.fault;
      told = search (rules, tests);
    }))

-- the files stayed, where the fault that is told says so
pub returns-clause-keeps : goal.returns-clause-keeps
returns-clause-keeps g c =
    let written = g.F.ImageFiles.written in
    let same = c.tell_fault.ensures.kept ∙ c.read_deck.ensures.kept ∙ c.build.ensures.kept ∙ c.begin_trace.ensures.kept
    ∙ c.plan_saving.ensures.kept in
    let kept = kept_if_told (written c.host.inside.files) (written c.end_run-concluded.new.files) c.end_run-concluded.result
    c.end_trace-traced.result Done (rw same at c.end_run-concluded.ensures.keeps) c.end_trace-traced.ensures.kept in
    rw (← c.host.view_is) (search (rules, tests, kept))
