use Rattle.std.proofs.Common.{arith, ◌∙◌, ◌≤◌, ap, length, subst}
use Rattle.atomic_save.specs.Calls.{shown, files_of}
use Rattle.atomic_save.proofs.Put.{sync_reached, more_synced, still_due, written, fewer_synced}
use Rattle.atomic_save.proofs.saving.sync_files.Goals as goal

pub returns-in_err-sync-clause-any_moment : goal.returns-in_err-sync-clause-any_moment
returns-in_err-sync-clause-any_moment g c ns some disk before calm r =
    (sync_reached disk ns before calm (g.H.Host.events c.loop-file.host) (g.H.Host.events c.sync.new.self) c.loop-file.file _
    c.in_err-sync.ensures.events (c.loop-file.invariant.shown ∙ some) (c.loop-file.invariant.reached disk ns before some calm r)).safe

pub loop-file-preserved : goal.loop-file-preserved
loop-file-preserved g c =
    let old = g.H.Host.events c.args.host.now in
    let es = g.H.Host.events c.loop-file.host in
    let new = g.H.Host.events c.sync.new.self in
    let is = c.in_ok-sync.ensures.events in
    record {
      reached = λ disk ns before some calm r. sync_reached disk ns before calm es new c.loop-file.file _ is
          (c.loop-file.invariant.shown ∙ some) (c.loop-file.invariant.reached disk ns before some calm r);
      synced = more_synced c.loop-file.file old es new is c.loop-file.invariant.due c.loop-file.invariant.synced;
      due = still_due c.loop-file.file old es new is c.loop-file.invariant.due;
      faults = omega (arith, c.loop-file.invariant.faults, c.sync.ensures.cause.later);
      shown = ap shown is ∙ c.loop-file.invariant.shown;
    }

pub returns-clause-synced : goal.returns-clause-synced
returns-clause-synced g c ns some lie handed disk before calm r =
    let old = g.H.Host.events c.args.host.now in
    let new = g.H.Host.events c.loop-file.host in
    let all = fewer_synced (length (files_of old)) c.loop-file.file old new
    (subst (λ l. length l ≤ c.loop-file.file) c.files-file-end.ensures c.loop-file-test.false) c.loop-file.invariant.synced in
    written disk (files_of old) ns before old new lie handed all (c.loop-file.invariant.reached disk ns before some calm r).left
