use Rattle.std.proofs.Common.{◌≡◌, position, None, sym, subst, ◌∙◌}
use Rattle.atomic_save.specs.Changes.{notes}
use Rattle.atomic_save.specs.Calls.{files_of}
use Rattle.atomic_save.specs.Saves.{Safe, AllLie, Writing, is_outside}
use Rattle.atomic_save.proofs.Moments.{same_moment}
use Rattle.atomic_save.proofs.Put.{all_lie}
use Rattle.atomic_save.proofs.Steps.{calm, safe_at_first, goes_on, written_then}
use Rattle.atomic_save.proofs.saving.save.Goals as goal

pub returns-in-Some-clause-any_moment : goal.returns-in-Some-clause-any_moment
returns-in-Some-clause-any_moment g c disk fits =
    let es = g.H.Host.events c.args.host.now in
    same_moment (Safe disk (notes c.args.changes.now) es) es (safe_at_first disk (notes c.args.changes.now) es fits)

pub put-requires-clause-inside : goal.put-requires-clause-inside
put-requires-clause-inside g c =
    let cs = c.args.changes.now in
    let es = g.H.Host.events c.args.host.now in
    subst (λ f. AllLie f (notes cs)) (sym c.publish.ensures.files)
    (all_lie (files_of es) cs (subst (λ f. position (is_outside f) cs ≡ None) c.files.ensures (sym c.in_default.ensures)))

pub returns-in-Err-clause-any_moment : goal.returns-in-Err-clause-any_moment
returns-in-Err-clause-any_moment g c disk fits =
    let ns = notes c.args.changes.now in
    let old = g.H.Host.events c.args.host.now in
    c.put.ensures.any_moment disk old (calm disk ns old fits c.requires.free)
    (record { safe = c.publish.ensures.any_moment disk fits; left = c.in_ok-publish.ensures.journal disk fits })

pub returns-in-Err-sync_files-clause-any_moment : goal.returns-in-Err-sync_files-clause-any_moment
returns-in-Err-sync_files-clause-any_moment g c disk fits =
    let ns = notes c.args.changes.now in
    let old = g.H.Host.events c.args.host.now in
    let calm_old = calm disk ns old fits c.requires.free in
    let put = goes_on disk ns old calm_old (g.H.Host.events c.publish.new.host) (g.H.Host.events c.put.new.host) (Writing ns) (Writing ns)
    (record { safe = c.publish.ensures.any_moment disk fits; left = c.in_ok-publish.ensures.journal disk fits }) c.put.ensures.any_moment
    c.in_default-put.ensures.written in
    c.sync_files.ensures.any_moment ns (c.put.ensures.shown ∙ c.in_ok-publish.ensures.shown) disk old calm_old put

pub returns-in-Ok-clause-any_moment : goal.returns-in-Ok-clause-any_moment
returns-in-Ok-clause-any_moment g c disk fits =
    let ns = notes c.args.changes.now in
    let cs = c.args.changes.now in
    let old = g.H.Host.events c.args.host.now in
    let calm_old = calm disk ns old fits c.requires.free in
    let lie = all_lie (files_of old) cs (subst (λ f. position (is_outside f) cs ≡ None) c.files.ensures (sym c.in_default.ensures)) in
    c.settle.ensures.any_moment ns disk old calm_old
    (written_then disk ns old calm_old (g.H.Host.events c.publish.new.host) (g.H.Host.events c.put.new.host)
    (g.H.Host.events c.sync_files.new.host)
    (record { safe = c.publish.ensures.any_moment disk fits; left = c.in_ok-publish.ensures.journal disk fits })
    c.in_ok-publish.ensures.shown c.put.ensures.any_moment c.in_default-put.ensures.written c.put.ensures.shown
    (c.sync_files.ensures.any_moment ns) (λ some. c.in_default-sync_files.ensures.synced ns some
    (subst (λ f. AllLie f ns) (sym (c.put.ensures.files ∙ c.publish.ensures.files)) lie) c.in_default-put.ensures.handed))

pub returns-in-Ok-clause-saved : goal.returns-in-Ok-clause-saved
returns-in-Ok-clause-saved g c disk fits =
    let ns = notes c.args.changes.now in
    let cs = c.args.changes.now in
    let old = g.H.Host.events c.args.host.now in
    let calm_old = calm disk ns old fits c.requires.free in
    let lie = all_lie (files_of old) cs (subst (λ f. position (is_outside f) cs ≡ None) c.files.ensures (sym c.in_default.ensures)) in
    c.settle.ensures.new ns disk old calm_old
    (written_then disk ns old calm_old (g.H.Host.events c.publish.new.host) (g.H.Host.events c.put.new.host)
    (g.H.Host.events c.sync_files.new.host)
    (record { safe = c.publish.ensures.any_moment disk fits; left = c.in_ok-publish.ensures.journal disk fits })
    c.in_ok-publish.ensures.shown c.put.ensures.any_moment c.in_default-put.ensures.written c.put.ensures.shown
    (c.sync_files.ensures.any_moment ns) (λ some. c.in_default-sync_files.ensures.synced ns some
    (subst (λ f. AllLie f ns) (sym (c.put.ensures.files ∙ c.publish.ensures.files)) lie) c.in_default-put.ensures.handed))

pub returns-in-Err-settle-clause-any_moment : goal.returns-in-Err-settle-clause-any_moment
returns-in-Err-settle-clause-any_moment g c disk fits =
    let ns = notes c.args.changes.now in
    let cs = c.args.changes.now in
    let old = g.H.Host.events c.args.host.now in
    let calm_old = calm disk ns old fits c.requires.free in
    let lie = all_lie (files_of old) cs (subst (λ f. position (is_outside f) cs ≡ None) c.files.ensures (sym c.in_default.ensures)) in
    c.settle.ensures.any_moment ns disk old calm_old
    (written_then disk ns old calm_old (g.H.Host.events c.publish.new.host) (g.H.Host.events c.put.new.host)
    (g.H.Host.events c.sync_files.new.host)
    (record { safe = c.publish.ensures.any_moment disk fits; left = c.in_ok-publish.ensures.journal disk fits })
    c.in_ok-publish.ensures.shown c.put.ensures.any_moment c.in_default-put.ensures.written c.put.ensures.shown
    (c.sync_files.ensures.any_moment ns) (λ some. c.in_default-sync_files.ensures.synced ns some
    (subst (λ f. AllLie f ns) (sym (c.put.ensures.files ∙ c.publish.ensures.files)) lie) c.in_default-put.ensures.handed))

pub returns-in-Err-settle-clause-told : goal.returns-in-Err-settle-clause-told
returns-in-Err-settle-clause-told g c disk fits =
    let ns = notes c.args.changes.now in
    let cs = c.args.changes.now in
    let old = g.H.Host.events c.args.host.now in
    let calm_old = calm disk ns old fits c.requires.free in
    let lie = all_lie (files_of old) cs (subst (λ f. position (is_outside f) cs ≡ None) c.files.ensures (sym c.in_default.ensures)) in
    c.settle.ensures.new ns disk old calm_old
    (written_then disk ns old calm_old (g.H.Host.events c.publish.new.host) (g.H.Host.events c.put.new.host)
    (g.H.Host.events c.sync_files.new.host)
    (record { safe = c.publish.ensures.any_moment disk fits; left = c.in_ok-publish.ensures.journal disk fits })
    c.in_ok-publish.ensures.shown c.put.ensures.any_moment c.in_default-put.ensures.written c.put.ensures.shown
    (c.sync_files.ensures.any_moment ns) (λ some. c.in_default-sync_files.ensures.synced ns some
    (subst (λ f. AllLie f ns) (sym (c.put.ensures.files ∙ c.publish.ensures.files)) lie) c.in_default-put.ensures.handed))
