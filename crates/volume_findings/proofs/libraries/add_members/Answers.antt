use Rattle.std.proofs.Common.{◌∙◌, append-nil, refl, sym}
use Rattle.volume_contents.proofs.Added.{each_more, each_all}
use Rattle.volume_findings.specs.Data.{member_findings}
use Rattle.volume_findings.proofs.libraries.add_members.Goals as goal

pub loop-entry-init : goal.loop-entry-init
loop-entry-init g c = record { found = λ slots known. sym (append-nil _); volume = refl; failures = refl }

pub loop-entry-preserved : goal.loop-entry-preserved
loop-entry-preserved g c =
    let so_far = c.loop-entry.invariant in
    let step = rw so_far.volume at c.in_default.ensures.found in
    let entries = c.args.library.entries.now in
    let d = c.args.library.set.now in
    let g0 = (g.V.SlotReader.volume c.args.volume.now).geometry in
    record {
      found = λ slots known. each_more _ _ _ (λ e. member_findings d.block.name d.extents.items entries e g0 slots) entries
          c.loop-entry.entry-index _ c.loop-entry-test.true
          (so_far.found slots known) (step slots known);
      volume = c.in_default.ensures.volume.0 ∙ so_far.volume;
      failures = c.in_default.ensures.volume.1 ∙ so_far.failures;
    }

pub returns-in-Err-clause-volume : goal.returns-in-Err-clause-volume
returns-in-Err-clause-volume g c = rw (c.loop-entry.invariant.volume, c.loop-entry.invariant.failures) at c.in-Err.ensures.volume

pub returns-clause-found : goal.returns-clause-found
returns-clause-found g c = λ slots known.
    each_all _ _ _ c.args.library.entries.now c.loop-entry.entry-index c.loop-entry-test.false (c.loop-entry.invariant.found slots known)
