use Rattle.std.proofs.Common.{◌∙◌, refl}
use Rattle.volume_hash.specs.SetLines.{shown}
use Rattle.volume_hash.specs.SetMessage.{member_message, member_is_whole}
use Rattle.volume_hash.specs.Sets.{member_line}
use Rattle.volume_hash.proofs.Grown.{no_text, no_test, one_more_text, one_more_test, all_text, all_tests}
use Rattle.volume_hash.proofs.libraries.add_members.Goals as goal

pub loop-entry-init : goal.loop-entry-init
loop-entry-init g c = record {
  members = record {
    message = λ slots known. no_text _;
    lines = λ slots known. no_text _;
    whole = λ slots known. no_test _;
  };
  volume = refl;
  failures = refl;
}

pub loop-entry-preserved : goal.loop-entry-preserved
loop-entry-preserved g c =
    let so_far = c.loop-entry.invariant in
    let step = rw so_far.volume at c.in_default.ensures.member in
    let entries = c.args.entries.now in
    let i = c.loop-entry.entry-index in
    let form = c.args.named.form in
    let f = shown form.path.now form.json form.sets form.members in
    let name = c.args.named.name.now in
    let extents = c.args.named.extents.now in
    let g0 = (g.V.SlotReader.volume c.args.volume.now).geometry in
    record {
      members = record {
        message = λ slots known. one_more_text entries i (member_message extents g0 slots) _ _ _ _ c.loop-entry-test.true
            (so_far.members.message slots known) (step.message slots known);
        lines = λ slots known. one_more_text entries i (member_line f name extents g0 slots) _ _ _ _ c.loop-entry-test.true
            (so_far.members.lines slots known) (step.lines slots known);
        whole = λ slots known. one_more_test entries i (member_is_whole extents g0 slots) _ _ _ _ c.loop-entry-test.true
            (so_far.members.whole slots known) (step.whole slots known);
      };
      volume = c.in_default.ensures.volume.0 ∙ so_far.volume;
      failures = c.in_default.ensures.volume.1 ∙ so_far.failures;
    }

pub returns-in-Err-clause-volume : goal.returns-in-Err-clause-volume
returns-in-Err-clause-volume g c = rw (c.loop-entry.invariant.volume, c.loop-entry.invariant.failures) at c.in-Err.ensures.volume

pub returns-clause-members : goal.returns-clause-members
returns-clause-members g c =
    let so_far = c.loop-entry.invariant in
    let entries = c.args.entries.now in
    let i = c.loop-entry.entry-index in
    record {
      message = λ slots known. all_text entries i _ _ _ c.loop-entry-test.false (so_far.members.message slots known);
      lines = λ slots known. all_text entries i _ _ _ c.loop-entry-test.false (so_far.members.lines slots known);
      whole = λ slots known. all_tests entries i _ _ _ c.loop-entry-test.false (so_far.members.whole slots known);
    }
