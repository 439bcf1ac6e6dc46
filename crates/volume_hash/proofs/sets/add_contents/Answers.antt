use Rattle.std.proofs.Common.{◌∙◌, ap, subst, ◌++◌, ◌&&◌}
use Rattle.dasd_volumes.specs.Reading.{KnownVolume}
use Rattle.volume_hash.specs.SetLines.{shown}
use Rattle.volume_hash.specs.Prints.{Adds}
use Rattle.volume_hash.specs.Sets.{none_found, findings_lines, blocks_lines, blocks_are_whole}
use Rattle.volume_hash.proofs.Grown.{joined, both_hold}
use Rattle.volume_hash.proofs.sets.add_contents.Goals as goal

-- what is wrong with the table, and then the data sets
pub returns-in-Ok-add_blocks-clause-lines : goal.returns-in-Ok-add_blocks-clause-lines
returns-in-Ok-add_blocks-clause-lines g c =
    let said = c.in-Ok.ensures.contents in
    let before = c.args.report.now in
    let told = c.add_findings.new.report in
    let form = c.args.form in
    let f = shown form.path.now form.json form.sets form.members in
    let blocks = c.as_slice-blocks.result.now in
    let g0 = (g.V.SlotReader.volume c.args.volume.now).geometry in
    let sets = subst (λ (v : KnownVolume). Adds (blocks_lines f blocks) (blocks_are_whole blocks) v told c.add_blocks.new.report)
    c.in-Ok.ensures.volume.0 c.in-Ok-add_blocks.ensures.lines in
    record {
      lines = λ slots known. joined _ _ _ _ _
          (c.in_default.ensures.lines
          ∙ ap (λ l. before.lines.items ++ findings_lines f l) (c.as_slice-findings.ensures.value ∙ (said slots known).findings))
          (sets.lines slots known
          ∙ ap (λ l. told.lines.items ++ blocks_lines f l g0 slots) (c.as_slice-blocks.ensures.value ∙ (said slots known).blocks));
      whole = λ slots known. both_hold _ _ _ _ _
          (c.in_default.ensures.whole
          ∙ ap (λ l. before.is_whole && none_found l) (c.as_slice-findings.ensures.value ∙ (said slots known).findings))
          (sets.whole slots known
          ∙ ap (λ l. told.is_whole && blocks_are_whole l g0 slots) (c.as_slice-blocks.ensures.value ∙ (said slots known).blocks));
    }
