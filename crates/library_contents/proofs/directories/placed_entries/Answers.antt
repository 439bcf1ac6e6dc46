use Rattle.std.proofs.Common.{◌∙◌, ap, sym}
use Rattle.library_contents.proofs.Placed.{before_all, none_yet, one_before, last_before, this_step, last_step}
use Rattle.library_contents.proofs.directories.placed_entries.Goals as goal
use Rattle.library_contents.proofs.directories.placed_entries.Goals.{in-Entry+in_ok-push-in-Entry, in-Skip}

pub loop-init : goal.loop-init
loop-init c = none_yet _ _ c.new-entries.ensures.items

pub returns-in-End : goal.returns-in-End
returns-in-End c =
    let is = this_step _ _ _ _ (sym c.directory_step.ensures ∙ c.in-End.is) c.loop-test.true in sym (cc (last_before c.loop.entries.items))

pub returns-in-Fault : goal.returns-in-Fault
returns-in-Fault c =
    let is = this_step _ _ _ _ (sym c.directory_step.ensures ∙ c.in-Fault.is) c.loop-test.true in
    sym (c.loop.invariant ∙ ap (before_all c.loop.entries.items) is)

pub loop-preserved : goal.loop-preserved
loop-preserved c = elim c.match-directory_step.branch [
  | in-Entry+in_ok-push-in-Entry w ↦
      let is = this_step _ _ _ _ (sym c.directory_step.ensures ∙ w.in-Entry.is) c.loop-test.true in
      rw (w.entries-is, w.at-is, w.in_ok-push-in-Entry.ensures)
      (c.loop.invariant ∙ ap (before_all c.loop.entries.items) is ∙ one_before _ _ _)
  | in-Skip w ↦
      let is = this_step _ _ _ _ (sym c.directory_step.ensures ∙ w.in-Skip.is) c.loop-test.true in
      rw (w.entries-is, w.at-is) (c.loop.invariant ∙ ap (before_all c.loop.entries.items) is)
]

pub returns : goal.returns
returns c =
    let is = last_step _ _ _ c.loop-test.false in
    sym (c.loop.invariant ∙ ap (before_all c.loop.entries.items) is ∙ last_before c.loop.entries.items)
