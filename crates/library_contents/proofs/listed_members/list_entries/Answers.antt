use Rattle.std.proofs.Common.{◌-◌, ◌∙◌, sym, length, rules, tests}
use Rattle.library_contents.specs.Lines.{shown}
use Rattle.library_contents.specs.ListedMembers.{user_data, member_lines, entries_lines, lines_from}
use Rattle.library_contents.proofs.Added.{fewer_left, same_left, none_left, last_added, this_step, last_step}
use Rattle.library_contents.proofs.listed_members.list_entries.Goals as goal
use Rattle.library_contents.proofs.listed_members.list_entries.Goals.{in-Entry+in_default, in-Skip}

pub returns-in-End-clause-lines : goal.returns-in-End-clause-lines
returns-in-End-clause-lines g c = λ slots known. none_left _ _ _ _ (c.loop.invariant.lines slots known)
    (this_step _ _ _ c.loop.counter c.loop.at _ (sym c.directory_step.ensures ∙ c.in-End.is) c.loop-test.true)

pub returns-in-Fault-clause-lines : goal.returns-in-Fault-clause-lines
returns-in-Fault-clause-lines g c =
    let s = shown c.args.library.form in
    let extents = c.args.library.extents.now in
    let bytes = c.args.bytes.now in last_added (g.V.SlotReader.volume c.args.volume.now) (entries_lines s extents bytes)
    (λ geometry slots. lines_from s (λ e next. member_lines s extents e (user_data bytes e next) geometry slots)
    (length bytes - c.loop.counter) bytes c.loop.at) c.add_wrong.result _ _ _ _ c.loop.invariant.lines
    (λ slots. this_step _ _ _ c.loop.counter c.loop.at _ (sym c.directory_step.ensures ∙ c.in-Fault.is) c.loop-test.true)
    c.add_wrong.ensures.lines

pub loop-preserved : goal.loop-preserved
loop-preserved g c = elim c.match-directory_step.branch [
  | in-Entry+in_default w ↦ record {
    lines = λ slots known.
        let added = rw (c.loop.invariant.volume, w.user_data-user.ensures) at w.in_default.ensures.lines in rw (w.report-is, w.at-is)
        (fewer_left _ _ _ _ _ _ _ (c.loop.invariant.lines slots known)
        (this_step _ _ _ c.loop.counter c.loop.at _ (sym c.directory_step.ensures ∙ w.in-Entry.is) c.loop-test.true) (added slots known));
    volume = search (rules, tests);
    failures = search (rules, tests);
  }
  | in-Skip w ↦ record {
    lines = λ slots known. rw (w.report-is, w.at-is) (same_left _ _ _ _ _ (c.loop.invariant.lines slots known)
        (this_step _ _ _ c.loop.counter c.loop.at _ (sym c.directory_step.ensures ∙ w.in-Skip.is) c.loop-test.true));
    volume = search (rules, tests);
    failures = search (rules, tests);
  }
]

pub returns-clause-lines : goal.returns-clause-lines
returns-clause-lines g c = λ slots known.
    none_left _ _ _ _ (c.loop.invariant.lines slots known) (last_step _ _ _ c.loop.counter c.loop.at c.loop-test.false)
