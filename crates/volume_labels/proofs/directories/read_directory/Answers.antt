use Rattle.std.proofs.Common.{◌∙◌, ◌++◌, sym, ap, Some, None, rules, tests}
use Rattle.volume_labels.proofs.Entries.{this_step, last_step, no_more, that_fault, entries_more, fault_more}
use Rattle.volume_labels.specs.Directories.{Found, entries_of, entries_from}
use Rattle.volume_labels.proofs.directories.read_directory.Goals as goal
use Rattle.volume_labels.proofs.directories.read_directory.Goals.{in-Entry+in_ok-push-in-Entry, in-Skip}

pub returns-in-End : goal.returns-in-End
returns-in-End c =
    let is = this_step _ _ _ _ (sym c.directory_step.ensures ∙ c.in-End.is) c.loop-test.true in record {
      entries = no_more _ _ _ c.loop.invariant.entries c.loop.invariant.fault None is;
      fault = that_fault _ _ _ c.loop.invariant.entries c.loop.invariant.fault None is;
    }

pub returns-in-Fault : goal.returns-in-Fault
returns-in-Fault c =
    let is = this_step _ _ _ _ (sym c.directory_step.ensures ∙ c.in-Fault.is) c.loop-test.true in record {
      entries = no_more _ _ _ c.loop.invariant.entries c.loop.invariant.fault (Some c.in-Fault.fault) is;
      fault = that_fault _ _ _ c.loop.invariant.entries c.loop.invariant.fault (Some c.in-Fault.fault) is;
    }

pub loop-preserved : goal.loop-preserved
loop-preserved c = elim c.match-directory_step.branch [
  | in-Entry+in_ok-push-in-Entry w ↦
      let is = this_step _ _ _ _ (sym c.directory_step.ensures ∙ w.in-Entry.is) c.loop-test.true in record {
        entries = rw (w.entries-is, w.at-is, w.in_ok-push-in-Entry.ensures)
            (entries_more _ _ _ c.loop.invariant.entries c.loop.invariant.fault _ _ is);
        fault = rw (w.at-is) (fault_more _ _ _ c.loop.invariant.entries c.loop.invariant.fault _ _ is);
      }
  | in-Skip w ↦
      let is = this_step _ _ _ _ (sym c.directory_step.ensures ∙ w.in-Skip.is) c.loop-test.true in record {
        entries = rw (w.entries-is, w.at-is) (c.loop.invariant.entries ∙ ap (λ (x : Found). c.loop.entries.items ++ x.entries) is);
        fault = rw (w.at-is) (c.loop.invariant.fault ∙ ap (λ (x : Found). x.fault) is);
      }
]

pub returns : goal.returns
returns c =
    let is = last_step _ _ _ c.loop-test.false in record {
      entries = no_more _ _ _ c.loop.invariant.entries c.loop.invariant.fault None is;
      fault = that_fault _ _ _ c.loop.invariant.entries c.loop.invariant.fault None is;
    }
