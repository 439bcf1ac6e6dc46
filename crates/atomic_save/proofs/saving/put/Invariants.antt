use Rattle.std.proofs.Common.{◌≡◌, ◌≤◌, List, length}
use Rattle.atomic_save.specs.Changes.{State, notes}
use Rattle.atomic_save.specs.Calls.{Event, files_of, shown}
use Rattle.atomic_save.specs.Saves.{AllLie, CalmBefore, Reached, Writing}
use Rattle.atomic_save.proofs.Put.{Pending, Among}
use Rattle.atomic_save.proofs.saving.put.Given as goal

abbrev pub invariant-loop-rest : goal.invariant-loop-rest
invariant-loop-rest g l = record {
  reached : (disk : State) (before : List Event) → CalmBefore disk (notes l.fn.changes) before
      → Reached disk (notes l.fn.changes) before (Writing (notes l.fn.changes)) (g.H.Host.events l.fn.host)
      → Reached disk (notes l.fn.changes) before (Writing (notes l.fn.changes)) (g.H.Host.events l.host);
  pending : Pending (notes l.rest) (notes l.fn.changes) (g.H.Host.events l.host);
  among : Among (notes l.rest) (notes l.fn.changes);
  inside : AllLie (files_of (g.H.Host.events l.host)) (notes l.rest);
  faults : g.H.Host.faults l.fn.host ≤ g.H.Host.faults l.host;
  shown : shown (g.H.Host.events l.host) ≡ shown (g.H.Host.events l.fn.host);
  files : files_of (g.H.Host.events l.host) ≡ files_of (g.H.Host.events l.fn.host);
}

abbrev pub decreases-loop-rest : goal.decreases-loop-rest
decreases-loop-rest g l = length l.rest
