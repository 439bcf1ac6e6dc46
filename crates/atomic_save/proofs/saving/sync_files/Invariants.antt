use Rattle.std.proofs.Common.{◌≡◌, ◌≤◌, ℕ, List, Some}
use Rattle.atomic_save.specs.Changes.{State, Note}
use Rattle.atomic_save.specs.Calls.{Event, shown, Due}
use Rattle.atomic_save.specs.Saves.{CalmBefore, Reached, Writing}
use Rattle.atomic_save.proofs.Put.{AreSynced}
use Rattle.atomic_save.proofs.saving.sync_files.Given as goal

abbrev pub invariant-loop-file : goal.invariant-loop-file
invariant-loop-file g l = record {
  reached : (disk : State) (ns : List Note) (before : List Event) → shown (g.H.Host.events l.fn.host) ≡ Some ns → CalmBefore disk ns before
      → Reached disk ns before (Writing ns) (g.H.Host.events l.fn.host) → Reached disk ns before (Writing ns) (g.H.Host.events l.host);
  synced : AreSynced l.file (g.H.Host.events l.fn.host) (g.H.Host.events l.host);
  due : (file k b : ℕ) → Due (g.H.Host.events l.fn.host) file k b → Due (g.H.Host.events l.host) file k b;
  faults : g.H.Host.faults l.fn.host ≤ g.H.Host.faults l.host;
  shown : shown (g.H.Host.events l.host) ≡ shown (g.H.Host.events l.fn.host);
}
