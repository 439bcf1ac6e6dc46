-- The calls of a log as events.
use Rattle.std.specs.Prelude.{option_map}
use Rattle.atomic_save.specs.declared.log.Call.{Call}
use Rattle.atomic_save.specs.declared.log.Call.TheVariants as call
use Rattle.atomic_save.specs.Changes.{note_of, notes}
use Rattle.atomic_save.specs.Calls as events

abbrev pub event_of : Call → events.Event
event_of (call.Opened files changes) = events.Opened files.now (option_map (λ c. notes c.now) changes)
event_of (call.Drafted changes) = events.Drafted (notes changes.now)
event_of call.Committed = events.Committed
event_of call.Retired = events.Retired
event_of (call.NamesSynced done) = events.NamesSynced done
event_of (call.Wrote change done) = events.Wrote (note_of change.now) done
event_of (call.Synced file done) = events.Synced file done
