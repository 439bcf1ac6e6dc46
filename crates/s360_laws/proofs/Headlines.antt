-- The headline, from the laws that it joins.
use Rattle.std.proofs.Common.{List}
use Rattle.s360_laws.specs.Events.{Input}
use Rattle.s360_laws.specs.Headline.{HeadlineHolds}
use Rattle.s360_laws.specs.History.{Runs}
use Rattle.s360_laws.specs.Machine.{Machine, after_all}
use Rattle.s360_laws.specs.Soundness.{IsSound}
use Rattle.s360_laws.proofs.Arms.{arm_stays}
use Rattle.s360_laws.proofs.LedgerLists.{held_until_stored, at_most_once, channel_end_first, ends_pend, exactly_once, sound_parts}
use Rattle.s360_laws.proofs.LedgerLists.{stays_sound, no_start_while_working}
use Rattle.s360_laws.proofs.MachineFaults.{fault_does}
use Rattle.s360_laws.proofs.NoFaultTold.{no_fault_none_told}
use Rattle.s360_laws.proofs.Serial.{serial}

-- a sound machine's program runs
runs : (m : Machine) → IsSound m → Runs m m.subchannel
runs m h = (sound_parts m m.subchannel h.1).0

pub headline : HeadlineHolds
headline m es sound = record {
  no_start_while_running = λ so_far rest is working. no_start_while_working (after_all so_far m) working;
  ends_at_most_once = λ so_far rest is u. at_most_once m so_far u sound;
  ends_exactly_once = λ so_far rest is e u. exactly_once m so_far e u sound;
  channel_end_first = λ so_far rest is u. channel_end_first m so_far u sound;
  ends_pend = λ so_far rest is u. ends_pend m so_far u sound;
  endings_are_held = λ so_far rest is device csw pends. held_until_stored (after_all so_far m) device csw rest (now so_far) pends;
  arms_owe = λ so_far rest is u arm later has owes along. arm_stays (after_all so_far m) rest u arm later (now so_far) has owes along;
  is_serial = λ so_far rest is over. serial m so_far (runs m sound) over;
  faults_end_programs = λ so_far rest is e x. fault_does (after_all so_far m) e x (runs (after_all so_far m) (now so_far));
  no_fault_none_told = λ so_far rest is e. no_fault_none_told (after_all so_far m) e (runs (after_all so_far m) (now so_far));
  stays_sound = λ so_far rest is. now so_far;
}
  where
    now : (so_far : List Input) → IsSound (after_all so_far m)
    now so_far = stays_sound m so_far sound
