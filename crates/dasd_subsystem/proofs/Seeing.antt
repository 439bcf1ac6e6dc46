-- What is seen of one of several channels.
use Rattle.std.proofs.Common.{◌≡◌, ◌∙◌, ◌+◌, ◌*◌, ◌/◌, ◌%◌, ◌<◌, ℕ, true, false, arith, ap, subst, sym, Option, Some, None}
use Rattle.s360_words.specs.Storage.{Storage}
use Rattle.ckd_drive.specs.Work.{DriveState}
use Rattle.s360_channel.specs.Channel.{ChannelState}
use Rattle.s360_channel.specs.Shares.{with_storage}
use Rattle.s360_channel.specs.declared.view.RunOn.{RunOn}
use Rattle.s360_channel.specs.declared.view.Watched.{Watched}
use Rattle.s360_channels.specs.Asked.{ShowsDriveAtWorkAt, ShowsProgramAt, drive_at}
use Rattle.s360_channels.specs.Channels.{ChannelsState, OnChannel, RunsTo, channel_at}
use Rattle.dasd_subsystem.specs.Glances.{Sees, SeesAt, SeesWork, SeesWorkAt, UnitTo, phase_seen, runs, work_seen}
use Rattle.dasd_subsystem.specs.Shown.{numbers_of}
use Rattle.dasd_subsystem.specs.Until.{UntilTo, happened, is_any, no_counts, nothing, with_unit}
use Rattle.dasd_subsystem.specs.declared.glances.Glance.{Glance}
use Rattle.dasd_subsystem.specs.declared.until.Counts.{Counts}
use Rattle.dasd_subsystem.specs.declared.until.Until.{Until}
use Rattle.dasd_subsystem.specs.declared.until.Wanted.{Wanted}
use Rattle.dasd_subsystem.proofs.Goes.{Goes, goes_on, sets_out}
use Rattle.dasd_subsystem.proofs.Joined.{at_rest, joined, told}

-- a channel over the storage that it has
over_own : (c : ChannelState) (s : Storage) → c.storage ≡ s → with_storage c s ≡ c
over_own c s e = ap (with_storage c) (sym e)

-- the parts of a drive's address
pub low_byte : (number device high low : ℕ) → device < 256 → high ≡ number → low ≡ device → (high * 256 + low) % 256 ≡ device
low_byte number device high low less is_high is_low = omega (arith, less, is_high, is_low)

pub high_byte : (number device high low : ℕ) → device < 256 → high ≡ number → low ≡ device → (high * 256 + low) / 256 ≡ number
high_byte number device high low less is_high is_low = omega (arith, less, is_high, is_low)

-- What is seen beside the subchannel.
pub work_is_seen : (glance : Glance) (program : Option Watched) (at_work : Option DriveState) (s : Storage) (o : Option ChannelState)
    → ShowsProgramAt program s o → glance.work ≡ work_seen program → ShowsDriveAtWorkAt at_work s o → glance.phase ≡ phase_seen at_work
    → glance.drive ≡ drive_at (numbers_of glance.subchannel).1 o → SeesWorkAt glance s o
work_is_seen glance program at_work s None shows work drive phase is = tt
work_is_seen glance program at_work s (Some c) shows work drive phase is = record {
  program = program;
  shows_program = shows;
  work = work;
  at_work = at_work;
  shows_drive = drive;
  phase = phase;
  drive = is;
}

-- A unit that was run, and what is seen behind it.
pub unit_seen : (number : ℕ) (old new : ChannelsState) (ran : RunOn) (behind : Glance) (Missing Lacking : Type 0) → (Missing → Lacking)
    → behind.subchannel ≡ ran.subchannel → SeesWorkAt behind new.storage (channel_at number new)
    → OnChannel number (RunsTo 1 (Some ran)) Missing old new → OnChannel number (UnitTo (Some behind)) Lacking old new
unit_seen number old new ran behind Missing Lacking misses same sees h =
    told number (RunsTo 1 (Some ran)) (UnitTo (Some behind)) Missing Lacking old new (λ c d there own r. record {
      done = ran.units;
      most = r.most;
      steps = r.steps;
      sees = record {
        subchannel = λ m stands. same ∙ r.behind m stands;
        work = subst (SeesWork behind) (over_own d new.storage own) (subst (SeesWorkAt behind new.storage) there sees);
      };
    }) misses h

-- The first that is seen of a channel, before any unit.
pub first_seen : (number : ℕ) (until : Until) (s : ChannelsState) (first : Glance) → SeesAt (Some first) s.storage (channel_at number s)
    → OnChannel number (Goes until 0 no_counts first nothing) ⊥ s s
first_seen number until s first sees =
    at_rest number (Goes until 0 no_counts first nothing) ⊥ s
    (λ c there own.
    sets_out until first c (subst (Sees first) (over_own c s.storage own) (subst (SeesAt (Some first) s.storage) there sees)))
    (λ none. subst (SeesAt (Some first) s.storage) none sees)

-- Nothing is seen, where there is no such channel.
pub none_seen : (number : ℕ) (wanted : Wanted) (Missing : Type 0) (s : ChannelsState) → SeesAt None s.storage (channel_at number s)
    → Missing → OnChannel number (UntilTo wanted None) Missing s s
none_seen number wanted Missing s sees missing =
    at_rest number (UntilTo wanted None) Missing s (λ c there own. subst (SeesAt None s.storage) there sees) (λ none. missing)

-- A unit more of a program that runs.
module _ (until : Until) (last behind : Glance) (number : ℕ) (old mid new : ChannelsState) where
  pub unit_more : (units : ℕ) (counts : Counts) (stopped : Until) (Missing : Type 0) → runs last.subchannel ≡ true
      → is_any stopped ≡ false → OnChannel number (Goes until units counts last stopped) ⊥ old mid
      → OnChannel number (UnitTo (Some behind)) Missing mid new
      → OnChannel number (Goes until (units + 1) (with_unit counts last behind) behind (happened until last behind)) ⊥ old new
  unit_more units counts stopped Missing run none h k =
      joined number old mid new (Goes until units counts last stopped) (UnitTo (Some behind))
      (Goes until (units + 1) (with_unit counts last behind) behind (happened until last behind)) Missing
      (λ b c d g u. goes_on until last behind units counts stopped b c d run none g u) h k
