-- What is changed of a member of a library of the volume of an image in memory.
use Rattle.std.specs.Prelude.{◌≡◌, List, ℕ, Ok, Err}
use Rattle.dasd_jobs.specs.declared.faults.JobFault.TheVariants as job
use Rattle.changed_volumes.specs.declared.fault.ChangeFault.{ChangeFault}
use Rattle.changed_volumes.specs.declared.fault.ChangeFault.TheVariants as fault
use Rattle.changed_volumes.specs.Changes.{Changing}
use Rattle.member_changes.specs.declared.entries.EntryChange.{EntryChange}
use Rattle.member_changes.specs.declared.refusal.MemberRefusal.{MemberRefusal}
use Rattle.member_changes.specs.declared.refusal.PlanFault.{PlanFault}
use Rattle.member_changes.specs.declared.refusal.PlanFault.TheVariants as plan
use Rattle.member_changes.specs.Volumes.{member_changed}

-- a member of the library of this name is changed, or not
abbrev pub changing : (library : List ℕ) → EntryChange → Changing (Unit {0}) MemberRefusal
changing library change = record {
  makes = λ g before answer now. member_changed library change g before ≡ Ok now;
  refuses = λ r g slots. member_changed library change g slots ≡ Err r;
}

-- what the fault of a plan is
abbrev pub plan_fault : PlanFault → ChangeFault MemberRefusal
plan_fault (plan.Refused r) = fault.Refused r
plan_fault plan.OutOfMemory = fault.Job job.OutOfMemory
