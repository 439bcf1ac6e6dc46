-- What a drive allows.
use Rattle.std.specs.Prelude.{ℕ, ◌==◌, Bool, true, false, List, length, Option, Some, None, if◌then◌else◌}
use Rattle.ckd_drive.specs.Work.{Work, is_idle, is_working, may_end, passed_of, left_of, gives_now, takes_now}
use Rattle.ckd_drive.specs.declared.answers.Phase.{Phase}
use Rattle.ckd_drive.specs.declared.answers.Phase.TheVariants.{Idle, Over, Looking, Gives, Takes}
use Rattle.lone_drive_c.specs.declared.allowed.Allowance.{Allowance}

-- whether no byte of a command has passed
abbrev pub is_untouched : Work → Bool
is_untouched w = length (passed_of w) == 0

-- how many bytes may pass this way now, if some may
abbrev pub left_if : (passes : Bool) → Work → Option ℕ
left_if passes w = if passes then Some (left_of w) else None

-- what is allowed while a command is so far
abbrev pub may_now : Work → Allowance
may_now w = record {
  begin = is_idle w;
  look = is_working w;
  end = may_end w;
  settle = is_untouched w;
  give = left_if (gives_now w) w;
  take = left_if (takes_now w) w;
}

-- what is allowed while no bytes pass
abbrev pub without_bytes : (begin look end : Bool) → Allowance
without_bytes begin look end = record { begin = begin; look = look; end = end; settle = true; give = None; take = None }

-- what is allowed, by what is reported of the command
abbrev pub may_at : Phase → Allowance
may_at Idle = without_bytes true false false
may_at Over = without_bytes false false true
may_at Looking = without_bytes false true false
may_at (Gives passed left) = record { begin = false; look = true; end = true; settle = passed == 0; give = Some left; take = None }
may_at (Takes passed left) = record { begin = false; look = true; end = true; settle = passed == 0; give = None; take = Some left }
