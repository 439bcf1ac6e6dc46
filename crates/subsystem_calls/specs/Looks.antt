-- A look at a channel for a trace that is taken by calls: when it is taken, and what it puts into its caller's bytes.
use Rattle.std.specs.Prelude.{◌≡◌, ◌==◌, ◌++◌, ℕ, Bool, true, false, List, length, drop, nat_lt, Option, Some, None, Result, Ok, Err, if◌then◌else◌}
use Rattle.subsystem_calls.specs.declared.fault.LookFault.{LookFault}
use Rattle.subsystem_calls.specs.declared.fault.LookFault.TheVariants.{NoChannel, BadMoment, NoRoom}
use Rattle.subsystem_calls.specs.declared.told.ToldMoment.{ToldMoment}

-- Whether there is a moment of this number whose event is answered so: a condition code is 0 to 3, a step has 65,535 units at most, and
-- what is answered by yes or no is 1 or 0.
abbrev pub is_answered : (what answer : ℕ) → Bool
is_answered what answer =
    if nat_lt what 2 then true
    else if what == 7 then true
    else if what == 11 then true
    else if nat_lt what 6 then nat_lt answer 4
    else if what == 6 then nat_lt answer 65536
    else if nat_lt what 11 then nat_lt answer 2
    else false

abbrev pub is_moment : ToldMoment → Bool
is_moment told = is_answered told.what told.answer

-- Why a look is not taken: there is no such channel; there is no such moment; the room is short.
abbrev pub why_not : (has_channel has_moment is_short : Bool) → Option LookFault
why_not false has_moment is_short = Some NoChannel
why_not true false is_short = Some BadMoment
why_not true true true = Some NoRoom
why_not true true false = None

-- the fault of a look
abbrev pub fault_of : Result ℕ LookFault → Option LookFault
fault_of (Ok len) = None
fault_of (Err fault) = Some fault

-- Lines of so many bytes stand at the front, and behind them what stood there.
pub record Puts (len : ℕ) (old new : List ℕ) : Type 0 where
  pub lines : List ℕ
  pub put : new ≡ lines ++ drop (length lines) old
  pub all : len ≡ length lines
