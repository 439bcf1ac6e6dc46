-- The serial list of a list of events with their answers: the same programs, with nothing left between their units but
-- what changed storage.
use Rattle.std.specs.Prelude.{◌≡◌, ℕ, zero, ◌+◌, ◌/◌, ◌%◌, List, [], ◌∷◌, ◌++◌, Bool, true, false, not, ◌&&◌, ◌||◌, ◌==◌, None, replicate, if◌then◌else◌}
use Rattle.std.specs.Prelude.{filter}
use Rattle.s360_laws.specs.Events.{Exchange, Sio, WithCode, Tio, Hio, Tch, StepBy, Stepped, Arrive, HasArrived, Interrupt, Interrupted, Store, WasKept, SetKey}
use Rattle.s360_laws.specs.Events.{Show, Reset}
use Rattle.s360_laws.specs.History.{acts}
use Rattle.s360_laws.specs.declared.condition.ConditionCode.TheVariants.{Zero, Two}

-- Rule 1: leave out what changed nothing, as the answer shows.

-- whether the answer of an exchange shows that it changed nothing
abbrev pub changes_nothing : Exchange → Bool
changes_nothing (Sio a, x, WithCode Zero) = false
changes_nothing (Sio a, x, WithCode code) = true
changes_nothing (Tio a, x, WithCode code) = true
changes_nothing (Hio a, x, WithCode Two) = false
changes_nothing (Hio a, x, WithCode code) = true
changes_nothing (Tch, x, r) = true
changes_nothing (StepBy k, x, Stepped zero) = true
changes_nothing (Arrive a, x, HasArrived false) = true
changes_nothing (Interrupt, x, Interrupted None) = true
changes_nothing (Store at bytes, x, WasKept false) = true
changes_nothing (SetKey at key, x, WasKept false) = true
changes_nothing (Show at len, x, r) = true
changes_nothing t = false

-- the exchanges that changed something
abbrev pub that_change : List Exchange → List Exchange
that_change list = filter (λ t. not (changes_nothing t)) list

-- Rule 2: an arrival between the steps of one program is moved behind the last of them.

-- whether an exchange is a step
abbrev pub is_step : Exchange → Bool
is_step (StepBy k, x, r) = true
is_step t = false

-- whether an exchange is an arrival
abbrev pub is_arrival : Exchange → Bool
is_arrival (Arrive a, x, r) = true
is_arrival t = false

-- what stands between the steps of two programs
abbrev pub is_between : Exchange → Bool
is_between (Sio a, x, r) = true
is_between (Hio a, x, r) = true
is_between (Reset, x, r) = true
is_between t = false

-- whether there is a further step of the program
abbrev pub steps_ahead : List Exchange → Bool
steps_ahead [] = false
steps_ahead (t ∷ rest) = not (is_between t) && (is_step t || steps_ahead rest)

-- inside a program's steps, arrivals are held back until the last of them
abbrev pub arrivals_last : (inside : Bool) → (held : List Exchange) → List Exchange → List Exchange
arrivals_last inside held [] = held
arrivals_last inside held (t ∷ rest) =
    if is_arrival t && (inside && steps_ahead rest) then arrivals_last inside (held ++ t ∷ []) rest
    else (if is_step t && not (steps_ahead rest) then t ∷ (held ++ arrivals_last false [] rest)
    else t ∷ arrivals_last (is_step t || (inside && not (is_between t))) held rest)

-- Rule 3: steps that stand together become steps of 65,535 units and one of the rest.

-- a step of n units that were all done
abbrev pub whole_step : ℕ → Exchange
whole_step n = (StepBy n, None, Stepped n)

-- n units
abbrev pub steps_of : ℕ → List Exchange
steps_of n = replicate (n / 65535) (whole_step 65535) ++ (if n % 65535 == 0 then [] else whole_step (n % 65535) ∷ [])

-- a list, behind n units of steps that stand together
abbrev pub steps_joined : ℕ → List Exchange → List Exchange
steps_joined n [] = steps_of n
steps_joined n ((StepBy k, x, Stepped d) ∷ rest) = steps_joined (n + d) rest
steps_joined n (t ∷ rest) = steps_of n ++ t ∷ steps_joined 0 rest

-- the list with what changed nothing left out, arrivals behind the steps of their program, and steps joined
abbrev pub serial_list : List Exchange → List Exchange
serial_list list = steps_joined 0 (arrivals_last false [] (that_change list))

-- no event met a fault
abbrev pub ArePlain : List Exchange → Type 0
ArePlain [] = Unit {0}
ArePlain (t ∷ rest) = (t.1 ≡ None) × ArePlain rest

-- The acts of the serial list are the acts of the list.
abbrev pub SameActs : Type 0
SameActs = (list : List Exchange) → ArePlain list → acts (serial_list list) ≡ acts list
