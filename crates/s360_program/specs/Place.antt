-- The channel's place as the code keeps it, and what it fetches.
use Rattle.std.specs.Prelude.{◌+◌, ◌≤◌, ◌<◌, ◌^◌, if◌then◌else◌}
use Rattle.s360_words.specs.declared.flags.TheConstants.UnitStatus.{STATUS_MODIFIER}
use Rattle.s360_words.specs.declared.flags.UnitStatus.{UnitStatus}
use Rattle.s360_laws.specs.Status.{tells}
use Rattle.s360_laws.specs.Places.{Place, Fetched, NoCcw, TransferTo, GoodCcw}
use Rattle.s360_program.specs.declared.place.Place.{Place as KeptPlace}
use Rattle.s360_program.specs.declared.place.Fetched.{Fetched as KeptFetched}
use Rattle.s360_program.specs.declared.place.Fetched.TheVariants as kept

-- the channel's place in a program, by what the code keeps of it
abbrev pub place_of : KeptPlace → Place
place_of p = record {
  next = p.next;
  may_transfer = p.may_transfer;
  last = p.last;
  residual = p.residual;
  interruption = p.interruption;
}

-- what a fetch found, by what the code answers
abbrev pub fetched_of : KeptFetched → Fetched
fetched_of kept.NoCcw = NoCcw
fetched_of (kept.TransferTo address) = TransferTo address
fetched_of (kept.GoodCcw ccw) = GoodCcw ccw

-- a word that is fetched stands within the greatest storage, addresses have 24 bits, and a good word's count is above 0
abbrev pub FetchedWithin : Place → Fetched → Type 0
FetchedWithin p NoCcw = Unit {0}
FetchedWithin p (TransferTo address) = address < 2 ^ 24
FetchedWithin p (GoodCcw ccw) = (p.next + 8 ≤ 2 ^ 24) × (ccw.address < 2 ^ 24) × (0 < ccw.count)

-- status modifier passes over the next word ('Command Chaining')
abbrev pub modified_place : Place → UnitStatus → Place
modified_place p unit = if tells unit STATUS_MODIFIER then record p { next = p.next + 8 } else p
