-- Which tracks the programs of a list of events may write: all others keep their bytes.
use Rattle.std.specs.Prelude.{◌≡◌, ◌==◌, ◌&&◌, ◌||◌, ℕ, List, [], ◌∷◌, Bool, false, Option, Some, None, option_map}
use Rattle.ckd_command.specs.Drive.{IdleDrive}
use Rattle.s360_laws.specs.Scripts.{Script}
use Rattle.s360_laws.specs.RunWrites.{run_writes, slot_in}
use Rattle.s360_laws.specs.Events.{Input}
use Rattle.s360_laws.specs.History.{Act, Program, Runs, World, all_acts, does, drive_in, start_in, world_of}
use Rattle.s360_laws.specs.Machine.{Machine, after_all, exchanges, is_working}

-- the slot of a track of a device's volume, if the device and the track are there
abbrev pub slot_at : World → (device track : ℕ) → Option (Option (List ℕ))
slot_at w device track = option_map (λ d. slot_in d.1.volume track) (drive_in w device)

-- whether an act is a program of the device that may write the track
abbrev pub program_writes : World → (track : ℕ) → Script → Option (ℕ × IdleDrive) → Bool
program_writes w track script None = false
program_writes w track script (Some d) = run_writes track script (start_in w d.1)

-- whether an act may write the track of a device
abbrev pub act_writes : World → (device track : ℕ) → Act → Bool
act_writes w device track (Program p script fate) = (p == device) && program_writes w track script (drive_in w p)
act_writes w device track act = false

-- of acts, one after another
abbrev pub acts_write : World → (device track : ℕ) → List Act → Bool
acts_write w device track [] = false
acts_write w device track (act ∷ rest) = act_writes w device track act || acts_write (does w act) device track rest

-- A slot that no program of a list may write keeps its bytes, whenever no program runs; with or without faults.
abbrev pub KeepsUnwritten : Type 0
KeepsUnwritten = (m : Machine) (es : List Input) (device track : ℕ) → Runs m m.subchannel
    → is_working (after_all es m).subchannel ≡ false
    → acts_write (world_of m) device track (all_acts m (exchanges es m)) ≡ false
    → slot_at (world_of (after_all es m)) device track ≡ slot_at (world_of m) device track
