-- What C is told in a struct of its own: how many bytes that has goes with the call, so that fields can come behind those of today.
use Rattle.std.specs.Prelude.{ℕ, ◌-◌, List, [], ◌∷◌, ◌++◌, length, take, replicate}
use Rattle.std.specs.List.{concat}
use Rattle.std.specs.Int.{to_le_bytes, w16, w32, w64}
use Rattle.dasd_subsystem.specs.declared.watched.ShownProgram.{ShownProgram}
use Rattle.dasd_subsystem.specs.declared.watched.ShownRegisters.{ShownRegisters}
use Rattle.dasd_subsystem.specs.declared.until.RunProgress.{RunProgress}

-- as many of these bytes as there is room for, and zeros behind the last of them
abbrev pub fitted : (room : ℕ) → (bytes : List ℕ) → List ℕ
fitted room bytes = take room bytes ++ replicate (room - length bytes) 0

-- the fields of a program as they lie in C's struct, a number with its lowest byte first
abbrev pub program_bytes : ShownProgram → List ℕ
program_bytes p = concat (
    to_le_bytes w32 p.last ∷ to_le_bytes w32 p.next ∷ to_le_bytes w32 p.address ∷ to_le_bytes w32 p.place
    ∷ to_le_bytes w16 p.count ∷ to_le_bytes w16 p.residual
    ∷ (p.device ∷ p.key ∷ p.phase ∷ p.asked ∷ p.code ∷ p.flags ∷ []) ∷ p.reserved ∷ [])

-- those of what a drive remembers, with six zeros behind them
abbrev pub registers_bytes : ShownRegisters → List ℕ
registers_bytes r = concat (
    to_le_bytes w64 r.passed ∷ to_le_bytes w64 r.credited ∷ to_le_bytes w16 r.cylinder ∷ to_le_bytes w16 r.head ∷ r.sense
    ∷ (r.area ∷ r.lap ∷ r.mask ∷ r.mask_set ∷ r.credit ∷ []) ∷ r.reserved ∷ replicate 6 0 ∷ [])

-- those of what came of units
abbrev pub progress_bytes : RunProgress → List ℕ
progress_bytes p = concat (
    to_le_bytes w64 p.cylinders ∷ to_le_bytes w32 p.units ∷ to_le_bytes w32 p.bytes ∷ to_le_bytes w32 p.indexes
    ∷ to_le_bytes w32 p.stored ∷ to_le_bytes w32 p.low ∷ to_le_bytes w32 p.high
    ∷ (p.subchannel ∷ p.device ∷ p.asked ∷ p.stopped ∷ []) ∷ p.reserved ∷ [])
