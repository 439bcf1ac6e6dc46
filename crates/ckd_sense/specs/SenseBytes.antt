-- The sense bytes (component descriptions of the 2841 and the 2314, 'Sense').
use Rattle.std.specs.Prelude.{ℕ, ◌/◌, ◌%◌, List, [], ◌∷◌, codes}
use Rattle.std.specs.Int.RustNames.{bit_or}
use Rattle.ckd_sense.specs.declared.sense_bytes.Sense.{Sense}
use Rattle.ckd_sense.specs.declared.sense_bytes.TheConstants.Sense as sense

-- the six bytes that Sense gives: two with causes, and four zeros
abbrev pub sense_bytes : Sense → List ℕ
sense_bytes s = s.0 / 256 ∷ s.0 % 256 ∷ 0 ∷ 0 ∷ 0 ∷ 0 ∷ []

-- two causes at once: each bit of either
abbrev pub joined : Sense → Sense → Sense
joined s t = record { 0 = bit_or s.0 t.0 }

-- the bits of sense bytes 0 and 1, by their names: byte 0 is the high half
abbrev pub sense_bits : List (List ℕ × ℕ)
sense_bits =
    (codes "COMMAND_REJECT", 0x8000)
    ∷ (codes "INTERVENTION_REQUIRED", 0x4000)
    ∷ (codes "BUS_OUT_CHECK", 0x2000)
    ∷ (codes "EQUIPMENT_CHECK", 0x1000)
    ∷ (codes "DATA_CHECK", 0x0800)
    ∷ (codes "OVERRUN", 0x0400)
    ∷ (codes "TRACK_CONDITION_CHECK", 0x0200)
    ∷ (codes "SEEK_CHECK", 0x0100)
    ∷ (codes "DATA_CHECK_IN_COUNT_AREA", 0x0080)
    ∷ (codes "TRACK_OVERRUN", 0x0040)
    ∷ (codes "END_OF_CYLINDER", 0x0020)
    ∷ (codes "INVALID_SEQUENCE", 0x0010)
    ∷ (codes "NO_RECORD_FOUND", 0x0008)
    ∷ (codes "FILE_PROTECTED", 0x0004)
    ∷ (codes "MISSING_ADDRESS_MARKER", 0x0002)
    ∷ (codes "OVERFLOW_INCOMPLETE", 0x0001)
    ∷ []

-- a row of the causes of unit check: the constant of the code that stands for it, and sense bytes 0 and 1
pub record Cause : Type 0 where
  pub sense : Sense
  pub byte_0 : ℕ
  pub byte_1 : ℕ

-- a row of the causes
abbrev pub cause : Sense → (byte_0 byte_1 : ℕ) → Cause
cause s byte_0 byte_1 = record { sense = s; byte_0 = byte_0; byte_1 = byte_1 }

-- what is reported for each cause; which bits go together is this project's profile
abbrev pub causes : List Cause
causes =
    cause sense.ZERO 0x00 0x00
    ∷ cause sense.INVALID_COMMAND 0x80 0x00
    ∷ cause sense.WRITE_NOT_ALLOWED 0x80 0x04
    ∷ cause sense.SEEK_NOT_ALLOWED 0x00 0x04
    ∷ cause sense.OUT_OF_SEQUENCE 0x80 0x10
    ∷ cause sense.HEAD_CHANGE_NOT_ALLOWED 0x00 0x04
    ∷ cause sense.NO_RECORD_FOUND 0x00 0x08
    ∷ cause sense.END_OF_CYLINDER 0x00 0x20
    ∷ cause sense.UNREADABLE_TRACK 0x08 0x02
    ∷ cause sense.FIELD_CUT_SHORT 0x80 0x00
    ∷ cause sense.WRONG_HOME_ADDRESS 0x80 0x00
    ∷ cause sense.SEEK_ADDRESS_OUTSIDE 0x81 0x00
    ∷ cause sense.RECORD_DOES_NOT_FIT 0x00 0x40
    ∷ cause sense.STORE_FAULT 0x10 0x00
    ∷ []

-- the six bytes of a row: its two, and zeros behind them
abbrev pub listed_bytes : Cause → List ℕ
listed_bytes c = c.byte_0 ∷ c.byte_1 ∷ 0 ∷ 0 ∷ 0 ∷ 0 ∷ []

-- the six bytes that the command Sense gives for it
abbrev pub reported_bytes : Cause → List ℕ
reported_bytes c = sense_bytes c.sense
