-- What a C program is shown of a program that runs, and of what its drive remembers: numbers in the place of names.
use Rattle.std.specs.Prelude.{ℕ, ◌+◌, Bool, List, [], ◌∷◌, Option, Some, None, if◌then◌else◌}
use Rattle.s360_words.specs.declared.words.Ccw.{Ccw}
use Rattle.ckd_position.specs.declared.areas.Position.{Position}
use Rattle.ckd_position.specs.declared.areas.Position.TheVariants.{AtIndex, At}
use Rattle.ckd_position.specs.declared.areas.Area.TheVariants.{HomeAddress, Of}
use Rattle.ckd_position.specs.declared.areas.RecordPart.{RecordPart}
use Rattle.ckd_position.specs.declared.areas.RecordPart.TheVariants.{Count, Key, Data}
use Rattle.ckd_sense.specs.SenseBytes.{sense_bytes}
use Rattle.ckd_sense.specs.declared.masks.FileMask.{FileMask}
use Rattle.ckd_sense.specs.declared.masks.WritePermission.{WritePermission}
use Rattle.ckd_sense.specs.declared.masks.WritePermission.TheVariants.{InhibitHomeAddressAndR0, InhibitAllWrites, InhibitFormatWrites, PermitAllWrites}
use Rattle.ckd_sense.specs.declared.masks.SeekPermission.{SeekPermission}
use Rattle.ckd_sense.specs.declared.masks.SeekPermission.TheVariants.{PermitAllSeeks, PermitSeekCylinderAndHead, PermitSeekHead, InhibitAllSeeks}
use Rattle.ckd_command.specs.declared.registers.Registers.{Registers}
use Rattle.ckd_command.specs.declared.registers.Credit.{Credit}
use Rattle.ckd_command.specs.declared.registers.Credit.TheVariants.{EqualHomeAddress, EqualId, EqualKey, WroteHomeAddress, WroteRecord}
use Rattle.ckd_command.specs.declared.registers.Lap.{Lap}
use Rattle.ckd_command.specs.declared.registers.Lap.TheVariants.{First, Second}
use Rattle.s360_program.specs.declared.view.AtWork.{AtWork}
use Rattle.s360_program.specs.declared.view.AtWork.TheVariants.{Fetching, Looking, Moving}
use Rattle.s360_channel.specs.declared.view.Watched.{Watched}
use Rattle.dasd_subsystem.specs.declared.watched.ShownProgram.{ShownProgram}
use Rattle.dasd_subsystem.specs.declared.watched.ShownRegisters.{ShownRegisters}

-- what the next unit does: it fetches a word, it looks for an area, or it moves a byte
abbrev pub phase_of : AtWork → ℕ
phase_of Fetching = 0
phase_of (Looking word) = 1
phase_of (Moving word place) = 2

-- the word at work; zeros where one is fetched
abbrev pub word_of : AtWork → Ccw
word_of Fetching = record { code = 0; address = 0; flags = record { 0 = 0 }; count = 0 }
word_of (Looking word) = word
word_of (Moving word place) = word

-- where the next byte goes or comes from: at first the data address of the word
abbrev pub place_of : AtWork → ℕ
place_of Fetching = 0
place_of (Looking word) = word.address
place_of (Moving word place) = place

abbrev pub program_shown : Watched → ShownProgram
program_shown w = let p = w.program in let word = word_of p.at_work in record {
  last = p.last;
  next = p.next;
  address = word.address;
  place = place_of p.at_work;
  count = word.count;
  residual = p.residual;
  device = w.device;
  key = p.key;
  phase = phase_of p.at_work;
  asked = if p.interruption then 1 else 0;
  code = word.code;
  flags = word.flags.0;
  reserved = 0 ∷ 0 ∷ [];
}

-- the area that passed last, none since the index being 0, and its record
abbrev pub passed_part : RecordPart → ℕ
passed_part Count = 2
passed_part Key = 3
passed_part Data = 4

abbrev pub passed : Position → ℕ × ℕ
passed AtIndex = (0, 0)
passed (At HomeAddress) = (1, 0)
passed (At (Of part place)) = (passed_part part, place)

-- what the command just before left for the next one, and the record that it is for
abbrev pub credit_of : Option Credit → ℕ × ℕ
credit_of None = (0, 0)
credit_of (Some EqualHomeAddress) = (1, 0)
credit_of (Some (EqualId place)) = (2, place)
credit_of (Some (EqualKey place)) = (3, place)
credit_of (Some WroteHomeAddress) = (4, 0)
credit_of (Some (WroteRecord place)) = (5, place)

-- whether the index has passed since the commands began to look on this track
abbrev pub has_second : Lap → ℕ
has_second First = 0
has_second Second = 1

-- the byte of a file mask: bits C0 for the writes, 18 for the seeks
abbrev pub writes_byte : WritePermission → ℕ
writes_byte InhibitHomeAddressAndR0 = 0x00
writes_byte InhibitAllWrites = 0x40
writes_byte InhibitFormatWrites = 0x80
writes_byte PermitAllWrites = 0xC0

abbrev pub seeks_byte : SeekPermission → ℕ
seeks_byte PermitAllSeeks = 0x00
seeks_byte PermitSeekCylinderAndHead = 0x08
seeks_byte PermitSeekHead = 0x10
seeks_byte InhibitAllSeeks = 0x18

abbrev pub mask_byte : FileMask → ℕ
mask_byte mask = writes_byte mask.writes + seeks_byte mask.seeks

abbrev pub registers_shown : Registers → ShownRegisters
registers_shown r = record {
  passed = (passed r.position).1;
  credited = (credit_of r.credit).1;
  cylinder = r.cylinder;
  head = r.head;
  sense = sense_bytes r.sense;
  area = (passed r.position).0;
  lap = has_second r.lap;
  mask = mask_byte r.file_mask;
  mask_set = if r.mask_set then 1 else 0;
  credit = (credit_of r.credit).0;
  reserved = 0 ∷ 0 ∷ 0 ∷ [];
}
