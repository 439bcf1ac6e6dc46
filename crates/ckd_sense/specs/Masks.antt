-- The file mask (component descriptions of the 2841 and the 2314, 'Set File Mask').
use Rattle.std.specs.Prelude.{ℕ, Bool, true, false, ◌==◌, if◌then◌else◌, bit_and}
use Rattle.ckd_sense.specs.declared.commands.Command.{Command}
use Rattle.ckd_sense.specs.declared.commands.Command.TheVariants.{Recalibrate, Seek, SeekCylinder, SeekHead, ReadIpl, WriteHomeAddress, WriteR0}
use Rattle.ckd_sense.specs.declared.commands.Command.TheVariants.{WriteCountKeyAndData, WriteData, WriteKeyAndData}
use Rattle.ckd_sense.specs.declared.masks.FileMask.{FileMask}
use Rattle.ckd_sense.specs.declared.masks.WritePermission.{WritePermission}
use Rattle.ckd_sense.specs.declared.masks.WritePermission.TheVariants.{InhibitHomeAddressAndR0, InhibitAllWrites, InhibitFormatWrites, PermitAllWrites}
use Rattle.ckd_sense.specs.declared.masks.SeekPermission.{SeekPermission}
use Rattle.ckd_sense.specs.declared.masks.SeekPermission.TheVariants.{PermitAllSeeks, PermitSeekCylinderAndHead, PermitSeekHead, InhibitAllSeeks}
use Rattle.ckd_sense.specs.declared.masks.Permit.{Permit}
use Rattle.ckd_sense.specs.declared.masks.Permit.TheVariants.{Yes, NoWrite, NoSeek}

-- What a byte sets.

-- of the bits C0
abbrev pub writes_of_bits : ℕ → WritePermission
writes_of_bits bits =
    if bits == 0x00 then InhibitHomeAddressAndR0
    else if bits == 0x40 then InhibitAllWrites
    else if bits == 0x80 then InhibitFormatWrites
    else PermitAllWrites

-- of the bits 18
abbrev pub seeks_of_bits : ℕ → SeekPermission
seeks_of_bits bits =
    if bits == 0x00 then PermitAllSeeks
    else if bits == 0x08 then PermitSeekCylinderAndHead
    else if bits == 0x10 then PermitSeekHead
    else InhibitAllSeeks

-- the file mask of a byte
abbrev pub mask_of_byte : ℕ → FileMask
mask_of_byte byte = record { writes = writes_of_bits (bit_and byte 0xC0); seeks = seeks_of_bits (bit_and byte 0x18) }

-- What a mask does not allow.

-- the write commands
abbrev pub is_write : Command → Bool
is_write WriteHomeAddress = true
is_write WriteR0 = true
is_write WriteCountKeyAndData = true
is_write WriteData = true
is_write WriteKeyAndData = true
is_write _ = false

-- the writes that make a record, or take the records away
abbrev pub is_format_write : Command → Bool
is_format_write WriteHomeAddress = true
is_format_write WriteR0 = true
is_format_write WriteCountKeyAndData = true
is_format_write _ = false

-- whether a mask's rule for writes forbids a command
abbrev pub inhibits_write : WritePermission → Command → Bool
inhibits_write PermitAllWrites _ = false
inhibits_write InhibitHomeAddressAndR0 WriteHomeAddress = true
inhibits_write InhibitHomeAddressAndR0 WriteR0 = true
inhibits_write InhibitHomeAddressAndR0 _ = false
inhibits_write InhibitFormatWrites command = is_format_write command
inhibits_write InhibitAllWrites command = is_write command

-- the commands that move the arm or take another head; that Recalibrate and Read IPL are among them is this project's profile
abbrev pub is_seek : Command → Bool
is_seek Seek = true
is_seek SeekCylinder = true
is_seek SeekHead = true
is_seek Recalibrate = true
is_seek ReadIpl = true
is_seek _ = false

-- whether a mask's rule for seeks forbids a command
abbrev pub inhibits_seek : SeekPermission → Command → Bool
inhibits_seek PermitAllSeeks _ = false
inhibits_seek PermitSeekCylinderAndHead SeekCylinder = false
inhibits_seek PermitSeekCylinderAndHead SeekHead = false
inhibits_seek PermitSeekCylinderAndHead command = is_seek command
inhibits_seek PermitSeekHead SeekHead = false
inhibits_seek PermitSeekHead command = is_seek command
inhibits_seek InhibitAllSeeks command = is_seek command

-- what a mask says of a command; of two rules that forbid it that of the writes counts
abbrev pub permit_of : FileMask → Command → Permit
permit_of mask command =
    if inhibits_write mask.writes command then NoWrite
    else (if inhibits_seek mask.seeks command then NoSeek else Yes)

-- whether a command may go on at the next head by its multi-track bit
abbrev pub head_changes_under : SeekPermission → Bool
head_changes_under InhibitAllSeeks = false
head_changes_under _ = true

-- the same, of a mask
abbrev pub allows_head_change : FileMask → Bool
allows_head_change mask = head_changes_under mask.seeks
