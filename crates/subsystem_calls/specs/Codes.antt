-- What C is told by numbers. They are those of dasd.h.
use Rattle.std.specs.Prelude.{ℤ, pos, neg_ℤ, ℕ, true, false, Some}
use Rattle.ckd_image.specs.declared.fault.MountFault.{MountFault}
use Rattle.ckd_image.specs.declared.fault.MountFault.TheVariants as mount
use Rattle.s360_laws.specs.Events as machine
use Rattle.s360_laws.specs.declared.condition.ConditionCode.{ConditionCode}
use Rattle.s360_laws.specs.declared.condition.ConditionCode.TheVariants.{Zero, One, Two, Three}
use Rattle.s360_channel.specs.declared.faults.DetachFault.TheVariants as why
use Rattle.s360_channels.specs.declared.faults.DetachFault.{DetachFault}
use Rattle.s360_channels.specs.declared.faults.DetachFault.TheVariants as detach
use Rattle.dasd_subsystem.specs.declared.refusal.Refusal.{Refusal}
use Rattle.dasd_subsystem.specs.declared.refusal.Refusal.TheVariants as refusal

-- DASD_NOTHING_HELD, DASD_IN_USE, DASD_OUTSIDE_STORAGE, DASD_BAD_SIZE, DASD_BAD_KEY, DASD_BAD_MODEL, DASD_NO_CHANNEL, DASD_NO_DRIVE,
-- DASD_NO_FILE, DASD_PROGRAM_RUNS, DASD_NO_STORAGE, DASD_BAD_BLOCKS, DASD_OTHER_SIZE, DASD_NO_PROGRAM, DASD_NO_ROOM, DASD_BAD_MOMENT,
-- DASD_BAD_UNTIL
abbrev pub nothing_held : ℤ
nothing_held = neg_ℤ (pos 1)

abbrev pub in_use : ℤ
in_use = neg_ℤ (pos 2)

abbrev pub outside_storage : ℤ
outside_storage = neg_ℤ (pos 4)

abbrev pub bad_size : ℤ
bad_size = neg_ℤ (pos 5)

abbrev pub bad_key : ℤ
bad_key = neg_ℤ (pos 7)

abbrev pub bad_model : ℤ
bad_model = neg_ℤ (pos 8)

abbrev pub no_channel : ℤ
no_channel = neg_ℤ (pos 10)

abbrev pub no_drive : ℤ
no_drive = neg_ℤ (pos 11)

abbrev pub no_file : ℤ
no_file = neg_ℤ (pos 16)

abbrev pub program_runs : ℤ
program_runs = neg_ℤ (pos 17)

abbrev pub no_storage : ℤ
no_storage = neg_ℤ (pos 20)

abbrev pub bad_blocks : ℤ
bad_blocks = neg_ℤ (pos 21)

abbrev pub other_size : ℤ
other_size = neg_ℤ (pos 22)

abbrev pub no_program : ℤ
no_program = neg_ℤ (pos 23)

abbrev pub no_room : ℤ
no_room = neg_ℤ (pos 24)

abbrev pub bad_moment : ℤ
bad_moment = neg_ℤ (pos 25)

abbrev pub bad_until : ℤ
bad_until = neg_ℤ (pos 26)

-- a condition code
abbrev pub number_of : ConditionCode → ℤ
number_of Zero = pos 0
number_of One = pos 1
number_of Two = pos 2
number_of Three = pos 3

-- An answer of the machine: the condition code, which is 1 where status was stored; whether an arm arrived, an interruption was taken,
-- or a track could not be saved; whether storage kept what was stored.
abbrev pub code_of : machine.Answer → ℤ
code_of (machine.WithCode c) = number_of c
code_of (machine.StatusStored u c) = pos 1
code_of (machine.CswStored csw) = pos 1
code_of (machine.HasArrived true) = pos 1
code_of (machine.Interrupted (Some i)) = pos 1
code_of (machine.WasReset (Some track)) = pos 1
code_of (machine.WasKept false) = outside_storage
code_of answer = pos 0

-- the address that interrupts, or the number that stood there
abbrev pub address_from : machine.Answer → ℕ → ℕ
address_from (machine.Interrupted (Some i)) before = i.0
address_from answer before = before

-- why files are no image
abbrev pub mount_code : MountFault → ℤ
mount_code mount.NotCkdP370 = neg_ℤ (pos 32)
mount_code mount.Compressed = neg_ℤ (pos 33)
mount_code mount.DeviceType = neg_ℤ (pos 34)
mount_code mount.Heads = neg_ℤ (pos 35)
mount_code mount.TrackSize = neg_ℤ (pos 36)
mount_code mount.Split = neg_ℤ (pos 37)
mount_code mount.Length = neg_ℤ (pos 38)
mount_code mount.StoreFault = neg_ℤ (pos 39)

-- why something was not made or attached
abbrev pub refusal_code : Refusal → ℤ
refusal_code refusal.OutOfMemory = neg_ℤ (pos 3)
refusal_code refusal.BadSize = bad_size
refusal_code refusal.BadChannels = neg_ℤ (pos 6)
refusal_code refusal.NoCylinders = neg_ℤ (pos 9)
refusal_code refusal.NoChannel = no_channel
refusal_code refusal.AddressTaken = neg_ℤ (pos 12)
refusal_code refusal.Full = neg_ℤ (pos 13)
refusal_code refusal.NoFiles = neg_ℤ (pos 14)
refusal_code refusal.TooManyFiles = neg_ℤ (pos 15)
refusal_code (refusal.Mount fault) = mount_code fault

-- why a drive was not taken off
abbrev pub detach_code : DetachFault → ℤ
detach_code detach.NoChannel = no_channel
detach_code (detach.Refused why.NoDrive) = no_drive
detach_code (detach.Refused why.ProgramRuns) = program_runs
detach_code (detach.Refused why.EndingPends) = neg_ℤ (pos 18)
detach_code (detach.Refused why.DeviceEndOwed) = neg_ℤ (pos 19)
