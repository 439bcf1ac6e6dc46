-- What C is told by numbers. They are those of dasd.h and of dasd_drive.h.
use Rattle.std.specs.Prelude.{ℤ, pos, neg_ℤ, ℕ, Result, Ok, Err}
use Rattle.ckd_image.specs.declared.fault.MountFault.{MountFault}
use Rattle.ckd_image.specs.declared.fault.MountFault.TheVariants as mount
use Rattle.ckd_image.specs.declared.store.StoreFault.{StoreFault}
use Rattle.ckd_drive.specs.declared.answers.Begun.{Begun}
use Rattle.ckd_drive.specs.declared.answers.Begun.TheVariants.{Rejected, Immediate, Started}
use Rattle.ckd_drive.specs.declared.answers.Look.{Look}
use Rattle.ckd_drive.specs.declared.answers.Look.TheVariants as look
use Rattle.ckd_drive.specs.declared.answers.Phase.{Phase}
use Rattle.ckd_drive.specs.declared.answers.Phase.TheVariants as phase
use Rattle.lone_drive_c.specs.declared.refusal.NotMade.{NotMade}
use Rattle.lone_drive_c.specs.declared.refusal.NotMade.TheVariants.{NoCylinders, Mount, OutOfMemory}

-- DASD_NOTHING_HELD, DASD_IN_USE, DASD_BAD_MODEL
abbrev pub nothing_held : ℤ
nothing_held = neg_ℤ (pos 1)

abbrev pub in_use : ℤ
in_use = neg_ℤ (pos 2)

abbrev pub bad_model : ℤ
bad_model = neg_ℤ (pos 8)

-- DASD_PROGRAM_RUNS, DASD_NO_ROOM, DASD_NO_SAVED_STATE, DASD_OTHER_VERSION, DASD_SAVED_LENGTH, DASD_NO_TRACK
abbrev pub program_runs : ℤ
program_runs = neg_ℤ (pos 17)

abbrev pub no_room : ℤ
no_room = neg_ℤ (pos 24)

abbrev pub no_saved_state : ℤ
no_saved_state = neg_ℤ (pos 40)

abbrev pub other_version : ℤ
other_version = neg_ℤ (pos 41)

abbrev pub saved_length : ℤ
saved_length = neg_ℤ (pos 42)

abbrev pub no_track : ℤ
no_track = neg_ℤ (pos 47)

-- DASD_COMMAND_OPEN, DASD_NO_COMMAND, DASD_NO_END, DASD_GIVES_NONE, DASD_TAKES_NONE, DASD_TOO_MANY, DASD_BYTES_PASSED, DASD_NOT_SAVED,
-- DASD_OTHER_LENGTH
abbrev pub command_open : ℤ
command_open = neg_ℤ (pos 48)

abbrev pub no_command : ℤ
no_command = neg_ℤ (pos 49)

abbrev pub no_end : ℤ
no_end = neg_ℤ (pos 50)

abbrev pub gives_none : ℤ
gives_none = neg_ℤ (pos 51)

abbrev pub takes_none : ℤ
takes_none = neg_ℤ (pos 52)

abbrev pub too_many : ℤ
too_many = neg_ℤ (pos 53)

abbrev pub bytes_passed : ℤ
bytes_passed = neg_ℤ (pos 54)

abbrev pub not_saved : ℤ
not_saved = neg_ℤ (pos 55)

abbrev pub other_length : ℤ
other_length = neg_ℤ (pos 56)

-- why a file is no image
abbrev pub mount_code : MountFault → ℤ
mount_code mount.NotCkdP370 = neg_ℤ (pos 32)
mount_code mount.Compressed = neg_ℤ (pos 33)
mount_code mount.DeviceType = neg_ℤ (pos 34)
mount_code mount.Heads = neg_ℤ (pos 35)
mount_code mount.TrackSize = neg_ℤ (pos 36)
mount_code mount.Split = neg_ℤ (pos 37)
mount_code mount.Length = neg_ℤ (pos 38)
mount_code mount.StoreFault = neg_ℤ (pos 39)

-- why there is no drive
abbrev pub made_code : NotMade → ℤ
made_code OutOfMemory = neg_ℤ (pos 3)
made_code NoCylinders = neg_ℤ (pos 9)
made_code (Mount fault) = mount_code fault

-- enum dasd_drive_begun: what a command code led to
abbrev pub begun_code : Begun → ℤ
begun_code Rejected = pos 0
begun_code Immediate = pos 1
begun_code Started = pos 2

-- the same as a word's number
abbrev pub begun_number : Begun → ℕ
begun_number Rejected = 0
begun_number Immediate = 1
begun_number Started = 2

-- DASD_DRIVE_STAYS_OPEN: the command of a word is still open
abbrev pub stays_open : ℤ
stays_open = pos 256

-- enum dasd_drive_look: what a look led to
abbrev pub look_code : Look → ℤ
look_code look.Failed = pos 0
look_code look.Passed = pos 1
look_code (look.Ready left) = pos 2

-- enum dasd_drive_phase: how far a command is
abbrev pub phase_code : Phase → ℤ
phase_code phase.Idle = pos 0
phase_code phase.Over = pos 1
phase_code phase.Looking = pos 2
phase_code (phase.Gives passed left) = pos 3
phase_code (phase.Takes passed left) = pos 4

-- whether a track could be saved, 0, or not, 1
abbrev pub settled_code : Result (Unit {0}) StoreFault → ℤ
settled_code (Ok _) = pos 0
settled_code (Err fault) = pos 1
