-- `Slot` is a slot for a drive.
use mathlib.Core.Path.{refl}
use Rattle.box_parts.proofs.Slots as slots
use Rattle.lone_drive_c.specs.contracts.drive.LoneDrive.{the_row}
use Rattle.lone_drive_c.proofs.drive.LoneDrive.TheLaws.{the_row_laws}
use Rattle.lone_drive_c.specs.contracts.slot.Slot as Held

abbrev pub S : slots.Slot
S = record {
  value = the_row;
  laws = the_row_laws;
  row = Held.the_row;
  name = (Held.the_type).name;
  make = λ p a h. record { ptr = p; alloc = a; held = h };
  ptr = λ d. d.ptr;
  alloc = λ d. d.alloc;
  held = λ d. d.held;
  holds = λ p a h. refl;
  again = λ d. refl;
  bare = λ a vs. refl;
  full = λ v vs. refl;
  apart = λ v vs. refl;
  mute = record { last = λ x. tt; silent = λ x f. refl };
}
