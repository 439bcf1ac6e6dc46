-- A slot may go to another thread.
use denote.Param.Send.{IsSend, sendable}
use Rattle.std_heap.specs.contracts.Global as Heap
use Rattle.std_heap.proofs.Global.TheSendSync.{the_field_send}
use Rattle.box_parts.proofs.Slots.{slot_send}
use Rattle.lone_drive_c.specs.contracts.drive.LoneDrive as Value
use Rattle.lone_drive_c.proofs.drive.LoneDrive.TheSendSync.{the_send}
use Rattle.lone_drive_c.specs.contracts.slot.Slot.{struct, the_codes, the_row}

pub send : IsSend the_row
send = slot_send struct (the_codes (Heap.the_row).coded) Value.the_row the_send (search sendable, (the_field_send, tt))
    (λ d. d.alloc) (λ d. d.ptr) (λ d. d.held)
