use Rattle.std.proofs.Common.{◌≡◌, take}
use Rattle.volume_hash.specs.SetLines.{shown}
use Rattle.volume_hash.specs.Prints.{AddsMembers}
use Rattle.volume_hash.proofs.libraries.add_members.Given as goal

-- the members so far are in the message, and their lines are there; the volume stays
abbrev pub invariant-loop-entry : goal.invariant-loop-entry
invariant-loop-entry g l =
    let before = g.V.SlotReader.volume l.fn.volume in
    let form = l.named.form in
    let f = shown form.path.now form.json form.sets form.members in record {
      members : AddsMembers f l.named.name.now l.named.extents.now before (take l.entry-index l.entries) l.fn.listed l.listed;
      volume : g.V.SlotReader.volume l.volume ≡ before;
      failures : g.V.SlotReader.failures l.volume ≡ g.V.SlotReader.failures l.fn.volume;
    }
