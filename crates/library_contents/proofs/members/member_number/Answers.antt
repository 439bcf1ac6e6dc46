use Rattle.std.proofs.Common.{◌≡◌, ◌∙◌, ap, sym, arith, List, length, None, Some, position}
use Rattle.std.proofs.lemmas.List.Quantifiers.{position-Some}
use Rattle.volume_labels.specs.declared.fields.RelativeAddress.{RelativeAddress}
use Rattle.library_contents.specs.Members.{same_address, library_on, blocks_at}
use Rattle.library_contents.proofs.Starts.{is_read, was_there, is_numbered}
use Rattle.library_contents.proofs.members.member_number.Goals as goal

pub returns-in-Some-clause-number : goal.returns-in-Some-clause-number
returns-in-Some-clause-number g c =
    let m = c.args.members.now in
    let found : position (same_address c.args.start) m.starts.items ≡ Some c.in-Some.number =
    rw (c.as_slice-starts.ensures.value) at (sym c.find_start.ensures ∙ c.in-Some.is) in
    let s = position-Some (same_address c.args.start) m.starts.items c.in-Some.number c.args.start found in record {
      starts = was_there m.starts.items c.args.start c.in-Some.number found;
      number = found;
      read = c.requires.read;
      within = omega (arith, s.0, c.requires.read.count);
      blocks = λ slots known b is.
          is_read (blocks_at (library_on c.args.extents.now (g.V.SlotReader.volume c.args.volume.now).geometry slots)) m.blocks.items
          m.starts.items c.args.start c.in-Some.number b (c.requires.read.blocks slots known) c.requires.read.count found is;
    }

pub returns-in-Ok-clause-number : goal.returns-in-Ok-clause-number
returns-in-Ok-clause-number g c =
    let none : position (same_address c.args.start) c.args.members.now.starts.items ≡ None =
    rw (c.as_slice-starts.ensures.value) at (sym c.find_start.ensures ∙ c.in_default.is) in
    let whole = rw (c.in-Ok-Some.field-0-is) at c.in-Ok-Some.ensures.blocks in
    is_numbered c.args.extents.now (g.V.SlotReader.volume c.args.volume.now) c.args.start c.args.members.now c.push.new.members
    c.in-Ok-Some.blocks c.requires.read none c.in-Ok.ensures whole _
    (ap (λ (l : List RelativeAddress). length l) c.as_slice-starts.ensures.value)
