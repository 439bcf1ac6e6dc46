use Rattle.std.proofs.Common.{◌≡◌, ◌-◌, ◌++◌, ℕ, List, Some, length}
use Rattle.set_forms.specs.Forms.{text_of}
use Rattle.set_forms.specs.declared.forms.FormLine.TheVariants.{Entry}
use Rattle.dasd_unload.specs.Described.{entry_in, user_data, forms_from, directory_lines}
use Rattle.dasd_unload.proofs.entries.write_entries.Given as goal

-- the text so far, and that of the entries from here on, are the whole text
abbrev pub invariant-loop : goal.invariant-loop
invariant-loop g l =
    let v = g.V.SlotReader.volume l.fn.volume in
    let extents = l.library.extents.now in
    let entries = l.library.entries.now in record {
      text : (slots : List (List ℕ)) → v.slots ≡ Some slots → l.text.items ++ text_of
          (forms_from (λ e next. Entry (entry_in extents entries e (user_data l.bytes e next) v.geometry slots))
          (length l.bytes - l.counter)
          l.bytes l.at) ≡ l.fn.text.items ++ text_of (directory_lines extents entries l.bytes v.geometry slots);
      kept : g.V.SlotReader.volume l.volume ≡ v;
    }
