use Rattle.std.proofs.Common.{◌∙◌, ap, sym, ◌++◌}
use Rattle.std.proofs.lemmas.List.{append-nil}
use Rattle.saved_state.proofs.Joining.{eight_drives, step}
use Rattle.saved_state.proofs.writing.put_drives.Goals as goal

pub returns-clause-items : goal.returns-clause-items
returns-clause-items c =
    sym (append-nil c.put-8.new.out.items)
    ∙ step _ _ _ _ _ c.put-8.ensures.items c.drive_bytes-8.ensures
    ∙ step _ _ _ _ _ c.put-7.ensures.items c.drive_bytes-7.ensures
    ∙ step _ _ _ _ _ c.put-6.ensures.items c.drive_bytes-6.ensures
    ∙ step _ _ _ _ _ c.put-5.ensures.items c.drive_bytes-5.ensures
    ∙ step _ _ _ _ _ c.put-4.ensures.items c.drive_bytes-4.ensures
    ∙ step _ _ _ _ _ c.put-3.ensures.items c.drive_bytes-3.ensures
    ∙ step _ _ _ _ _ c.put-2.ensures.items c.drive_bytes-2.ensures
    ∙ step _ _ _ _ _ c.put.ensures.items c.drive_bytes.ensures
    ∙ ap (λ b. c.args.out.now.items ++ b) (eight_drives c.args.drives.now c.told-drives)
