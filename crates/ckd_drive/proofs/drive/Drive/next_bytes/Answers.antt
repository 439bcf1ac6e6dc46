use Rattle.std.proofs.Common.{◌∙◌}
use Rattle.ckd_drive.proofs.Moving.{sense_lends, read_lends}
use Rattle.ckd_drive.proofs.Standing.{parts_in}
use Rattle.ckd_drive.proofs.drive.Drive.next_bytes.Goals as goal

pub returns-in-Sense : goal.returns-in-Sense
returns-in-Sense g c =
    let l = sense_lends (parts_in c.self.inside) c.in-Sense.bytes c.args.self.now c.self.invariant c.in-Passing.is c.in-Sense.is
    c.self.view_is in
    record { size = l.size; bytes = l.bytes_are }

pub returns-in-Read : goal.returns-in-Read
returns-in-Read g c =
    let l = read_lends (parts_in c.self.inside) c.bytes.result.now c.in-Read.window c.in-Read.field-1 c.args.self.now c.self.invariant
    c.in-Passing.is c.in-Read.is (c.bytes.ensures ∙ c.buffer.ensures.slot) c.self.view_is in
    record { size = l.size; bytes = l.bytes_are }
