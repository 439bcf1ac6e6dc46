use Rattle.std.proofs.Common.{◌∙◌, sym}
use Rattle.ckd_drive.specs.Jobs.{half_done}
use Rattle.ckd_drive.specs.Searches.{turned_to}
use Rattle.ckd_drive.proofs.Searches.{is_unlike, tells_failed, tells_length, tells_passed, tells_satisfied}
use Rattle.ckd_drive.proofs.job.Job.unlike.Goals as goal

pub returns-in_default-clause-tells : goal.returns-in_default-clause-tells
returns-in_default-clause-tells g c = λ some.
    let a = c.args in
    tells_passed (turned_to a.position (half_done a.self.now)) a.sought.command a.sought.kind a.wanted.now a.buffer.now c.requires.at_hand
    c.requires.aim c.requires.search c.requires.readable c.in_default.ensures.next

pub returns-then-window-wanted-clause-tells : goal.returns-then-window-wanted-clause-tells
returns-then-window-wanted-clause-tells g c = λ some.
    let a = c.args in
    tells_length (turned_to a.position (half_done a.self.now)) a.sought.command a.sought.kind a.wanted.now a.buffer.now c.requires.at_hand
    c.requires.aim c.requires.search c.in-Found.area _ c.requires.readable c.in-Found.ensures.next
    (rw (← c.requires.extent) at c.part.ensures.lies) c.if-window-wanted.true

pub returns-then-verdict-clause-tells : goal.returns-then-verdict-clause-tells
returns-then-verdict-clause-tells g c = λ some.
    let a = c.args in
    tells_satisfied (turned_to a.position (half_done a.self.now)) a.sought.command a.sought.kind a.wanted.now a.buffer.now
    c.requires.at_hand c.requires.aim c.requires.search c.in-Found.area _ c.requires.readable c.in-Found.ensures.next
    (rw (← c.requires.extent) at c.part.ensures.lies) some
    (rw (c.comparison.ensures, c.bytes.ensures) at (sym c.verdict.ensures.value ∙ c.if-verdict.true))

pub returns-clause-tells : goal.returns-clause-tells
returns-clause-tells g c = λ some.
    let a = c.args in
    tells_failed (turned_to a.position (half_done a.self.now)) a.sought.command a.sought.kind a.wanted.now a.buffer.now c.requires.at_hand
    c.requires.aim c.requires.search c.in-Found.area _ c.requires.readable c.in-Found.ensures.next
    (rw (← c.requires.extent) at c.part.ensures.lies) c.if-window-wanted.false
    (rw (c.comparison.ensures, c.bytes.ensures) at (sym c.verdict.ensures.value ∙ c.if-verdict.false))

pub returns-clause-unlike : goal.returns-clause-unlike
returns-clause-unlike g c =
    let a = c.args in
    let lies = rw (← c.requires.extent) at c.part.ensures.lies in
    let fails = rw (c.comparison.ensures, c.bytes.ensures) at (sym c.verdict.ensures.value ∙ c.if-verdict.false) in
    is_unlike (turned_to a.position (half_done a.self.now)) a.sought.command a.sought.kind a.wanted.now a.buffer.now c.in-Found.area _
    c.requires.at_hand c.requires.readable c.in-Found.ensures.next lies (c.if-window-wanted.false, fails)
