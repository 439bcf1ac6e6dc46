use Rattle.member_changes.proofs.Law.{changes_are_read}
use Rattle.member_changes.proofs.laws.changes_are_read.Goals as goal

pub returns : goal.returns
returns c = changes_are_read
