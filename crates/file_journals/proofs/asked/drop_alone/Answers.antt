use Rattle.file_journals.proofs.Dropping.{gone_by}
use Rattle.file_journals.proofs.asked.drop_alone.Goals as goal

-- the journal is unlinked, and its folder synced
pub returns-clause-gone : goal.returns-clause-gone
returns-clause-gone c = gone_by c.sync_names.result _ _ _ c.in_ok-retire.ensures.ok c.sync_names.ensures.events
