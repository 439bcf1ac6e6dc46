use Rattle.s360_storage.proofs.Keeping.{keeps_put}
use Rattle.s360_storage.proofs.main_storage.StorageMainStorage.store.Goals as goal

pub returns-clause-keeps : goal.returns-clause-keeps
returns-clause-keeps c = keeps_put c.args.self.now c.store.new.self _ _ c.store.ensures.change
