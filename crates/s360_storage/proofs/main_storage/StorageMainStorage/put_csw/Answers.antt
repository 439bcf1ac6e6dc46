use Rattle.s360_storage.proofs.Keeping.{keeps_put}
use Rattle.s360_storage.proofs.main_storage.StorageMainStorage.put_csw.Goals as goal

pub returns-clause-keeps : goal.returns-clause-keeps
returns-clause-keeps c = keeps_put c.args.self.now c.put_csw.new.self _ _ c.put_csw.ensures
