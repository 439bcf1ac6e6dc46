use Rattle.s360_storage.proofs.Keeping.{keeps_put_if}
use Rattle.s360_storage.proofs.main_storage.StorageMainStorage.put.Goals as goal

pub returns-clause-keeps : goal.returns-clause-keeps
returns-clause-keeps c = keeps_put_if c.put.result c.args.self.now c.put.new.self c.args.at c.args.bytes.now c.put.ensures.change
