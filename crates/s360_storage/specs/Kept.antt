-- What no change of main storage touches.
use Rattle.std.specs.Prelude.{◌≡◌, length}
use Rattle.s360_words.specs.Storage.{Storage}

-- units put bytes into storage, and change neither its size nor its keys
pub record KeepsStorage (before after : Storage) : Type 0 where
  pub size : length after.bytes ≡ length before.bytes
  pub keys : after.keys ≡ before.keys
