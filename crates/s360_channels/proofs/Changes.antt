-- A storage that the processor changed is as large as before.
use Rattle.std.proofs.Common.{◌≡◌, refl, ap, ◌∙◌, true, false, Bool, cond, length}
use Rattle.std.proofs.lemmas.List.{length-set}
use Rattle.s360_words.specs.Storage.{Storage, Change, Bytes, KeyOf, changed}
use Rattle.s360_words.proofs.Overwriting.{length-overwritten}

pub changed_size : (c : Change) (s : Storage) → (length (changed c s).bytes ≡ length s.bytes) × (length (changed c s).keys ≡ length s.keys)
changed_size (Bytes at bytes) s = (length-overwritten s.bytes at bytes, refl)
changed_size (KeyOf at key) s = (refl, length-set s.keys _ key)

put_size : (b : Bool) (c : Change) (s : Storage) → length (cond b (changed c s) s).bytes ≡ length s.bytes
put_size true c s = (changed_size c s).0
put_size false c s = refl

pub kept_size : (b : Bool) (c : Change) (s t : Storage) → t ≡ cond b (changed c s) s → length t.bytes ≡ length s.bytes
kept_size b c s t is = ap (λ (s : Storage). length s.bytes) is ∙ put_size b c s
