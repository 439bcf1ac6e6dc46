-- A deck that is read piece by piece.
use Rattle.std.proofs.Common.{◌≡◌, ◌≤◌, ◌+◌, ℕ, List, ◌++◌, length, Option, ap, ◌∙◌, append_assoc, length-append, arith}
use Rattle.std.specs.Io.KnownBytes.{Consumes, Keeps}
use Rattle.std.proofs.KnownBytes.{Consumes-trans, Consumes-kept}
use Rattle.counted_io.specs.Streams.{Stream, Gives, NoneFailed, OneFailed}
use Rattle.s360_deck.specs.declared.fault.ReadFault.{ReadFault}
use Rattle.s360_deck.specs.declared.fault.ReadFault.TheVariants.{OutOfMemory, Failed, TooLong}
use Rattle.s360_deck.specs.Runs.{ReadsFront}
use Rattle.s360_deck.specs.CountedRuns.{FailsToRead, ReadsFaultily, NotAdded}

-- the first bytes of a text, and a piece that was read and not added
pub front_more : (a b c : Option (List ℕ)) (text piece : List ℕ) → Consumes a b text → length text ≤ 1048576 → Consumes b c piece
    → length piece ≤ 4096 → ReadsFront a c
front_more a b c text piece h size known few = record {
  text = text ++ piece;
  read = Consumes-trans a b c text piece h known;
  size = omega (arith, length-append text piece);
}

-- a piece more
gives_more : (a b c : Stream) (text piece : List ℕ) → Gives a b text → Consumes b.known c.known piece → c.passed ≡ b.passed ++ piece
    → Gives a c (text ++ piece)
gives_more a b c text piece h known passed = record {
  known = Consumes-trans a.known b.known c.known text piece h.known known;
  passed = passed ∙ ap (λ l. l ++ piece) h.passed ∙ append_assoc a.passed text piece;
}

-- a read that failed
pub read_failed : (a b c : Stream) (text : List ℕ) → Gives a b text → length text ≤ 1048576 → NoneFailed a b → Keeps b.known c.known
    → c.passed ≡ b.passed → OneFailed b c → FailsToRead a c
read_failed a b c text h size sound known same failed = record {
  text = text;
  given = record { known = Consumes-kept a.known b.known c.known text h.known known; passed = same ∙ h.passed };
  size = size;
  failed = failed ∙ ap (λ n. n + 1) sound;
}

-- one read that gave a piece, of at most 4,096 bytes
pub record ReadsPiece (before after : Stream) (piece : List ℕ) : Type 0 where
  pub known : Consumes before.known after.known piece
  pub passed : after.passed ≡ before.passed ++ piece
  pub sound : NoneFailed before after
  pub size : length piece ≤ 4096

-- a piece that could not be added
pub not_added : (fault : ReadFault) (a b c : Stream) (text piece : List ℕ) → Gives a b text → length text ≤ 1048576 → NoneFailed a b
    → ReadsPiece b c piece → NotAdded fault (text ++ piece) → ReadsFaultily fault a c
not_added Failed a b c text piece h size sound read none = absurd none
not_added TooLong a b c text piece h size sound read long = record {
  text = text ++ piece;
  given = gives_more a b c text piece h read.known read.passed;
  size = long;
  one_read = omega (arith, length-append text piece, read.size);
  sound = read.sound ∙ sound;
}
not_added OutOfMemory a b c text piece h size sound read short = record {
  text = text ++ piece;
  given = gives_more a b c text piece h read.known read.passed;
  size = short;
  sound = read.sound ∙ sound;
}
