-- An answer that is given to an event is one of its kind.
pub use Rattle.s360_deck.proofs.Answered.{all_fit}
