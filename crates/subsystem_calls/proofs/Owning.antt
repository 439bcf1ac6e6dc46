-- The storage that a subsystem owns is of its channels' size.
use Rattle.std.proofs.Common.{◌≡◌, subst, length, Option, Some}
use Rattle.s360_words.specs.Storage.{Storage}
use Rattle.s360_channels.specs.Selectors.{SelectorsState}
use Rattle.dasd_subsystem.specs.Fitting.{Fits}

pub own_size : (own : Option Storage) (s : Storage) (cs : SelectorsState) → own ≡ Some s → Fits own cs → length s.bytes ≡ cs.size
own_size own s cs is fits = subst (λ own. Fits own cs) is fits
