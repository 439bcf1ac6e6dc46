-- A storage that channels own fits them still.
use mathlib.Core.HLevel.{is_prop→PathP}
use Rattle.std.proofs.Common.{◌≡◌, ◌∙◌, refl, sym, subst, Option, Some, None}
use Rattle.std.proofs.Props.{props}
use Rattle.s360_words.specs.Storage.{Storage}
use Rattle.s360_channels.specs.Selectors.{SelectorsState}
use Rattle.dasd_subsystem.specs.Fitting.{Fits}
use Rattle.dasd_subsystem.specs.declared.subsystem.Subsystem.{Subsystem}

pub still_fits : (storage : Option Storage) (old new : SelectorsState) → new.size ≡ old.size → Fits storage old → Fits storage new
still_fits None old new same h = refl
still_fits (Some s) old new same h = h ∙ sym same

-- a subsystem with the same channels and the same storage is the same
pub same_subsystem : (a : Subsystem) (cs : SelectorsState) (f : Fits a.storage cs) → cs ≡ a.channels → record {
  channels = cs;
  storage =
      a.storage;
  fits = f;
} ≡ a
same_subsystem a cs f e = λ i. record {
  channels = e i;
  storage = a.storage;
  fits = is_prop→PathP (λ j. Fits a.storage (e j)) (λ j. hlevel props) f a.fits i;
}

-- a storage and channels that are those of a subsystem fit
pub fits_copied : (a : Subsystem) (cs : SelectorsState) (s : Option Storage) → cs ≡ a.channels → s ≡ a.storage → Fits s cs
fits_copied a cs s e h = subst (Fits s) (sym e) (subst (λ t. Fits t a.channels) (sym h) a.fits)

-- and are that subsystem
pub copied_subsystem : (a : Subsystem) (cs : SelectorsState) (s : Option Storage) (f : Fits s cs) → cs ≡ a.channels → s ≡ a.storage
    → record { channels = cs; storage = s; fits = f } ≡ a
copied_subsystem a cs s f e h = λ i. record {
  channels = e i;
  storage = h i;
  fits = is_prop→PathP (λ j. Fits (h j) (e j)) (λ j. hlevel props) f a.fits i;
}
