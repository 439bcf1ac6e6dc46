-- A volume in files that is changed and saved, or not.
use Rattle.std.proofs.Common.{◌≡◌, List, ℕ, Result, Err, inr, subst, sym}
use Rattle.ckd_image.specs.Image.{ImageState, HoldsImage}
use Rattle.dasd_jobs.specs.Back.{WritesBack}
use Rattle.dasd_jobs.specs.Sources.{SourceFile, ReadsWhole}
use Rattle.dasd_jobs.specs.Written.{Replaced}
use Rattle.dasd_jobs.specs.declared.faults.JobFault.{JobFault}
use Rattle.changed_volumes.specs.declared.fault.ChangeFault.{ChangeFault}
use Rattle.changed_volumes.specs.declared.fault.ChangeFault.TheVariants as fault
use Rattle.changed_volumes.specs.Changes.{Changing, IsSameImage, IsNotDone}
use Rattle.changed_volumes.specs.Files.{ReadsImage, ChangesFiles, SavesChanged}

-- an image was read, behind a call that opened nothing
pub read_behind : (paths : List (List ℕ)) (i : ImageState) (before between now : List SourceFile) → between ≡ before
    → HoldsImage i.lasting.origins i → ReadsWhole paths i.lasting.origins between now → ReadsImage paths i before now
read_behind paths i before between now same holds whole =
    record { holds = holds; whole = subst (λ (b : List SourceFile). ReadsWhole paths i.lasting.origins b now) same whole }

module _ {A R : Type 0} (change : Changing A R) (paths : List (List ℕ)) (i : ImageState) (ob o : List SourceFile) where
  module _ (reads : ReadsImage paths i ob o) where
    -- the image that was read is not changed, for the reason that is told
    pub not_changed : (f : ChangeFault R) (before now : List Replaced) → IsNotDone f (λ r. change.refuses r i.geometry i.slots)
        → now ≡ before → ChangesFiles {A = A} (Err f) change paths ob o before now
    not_changed (fault.Refused r) before now why same = (record { image = i; reads = reads; refused = why }, same)
    not_changed (fault.Job f) before now why same = (inr (why, i, reads), same)
    not_changed (fault.Save f) before now why same = elim why [ ]

    -- it was changed, and its files are saved
    pub saved : (r : Result (Unit {0}) JobFault) (answer : A) (changed : ImageState) (opened : List SourceFile)
        (before between now : List Replaced) → opened ≡ o → IsSameImage i changed
        → change.makes i.geometry i.slots answer changed.slots → between ≡ before → WritesBack r paths changed between now
        → SavesChanged r change answer paths ob opened before now
    saved r answer changed opened before between now is_opened same makes kept saves = record {
      image = i;
      changed = changed;
      reads = subst (λ (s : List SourceFile). ReadsImage paths i ob s) (sym is_opened) reads;
      same = same;
      makes = makes;
      saves = subst (λ (s : List Replaced). WritesBack r paths changed s now) kept saves;
    }
