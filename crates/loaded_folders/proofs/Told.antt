-- Faults, by what they tell.
use Rattle.std.proofs.Common.{◌≡◌, ◌∙◌, ap, sym, refl, subst, List, [], ◌∷◌, ◌++◌, append_assoc, ℕ, inl, inr}
use Rattle.std.proofs.Common.{Option, None, Some, Result, Ok, Err, IfOk, IfErr}
use Rattle.ckd_track.specs.declared.geometries.Geometry.{Geometry}
use Rattle.dasd_jobs.specs.Sources.{SourceFile, ReadsFront}
use Rattle.dasd_unload.specs.Volumes.{path_in}
use Rattle.set_forms.specs.declared.forms.EntryForm.{EntryForm}
use Rattle.changed_volumes.specs.Changes.{IsHindered}
use Rattle.loaded_sets.specs.declared.contents.LoadedSet.{LoadedSet}
use Rattle.loaded_sets.specs.declared.contents.SourceForm.{SourceForm}
use Rattle.loaded_sets.specs.Faults.{LoadFault}
use Rattle.loaded_sets.specs.Loaded as set
use Rattle.loaded_sets.specs.declared.libraries.LoadedLibrary.{LoadedLibrary}
use Rattle.loaded_sets.specs.LoadedLibraries as library
use Rattle.loaded_folders.specs.declared.entries.Unled.{Unled}
use Rattle.loaded_folders.specs.declared.fault.FolderEntryFault.{FolderEntryFault}
use Rattle.loaded_folders.specs.declared.fault.Uncarried.{Uncarried}
use Rattle.loaded_folders.specs.Faults.{FolderFault}
use Rattle.changed_volumes.specs.declared.fault.ChangeFault.TheVariants as fault
use Rattle.loaded_folders.specs.declared.fault.FolderRefusal.TheVariants as refusal
use Rattle.loaded_folders.specs.Sets.{FolderSet}
use Rattle.loaded_folders.specs.Entries.{EntryParts, EntryRefused, entry_parts, entries_of, entries_behind, on_entry}
use Rattle.loaded_folders.specs.Reading.{ReadsFiles}
use Rattle.loaded_folders.specs.Loads.{uncarried, IsSequential, IsPartitioned, IsRefusedBy, IsStopped, GetsBy, GetsOne}
use Rattle.loaded_folders.specs.Loads.{GetsAll}
use Rattle.loaded_folders.specs.Parts.{IsUnled, TellsUnled, TellsEntry, IsNoFile, IsNoMemory, StopsReading, IsToldOf, IsNotBy, IsNotOne}
use Rattle.loaded_folders.specs.Parts.{IsUncarried}
use Rattle.loaded_folders.proofs.Chains.{reads_more}

-- the first entry that leads nowhere
pub entry_told : (r : FolderFault) (data_set name : List ℕ) (why : Unled) (made : Result EntryParts FolderEntryFault)
    (next : EntryParts → Result (List EntryParts) EntryRefused) → IsUnled why made → TellsUnled r data_set name why
    → TellsEntry r data_set (on_entry name made next)
entry_told (fault.Refused (refusal.Entry n f)) data_set name why made next unled (spelled, is) =
    (name, spelled, ap (λ m. on_entry name m next) (subst (λ (w : Unled). IsUnled w made) is unled))
entry_told (fault.Job f) data_set name why made next unled told = told
entry_told (fault.Refused refusal.TooLong) data_set name why made next unled told = elim told [ ]
entry_told (fault.Refused (refusal.Line n f)) data_set name why made next unled told = elim told [ ]
entry_told (fault.Refused (refusal.NoFile n)) data_set name why made next unled told = elim told [ ]
entry_told (fault.Refused (refusal.Load n f)) data_set name why made next unled told = elim told [ ]
entry_told (fault.Refused (refusal.Uncarried n f)) data_set name why made next unled told = elim told [ ]
entry_told (fault.Save f) data_set name why made next unled told = elim told [ ]

-- the same, of the entries behind it
pub entry_fault : (members : List (List ℕ)) (done : List EntryParts) (e : EntryForm) (others : List EntryForm)
    (all : Result (List EntryParts) EntryRefused) → entries_behind members done (e ∷ others) ≡ all → (r : FolderFault) (data_set : List ℕ)
    (why : Unled) → IsUnled why (entry_parts members e) → TellsUnled r data_set e.name why → TellsEntry r data_set all
entry_fault members done e others all is r data_set why unled told =
    subst (TellsEntry r data_set) is
    (entry_told r data_set e.name why (entry_parts members e) (λ p. entries_behind members (done ++ p ∷ []) others) unled told)

module _ (folder : List ℕ) (names first others : List (List ℕ)) (n : List ℕ) (all : names ≡ first ++ n ∷ others) where
  module _ (bytes : List (List ℕ)) (a m : List SourceFile) (read : ReadsFiles folder first bytes a m) where
    -- the next file is not read
    pub read_stops : (r : FolderFault) (z : List SourceFile) → z ≡ m → IsNoFile r n → StopsReading r folder names a z
    read_stops (fault.Refused (refusal.NoFile told)) z same is = (
      others,
      record {
        first = first;
        bytes = bytes;
        all = all ∙ ap (λ (x : List ℕ). first ++ x ∷ others) (sym is);
        read = subst (λ (s : List SourceFile). ReadsFiles folder first bytes a s) (sym same) read;
      },
    )
    read_stops (fault.Job f) z same is = (
      is,
      n ∷ others,
      record {
        first = first;
        bytes = bytes;
        all = all;
        read = subst (λ (s : List SourceFile). ReadsFiles folder first bytes a s) (sym same) read;
      },
    )
    read_stops (fault.Refused refusal.TooLong) z same is = elim is [ ]
    read_stops (fault.Refused (refusal.Line k f)) z same is = elim is [ ]
    read_stops (fault.Refused (refusal.Entry k f)) z same is = elim is [ ]
    read_stops (fault.Refused (refusal.Load k f)) z same is = elim is [ ]
    read_stops (fault.Refused (refusal.Uncarried k f)) z same is = elim is [ ]
    read_stops (fault.Save f) z same is = elim is [ ]

    -- it was, and there is no memory for its bytes
    pub none_for : (r : FolderFault) (b : List ℕ) (z : List SourceFile) → ReadsFront (path_in folder n) 9560245800 b m z → IsNoMemory r
        → StopsReading r folder names a z
    none_for r b z front is =
        subst (λ (f : FolderFault). StopsReading f folder names a z) (sym is) (
          refl,
          others,
          record {
            first = first ++ n ∷ [];
            bytes = bytes ++ b ∷ [];
            all = all ∙ sym (append_assoc first (n ∷ []) others);
            read = reads_more folder first bytes n b a m z read front;
          },
        )

module _ (source : SourceForm) (s : FolderSet) (g : Geometry) (slots : List (List ℕ)) where
  -- a data set is not loaded
  pub set_told : (l : LoadedSet) (r : FolderFault) (f : LoadFault) → IsSequential source s l → set.IsNotLoaded f l g slots
      → IsToldOf r s.lines.form.name f → IsNotBy None r source s g slots
  set_told l (fault.Refused (refusal.Load n r)) f is why (spelled, told) =
      (spelled, (l, is, subst (λ (x : LoadFault). set.IsNotLoaded x l g slots) told why))
  set_told l (fault.Job j) f is why (inl none) = subst IsHindered (sym none) tt
  set_told l (fault.Job j) f is why (inr told) = subst (λ (x : LoadFault). set.IsNotLoaded x l g slots) told why
  set_told l (fault.Save j) f is why told = subst (λ (x : LoadFault). set.IsNotLoaded x l g slots) told why
  set_told l (fault.Refused refusal.TooLong) f is why told = elim told [ ]
  set_told l (fault.Refused (refusal.Line n x)) f is why told = elim told [ ]
  set_told l (fault.Refused (refusal.NoFile n)) f is why told = elim told [ ]
  set_told l (fault.Refused (refusal.Entry n x)) f is why told = elim told [ ]
  set_told l (fault.Refused (refusal.Uncarried n x)) f is why told = elim told [ ]

  module _ (blocks : ℕ) where
    -- a library is not loaded
    pub library_told : (l : LoadedLibrary) (r : FolderFault) (f : LoadFault) → IsPartitioned source s blocks l
        → library.IsNotLoaded f l g slots → IsToldOf r s.lines.form.name f → IsNotBy (Some blocks) r source s g slots
    library_told l (fault.Refused (refusal.Load n r)) f is why (spelled, told) =
        (spelled, (l, is, subst (λ (x : LoadFault). library.IsNotLoaded x l g slots) told why))
    library_told l (fault.Job j) f is why (inl none) = subst IsHindered (sym none) tt
    library_told l (fault.Job j) f is why (inr told) = subst (λ (x : LoadFault). library.IsNotLoaded x l g slots) told why
    library_told l (fault.Save j) f is why told = subst (λ (x : LoadFault). library.IsNotLoaded x l g slots) told why
    library_told l (fault.Refused refusal.TooLong) f is why told = elim told [ ]
    library_told l (fault.Refused (refusal.Line n x)) f is why told = elim told [ ]
    library_told l (fault.Refused (refusal.NoFile n)) f is why told = elim told [ ]
    library_told l (fault.Refused (refusal.Entry n x)) f is why told = elim told [ ]
    library_told l (fault.Refused (refusal.Uncarried n x)) f is why told = elim told [ ]

    -- an entry of it leads nowhere
    pub no_entry : (r : FolderFault) → TellsEntry r s.lines.form.name (entries_of s.lines.entries)
        → IsNotBy (Some blocks) r source s g slots
    no_entry (fault.Refused (refusal.Entry n f)) told = told
    no_entry (fault.Job f) told = subst IsHindered (sym told) tt
    no_entry (fault.Refused refusal.TooLong) told = elim told [ ]
    no_entry (fault.Refused (refusal.Line n f)) told = elim told [ ]
    no_entry (fault.Refused (refusal.NoFile n)) told = elim told [ ]
    no_entry (fault.Refused (refusal.Load n f)) told = elim told [ ]
    no_entry (fault.Refused (refusal.Uncarried n f)) told = elim told [ ]
    no_entry (fault.Save f) told = elim told [ ]

module _ (source : SourceForm) (s : FolderSet) (g : Geometry) (slots : List (List ℕ)) where
  -- the folder does not carry a data set
  pub not_carried : (why : Uncarried) → uncarried s.lines.form ≡ Some why → (f : FolderFault) → IsUncarried f s.lines.form.name why
      → IsNotOne f source s g slots
  not_carried why is (fault.Refused (refusal.Uncarried n x)) (spelled, same) = (spelled, is ∙ ap Some (sym same))
  not_carried why is (fault.Job j) told = subst IsHindered (sym told) tt
  not_carried why is (fault.Refused (refusal.Load n x)) told = elim told [ ]
  not_carried why is (fault.Refused (refusal.Entry n x)) told = elim told [ ]
  not_carried why is (fault.Refused refusal.TooLong) told = elim told [ ]
  not_carried why is (fault.Refused (refusal.Line n x)) told = elim told [ ]
  not_carried why is (fault.Refused (refusal.NoFile n)) told = elim told [ ]
  not_carried why is (fault.Save x) told = elim told [ ]

  -- it does, and the data set is not loaded
  pub not_one : uncarried s.lines.form ≡ None → (directory : Option ℕ) → s.lines.form.directory ≡ directory → (f : FolderFault)
      → IsNotBy directory f source s g slots → IsNotOne f source s g slots
  not_one carried directory is (fault.Refused (refusal.Load n x)) why =
      (carried, subst (λ (d : Option ℕ). IsRefusedBy d (refusal.Load n x) source s g slots) (sym is) why)
  not_one carried directory is (fault.Refused (refusal.Entry n x)) why =
      (carried, subst (λ (d : Option ℕ). IsRefusedBy d (refusal.Entry n x) source s g slots) (sym is) why)
  not_one carried directory is (fault.Job j) why = why
  not_one carried directory is (fault.Save x) why = why
  not_one carried directory is (fault.Refused (refusal.Uncarried n x)) why = elim why [ ]
  not_one carried directory is (fault.Refused refusal.TooLong) why = elim why [ ]
  not_one carried directory is (fault.Refused (refusal.Line n x)) why = elim why [ ]
  not_one carried directory is (fault.Refused (refusal.NoFile n)) why = elim why [ ]

  -- the same of a call
  pub gets_one : uncarried s.lines.form ≡ None → (directory : Option ℕ) → s.lines.form.directory ≡ directory → (r : Result ℕ FolderFault)
      (now : List (List ℕ)) → IfOk r (λ tracks. GetsBy directory source s g slots tracks now)
      → IfOk r (λ tracks. GetsOne source s g slots tracks now)
  gets_one carried directory is (Ok tracks) now loaded =
      (carried, subst (λ (d : Option ℕ). GetsBy d source s g slots tracks now) (sym is) loaded)
  gets_one carried directory is (Err f) now loaded = tt

  pub not_one_if : uncarried s.lines.form ≡ None → (directory : Option ℕ) → s.lines.form.directory ≡ directory → (r : Result ℕ FolderFault)
      → IfErr r (λ f. IsNotBy directory f source s g slots) → IfErr r (λ f. IsNotOne f source s g slots)
  not_one_if carried directory is (Ok tracks) why = tt
  not_one_if carried directory is (Err f) why = not_one carried directory is f why

module _ (source : SourceForm) (sets done others : List FolderSet) (s : FolderSet) (all : sets ≡ done ++ s ∷ others) (g : Geometry) where
  module _ (a b : List (List ℕ)) (lines : List ℕ) (loaded : GetsAll source done g a b lines) where
    -- one of the data sets is not loaded
    pub stops : (f : FolderFault) → IsNotOne f source s g b → IsStopped f source sets g a
    stops (fault.Refused r) why =
        record { done = done; next = s; others = others; all = all; between = b; lines = lines; loaded = loaded; refused = why }
    stops (fault.Job f) why = why
    stops (fault.Save f) why = why
