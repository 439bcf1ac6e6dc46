-- A volume that gets a library, or does not.
use Rattle.std.proofs.Common.{◌≡◌, ◌∙◌, ap, sym, refl, ℕ, List, [], map, Bor, Result, Ok, Err, IfOk, IfErr, inl, inr, None, ◌⊎◌}
use Rattle.std.specs.List.{position}
use Rattle.ckd_track.specs.declared.geometries.Geometry.{Geometry}
use Rattle.volume_contents.specs.Sets.{has_name}
use Rattle.volume_contents.specs.Contents.{Said, contents_of}
use Rattle.record_tracks.specs.declared.blocks.Cut.{Cut}
use Rattle.volume_labels.specs.declared.layouts.Layout.{Layout}
use Rattle.loaded_sets.specs.declared.place_fault.PlaceFault.{PlaceFault}
use Rattle.loaded_sets.specs.declared.place_fault.PlaceFault.TheVariants as place
use Rattle.loaded_sets.specs.Volumes.{Labelled, SaysOf, IsUnfit, all_findings}
use Rattle.loaded_sets.specs.declared.contents.SourceForm.{SourceForm}
use Rattle.loaded_sets.specs.declared.contents.SourceForm.TheVariants as source
use Rattle.loaded_sets.specs.Faults.{LoadFault, placing_fault}
use Rattle.changed_volumes.specs.declared.fault.ChangeFault.TheVariants as fault
use Rattle.loaded_sets.specs.Contents.{layout_of_set}
use Rattle.loaded_sets.proofs.Fits.{fit}
use Rattle.loaded_sets.specs.declared.libraries.LoadedLibrary.{LoadedLibrary}
use Rattle.loaded_sets.specs.Members.{MemberBlocks, cut_in, members_by, fitting_members, unless_unfit, blocks_with, blocks_in}
use Rattle.loaded_sets.specs.Members.{blocks_unless_taken, blocks_unless_barred, blocks_on}
use Rattle.loaded_sets.specs.LoadedLibraries.{Loaded, IsNotLoaded}
use Rattle.loaded_sets.specs.LibraryParts.{blocks_for, IsUnmade, IsSet, IsNotSet, IsPut, IsNotPut}

-- blocks by their parts
same : (l : Layout) (c : Cut) (members : List (List ℕ)) (b : MemberBlocks) → b.layout ≡ l → b.cut ≡ c → b.members ≡ members
    → ◌≡◌ {A = MemberBlocks} (record { layout = l; cut = c; members = members }) b
same l c members b layout cut are = rw (sym layout, sym cut, sym are) refl

-- files that are no texts are the bytes of blocks
pub as_they_are : (s : SourceForm) (l : Layout) (files : List (List ℕ)) → (s ≡ source.Blocks) ⊎ (s ≡ source.WithLengths)
    → members_by s l files ≡ Ok files
as_they_are s l files (inl is) = ap (λ (f : SourceForm). members_by f l files) is
as_they_are s l files (inr is) = ap (λ (f : SourceForm). members_by f l files) is

-- the blocks of the members of a library whose name is free
module _ (v : Labelled) (library : LoadedLibrary) (free : position (has_name library.name) v.blocks ≡ None) (l : Layout) where
  module _ (is : layout_of_set library.form ≡ Ok l) where
    abbrev files : List (List ℕ)
    files = map (λ (m : Bor (List ℕ)). m.now) library.members.now

    with_layout : blocks_for v library ≡ blocks_with v.geometry.model library l (members_by library.source l files)
    with_layout = ap (blocks_unless_taken v.geometry.model library) free ∙ ap (blocks_in v.geometry.model library) is

    -- no blocks are made of the files
    pub not_made : (slots : List (List ℕ)) (f : LoadFault) → IsUnmade f (members_by library.source l files) → IsNotPut f v library slots
    not_made slots (fault.Refused r) why = inl (with_layout ∙ ap (blocks_with v.geometry.model library l) why)
    not_made slots (fault.Job f) why = why
    not_made slots (fault.Save f) why = why

    module _ (b : MemberBlocks) (layout : b.layout ≡ l) (cut : b.cut ≡ cut_in library.source l) where
      module _ (by : members_by library.source l files ≡ Ok b.members) where
        chosen : blocks_for v library ≡ unless_unfit b (fitting_members v.geometry.model library.form.key_length b)
        chosen = cc (with_layout, same l (cut_in library.source l) b.members b layout cut refl)

        pub put : (slots now : List (List ℕ)) (r : Result ℕ LoadFault) → IfOk r (λ tracks. IsSet v library b slots tracks now)
            → IfOk r (λ tracks. IsPut v library slots tracks now)
        put slots now (Ok tracks) it = (b, chosen ∙ ap (unless_unfit b) it.0, it.1)
        put slots now (Err f) it = tt

        not_put : (slots : List (List ℕ)) (f : LoadFault) → IsNotSet f v library b slots → IsNotPut f v library slots
        not_put slots (fault.Refused r) (inl why) = inl (chosen ∙ ap (unless_unfit b) why)
        not_put slots (fault.Refused r) (inr (made, fit, its, why)) = inr (b, made, chosen ∙ ap (unless_unfit b) fit, its, why)
        not_put slots (fault.Job f) why = why
        not_put slots (fault.Save f) why = why

        pub not_put_if : (slots : List (List ℕ)) (r : Result ℕ LoadFault) → IfErr r (λ f. IsNotSet f v library b slots)
            → IfErr r (λ f. IsNotPut f v library slots)
        not_put_if slots (Ok tracks) it = tt
        not_put_if slots (Err f) it = not_put slots f it

module _ (g : Geometry) (s : Said) (v : Labelled) (says : SaysOf g s v) (nothing : all_findings g s ≡ []) where
  fits : (library : LoadedLibrary) → blocks_on g library s ≡ blocks_for v library
  fits library = cc (fit g s v says nothing)

module _ (g : Geometry) (before : List (List ℕ)) (v : Labelled) (says : SaysOf g (contents_of g before) v) where
  module _ (nothing : all_findings g (contents_of g before) ≡ []) (library : LoadedLibrary) where
    pub loaded : (tracks : ℕ) (now : List (List ℕ)) → IsPut v library before tracks now → Loaded library g before tracks now
    loaded tracks now (b, is, it) = record {
      volume = v;
      says = says;
      blocks = b;
      fits = fits g (contents_of g before) v says nothing library ∙ is;
      loaded = it;
    }

    pub not_loaded : (f : LoadFault) → IsNotPut f v library before → IsNotLoaded f library g before
    not_loaded (fault.Refused r) (inl why) = inl (fits g (contents_of g before) v says nothing library ∙ why)
    not_loaded (fault.Refused r) (inr (b, l, is, its, why)) = inr (
      v,
      b,
      l,
      record { says = says; fits = fits g (contents_of g before) v says nothing library ∙ is; is = its },
      why,
    )
    not_loaded (fault.Job f) why = why
    not_loaded (fault.Save f) why = why

-- a volume that gets no data set at all does not get this library
pub unfit : (g : Geometry) (slots : List (List ℕ)) (library : LoadedLibrary) (f : PlaceFault) → IsUnfit f g (contents_of g slots)
    → IsNotLoaded (placing_fault f) library g slots
unfit g slots library (place.Refused r) why = inl (ap (blocks_unless_barred g.model library (contents_of g slots).blocks) why)
unfit g slots library (place.Job f) why = why
