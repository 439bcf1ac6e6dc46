-- A volume that gets a data set, or does not.
use Rattle.std.proofs.Common.{◌≡◌, ◌∙◌, ap, refl, ℕ, List, [], inl, inr, None}
use Rattle.ckd_track.specs.declared.geometries.Geometry.{Geometry}
use Rattle.volume_contents.specs.declared.reading.Contents.{Contents}
use Rattle.volume_contents.specs.Contents.{Said, contents_of, SaysOf as IsSaid}
use Rattle.volume_changes.specs.Volumes.{said_in}
use Rattle.loaded_sets.specs.declared.place_fault.PlaceFault.{PlaceFault}
use Rattle.loaded_sets.specs.declared.place_fault.PlaceFault.TheVariants as place
use Rattle.loaded_sets.specs.Volumes.{Labelled, SaysOf, IsUnfit, all_findings, unfit_of, unfit_on_label, unfit_on_table, unfit_by}
use Rattle.loaded_sets.specs.Faults.{LoadFault, placing_fault}
use Rattle.changed_volumes.specs.declared.fault.ChangeFault.TheVariants as fault
use Rattle.loaded_sets.specs.declared.contents.LoadedSet.{LoadedSet}
use Rattle.loaded_sets.specs.Contents.{blocks_on, blocks_unless_unfit}
use Rattle.loaded_sets.specs.Loaded.{Loaded, IsNotLoaded}
use Rattle.loaded_sets.specs.Parts.{blocks_for, IsPut, IsNotPut}

pub same_said : (s : Said) (c : Contents) → IsSaid s c → said_in c ≡ s
same_said s c is = rw (is.label, is.table, is.blocks, is.findings) refl

module _ (g : Geometry) (s : Said) (v : Labelled) (says : SaysOf g s v) (nothing : all_findings g s ≡ []) where
  pub fit : unfit_of g s ≡ None
  fit = ap (unfit_on_label g s) says.label ∙ ap (unfit_on_table g s) says.table ∙ ap unfit_by nothing

  pub fits : (set : LoadedSet) → blocks_on g set s ≡ blocks_for v set
  fits set = cc (fit)

module _ (g : Geometry) (before : List (List ℕ)) (v : Labelled) (says : SaysOf g (contents_of g before) v) where
  module _ (nothing : all_findings g (contents_of g before) ≡ []) (set : LoadedSet) where
    pub loaded : (tracks : ℕ) (now : List (List ℕ)) → IsPut v set before tracks now → Loaded set g before tracks now
    loaded tracks now (b, is, it) = record {
      volume = v;
      says = says;
      blocks = b;
      fits = fits g (contents_of g before) v says nothing set ∙ is;
      loaded = it;
    }

    pub not_put : (f : LoadFault) → IsNotPut f v set before → IsNotLoaded f set g before
    not_put (fault.Refused r) (inl why) = inl (fits g (contents_of g before) v says nothing set ∙ why)
    not_put (fault.Refused r) (inr (b, p, is, it, why)) =
        inr (v, b, p, record { says = says; fits = fits g (contents_of g before) v says nothing set ∙ is; is = it }, why)
    not_put (fault.Job f) why = why
    not_put (fault.Save f) why = why

-- a volume that gets no data set at all does not get this one
pub unfit : (g : Geometry) (slots : List (List ℕ)) (set : LoadedSet) (f : PlaceFault) → IsUnfit f g (contents_of g slots)
    → IsNotLoaded (placing_fault f) set g slots
unfit g slots set (place.Refused r) why = inl (ap (blocks_unless_unfit g.model set (contents_of g slots).blocks) why)
unfit g slots set (place.Job f) why = why
