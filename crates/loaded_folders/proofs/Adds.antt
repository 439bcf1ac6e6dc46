-- A library that gets a member, or does not.
use Rattle.std.proofs.Common.{◌≡◌, ℕ, List, Ok}
use Rattle.ckd_track.specs.declared.geometries.Geometry.{Geometry}
use Rattle.changed_volumes.specs.declared.images.VolumeChange.TheVariants.{Delete}
use Rattle.changed_volumes.specs.Changes.{changed_by}
use Rattle.loaded_folders.specs.declared.added.AddedMember.{AddedMember}
use Rattle.loaded_folders.specs.declared.added.OldLibrary.{OldLibrary}
use Rattle.loaded_folders.specs.Faults.{NewMemberFault}
use Rattle.changed_volumes.specs.declared.fault.ChangeFault.TheVariants as fault
use Rattle.loaded_folders.specs.declared.member_fault.NewMemberRefusal.TheVariants as refusal
use Rattle.loaded_folders.specs.Libraries.{IsOld, IsNotRead}
use Rattle.loaded_folders.specs.Added.{HasNew, Added, IsNotAdded}
use Rattle.loaded_folders.specs.MemberParts.{MakesBlocks, IsNotMade, IsNotDeleted, PutsLibrary, IsNotPut}

module _ (added : AddedMember) (g : Geometry) (slots : List (List ℕ)) where
  -- its library is not there, or not whole
  pub not_read : (f : NewMemberFault) → IsNotRead f added.library g slots → IsNotAdded f added g slots
  not_read (fault.Refused refusal.NoDataSet) why = why
  not_read (fault.Refused refusal.NotPartitioned) why = why
  not_read (fault.Refused refusal.NoName) why = why
  not_read (fault.Refused refusal.NoMemberName) why = why
  not_read (fault.Refused (refusal.Volume r)) why = why
  not_read (fault.Refused (refusal.Read r)) why = why
  not_read (fault.Refused refusal.NameTaken) why = elim why [ ]
  not_read (fault.Refused (refusal.NoteList n)) why = elim why [ ]
  not_read (fault.Refused (refusal.Content r)) why = elim why [ ]
  not_read (fault.Refused (refusal.Deletion r)) why = elim why [ ]
  not_read (fault.Refused (refusal.Load r)) why = elim why [ ]
  not_read (fault.Job f) why = why
  not_read (fault.Save f) why = why

  module _ (old : OldLibrary) (is : IsOld added.library g slots old) where
    -- the file has no blocks for it
    pub not_made : (f : NewMemberFault) → IsNotMade f added g.model old → IsNotAdded f added g slots
    not_made (fault.Refused refusal.NameTaken) why = (old, is, why)
    not_made (fault.Refused (refusal.NoteList n)) why = (old, is, why.0, why.1)
    not_made (fault.Refused (refusal.Content r)) why = (old, is, why.0, why.1, why.2)
    not_made (fault.Refused refusal.NoDataSet) why = elim why [ ]
    not_made (fault.Refused refusal.NotPartitioned) why = elim why [ ]
    not_made (fault.Refused refusal.NoName) why = elim why [ ]
    not_made (fault.Refused refusal.NoMemberName) why = elim why [ ]
    not_made (fault.Refused (refusal.Volume r)) why = elim why [ ]
    not_made (fault.Refused (refusal.Read r)) why = elim why [ ]
    not_made (fault.Refused (refusal.Deletion r)) why = elim why [ ]
    not_made (fault.Refused (refusal.Load r)) why = elim why [ ]
    not_made (fault.Job f) why = why
    not_made (fault.Save f) why = elim why [ ]

    module _ (blocks : List ℕ) (made : MakesBlocks added g.model old blocks) where
      new : HasNew added g slots old blocks
      new = record { library = is; free = made.0; plain = made.1; made = made.2 }

      -- its data set is not deleted
      pub not_deleted : (f : NewMemberFault) → IsNotDeleted f added.library g slots → IsNotAdded f added g slots
      not_deleted (fault.Refused (refusal.Deletion r)) why = (old, blocks, new, why)
      not_deleted (fault.Refused refusal.NameTaken) why = elim why [ ]
      not_deleted (fault.Refused (refusal.NoteList n)) why = elim why [ ]
      not_deleted (fault.Refused (refusal.Content r)) why = elim why [ ]
      not_deleted (fault.Refused refusal.NoDataSet) why = elim why [ ]
      not_deleted (fault.Refused refusal.NotPartitioned) why = elim why [ ]
      not_deleted (fault.Refused refusal.NoName) why = elim why [ ]
      not_deleted (fault.Refused refusal.NoMemberName) why = elim why [ ]
      not_deleted (fault.Refused (refusal.Volume r)) why = elim why [ ]
      not_deleted (fault.Refused (refusal.Read r)) why = elim why [ ]
      not_deleted (fault.Refused (refusal.Load r)) why = elim why [ ]
      not_deleted (fault.Job f) why = why
      not_deleted (fault.Save f) why = elim why [ ]

      module _ (between : List (List ℕ)) (deleted : changed_by (Delete added.library) g slots ≡ Ok between) where
        -- it is put onto the volume
        pub put : (tracks : ℕ) (now : List (List ℕ)) → PutsLibrary added old blocks g between tracks now → Added added g slots tracks now
        put tracks now (l, of, loaded) = record {
          between = between;
          library = l;
          deleted = record { library = old; blocks = blocks; new = new; deleted = deleted; is = of };
          loaded = loaded;
        }

        -- it is not put onto the volume
        pub not_put : (f : NewMemberFault) → IsNotPut f added old blocks g between → IsNotAdded f added g slots
        not_put (fault.Refused (refusal.Load r)) (l, of, why) =
            (between, l, record { library = old; blocks = blocks; new = new; deleted = deleted; is = of }, why)
        not_put (fault.Refused (refusal.Deletion r)) why = elim why [ ]
        not_put (fault.Refused refusal.NameTaken) why = elim why [ ]
        not_put (fault.Refused (refusal.NoteList n)) why = elim why [ ]
        not_put (fault.Refused (refusal.Content r)) why = elim why [ ]
        not_put (fault.Refused refusal.NoDataSet) why = elim why [ ]
        not_put (fault.Refused refusal.NotPartitioned) why = elim why [ ]
        not_put (fault.Refused refusal.NoName) why = elim why [ ]
        not_put (fault.Refused refusal.NoMemberName) why = elim why [ ]
        not_put (fault.Refused (refusal.Volume r)) why = elim why [ ]
        not_put (fault.Refused (refusal.Read r)) why = elim why [ ]
        not_put (fault.Job f) why = why
        not_put (fault.Save f) why = elim why [ ]
