-- The tracks of a data set, unloaded from a volume as they stand.
use Rattle.std.specs.Prelude.{◌≡◌, ◌⊎◌, ℕ, true, false, List, [], Option, Some, None, Result, Ok, Err}
use Rattle.std.specs.Option.{option_copied}
use Rattle.counted_io.specs.Streams.{Stream, TakesFront, IsFlushed}
use Rattle.volume_labels.specs.declared.fields.Extent.{Extent}
use Rattle.dasd_volumes.specs.Reading.{KnownVolume}
use Rattle.volume_contents.specs.declared.sets.DataSet.{DataSet}
use Rattle.dasd_extract.specs.declared.stops.Stop.{Stop}
use Rattle.dasd_extract.specs.Written.{Writes}
use Rattle.dasd_extract.specs.Raw.{tracks_copied, CopiesTracks}
use Rattle.dasd_jobs.specs.Written.{Replaced, with_file}
use Rattle.dasd_unload.specs.declared.fault.UnloadFault.{UnloadFault}
use Rattle.dasd_unload.specs.declared.fault.UnloadFault.TheVariants as fault
use Rattle.dasd_unload.specs.declared.tracks.WantedTracks.{WantedTracks}
use Rattle.dasd_unload.specs.declared.parts.End.{End}
use Rattle.dasd_unload.specs.Parts.{end_of, are_all_tracks}
use Rattle.dasd_unload.specs.Unloads.{Outcome, is_of_job}
use Rattle.dasd_unload.specs.Asked.{SetOf}

-- a data set whose tracks are asked for: its name, and the path of the new file for them
pub record AskedTracks : Type 0 where
  pub name : List ℕ
  pub target : Option (List ℕ)

abbrev pub asked_tracks : (name : List ℕ) → (target : Option (List ℕ)) → AskedTracks
asked_tracks name target = record { name = name; target = target }

abbrev pub tracks_by : WantedTracks → AskedTracks
tracks_by w = asked_tracks w.name.now (option_copied w.target)

-- from before to now the tracks of extents were written, and this is where they end, if the slots of the volume are known
abbrev pub Copies : List Extent → KnownVolume → (before now : Option (List ℕ)) → Stop → Type 0
Copies extents v before now stop =
    (slots : List (List ℕ)) → v.slots ≡ Some slots → Writes (tracks_copied extents v.geometry slots) before now (Some stop)

-- they were put into a file at a path
pub record PutsTracks (path : List ℕ) (extents : List Extent) (v : KnownVolume) (before now : List Replaced) (stop : Stop) : Type 0 where
  pub bytes : List ℕ
  pub put : now ≡ with_file before path bytes
  pub tracks : Copies extents v (Some []) (Some bytes) stop

-- They were, where a path is named, and nothing was printed; else they were printed, and none of them is held back, and no file came.
abbrev pub WritesTracks : (target : Option (List ℕ)) → List Extent → KnownVolume → (before now : Outcome) → Stop → Type 0
WritesTracks (Some path) extents v before now stop = PutsTracks path extents v before.written now.written stop × (now.printed ≡ before.printed)
WritesTracks None extents v before now stop =
    (now.written ≡ before.written) × CopiesTracks extents v (Ok stop) before.printed now.printed × IsFlushed now.printed

-- the data set of the name was found, its tracks were written, and they end so, as that part of it that its label says
pub record UnloadsTracks (a : AskedTracks) (v : KnownVolume) (before now : Outcome) (end : End) : Type 0 where
  pub set : DataSet
  pub named : SetOf a.name v (Some set)
  pub written : WritesTracks a.target set.extents.items v before now end.stop
  pub part : end ≡ end_of set.block end.stop

-- only the first bytes of the tracks were printed, if the slots of the volume are known
abbrev pub PrintsFirstTracks : List Extent → KnownVolume → (before after : Stream) → Type 0
PrintsFirstTracks extents v before after =
    (slots : List (List ℕ)) → v.slots ≡ Some slots → TakesFront before after (tracks_copied extents v.geometry slots).bytes

-- the data set was found, and its tracks were to be printed; but a fault of the volume or of a write stopped it
pub record PrintsSomeTracks (f : UnloadFault) (a : AskedTracks) (v : KnownVolume) (before after : Stream) : Type 0 where
  pub of_job : is_of_job f ≡ true
  pub to_writer : a.target ≡ None
  pub set : DataSet
  pub named : SetOf a.name v (Some set)
  pub front : PrintsFirstTracks set.extents.items v before after

-- nothing was printed, or only the first bytes
abbrev pub StopsTracks : UnloadFault → AskedTracks → KnownVolume → (before after : Stream) → Type 0
StopsTracks f a v before after = (after ≡ before) ⊎ PrintsSomeTracks f a v before after

-- Why nothing is unloaded: the volume has no data set of the name; or a fault of the files or of the volume stopped it.
abbrev pub WhyNoTracks : UnloadFault → AskedTracks → KnownVolume → Type 0
WhyNoTracks fault.NoDataSet a v = SetOf a.name v None
WhyNoTracks (fault.Job _) a v = Unit {0}
WhyNoTracks (fault.Attributes _) a v = ⊥
WhyNoTracks fault.NoMember a v = ⊥
WhyNoTracks fault.NoMemberNamed a v = ⊥
WhyNoTracks (fault.NotWhole _) a v = ⊥

-- all tracks were unloaded
pub record UnloadsAllTracks (a : AskedTracks) (v : KnownVolume) (before now : Outcome) : Type 0 where
  pub end : End
  pub is_all : are_all_tracks end ≡ true
  pub unloads : UnloadsTracks a v before now end

-- All tracks were unloaded, and nothing says that more of the data set is on another volume; or they are not all, which is told; or none was
-- unloaded, and no file came.
abbrev pub TracksOrTell : {A : Type 0} → Result A UnloadFault → AskedTracks → KnownVolume → (before now : Outcome) → Type 0
TracksOrTell (Ok _) a v before now = UnloadsAllTracks a v before now
TracksOrTell (Err (fault.NotWhole end)) a v before now = (are_all_tracks end ≡ false) × UnloadsTracks a v before now end
TracksOrTell (Err f) a v before now = WhyNoTracks f a v × (now.written ≡ before.written) × StopsTracks f a v before.printed now.printed
