-- What is taken out of a volume, and named no file for, goes to none.
use Rattle.std.proofs.Common.{◌≡◌, ℕ, false, List, Bor, Option, Some, None, is_some, Result, Ok, Err, inl, inr, refl, ap}
use Rattle.std.specs.Option.{option_copied}
use Rattle.dasd_volumes.specs.Reading.{KnownVolume}
use Rattle.dasd_unload.specs.declared.fault.UnloadFault.{UnloadFault}
use Rattle.dasd_unload.specs.declared.fault.UnloadFault.TheVariants as unload
use Rattle.dasd_unload.specs.Asked.{AskedSet}
use Rattle.dasd_unload.specs.Causes.{UnloadsOrTells}
use Rattle.dasd_unload.specs.Tracks.{AskedTracks, TracksOrTell}
use Rattle.dasd_unload.specs.Unloads.{Outcome}
use Rattle.dasd_words.specs.declared.requests.ExtractedSet.{ExtractedSet}
use Rattle.dasd_words.specs.declared.requests.ExtractedTracks.{ExtractedTracks}
use Rattle.dasd_run.specs.declared.commands.Ending.{Ending}
use Rattle.program_faults.specs.declared.fault.ProgramFault.{ProgramFault}
use Rattle.dasd_run.specs.Outside.{Outside, left_of}
use Rattle.dasd_run.specs.Unloads.{asked_set, tracks_asked, ExtractsSet, ExtractsTracks}

-- a file that is not there is no path
none_named : (target : Option (Bor (List ℕ))) → is_some target ≡ false → option_copied target ≡ None
none_named None h = refl
none_named (Some file) h = cc

set_told : (r : Result (Unit {0}) UnloadFault) (a : AskedSet) (v : KnownVolume) (before now : Outcome) → a.target ≡ None
    → UnloadsOrTells r a v before now → now.written ≡ before.written
set_told (Ok done) a v before now none u = (rw none at u.unloads.written).0
set_told (Err (unload.NotWhole end)) a v before now none u = (rw none at u.1.written).0
set_told (Err f) a v before now none u = u.1

tracks_told : (r : Result (Unit {0}) UnloadFault) (a : AskedTracks) (v : KnownVolume) (before now : Outcome) → a.target ≡ None
    → TracksOrTell r a v before now → now.written ≡ before.written
tracks_told (Ok done) a v before now none u = (rw none at u.unloads.written).0
tracks_told (Err (unload.NotWhole end)) a v before now none u = (rw none at u.1.written).0
tracks_told (Err f) a v before now none u = u.1

-- a data set or a member
pub set_unfiled : (result : Result Ending ProgramFault) (asked : ExtractedSet) (before now : Outside) → is_some asked.target ≡ false
    → ExtractsSet result asked before now → now.written ≡ before.written
set_unfiled (Ok ending) asked before now h (inl came) = absurd came
set_unfiled (Err f) asked before now h (inl came) = ap (λ (o : Outcome). o.written) came.1
set_unfiled result asked before now h (inr took) =
    set_told took.unloading (asked_set asked) _ (left_of before) (left_of now) (none_named asked.target h) took.unloaded.so

-- the tracks of a data set
pub tracks_unfiled : (result : Result Ending ProgramFault) (asked : ExtractedTracks) (before now : Outside) → is_some asked.target ≡ false
    → ExtractsTracks result asked before now → now.written ≡ before.written
tracks_unfiled (Ok ending) asked before now h (inl came) = absurd came
tracks_unfiled (Err f) asked before now h (inl came) = ap (λ (o : Outcome). o.written) came.1
tracks_unfiled result asked before now h (inr took) =
    tracks_told took.unloading (tracks_asked asked) _ (left_of before) (left_of now) (none_named asked.target h) took.unloaded.so
