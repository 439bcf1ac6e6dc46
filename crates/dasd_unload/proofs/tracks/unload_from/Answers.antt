use Rattle.std.proofs.Common.{◌≡◌, refl, sym, subst, ℕ, true, List, Some, None, Ok, inr, ap}
use Rattle.std.specs.Option.{option_copied}
use Rattle.counted_io.specs.Streams.{IsFlushed, seen_by}
use Rattle.dasd_volumes.specs.Reading.{KnownVolume}
use Rattle.volume_contents.specs.declared.sets.DataSet.{DataSet}
use Rattle.dasd_extract.specs.declared.stops.Stop.{Stop}
use Rattle.dasd_extract.specs.Raw.{CopiesTracks}
use Rattle.dasd_unload.specs.declared.fault.UnloadFault.{UnloadFault}
use Rattle.dasd_unload.specs.Unloads.{Outcome, is_of_job, outcome}
use Rattle.dasd_unload.specs.Asked.{SetOf}
use Rattle.dasd_unload.specs.Parts.{end_of}
use Rattle.dasd_unload.specs.Tracks.{AskedTracks, PrintsFirstTracks, PutsTracks, StopsTracks, UnloadsTracks, WritesTracks, tracks_by}
use Rattle.dasd_unload.proofs.tracks.unload_from.Goals as goal

module _ (a : AskedTracks) (v : KnownVolume) (before now : Outcome) (set : DataSet) (named : SetOf a.name v (Some set)) where
  -- to a file
  to_file : (path : List ℕ) → a.target ≡ Some path → now.printed ≡ before.printed
      → (stop : Stop) → PutsTracks path set.extents.items v before.written now.written stop
      → UnloadsTracks a v before now (end_of set.block stop)
  to_file path is printed stop puts = record {
    set = set;
    named = named;
    written = subst (λ t. WritesTracks t set.extents.items v before now stop) (sym is) (puts, printed);
    part = refl;
  }

  -- to the writer
  to_writer : a.target ≡ None → now.written ≡ before.written → (stop : Stop)
      → CopiesTracks set.extents.items v (Ok stop) before.printed now.printed → IsFlushed now.printed
      → UnloadsTracks a v before now (end_of set.block stop)
  to_writer is written stop copies flushed = record {
    set = set;
    named = named;
    written = subst (λ t. WritesTracks t set.extents.items v before now stop) (sym is) (written, copies, flushed);
    part = refl;
  }

  -- or not all of them
  stopped : a.target ≡ None → (f : UnloadFault) → is_of_job f ≡ true
      → PrintsFirstTracks set.extents.items v before.printed now.printed → StopsTracks f a v before.printed now.printed
  stopped is f of_job front = inr (record { of_job = of_job; to_writer = is; set = set; named = named; front = front })

pub returns-in-Ok-put-clause-done : goal.returns-in-Ok-put-clause-done
returns-in-Ok-put-clause-done g c =
    let a = tracks_by c.args.set in
    let v = g.V.SlotReader.volume c.args.volume.now in
    let printed = seen_by g.W.Write.contents c.args.writer.now in
    let before = outcome (g.F.ImageFiles.written c.args.files.now) printed in
    let now = outcome (g.F.ImageFiles.written c.put.new.files) printed in subst (UnloadsTracks a v before now) (sym c.end_of.ensures)
    (to_file a v before now c.in-Ok.found c.in-Ok.ensures.found c.in-Some.path.now (ap option_copied c.in-Some.is) refl
    c.in-Ok-put.stop
    (rw c.find_named.ensures.kept at (rw c.as_slice-extents.ensures.value at c.in-Ok-put.ensures.file)))

pub returns-in-Ok-print-clause-done : goal.returns-in-Ok-print-clause-done
returns-in-Ok-print-clause-done g c =
    let a = tracks_by c.args.set in
    let v = g.V.SlotReader.volume c.args.volume.now in
    let written = g.F.ImageFiles.written c.args.files.now in
    let before = outcome written (seen_by g.W.Write.contents c.args.writer.now) in
    let now = outcome written (seen_by g.W.Write.contents c.print.new.writer) in
    subst (UnloadsTracks a v before now) (sym c.end_of-in-Ok-print.ensures)
    (to_writer a v before now c.in-Ok.found c.in-Ok.ensures.found (ap option_copied c.in-None.is) refl c.in-Ok-print.stop
    (rw c.find_named.ensures.kept at (rw c.as_slice-extents.ensures.value at c.in-Ok-print.ensures.tracks))
    c.in-Ok-print.ensures.flushed)

pub returns-clause-front : goal.returns-clause-front
returns-clause-front g c =
    let a = tracks_by c.args.set in
    let v = g.V.SlotReader.volume c.args.volume.now in
    let written = g.F.ImageFiles.written c.args.files.now in
    let before = outcome written (seen_by g.W.Write.contents c.args.writer.now) in
    let now = outcome written (seen_by g.W.Write.contents c.print.new.writer) in
    stopped a v before now c.in-Ok.found c.in-Ok.ensures.found (ap option_copied c.in-None.is) c.in-Err-print.fault
    c.in-Err-print.ensures.fault
    (rw c.find_named.ensures.kept at (rw c.as_slice-extents.ensures.value at c.in-Err-print.ensures.front))
