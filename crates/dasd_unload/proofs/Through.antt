-- Bytes that are written, and what comes out of it.
use Rattle.std.proofs.Common.{◌≡◌, ◌∙◌, ap, ℕ, List, [], ◌++◌, Option, Some, Ok}
use Rattle.counted_io.specs.Streams.{Stream}
use Rattle.ckd_track.specs.declared.geometries.Geometry.{Geometry}
use Rattle.dasd_volumes.specs.Reading.{KnownVolume}
use Rattle.dasd_extract.specs.declared.stops.Stop.{Stop}
use Rattle.dasd_extract.specs.Written.{Written, Writes, PrintsWritten}

module _ (w : Geometry → List (List ℕ) → Written) (v : KnownVolume) (stop : Stop) where
  -- this was written of a volume, and it ended so, if its slots are known
  abbrev pub WritesOf : (before now : Option (List ℕ)) → Type 0
  WritesOf before now = (slots : List (List ℕ)) → v.slots ≡ Some slots → Writes (w v.geometry slots) before now (Some stop)

  abbrev pub PrintsOf : (before after : Stream) → Type 0
  PrintsOf before after = (slots : List (List ℕ)) → v.slots ≡ Some slots → PrintsWritten (w v.geometry slots) (Ok (Some stop)) before after

  -- what was printed to a writer is known of it
  pub extracted : (a b : Stream) → PrintsOf a b → WritesOf a.known b.known
  extracted a b p = λ slots known. let it = p slots known in record { bytes = it.0.known; stop = it.1 }

  -- what is written to a file that was empty is what it has
  pub through : (start filled out : List ℕ) → start ≡ [] → out ≡ filled → WritesOf (Some start) (Some filled)
      → WritesOf (Some []) (Some out)
  through start filled out none all e = λ slots known.
      let it = e slots known in record { bytes = all ∙ it.bytes ∙ ap (λ l. l ++ (w v.geometry slots).bytes) none; stop = it.stop }
