-- Ends that tell how many tracks were read from their alternates.
use Rattle.std.proofs.Common.{ℕ, ◌+◌, ◌≡◌, ◌∙◌, List, Option, ap, sym, refl, add-one, option_map}
use Rattle.ckd_track.specs.declared.geometries.Geometry.{Geometry}
use Rattle.counted_io.specs.Streams.{Stream}
use Rattle.dasd_extract.specs.declared.stops.Stop.{Stop}
use Rattle.dasd_extract.specs.Written.{Written, stop_behind, told_behind}
use Rattle.dasd_extract.specs.Walk.{Wanted, track_read_from, alternates_read}
use Rattle.dasd_extract.proofs.Printings.{Printed}

module _ (s : Wanted) (g : Geometry) (slots : List (List ℕ)) where
  pub none_read : alternates_read s g slots 0 ≡ 0
  unfolding alternates_read
  none_read = refl

  -- one track more
  pub one_more_read : (i before now : ℕ) → before ≡ alternates_read s g slots i → now ≡ before + track_read_from s g slots i
      → now ≡ alternates_read s g slots (i + 1)
  unfolding alternates_read
  one_more_read i before now is more =
      more ∙ ap (λ k. k + track_read_from s g slots i) is ∙ ap (alternates_read s g slots) (sym (add-one i))

-- what was printed, and how it is told
pub told : (n m : ℕ) (w : Written) (ended : Option Stop) (a b : Stream) → m ≡ n → Printed w a b ended
    → Printed (told_behind n w) a b (option_map (stop_behind m) ended)
told n m w ended a b is p = (p.0, ap (λ k. option_map (stop_behind k) ended) is ∙ ap (option_map (stop_behind n)) p.1)
