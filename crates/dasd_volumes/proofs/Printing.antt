-- Texts of which the first bytes are printed.
use Rattle.std.proofs.Common.{◌≡◌, ◌∙◌, ◌+◌, ℕ, List, [], ◌++◌, Result, Ok, Err, ap, refl, subst}
use Rattle.counted_io.specs.Streams.{Stream, Takes, TakesFront, NoneFailed, OneFailed, WritesWhole}
use Rattle.counted_io.proofs.Written.{takes_nothing, takes_more}
use Rattle.dasd_volumes.specs.declared.fault.VolumeFault.{VolumeFault}
use Rattle.ckd_track.specs.declared.geometries.Geometry.{Geometry}
use Rattle.dasd_volumes.specs.Printing.{PrintsText, PrintsBytes}
use Rattle.dasd_volumes.specs.Reading.{KnownVolume}
use Rattle.dasd_volumes.proofs.Fronts.{begins_with_all, begins_before, front_more, front_behind}

-- nothing is printed yet
pub none_printed : (a : Stream) (text : List ℕ) → TakesFront a a text
none_printed a text = record { front = []; rest = text; whole = refl; taken = takes_nothing a }

-- the first bytes of a text are printed that another one follows
pub front_before : (a b : Stream) (text more : List ℕ) → TakesFront a b text → TakesFront a b (text ++ more)
front_before a b text more h = front_more a b text (text ++ more) (begins_before text text more (begins_with_all text)) h

-- a text is printed, and then another one, or its first bytes
pub printed_behind : {A : Type 0} (r : Result A VolumeFault) (a b c : Stream) (text more : List ℕ) → Takes a b text → PrintsBytes r more b c
    → PrintsBytes r (text ++ more) a c
printed_behind (Ok done) a b c text more h p = takes_more a b c text more h p
printed_behind (Err fault) a b c text more h p = front_behind a b c text more h p

pub then_whole : {E : Type 0} (r : Result (Unit {0}) E) (a b c : Stream) (text more : List ℕ) → Takes a b text × NoneFailed a b
    → WritesWhole r b c more → WritesWhole r a c (text ++ more)
then_whole (Ok done) a b c text more h w = (takes_more a b c text more h.0 w.0, w.1 ∙ h.1)
then_whole (Err fault) a b c text more h w = (front_behind a b c text more h.0 w.0, w.1 ∙ ap (λ (n : ℕ). n + 1) h.1)

pub stopped_before : (a b : Stream) (text more : List ℕ) → TakesFront a b text × OneFailed a b → TakesFront a b (text ++ more)
    × OneFailed a b
stopped_before a b text more h = (front_before a b text more h.0, h.1)

-- a text is written, and then that of a volume or its first bytes
pub text_behind : {A : Type 0} (r : Result A VolumeFault) (a b c : Stream) (text : Geometry → List ℕ) (more : Geometry → List (List ℕ)
    → List ℕ) (v : KnownVolume)
    → Takes a b (text v.geometry) → PrintsText r more v b c → PrintsText r (λ g slots. text g ++ more g slots) v a c
text_behind (Ok done) a b c text more v h p = λ slots known. takes_more a b c (text v.geometry) (more v.geometry slots) h (p slots known)
text_behind (Err fault) a b c text more v h p = λ slots known. front_behind a b c (text v.geometry) (more v.geometry slots) h
    (p slots known)

-- another text of a volume that is the same
pub prints_same : {A : Type 0} (r : Result A VolumeFault) (text other : Geometry → List (List ℕ) → List ℕ) (v : KnownVolume) (a b : Stream)
    → ((slots : List (List ℕ)) → text v.geometry slots ≡ other v.geometry slots) → PrintsText r text v a b → PrintsText r other v a b
prints_same (Ok done) text other v a b same p = λ slots known. subst (Takes a b) (same slots) (p slots known)
prints_same (Err fault) text other v a b same p = λ slots known. subst (TakesFront a b) (same slots) (p slots known)
