-- What is told one after another.
use Rattle.std.proofs.Common.{◌∙◌, ap, sym, subst, ℕ, List, ◌+◌, ◌++◌, Option, Result, Ok, Err, inl, inr}
use Rattle.std.specs.List.{flat_map}
use Rattle.std.proofs.lemmas.List.{map-append}
use Rattle.std.proofs.lemmas.List.Concat.{flat_map-append}
use Rattle.counted_io.specs.Streams.{Stream, Takes, NoneFailed}
use Rattle.counted_io.proofs.Written.{takes_more}
use Rattle.dasd_volumes.proofs.Fronts.{front_behind}
use Rattle.dasd_unload.specs.declared.fault.UnloadFault.{UnloadFault}
use Rattle.dasd_unload.specs.Told.{FindingLine, finding_lines, line_text, TellsText, WhyNotTold}

why_behind : (f : UnloadFault) (a b c : Stream) → NoneFailed a b → WhyNotTold f b c → WhyNotTold f a c
why_behind f a b c none (inl w) = inl (w.0, w.1 ∙ none)
why_behind f a b c none (inr w) = inr (w.0, w.1 ∙ ap (λ n. n + 1) none)

-- a text was printed, and then the next one
pub then_told : {A : Type 0} (r : Result A UnloadFault) (first next : List ℕ) (a b c : Stream) → Takes a b first × NoneFailed a b
    → TellsText r next b c → TellsText r (first ++ next) a c
then_told (Ok _) first next a b c told this = (takes_more a b c first next told.0 this.0, this.1 ∙ told.1)
then_told (Err f) first next a b c told this = (front_behind a b c first next told.0 this.0, why_behind f a b c told.1 this.1)

-- findings were told, and then the next ones
pub then_findings : {A : Type 0} (r : Result A UnloadFault) (json : Option (List ℕ)) (name : List ℕ) (first next : List (List ℕ))
    (a b c : Stream) → Takes a b (flat_map (line_text json) (finding_lines name first)) × NoneFailed a b
    → TellsText r (flat_map (line_text json) (finding_lines name next)) b c
    → TellsText r (flat_map (line_text json) (finding_lines name (first ++ next))) a c
then_findings r json name first next a b c told this = subst (λ text. TellsText r text a c)
    (sym (cc (
      map-append (FindingLine name) first next,
      flat_map-append (line_text json) (finding_lines name first)
          (finding_lines name next),
    )))
    (then_told r _ _ a b c told this)
