-- Calls that call no store: what the images count, and that such an event does what the machine does and meets no fault.
use Rattle.std.proofs.Common.{◌≡◌, ℕ, ◌+◌, arith, List, [], ◌∷◌, map, None, refl, ◌∙◌, inl}
use Rattle.std.proofs.lemmas.List.Sums.{sum-map}
use Rattle.std.proofs.lemmas.Simd.{map-map}
use Rattle.std.specs.Prelude.{sum_by}
use Rattle.ckd_image.specs.Image.{ImageState}
use Rattle.s360_laws.specs.Events.{Event, Answer}
use Rattle.s360_laws.specs.Machine.{Machine, react}
use Rattle.s360_laws.proofs.Headlines.{headline}
use Rattle.s360_channel.specs.Calls.{DoesQuietly, Does, CallsAtMost, CallsNoStore}
use Rattle.s360_channel.specs.Channel.{ChannelState, StandsFor, failures_of}
use Rattle.attached_drives.specs.Drives.{AttachedState}

abbrev pub images : List AttachedState → List ImageState
images us = map (λ (u : AttachedState). u.drive.image) us

-- what is read off the images, of drives that have the same ones
same_parts : {A : Type 0} (f : ImageState → A) (old new : List AttachedState) → images new ≡ images old → map (λ u. f u.drive.image) new
    ≡ map (λ u. f u.drive.image) old
same_parts f old new same = rw (← map-map f (λ (u : AttachedState). u.drive.image), same, map-map) refl

same_sums : (f : ImageState → ℕ) (old new : List AttachedState) → images new ≡ images old → sum_by (λ u. f u.drive.image) new
    ≡ sum_by (λ u. f u.drive.image) old
same_sums f old new same = rw (← sum-map (λ (u : AttachedState). f u.drive.image), same_parts f old new same, sum-map) refl

pub none_fails : (old new : ChannelState) → CallsNoStore old new → failures_of new ≡ failures_of old
none_fails old new same = same_sums (λ i. i.failures) old.drives new.drives same

-- a call of no store behind some calls
pub calls_then_none : (most : ℕ) (c d e : ChannelState) → CallsAtMost most c d → CallsNoStore d e → CallsAtMost most c e
calls_then_none most c d e h same = record {
  calls = rw (same_sums (λ i. i.loads + i.saves) d.drives e.drives same) h.calls;
  failures = rw (none_fails d e same) h.failures;
  lasting = same_parts (λ i. i.lasting) d.drives e.drives same ∙ h.lasting;
  geometries = same_parts (λ i. i.geometry) d.drives e.drives same ∙ h.geometries;
}

pub none_calls : (most : ℕ) (old new : ChannelState) → CallsNoStore old new → CallsAtMost most old new
none_calls most old new same = calls_then_none most old old new
    (record { calls = omega arith; failures = inl refl; lasting = refl; geometries = refl }) same

pub quiet_does : (e : Event) (m : Machine) (answer : Answer) (old new : ChannelState) → StandsFor old m → DoesQuietly e m answer new
    → CallsNoStore old new → Does e m answer old new
quiet_does e m answer old new stands does calls = record {
  fault = None;
  met = none_fails old new calls;
  answers = does.answers;
  stands = does.stands;
  reports = (headline m ((e, None) ∷ []) stands.sound).no_fault_none_told [] ((e, None) ∷ []) refl e;
}

-- an event that changes nothing
pub nothing_does : (e : Event) (m : Machine) (c : ChannelState) (answer : Answer) → StandsFor c m → react e None m ≡ (answer, m)
    → Does e m answer c c
nothing_does e m c answer s is = quiet_does e m answer c c s (record {
  answers = rw is refl;
  stands = rw is s;
}) refl

-- what is done of an event and an answer that are equal to these
pub quiet_as : (e d : Event) (m : Machine) (given answer : Answer) (new : ChannelState) → e ≡ d → given ≡ answer
    → DoesQuietly d m answer new → DoesQuietly e m given new
quiet_as e d m given answer new p q does = rw (p, q) does
