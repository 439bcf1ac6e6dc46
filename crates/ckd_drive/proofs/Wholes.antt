-- A read whose bytes pass at once, on the track at hand.
use Rattle.std.proofs.Common.{◌≡◌, ◌∙◌, ap, sym, refl, ℕ, List, Bool, true, false, Option, Some, None}
use Rattle.std.specs.Prelude.{if◌then◌else◌, ◌&&◌}
use Rattle.std.proofs.lemmas.Bool.{eqb-true}
use Rattle.std.proofs.lemmas.Option.{cond_some}
use Rattle.std.proofs.Math.Bool.{and-false}
use Rattle.ckd_track.specs.Track.{track_of, track_or_none}
use Rattle.ckd_position.specs.declared.areas.Area.{Area}
use Rattle.ckd_position.specs.declared.areas.Kind.{Kind}
use Rattle.ckd_position.specs.declared.areas.Next.{Next as NextArea}
use Rattle.ckd_position.specs.declared.areas.Next.TheVariants as next
use Rattle.ckd_position.specs.declared.areas.Position.TheVariants.{At}
use Rattle.ckd_position.specs.Areas.{next_of_kind}
use Rattle.ckd_position.specs.Contents.{is_readable, bytes_of, has_no_data}
use Rattle.ckd_command.specs.Answers.{Sight}
use Rattle.ckd_command.specs.declared.begin.Opened.{Opened}
use Rattle.ckd_command.specs.declared.registers.Mark.{Mark}
use Rattle.ckd_command.specs.declared.tables.Action.TheVariants as action
use Rattle.ckd_command.specs.declared.tables.Aim.TheVariants.{Next}
use Rattle.ckd_command.specs.Commands.{closing, ends, ending_status, unit_exception_status, sight, sight_of}
use Rattle.ckd_command.specs.Drive.{is_written_by, look, looked}
use Rattle.ckd_command.specs.Tables.{aim, action_of, extent_of, area_left, ends_with_data}
use Rattle.ckd_command.proofs.Closings.{area_by, closing_by}
use Rattle.ckd_command.proofs.Sights.{passing}
use Rattle.ckd_slot.specs.Cache.{holds, slot_at_hand, slot_held}
use Rattle.ckd_drive.specs.declared.answers.DriveStage.TheVariants.{Looking}
use Rattle.ckd_drive.specs.declared.answers.WholeRead.{WholeRead}
use Rattle.ckd_drive.specs.Invariant.{HalfDone, own_slot, own_track, parts_of, state_of}
use Rattle.ckd_drive.specs.Work.{GivesWhole, gives_at_once, is_ready, open_at}
use Rattle.ckd_drive.proofs.Standing.{slot_is}

pub held_of : (held : Option ℕ) (n : ℕ) → holds held n ≡ true → held ≡ Some n
held_of None n e = absurd cc
held_of (Some t) n e = ap (λ (k : ℕ). Some k) (eqb-true t n e)

-- a read looks for an area of this kind, and its track is at hand, with this slot
pub record Lent (h : HalfDone) (k : Kind) (slot : List ℕ) : Type 0 where
  pub at_hand : Some slot ≡ slot_at_hand h.cache (own_track h)
  pub reads : action_of h.opened.command ≡ action.Read
  pub aimed : aim h.opened.command ≡ Next k

-- whether it found an area
abbrev pub is_found : NextArea → Bool
is_found (next.Found a) = true
is_found next.IndexPassed = false

module _ {h : HalfDone} {k : Kind} {slot : List ℕ} (l : Lent h k slot) where
  hand : (holds h.cache.held (own_track h) ≡ true) × (slot_held h.cache ≡ slot)
  hand = cond_some (holds h.cache.held (own_track h)) (slot_held h.cache) slot (sym l.at_hand)

  slot_own : slot ≡ own_slot h
  slot_own = slot_is h.cache (own_track h) slot (held_of h.cache.held (own_track h) hand.0) (sym hand.1)

  -- its next look is that of the area which comes next, on a track that reads whole
  sees : (x : NextArea) → is_readable (track_of slot) ≡ true → x ≡ next_of_kind (track_or_none (track_of slot)) h.registers.position k
      → sight h.cache.image.geometry (track_of (own_slot h)) h.opened h.registers ≡ sight_of h.cache.image.geometry h.opened h.registers x
  unfolding sight
  sees x whole is = rw (← slot_own, l.aimed, l.reads, whole, ← is) refl

  -- by what each call of the code says of its area and its bytes, which makes its premises many
  pub gives_whole : (m : Mark) (a : Area) (read : WholeRead) (bytes : List ℕ) → is_readable (track_of slot) ≡ true
      → next.Found a ≡ next_of_kind (track_or_none (track_of slot)) h.registers.position k
      → read.area ≡ area_left (extent_of h.opened.command) a
      → read.no_data ≡ (ends_with_data (extent_of h.opened.command) && has_no_data (track_of slot) (Some a))
      → bytes ≡ bytes_of (extent_of h.opened.command) (track_of slot) a → GivesWhole (state_of (parts_of h m Looking)) bytes read
  gives_whole m a read bytes whole comes left none are =
      let g = h.cache.image.geometry in
      let t = track_of (own_slot h) in
      let o : Opened = record h.opened { area = Some a } in
      let finds = sees (next.Found a) whole comes in
      let has : read.no_data ≡ (ends_with_data (extent_of h.opened.command) && has_no_data t (Some a)) =
      none ∙ ap (λ (s : List ℕ). ends_with_data (extent_of h.opened.command) && has_no_data (track_of s) (Some a)) slot_own in
      let closes : (b : List ℕ) → closing g t o h.registers b ≡ ends (record h.registers { position = At read.area })
      (if read.no_data then unit_exception_status else ending_status) =
      λ b. closing_by action.Read g t o h.registers b l.reads ∙ rw (left, has) refl in
      record {
        asked = h.opened;
        opened = o;
        works = refl;
        finds = rw finds refl;
        stays = rw finds (and-false (is_written_by m));
        gives = rw l.reads refl;
        given = area_by action.Read t o h.registers l.reads ∙ sym (rw slot_own at are);
        ends = λ b. rw (closes b) refl;
        keeps = λ b n. rw (closes b) (and-false (is_written_by m));
      }

  -- When it is lent: its bytes are there exactly if its next look finds its area.
  abbrev IsLent : Mark → Bool → Type 0
  IsLent m b = b ≡ (holds h.cache.held (own_track h) && gives_at_once (state_of (parts_of h m Looking)))

  lends_if : (m : Mark) (b : Bool) → b ≡ is_ready (look None (open_at (state_of (parts_of h m Looking)) h.opened)) → IsLent m b
  lends_if m b ready = rw (hand.0, l.reads) ready

  pub lends_unread : (m : Mark) → is_readable (track_of slot) ≡ false → IsLent m false
  unfolding sight
  lends_unread m unread = lends_if m false (rw (← slot_own, l.aimed, l.reads, unread) refl)

  pub lends_next : (m : Mark) (x : NextArea) → is_readable (track_of slot) ≡ true
      → x ≡ next_of_kind (track_or_none (track_of slot)) h.registers.position k → IsLent m (is_found x)
  lends_next m (next.Found a) whole is = lends_if m true (rw (sees (next.Found a) whole is) refl)
  lends_next m next.IndexPassed whole is = lends_if m false (rw (sees next.IndexPassed whole is)
      (passing (λ (x : Sight). false ≡ is_ready (looked None (open_at (state_of (parts_of h m Looking)) h.opened) x)) h.cache.image.geometry
      h.opened h.registers refl (λ e. refl) (λ c e. refl)))
