-- Cuts.
use Rattle.std.proofs.Common.{◌≡◌, ℕ, refl, sym, ap, ◌∙◌, true, false, Bool, ◌&&◌, ◌||◌, List, [], ◌∷◌, Option, Some, None}
use Rattle.ckd_image.specs.Image.{ImageState}
use Rattle.ckd_track.specs.Track.{Track}
use Rattle.ckd_command.specs.declared.begin.Opened.{Opened}
use Rattle.s360_words.specs.Storage.{Storage}
use Rattle.s360_words.specs.declared.words.Csw.{Csw}
use Rattle.ckd_command.specs.Commands.{Closing, closing}
use Rattle.ckd_command.specs.Drive.{Fault, State, Open, close, closed, with_written, with_registers, is_written, track_under}
use Rattle.ckd_command.proofs.Marks.{close_writes}
use Rattle.ckd_command.proofs.Stable.{close_moved}
use Rattle.ckd_drive.specs.Work.{DriveState, Work, Idle, Over, Looking, Passing, fault_met, with_image, closed_of, after_end, end_saves}
use Rattle.ckd_drive.specs.Work.{end_saves_of, CallsStore}
use Rattle.s360_laws.specs.Endings.{ending, untouched}
use Rattle.s360_laws.specs.Places.{Place}
use Rattle.s360_laws.specs.Status.{no_channel_status}
use Rattle.s360_laws.specs.Units.{Next, standing_in}
use Rattle.s360_laws.specs.Unsaved.{has_written}
use Rattle.s360_program.specs.Stands.{StageFits, phase_by}
use Rattle.s360_program.specs.Steps.{EndsBy, has_moved}
use Rattle.s360_program.specs.Stage.{Stage}
use Rattle.s360_program.proofs.Cases.{never, only_left, by_stage}
use Rattle.s360_program.proofs.Meeting.{met_none, untouched as image_untouched}

pub same_ends : (next later : Option Fault → Next) (told : Csw × Bool) (s : Storage) (d0 d1 : DriveState)
    → ((f : Option Fault) → next f ≡ later f) → EndsBy later told s d0 d1 → EndsBy next told s d0 d1
same_ends next later told s d0 d1 e h = record {
  fault = h.fault;
  met = h.met;
  ending = h.ending;
  ends = e h.fault ∙ h.ends;
  is_ending =
      h.is_ending;
  told_of = h.told_of;
}

-- What a cut closes.

pub cut_untouched : (key : ℕ) (g : Stage) (p : Place) (s : Storage) (d : DriveState) (w : Work) (f : Option Fault) → StageFits g d.state w
    → has_moved w ≡ false
    → (standing_in key (phase_by g p s d.state w)).cut f ≡ ending f key p (untouched d.state) no_channel_status
cut_untouched key g p s d w f fits =
    by_stage d.state (λ g w. has_moved w ≡ false → (standing_in key (phase_by g p s d.state w)).cut f ≡ ending f key p
    (untouched d.state) no_channel_status)
    (record {
      between = λ h. refl;
      looking = λ ccw o h. refl;
      none_passed = λ ccw a o l h. refl;
      some_passed = λ ccw a o x b l h. never (sym h);
    }) g w fits

pub cut_touched : (key : ℕ) (g : Stage) (p : Place) (s : Storage) (d : DriveState) (w : Work) (f : Option Fault) → StageFits g d.state w
    → has_moved w ≡ true
    → (standing_in key (phase_by g p s d.state w)).cut f ≡ ending f key p (closed_of f d w) no_channel_status
cut_touched key g p s d w f fits =
    by_stage d.state (λ g w. has_moved w ≡ true → (standing_in key (phase_by g p s d.state w)).cut f ≡ ending f key p
    (closed_of f d w) no_channel_status)
    (record {
      between = λ h. never h;
      looking = λ ccw o h. never h;
      none_passed = λ ccw a o l h. never h;
      some_passed = λ ccw a o x b l h. refl;
    }) g w fits

-- Whether it saves a track.

pub untouched_unwritten : (o : Open) → is_written (close None o []).state ≡ true → is_written o.state ≡ true
untouched_unwritten o h = only_left (close_writes o [] h) (λ x. x.1 refl)

joins : (a b : Bool) → (b ≡ true → a ≡ true) → (a || b) ≡ a
joins true b h = refl
joins false true h = never (h refl)
joins false false h = refl

pub untouched_written : (g : Stage) (p : Place) (s : Storage) (st : State) (w : Work) → StageFits g st w → has_moved w ≡ false
    → is_written st ≡ has_written (phase_by g p s st w)
untouched_written g p s st w fits =
    by_stage st (λ g w. has_moved w ≡ false → is_written st ≡ has_written (phase_by g p s st w))
    (record {
      between = λ h. refl;
      looking = λ ccw o h. refl;
      none_passed = λ ccw a o l h. sym (joins (is_written st) _ (untouched_unwritten (record { opened = o; state = st })));
      some_passed = λ ccw a o x b l h. never (sym h);
    }) g w fits

stays_written : (s : State) (c : Closing) (m : Bool) → m ≡ false → is_written s ≡ true → is_written (closed None s c m).state ≡ true
stays_written s c true e w = never (sym e)
stays_written s c false e w = go c.written
  where
    go : (t : Option Track) → is_written (with_registers (with_written s t) c.registers) ≡ true
    go None = w
    go (Some t) = refl

pub end_moved : (d0 d1 : DriveState) → d1 ≡ with_image (after_end (fault_met d0 d1) d0) d1.image → end_saves d0 ≡ true
    → is_written d1.state ≡ false
end_moved d0 d1 state h = ap (λ (d : DriveState). is_written d.state) state ∙ go d0.work h
  where
    right : (a b : Bool) → (a && b) ≡ true → b ≡ true
    right true b h = h
    right false b h = never h

    go : (w : Work) → end_saves_of d0 w ≡ true → is_written (closed_of (fault_met d0 d1) d0 w).state ≡ false
    go Idle h = never h
    go (Over x) h = never h
    go (Looking o) h = never h
    go (Passing o b l) h = close_moved (fault_met d0 d1) (record { opened = o; state = d0.state }) b (right (is_written d0.state) _ h)

pub touched_written : (g : Stage) (p : Place) (s : Storage) (d0 d1 : DriveState) → StageFits g d0.state d0.work → has_moved d0.work ≡ true
    → d1 ≡ with_image (after_end (fault_met d0 d1) d0) d1.image → CallsStore false (end_saves d0) d0 d1
    → (end_saves d0 || is_written d1.state) ≡ has_written (phase_by g p s d0.state d0.work)
touched_written g p s d0 d1 fits moved state calls = by_saves (end_saves d0) refl
  where
    left : (a b : Bool) → (a && b) ≡ true → a ≡ true
    left true b h = refl
    left false b h = h

    at_end : end_saves d0 ≡ false → is_written d1.state ≡ is_written (closed_of None d0 d0.work).state
    at_end e =
        ap (λ (d : DriveState). is_written d.state) state
        ∙ ap (λ f. is_written (closed_of f d0 d0.work).state)
        (met_none d0 d1 (ap (λ (i : ImageState). i.failures) (image_untouched (end_saves d0) d0 d1 e calls)))

    not_moved : (w : Work) → end_saves_of d0 w ≡ false → is_written d0.state ≡ true → is_written (closed_of None d0 w).state ≡ true
    not_moved Idle e h = h
    not_moved (Over x) e h = h
    not_moved (Looking o) e h = h
    not_moved (Passing o b l) e h =
        stays_written d0.state (closing d0.state.volume.geometry (track_under d0.state) o d0.state.registers b) _
        (sym (ap (λ a. a && (closing d0.state.volume.geometry (track_under d0.state) o d0.state.registers b).moves_off) h) ∙ e) h

    absorbed : (a c : Bool) → (a ≡ true → c ≡ true) → c ≡ (a || c)
    absorbed true c k = k refl
    absorbed false c k = refl

    written : (saves : Bool) → end_saves_of d0 d0.work ≡ saves → (saves || is_written (closed_of None d0 d0.work).state)
        ≡ has_written (phase_by g p s d0.state d0.work)
    written saves e =
        by_stage d0.state (λ g w. has_moved w ≡ true → end_saves_of d0 w ≡ saves → (saves || is_written (closed_of None d0 w).state)
        ≡ has_written (phase_by g p s d0.state w))
        (record {
          between = λ h. never h;
          looking = λ ccw o h. never h;
          none_passed = λ ccw a o l h. never h;
          some_passed = λ ccw a o x b l h. by_end saves o (x ∷ b) l;
        }) g d0.work fits moved e
      where
        by_end : (saves : Bool) (o : Opened) (b : List ℕ) (l : ℕ) → end_saves_of d0 (Passing o b l) ≡ saves
            → (saves || is_written (close None (record { opened = o; state = d0.state }) b).state)
            ≡ (is_written d0.state || is_written (close None (record { opened = o; state = d0.state }) b).state)
        by_end true o b l e = rw (left (is_written d0.state) _ e)
        by_end false o b l e = absorbed (is_written d0.state) (is_written (close None (record { opened = o; state = d0.state }) b).state)
            (not_moved (Passing o b l) e)

    by_saves : (m : Bool) → end_saves d0 ≡ m → (end_saves d0 || is_written d1.state) ≡ has_written (phase_by g p s d0.state d0.work)
    by_saves true e = ap (λ m. m || is_written d1.state) e ∙ written true e
    by_saves false e = ap (λ m. m || is_written d1.state) e ∙ at_end e ∙ written false e
