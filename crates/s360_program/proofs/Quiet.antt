-- Units that need no call of the store.
use Rattle.std.proofs.Common.{◌≡◌, ℕ, zero, suc, ◌+◌, ◌≤◌, ◌<◌, arith, refl, sym, ap, ◌∙◌, subst, true, false, Bool, ◌&&◌, ◌||◌, [], ◌∷◌}
use Rattle.std.proofs.Common.{Option, None, List}
use Rattle.s360_words.specs.Storage.{Storage}
use Rattle.s360_words.specs.declared.words.Ccw.{Ccw}
use Rattle.ckd_command.specs.Commands.{beginning, sight}
use Rattle.ckd_command.specs.Drive.{Fault, Open, state_of, AfterBegin, Rejected, Immediate, Started, begin, AfterLook, Ready, Passed}
use Rattle.ckd_command.specs.Drive.{Failed, look, close, is_written, track_under, unsaved}
use Rattle.ckd_command.specs.Tables.{aim}
use Rattle.ckd_command.specs.declared.tables.Aim.{Aim}
use Rattle.ckd_command.specs.declared.tables.Aim.TheVariants as aim_is
use Rattle.ckd_command.specs.declared.begin.Opened.{Opened}
use Rattle.ckd_command.proofs.Marks.{BegunTraces, begin_traces, LookTraces, look_traces}
use Rattle.ckd_drive.specs.Work.{DriveState, Work, Idle, Over, Looking, Passing, is_idle, with_image, after_begun, after_begin, after_sight}
use Rattle.ckd_drive.specs.Work.{after_look, after_look_of, closed_of, is_next, CallsStore, fault_met, begin_saves, goes_to_cylinder_zero}
use Rattle.ckd_drive.specs.Work.{look_loads, look_saves, look_saves_of, goes_to_next_head, answer_of_look}
use Rattle.ckd_drive.specs.declared.answers.Look.TheVariants as seen
use Rattle.s360_laws.specs.Places.{Place}
use Rattle.s360_laws.specs.StoreCalls.{is_next as looks_next}
use Rattle.s360_laws.specs.Units.{ProgramPhase, StandsIn}
use Rattle.s360_program.specs.Advances.{NeedsNoStore, NeedNoStore}
use Rattle.s360_program.specs.Place.{place_of}
use Rattle.s360_program.specs.Stands.{RunningState, StageFits, Stands, phase_by, phase_in}
use Rattle.s360_program.specs.Steps.{run_of, in_bytes, IsQuiet, Looked}
use Rattle.s360_program.specs.declared.run.Run.{Run}
use Rattle.s360_program.specs.Stage as stage
use Rattle.s360_program.proofs.Cases.{never, only_left, by_stage}
use Rattle.s360_program.proofs.Cutting.{untouched_unwritten}
use Rattle.s360_program.proofs.Looking.{looking_is, look_fits, walks}
use Rattle.s360_program.proofs.Advancing.{more_units}
use Rattle.s360_program.proofs.Meeting.{untouched}
use Rattle.s360_program.proofs.Moments.{LeadsTo, Moment}

-- what holds only where another thing does, does not where that does not
not_so : (a b : Bool) → (b ≡ true → a ≡ true) → a ≡ false → b ≡ false
not_so a false h e = refl
not_so a true h e = sym (sym e ∙ h refl)

neither : (a b : Bool) → (a || b) ≡ false → (a ≡ false) × (b ≡ false)
neither true b h = never (sym h)
neither false b h = (refl, h)

same_next : (a : Aim) → looks_next a ≡ is_next a
same_next aim_is.NoArea = refl
same_next (aim_is.Next kind) = refl
same_next aim_is.Credited = refl

-- the drive is quiet where the phase is
pub phase_quiet : (r : RunningState) (s : Storage) (d : DriveState) → Stands r d → NeedsNoStore (phase_in r s d) → IsQuiet d
phase_quiet r s d t =
    by_stage d.state (λ g w. NeedsNoStore (phase_by g r.place s d.state w) → IsQuiet (record d { work = w }))
    (record {
      between = λ h. record { unwritten = h.unwritten; closes = h.unwritten; looks = refl };
      looking = λ ccw o h. record { unwritten = h.unwritten; closes = h.unwritten; looks = sym (same_next (aim o.command)) ∙ h.looks };
      none_passed = λ ccw a o l. moving o [] l;
      some_passed = λ ccw a o x b l. moving o (x ∷ b) l;
    }) r.stage d.work t.fits
  where
    moving : (o : Opened) (b : List ℕ) (l : ℕ) {ccw : Ccw} {a : ℕ}
        → NeedsNoStore (phase_by (stage.Moving ccw a) r.place s d.state (Passing o b l)) → IsQuiet (record d { work = Passing o b l })
    moving o b l h = let n = neither (is_written d.state) _ h.unwritten in record { unwritten = n.0; closes = n.1; looks = refl }

-- the first of units that need no call needs none
pub first_quiet : (r : RunningState) (s : Storage) (d : DriveState) (n key : ℕ) → Stands r d → 0 < n → NeedNoStore key (phase_in r s d) n
    → IsQuiet d
first_quiet r s d n key t some h = phase_quiet r s d t (h 0 (phase_in r s d) some refl)

-- and units of which each needs no call make none, where the next ones make none either
pub still_quiet : (start at : Moment) (done n more : ℕ) (d2 : DriveState) → LeadsTo start done at → done + n ≤ more
    → (NeedNoStore start.key start.phase done → at.drive.image ≡ start.drive.image)
    → (NeedNoStore at.key at.phase n → d2.image ≡ at.drive.image) → NeedNoStore start.key start.phase more
    → d2.image ≡ start.drive.image
still_quiet start at done n more d2 leads few before now h =
    now (λ j next less w. h (done + j) next (omega (arith, few, less))
    (more_units start.key at.key start.phase at.phase next done j leads.same_key leads.goes w))
    ∙ before (λ j next less. h j next (omega (arith, few, less)))

-- a command that begins writes nothing
pub begun_quiet : (f : Option Fault) (code : ℕ) (d0 d1 : DriveState) → unsaved d0.state ≡ None → is_idle d0.work ≡ true
    → is_written d0.state ≡ false
    → d1 ≡ with_image (after_begin f code d0) d1.image → (is_written d1.state ≡ false)
    × (is_written (closed_of None d1 d1.work).state ≡ false)
begun_quiet f code d0 d1 e idle w is =
    subst (λ (d : DriveState). (is_written d.state ≡ false) × (is_written (closed_of None d d.work).state ≡ false)) (sym is)
    (go (begin f code d0.state) (begin_traces f code d0.state e) d0.work idle)
  where
    go : (b : AfterBegin) → BegunTraces d0.state b → (k : Work) → is_idle k ≡ true
        → (is_written (after_begun b (record d0 { work = k })).state ≡ false)
        × (is_written (closed_of None (with_image (after_begun b (record d0 { work = k })) d1.image)
        (after_begun b (record d0 { work = k })).work).state ≡ false)
    go (Rejected s) t Idle i = (let n = not_so (is_written d0.state) (is_written s) t.written w in (n, n))
    go (Rejected s) t (Over x) i = never i
    go (Rejected s) t (Looking o) i = never i
    go (Rejected s) t (Passing o b l) i = never i
    go (Immediate s motion) t k i = (let n = not_so (is_written d0.state) (is_written s) t.written w in (n, n))
    go (Started o) t k i = (let n = not_so (is_written d0.state) (is_written o.state) t.written w in (n, n))

no_byte : (o : Open) → is_written (state_of o) ≡ false → is_written (close None o []).state ≡ false
no_byte o w = not_so (is_written (state_of o)) (is_written (close None o []).state) (untouched_unwritten o) w

-- nor does a look, also where it finds the area
pub looked_quiet : (f : Option Fault) (o : Opened) (d0 d1 : DriveState) → unsaved d0.state ≡ None → d0.work ≡ Looking o
    → is_written d0.state ≡ false
    → d1 ≡ with_image (after_look f d0) d1.image → (is_written d1.state ≡ false) × (is_written (closed_of None d1 d1.work).state ≡ false)
looked_quiet f o d0 d1 e at w is =
    let now : d1 ≡ with_image (after_look_of f d0 (Looking o)) d1.image = is ∙ ap (λ k. with_image (after_look_of f d0 k) d1.image) at in
    subst (λ (d : DriveState). (is_written d.state ≡ false) × (is_written (closed_of None d d.work).state ≡ false)) (sym now)
    (go (look f (record { opened = o; state = d0.state })) (look_traces f (record { opened = o; state = d0.state }) e))
  where
    go : (l : AfterLook) → LookTraces d0.state l
        → (is_written (after_sight l d0).state ≡ false)
        × (is_written (closed_of None (with_image (after_sight l d0) d1.image) (after_sight l d0).work).state ≡ false)
    go (Ready q) t = (let n = not_so (is_written d0.state) (is_written q.state) t.written w in (n, no_byte q n))
    go (Passed q) t = (let n = not_so (is_written d0.state) (is_written q.state) t.written w in (n, n))
    go (Failed s) t = (let n = not_so (is_written d0.state) (is_written s) t.written w in (n, n))

-- An immediate command, and a look that finds the area, each with what follows in the unit.

-- it names the drive before, between and behind, since it joins the beginning and what follows in the unit
pub immediately_quiet : (f : Option Fault) (code : ℕ) (d0 d1 d2 : DriveState) → unsaved d0.state ≡ None → is_idle d0.work ≡ true
    → d1 ≡ with_image (after_begin f code d0) d1.image
    → CallsStore false (begin_saves code d0) d0 d1 → (is_written d1.state ≡ false → is_written (closed_of None d1 d1.work).state ≡ false
    → d2.image ≡ d1.image)
    → IsQuiet d0 → d2.image ≡ d0.image
immediately_quiet f code d0 d1 d2 saved idle is calls later q =
    let w = begun_quiet f code d0 d1 saved idle q.unwritten is in
    later w.0 w.1 ∙ untouched (begin_saves code d0) d0 d1 (ap (λ b. b && goes_to_cylinder_zero (beginning code d0.state.registers))
    q.unwritten) calls

look_untouched : (d0 d1 : DriveState) → look_saves d0 ≡ false → look_loads d0 ≡ false → CallsStore (look_loads d0) (look_saves d0) d0 d1
    → d1.image ≡ d0.image
look_untouched d0 d1 saves loads calls = calls.untouched saves (only_left calls.loads (λ h. never (sym loads ∙ h.0)))

saves_not : (d : DriveState) (w : Work) → is_written d.state ≡ false → look_saves_of d w ≡ false
saves_not d Idle h = refl
saves_not d (Over e) h = refl
saves_not d (Looking o) h = ap (λ b. b && goes_to_next_head (sight d.state.volume.geometry (track_under d.state) o d.state.registers)) h
saves_not d (Passing o b l) h = refl

pub looks_quiet : (r : Run) (d0 d1 : DriveState) → Looked r d0 d1 → IsQuiet d0 → d1.image ≡ d0.image
looks_quiet r d0 d1 k q = look_untouched d0 d1 (saves_not d0 d0.work q.unwritten) q.looks k.calls

unwritten_behind : (r : Run) (d0 d1 : DriveState) → Looked r d0 d1 → IsQuiet d0 → (is_written d1.state ≡ false)
    × (is_written (closed_of None d1 d1.work).state ≡ false)
unwritten_behind r d0 d1 k q = let o = looking_is r d0 k.fits k.at in
    looked_quiet (fault_met d0 d1) o.0 d0 d1 k.fits.stands.saved o.1 q.unwritten k.state

-- a look that fails, and the end of the program
pub fails_quiet : (r : Run) (d0 d1 d2 : DriveState) → Looked r d0 d1 → CallsStore false (is_written d1.state) d1 d2 → IsQuiet d0
    → d2.image ≡ d0.image
fails_quiet r d0 d1 d2 k settles q = untouched (is_written d1.state) d1 d2 (unwritten_behind r d0 d1 k q).0 settles
    ∙ looks_quiet r d0 d1 k q

quiet_at : (ccw : Ccw) (a : ℕ) (p : Place) (s : Storage) (d : DriveState) (w : Work) → StageFits (stage.Moving ccw a) d.state w
    → is_written d.state ≡ false → is_written (closed_of None d w).state ≡ false
    → NeedsNoStore (phase_by (stage.Moving ccw a) p s d.state w)
quiet_at ccw a p s d Idle f w c = absurd f
quiet_at ccw a p s d (Over x) f w c = absurd f
quiet_at ccw a p s d (Looking o) f w c = absurd f
quiet_at ccw a p s d (Passing o b l) f w c = record { looks = refl; unwritten = rw w c }

-- it names the drive before, between and behind, since it joins the look and what follows in the units
pub finds_quiet : (r : Run) (s : Storage) (left n : ℕ) (d0 d1 d2 : DriveState) → Looked r d0 d1 → seen.Ready left ≡ answer_of_look d1.work
    → 0 < n
    → (NeedNoStore r.key (phase_in (run_of (in_bytes r)) s d1) n → d2.image ≡ d1.image) → NeedNoStore r.key (phase_in (run_of r) s d0) n
    → d2.image ≡ d0.image
finds_quiet r s left n d0 d1 d2 k answer some later h = later from ∙ looks_quiet r d0 d1 k q
  where
    q : IsQuiet d0
    q = first_quiet (run_of r) s d0 n r.key k.fits.stands some h

    w : (is_written d1.state ≡ false) × (is_written (closed_of None d1 d1.work).state ≡ false)
    w = unwritten_behind r d0 d1 k q

    stands : {a b : ProgramPhase} → StandsIn a ≡ StandsIn b → a ≡ b
    stands e = cc

    from : NeedNoStore r.key (phase_in (run_of (in_bytes r)) s d1) n
    from zero next less e = subst NeedsNoStore (stands e) (quiet_at r.ccw r.ccw.address (place_of r.place) s d1 d1.work
        (look_fits r s d0 d1 k left answer).stands.fits w.0 w.1)
    from (suc j) next less e = h (suc j) next less (walks r s d0 d1 k left answer (suc j) (omega arith) ∙ e)
