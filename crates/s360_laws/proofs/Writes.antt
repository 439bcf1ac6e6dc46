-- Which tracks a program writes: it keeps all others, and what it has written and not saved is read off its script.
use Rattle.std.proofs.Common.{arith, ◌≡◌, ℕ, refl, ap, sym, ◌∙◌, true, false, Bool, ◌==◌, List, [], ◌∷◌, ◌++◌, Option, Some, None, ◌⊎◌, inl}
use Rattle.std.proofs.Common.{inr, cond}
use Rattle.std.proofs.lemmas.Bool.{and_from, both_ways, eq-eqb, or_parts, or_right}
use Rattle.std.specs.Prelude.{is_some}
use Rattle.s360_words.specs.declared.words.Caw.{Caw}
use Rattle.ckd_track.specs.Track.{Track}
use Rattle.ckd_command.specs.Answers as answer
use Rattle.ckd_command.specs.Commands.{beginning}
use Rattle.ckd_command.specs.Drive.{Volume, State, Fault, LoadFails, SaveFails, number_under, track_number, is_written, Open, state_of}
use Rattle.ckd_command.specs.Drive.{close, closed, begin, look, looked}
use Rattle.s360_laws.specs.Faults.{LosesAtMost, NextByFault, cut_drive}
use Rattle.s360_laws.specs.Laws.{walked_on}
use Rattle.s360_laws.specs.Runs.{Start, start_point}
use Rattle.s360_laws.specs.Scripts.{Script, OneUnit}
use Rattle.s360_laws.specs.StoreCalls.{closing_of, leaves_fetched, leaves_as_it_begins, leaves_looking, goes_to_next_head, leaves_moved}
use Rattle.s360_laws.specs.Units.{unit, Next, EndsIn, GoesOn, Between, Looking, Moving, ProgramPhase, standing_in, on_next, walk, Walk}
use Rattle.s360_laws.specs.Units.{StandsIn, phase_past, state_in, next_moved, next_fetched}
use Rattle.s360_laws.specs.Unsaved.{has_written, NextTellsWritten}
use Rattle.s360_laws.specs.RunWrites.{slot_in, may_write, NextKeeps, UnitKeeps, WritesUnderArm, on_going, walk_writes, run_writes_from}
use Rattle.s360_laws.specs.RunWrites.{OutcomeKeeps, RunKeeps, writes_moved, written_past, written_since, MarkIsOfScript}
use Rattle.s360_laws.specs.Commands.{Point, length_status, requested}
use Rattle.s360_laws.specs.Places.{fetch, Fetched, GoodCcw}
use Rattle.s360_laws.specs.Transfers.{Transfer, request_of, TransferUnit, Completes, transfer_unit}
use Rattle.s360_laws.proofs.DriveFacts.{VolumeClosed, VolumeIn, begin_keeps, close_none, get_set_other, look_keeps, sighted}
use Rattle.s360_laws.proofs.FaultsMet.{cut_next, cut_or_not, fault_or_not, unmet_holds}
use Rattle.s360_laws.proofs.Units.{NextHas, OpenIs, WalkIs, past_state, phase_holds, run_holds, BegunIs, LookIs, begun_holds, choice_holds}
use Rattle.s360_laws.proofs.Units.{looked_holds}
use Rattle.s360_laws.proofs.UnsavedTracks.{unsaved_was_written}
use Rattle.s360_laws.proofs.Walks.{walks_on}

-- this track has these bytes still, and the volume its geometry
abbrev Kept : ℕ → Volume → Volume → Type 0
Kept n v w = (slot_in w n ≡ slot_in v n) × (w.geometry ≡ v.geometry)

-- A command that is closed writes the track under the arm alone.
close_keeps : (n : ℕ) (o : Open) (b : List ℕ) → (n ≡ number_under (state_of o) → is_written (close None o b).state ≡ true → ⊥)
    → Kept n (state_of o).volume (close None o b).state.volume
close_keeps n o b h = go (closing_of o b).moves_off (closing_of o b).written h
  where
    go : (m : Bool) (t : Option Track) → let s = (closed None o.state (record (closing_of o b) { written = t }) m).state in
        (n ≡ number_under o.state → is_written s ≡ true → ⊥) → Kept n o.state.volume s.volume
    go m t h = grind (arith, get_set_other)

-- Units without faults.

-- the track is not under the arm, or nothing is written there
abbrev Away : ℕ → ProgramPhase → Type 0
Away n g = n ≡ number_under (state_in g) → has_written g ≡ true → ⊥

kept_open : (n : ℕ) (g : ProgramPhase) → Away n g → let V = Kept n (state_in g).volume in OpenIs (VolumeClosed V) (VolumeIn V) None g
kept_open n (Between p) a = λ code. begin_keeps (Kept n p.state.volume) code p.state (refl, refl)
kept_open n (Looking o r) a = look_keeps (Kept n o.state.volume) o (refl, refl)
kept_open n (Moving o t) a =
    close_keeps n o t.bytes (λ e w. a e (or_right (is_written (state_of o)) (is_written (close None o t.bytes).state) w))

-- a unit, and a cut in its place
kept_phase : (n key : ℕ) (g : ProgramPhase) → Away n g → let V = Kept n (state_in g).volume in
    NextHas (VolumeIn V) (λ e. V e.drive.volume) (unit None key g) × V ((standing_in key g).cut None).drive.volume
kept_phase n key g a =
    let V = Kept n (state_in g).volume in phase_holds (VolumeClosed V) (VolumeIn V) (λ e. V e.drive.volume) None key (λ c h. h)
    (λ p c channel h. h) g (refl, refl) (refl, refl) (kept_open n g a)

next_keeps : (n : ℕ) (v : Volume) (x : Next) → NextHas (VolumeIn (Kept n v)) (λ e. Kept n v e.drive.volume) x → NextKeeps n v x
next_keeps n v x h = grind arith

-- Faults.

-- A fault that is met loses the track under the arm at most, and that only where it was written: `x` is a unit or a cut
-- with the fault, and `y` the one without it. Its premises are many, since both come here, each by facts of its own.
faulty_keeps : (n : ℕ) (f : Fault) (key : ℕ) (g : ProgramPhase) (x y : Next) → Away n g → NextTellsWritten g x
    → NextKeeps n (state_in g).volume y → (x ≡ y) ⊎ NextByFault f key g x → NextKeeps n (state_in g).volume x
faulty_keeps n f key g x y a told k (inl e) = rw e k
faulty_keeps n f key g (GoesOn next) y a told k (inr h) = absurd h
faulty_keeps n f key g (EndsIn s e) y a told k (inr h) = go f h.0.slots
  where
    kept : Kept n (state_in g).volume (cut_drive key g).volume
    kept = (kept_phase n key g a).1

    go : (f : Fault) → LosesAtMost f (cut_drive key g) e.drive e.unsaved → slot_in e.drive.volume n ≡ slot_in (state_in g).volume n
    go LoadFails l = ap (λ v. slot_in v n) l ∙ kept.0
    go (SaveFails left) l = l.1.others n (λ i. a (i ∙ under) (told (ap is_some l.0))) ∙ kept.0
      where
        under : track_number e.drive ≡ number_under (state_in g)
        under = rw (l.1.geometry ∙ kept.1, h.1.cylinder, h.1.head) refl

-- Where a program stands.

away : (n : ℕ) (g : ProgramPhase) → may_write n g ≡ false → Away n g
away n g h e w = both_ways (may_write n g) h (and_from (number_under (state_in g) == n) (has_written g) (eq-eqb _ _ (sym e)) w)

pub writes_under_arm : WritesUnderArm
writes_under_arm s caw script g f n stands h = go f
  where
    a : Away n g
    a = away n g h

    plain : UnitKeeps n caw.key g None
    plain = let k = kept_phase n caw.key g a in record {
      by_unit = next_keeps n (state_in g).volume (unit None caw.key g) k.0;
      by_cut =
          k.1.0;
    }

    go : (f : Option Fault) → UnitKeeps n caw.key g f
    go None = plain
    go (Some f) = let told = unsaved_was_written s caw script g (Some f) stands in record {
      by_unit = faulty_keeps n f caw.key g (unit (Some f) caw.key g) _ a told.0 plain.by_unit (fault_or_not f caw.key g);
      by_cut = faulty_keeps n f caw.key g (cut_next caw.key g (Some f)) (cut_next caw.key g None) a told.1 plain.by_cut
          (cut_or_not f caw.key g);
    }

-- Over a script. So far the program stands in a phase, behind the script that it has come over.

-- where the program is cut, and where it ends
abbrev CutKeeps : ℕ → Volume → (key : ℕ) → ProgramPhase → Type 0
CutKeeps n v key g = (fault : Option Fault) → slot_in ((standing_in key g).cut fault).drive.volume n ≡ slot_in v n

abbrev WalkKeeps : ℕ → (key : ℕ) → Volume → Walk → Type 0
WalkKeeps n key v w = WalkIs (CutKeeps n v key) (λ s e. slot_in e.drive.volume n ≡ slot_in v n) w

walk_behind : (done more : Script) (key : ℕ) (first g : ProgramPhase) → walk done key first ≡ StandsIn g → walk (done ++ more) key first
    ≡ walk more key g
walk_behind done more key first g at = walks_on done more key first ∙ ap (λ w. walked_on w key more) at

-- a track of the volume that a program began with
module _ (n : ℕ) (v : Volume) (s : Start) (caw : Caw) where
  keeps_on : (done script : Script) (g : ProgramPhase) → walk done caw.key (Between (start_point caw s)) ≡ StandsIn g
      → walk_writes n script caw.key g ≡ false → slot_in (state_in g).volume n ≡ slot_in v n → WalkKeeps n caw.key v (walk script caw.key g)
  keeps_on done [] g at h k = λ fault. (writes_under_arm s caw done g fault n at h).by_cut ∙ k
  keeps_on done (OneUnit fault ∷ rest) g at h k =
      let w = or_parts (may_write n g) (on_going (unit fault caw.key g) (walk_writes n rest caw.key)) h in
      let behind = walk_behind done (OneUnit fault ∷ []) caw.key (Between (start_point caw s)) g at in
      (elim (unit fault caw.key g) as (λ x. unit fault caw.key g ≡ x → on_going x (walk_writes n rest caw.key) ≡ false
      → NextKeeps n (state_in g).volume x → WalkKeeps n caw.key v (on_next rest x (walk rest caw.key))) [
        | GoesOn p ↦ λ e h' k'. keeps_on (done ++ OneUnit fault ∷ []) rest p (behind ∙ ap (λ x. on_next [] x (walk [] caw.key)) e) h' (k'
            ∙ k)
        | EndsIn t x ↦ λ e h' k'. k' ∙ k
      ])
      refl w.1 ((writes_under_arm s caw done g fault n at w.0).by_unit)
  keeps_on done (turn ∷ rest) g at h k =
      keeps_on (done ++ turn ∷ []) rest (phase_past turn g) (walk_behind done (turn ∷ []) caw.key (Between (start_point caw s)) g at) h
      (ap (λ x. slot_in x.volume n) (past_state turn g) ∙ k)

pub run_keeps : RunKeeps
run_keeps s script n h = run_holds {P = CutKeeps n s.drive.volume} {E = λ st e. slot_in e.drive.volume n ≡ slot_in s.drive.volume n}
    (OutcomeKeeps n s.drive.volume) s script refl (record { stands = λ key g k. k; ends = λ used st e k. k })
    (λ caw at. keeps_on n s.drive.volume s caw [] script (Between (start_point caw s)) refl (ap (run_writes_from n script s) (sym at)
    ∙ h) refl)

-- The mark of the track under the arm is read off the units of a script.

-- where the program goes on the track is written as said
abbrev Is : Bool → State → Type 0
Is w s = is_written s ≡ w

abbrev Marked : Bool → Next → Type 0
Marked w n = NextHas (Is w) (λ e. Unit {0}) n

-- a command that is closed
close_marked : (o : Open) (b : List ℕ) → is_written (close None o b).state ≡ cond (closing_of o b).moves_off false
    (cond (is_some (closing_of o b).written) true (is_written o.state))
close_marked o b = grind arith

moved_marked : (key : ℕ) (o : Open) (t : Transfer) (u : TransferUnit)
    → Marked (cond (leaves_moved o t u) false (cond (writes_moved o t u) true (is_written o.state))) (next_moved None key o t u)
moved_marked key o t Completes =
    let c = close None o t.bytes in
    let w = cond (closing_of o t.bytes).moves_off false (cond (is_some (closing_of o t.bytes).written) true (is_written o.state)) in
    choice_holds (λ c. Is w c.state) (Is w) (λ e. Unit {0}) None key (λ c h. h) (λ p c channel h. tt) (request_of t) c (length_status o t c)
    (close_marked o t.bytes)
moved_marked key o t u = grind arith

look_marked : (o : Open) → let w = cond (leaves_looking o) false (is_written o.state) in
    LookIs (λ c. Is w c.state) (Is w) None (look None o)
look_marked o = go (sighted o)
  where
    go : (s : answer.Sight) → let w = cond (goes_to_next_head s) false (is_written o.state) in
        LookIs (λ c. Is w c.state) (Is w) None (looked None o s)
    go (answer.Found opened) = (refl, (close_none (record o { opened = opened })).1)
    go s = refl

begin_marked : (code : ℕ) (s : State) → let w = cond (leaves_as_it_begins (beginning code s.registers)) false (is_written s) in
    BegunIs (λ c. Is w c.state) (Is w) (begin None code s)
begin_marked code s = grind arith

fetched_marked : (key : ℕ) (p : Point) (w : Fetched) → Marked (cond (leaves_fetched p w) false (is_written p.state))
    (next_fetched None key p w)
fetched_marked key p (GoodCcw ccw) =
    let w = cond (leaves_fetched p (GoodCcw ccw)) false (is_written p.state) in
    begun_holds (λ c. Is w c.state) (Is w) (λ e. Unit {0}) None key (λ c h. h) (λ p c channel h. tt) (requested p ccw)
    (begin None ccw.code p.state) (begin_marked ccw.code p.state)
fetched_marked key p w = grind arith

unit_marked : (key : ℕ) (g : ProgramPhase) → Marked (written_past key g (is_written (state_in g))) (unit None key g)
unit_marked key (Between p) = fetched_marked key p (fetch p.storage p.place true)
unit_marked key (Moving o t) = moved_marked key o t (transfer_unit key o t)
unit_marked key (Looking o r) =
    let w = cond (leaves_looking o) false (is_written o.state) in
    looked_holds (λ c. Is w c.state) (Is w) (λ e. Unit {0}) None key (λ c h. h) (λ p c channel h. tt) r (look None o) (look_marked o)

-- over a script, from where the track is written as said
marked_walk : (script : Script) (key : ℕ) (g : ProgramPhase) (w : Bool) → Is w (state_in g)
    → WalkIs (λ last. is_written (state_in last) ≡ written_since script key g w) (λ s e. Unit {0}) (walk script key g)
marked_walk [] key g w h = h
marked_walk (OneUnit f ∷ rest) key g w h =
    let v = written_past key g (is_written (state_in g)) in
    (elim (unit f key g) as (λ x. Marked v x
    → WalkIs (λ last. is_written (state_in last) ≡ on_going x (λ p. written_since rest key p (written_past key g w))) (λ s e. Unit {0})
    (on_next rest x (walk rest key)))
    [ GoesOn p ↦ λ k. marked_walk rest key p (written_past key g w) (k ∙ ap (written_past key g) h) | EndsIn s e ↦ λ k. tt ])
    (unmet_holds (λ p. Is v (state_in p)) f key g (unit_marked key g))
marked_walk (turn ∷ rest) key g w h = marked_walk rest key (phase_past turn g) w (ap is_written (past_state turn g) ∙ h)

pub mark_is_of_script : MarkIsOfScript
mark_is_of_script script key g last h = rw h at (marked_walk script key g (is_written (state_in g)) refl)
