-- What a look at a track finds, and a command that looks for its area and has just found where its bytes stand.
use Rattle.std.proofs.Common.{rules, ◌≡◌, ◌∙◌, ap, sym, refl, ℕ, ◌+◌, List, [], true, Some, length, arith, false, None, ◌==◌, Bool, Option}
use Rattle.std.proofs.lemmas.Bool.{false_from_ne_true, true_from_ne_false}
use Rattle.ckd_track.specs.Track.{track_of, track_or_none}
use Rattle.ckd_sense.specs.declared.commands.Command.{Command}
use Rattle.ckd_sense.specs.declared.commands.Command.TheVariants as command
use Rattle.ckd_command.specs.declared.tables.Aim.TheVariants.{NoArea, Credited, Next}
use Rattle.ckd_command.specs.declared.tables.Action.{Action}
use Rattle.ckd_command.specs.declared.tables.Action.TheVariants as action
use Rattle.ckd_command.specs.declared.begin.Opened.{Opened}
use Rattle.ckd_command.specs.Answers.{Sight, Found, IndexPassed, NextHead, Missed, moved_to, CommandEnd}
use Rattle.ckd_drive.specs.declared.transfer.Transfer.{Transfer}
use Rattle.ckd_drive.specs.declared.transfer.Transfer.TheVariants.{Sense, Field, Read, Search, Fill, Due, Filled}
use Rattle.ckd_command.specs.Tables.{action_of, aim, needs_readable}
use Rattle.ckd_position.specs.Contents.{is_readable, Sighted}
use Rattle.ckd_command.specs.Commands.{Closing, sight, closing, command_end, IsAtTrack, length_after, length_for, bytes_for, with_cause}
use Rattle.ckd_command.specs.Commands.{sight_of}
use Rattle.ckd_drive.proofs.Takes.{field_unwritten, field_wants, no_byte}
use Rattle.ckd_command.proofs.Closings.{area_by, closing_by, sense_closes, sense_length}
use Rattle.ckd_command.proofs.Lengths.{length_by}
use Rattle.ckd_slot.specs.Cache.{CacheState, holds, loaded, after_hold, after_failed_hold, after_save, after_failed_save}
use Rattle.ckd_drive.specs.Invariant.{IsFirstPlace, IsPlaced, IsField, ReadsWhole, FieldAtHand, AtHand, slot_at, AtWork, geometry_in}
use Rattle.ckd_drive.specs.Invariant.{action_in, area_in, IsFound, ClosesUnwritten, number_in, slot_in, at_work, Stands, StaysAt}
use Rattle.ckd_drive.specs.Invariant.{CreditAtHand, remaining, state_of, is_filled_by, HalfDone, Parts, parts_of, own_track, own_slot}
use Rattle.ckd_drive.specs.Invariant.{AreaIsThere, SightKeeps, StageIs, is_filled}
use Rattle.ckd_drive.specs.Passing.{first_progress}
use Rattle.ckd_track.specs.declared.geometries.Geometry.{Geometry}
use Rattle.ckd_command.specs.declared.registers.Registers.{Registers}
use Rattle.ckd_drive.specs.declared.transfer.OpenTransfer.{OpenTransfer}
use Rattle.ckd_drive.specs.declared.answers.DriveStage.{DriveStage}
use Rattle.ckd_drive.specs.declared.answers.DriveStage.TheVariants.{Looking, Passing, Failed}
use Rattle.ckd_drive.specs.Work.{fault_met, with_image, after_look, DriveState, after_sight, look_loads, look_saves}
use Rattle.ckd_command.specs.Drive.{is_written_by, AfterLook, Ready, look as look_by, Fault}
use Rattle.ckd_drive.proofs.Calls.{fault_none, fault_loading, lost_registers, save_lost, changed_is, no_more, calls_none}
use Rattle.ckd_drive.proofs.Calls.{calls_of_failed_save, calls_of_failed_hold, calls_behind_load, comes_saved}
use Rattle.ckd_drive.specs.Calls.{Comes, Looks, Leaves, Loses}
use Rattle.ckd_drive.proofs.Standing.{no_credit, no_filled_seen, volume_not_held, geometry_saved, lost_stands}
use Rattle.std.proofs.lemmas.Bool.Decides.{nat_tests}
use Rattle.std.proofs.Math.Bool.{and-false, and-true}
use Rattle.ckd_image.specs.Image.{ImageState}
use Rattle.ckd_position.specs.declared.areas.Kind.{Kind}
use Rattle.ckd_sense.specs.declared.sense_bytes.TheConstants.Sense.{STORE_FAULT}
use Rattle.ckd_command.specs.declared.registers.Mark.{Mark}
use Rattle.ckd_command.specs.declared.registers.Mark.TheVariants.{Lost}
use Rattle.ckd_track.specs.Model.{heads_of}
use Rattle.ckd_position.specs.declared.areas.Area.{Area}
use Rattle.ckd_position.specs.declared.areas.Area.TheVariants.{Of}
use Rattle.ckd_position.specs.declared.areas.Next.{Next as NextArea}
use Rattle.ckd_position.specs.declared.areas.Next.TheVariants as next
use Rattle.ckd_position.specs.Areas.{IsOnTrack, IfFound}
use Rattle.ckd_position.specs.declared.extents.AreaBytes.{AreaBytes}
use Rattle.ckd_position.specs.declared.extents.AreaBytes.TheVariants as extent
use Rattle.ckd_command.proofs.Sights.{passing, sight_by, look_again}
use Rattle.ckd_slot.specs.Buffer.{HasBytes, Lies}
use Rattle.ckd_slot.specs.declared.windows.Window.{Window}

pub on_track : (e : AreaBytes) (t : Sighted) (a : Area) → IsOnTrack (track_or_none t) a → HasBytes e t a
on_track extent.Count t (Of part i) on = on
on_track extent.CountKeyAndData t (Of part i) on = on
on_track _ t _ on = tt

pub seen_there : (g : Geometry) (t : Sighted) (o : Opened) (r : Registers) (x : NextArea) → IfFound x (IsOnTrack (track_or_none t))
    → AreaIsThere t o (sight_of g o r x)
seen_there g t o r (next.Found a) on = (refl, on_track _ t a on)
seen_there g t o r next.IndexPassed on = passing (AreaIsThere t o) g o r tt (λ e. tt) (λ c h. tt)

next_in : (g : Geometry) (r : Registers) (n : ℕ) → IsAtTrack g r → n ≡ heads_of g.model → (r.head + 1 == n) ≡ false
    → IsAtTrack g (moved_to r r.cylinder (r.head + 1))
next_in g r n at is e = record { cylinder = at.cylinder; head = grind (arith, nat_tests, at.head) }

-- where the arm is after a look
pub sight_keeps : (g : Geometry) (t : Sighted) (o : Opened) (r : Registers) → IsAtTrack g r → SightKeeps g r (sight g t o r)
sight_keeps g t o r at =
    sight_by (SightKeeps g r) g t o r tt (λ a. tt) (search rules) (search rules) (λ e. (next_in g r (heads_of g.model) at refl e, refl))
    (λ c h. search rules)

-- a track on which an area was found reads whole, where the command asks it
whole_by : (act : Action) (t : Sighted) → (needs_readable act ≡ true → is_readable t ≡ true) → ReadsWhole act t
whole_by action.WriteHomeAddress t h = tt
whole_by _ t h = h refl

-- an area that a look found, over its slot
pub record FoundAgain (old : HalfDone) (o : Opened) (slot : List ℕ) : Type 0 where
  pub first : sight old.cache.image.geometry (track_of (own_slot old)) old.opened old.registers ≡ Found o
  pub again : sight old.cache.image.geometry (track_of (own_slot old)) o old.registers ≡ Found o
  pub whole : ReadsWhole (action_of o.command) (track_of (own_slot old))
  pub slot_is : slot ≡ own_slot old

pub found_again : (old : HalfDone) (o : Opened) (slot : List ℕ) (k : Kind) → aim old.opened.command ≡ Next k
    → Found o ≡ sight old.cache.image.geometry (track_of (own_slot old)) old.opened old.registers → slot ≡ own_slot old
    → FoundAgain old o slot
unfolding sight
found_again old o slot k is e slot_is =
    let t = track_of (own_slot old) in
    let again = look_again old.cache.image.geometry t old.opened o old.registers e in
    let whole = whole_by (action_of old.opened.command) t (λ needs. true_from_ne_false (is_readable t) (λ unread. (let missed =
    rw (is, needs, unread) at e in cc))) in
    record { first = sym e; again = again.1; whole = rw again.0 whole; slot_is = slot_is }

-- What a command wants at hand.

-- whether a command of this action works on an area
abbrev needs_area : Action → Bool
needs_area action.NoTransfer = false
needs_area action.SeekCylinderAndHead = false
needs_area action.SeekHead = false
needs_area action.SetFileMask = false
needs_area action.GiveSense = false
needs_area _ = true

aims : (c : Command) → needs_area (action_of c) ≡ true → aim c ≡ NoArea → ⊥
aims command.Sense w e = cc
aims _ w e = cc

-- what is at hand for a command that works on an area
pub record Hand (c : CacheState) (n : ℕ) (o : Opened) : Type 0 where
  pub held : c.held ≡ Some n
  pub whole : ReadsWhole (action_of o.command) (track_of (slot_at c.slots n))

abbrev pub HandIfAimed : CacheState → ℕ → Opened → Type 0
HandIfAimed c n o = (aim o.command ≡ NoArea → ⊥) → Hand c n o

-- a command whose area is found, and what it wants is at hand
module _ (job : AtWork) (h : HandIfAimed job.cache (number_in job) job.opened)
    (again : sight (geometry_in job) (track_of (slot_in job)) job.opened job.registers ≡ Found job.opened) where
  abbrev track : Sighted
  track = track_of (slot_in job)

  hand : (a : Action) → action_in job ≡ a → needs_area a ≡ true → Hand job.cache (number_in job) job.opened
  hand a is w = h (aims job.opened.command (rw is w))

  whole : (a : Action) → action_in job ≡ a → needs_area a ≡ true → (ReadsWhole a track → is_readable track ≡ true)
      → AtHand job.cache (number_in job)
  whole a is w f = record { held = (hand a is w).held; readable = f (rw is at (hand a is w).whole) }

  field_at_hand : (a : Action) → action_in job ≡ a → IsField a → FieldAtHand a job.cache (number_in job)
  field_at_hand action.WriteHomeAddress is f = (hand action.WriteHomeAddress is refl).held
  field_at_hand action.Format is f = whole action.Format is refl (λ x. x)
  field_at_hand _ is f = search rules

  -- its bytes stand in this window
  found : (a : Action) (w : Window) (p : Transfer) → action_in job ≡ a
      → length_for a (geometry_in job) track job.opened job.registers [] ≡ length (area_in job) → remaining (action_in job) p 0 ≡ w.len
      → Lies (slot_in job) w (bytes_for a track job.opened job.registers)
      → Lies (slot_in job) w (area_in job) × IsFound (record job { passed = [] }) track p
  found a w p is long rest lies = (let area = area_by a track job.opened job.registers is in let size = lies.size in (
    rw area lies,
    record {
      again = again;
      len = omega (arith, length_by a (geometry_in job) track job.opened job.registers [] is, long, rest, ap length area, size);
    },
  ))

  closes : (u : CommandEnd) (k : Closing) → closing (geometry_in job) track job.opened job.registers [] ≡ k → command_end k ≡ u
      → k.written ≡ None → ClosesUnwritten (record job { passed = [] }) track u
  closes u k is so none = record { so = ap command_end is ∙ so; unwritten = ap (λ (c : Closing). c.written) is ∙ none }

  pub first_placed : (p : Transfer) → IsFirstPlace (slot_in job) job.opened job.registers p → IsPlaced (record job { passed = [] }) p
  first_placed (Sense b) f = (
    record { is_sense = f.0; bytes_are = f.1; room = omega arith },
    record { again = again; len = sense_length (geometry_in job) track job.opened job.registers [] f.0 },
    closes _ _ (sense_closes (geometry_in job) track job.opened job.registers [] f.0) refl refl,
  )
  first_placed (Field x) f =
      let a = action_in job in
      let no = no_byte a (geometry_in job) track job.opened job.registers in
      let wants = length_by a (geometry_in job) track job.opened job.registers [] refl
      ∙ field_wants a (geometry_in job) track job.opened job.registers [] f (omega arith) no in (
        record { is_field = f; room = omega arith; collected = refl; at_hand = field_at_hand a refl f },
        record { again = again; len = omega (arith, wants) },
        ap (λ (k : Closing). k.written) (closing_by a (geometry_in job) track job.opened job.registers [] refl)
            ∙ field_unwritten a (geometry_in job) track job.opened job.registers [] f (omega arith) no,
      )
  first_placed (Read w u) f = (let x = found action.Read w (Read w u) f.0 refl refl f.1 in (
    record { is_read = f.0; held = (hand action.Read f.0 refl).held; lies = x.0; room = omega arith; begins = omega arith },
    x.1,
    closes _ _ (closing_by action.Read (geometry_in job) track job.opened job.registers [] f.0) (sym f.2) refl,
  ))
  first_placed (Search w so_far) f =
      let x = found action.Search w (Search w so_far) f.0 refl refl f.1 in
      let at = whole action.Search f.0 refl (λ x. x) in
      (record { is_search = f.0; at_hand = at; lies = x.0; room = omega arith; begins = omega arith; compared = f.2 }, x.1)
  first_placed (Fill w u) f = (let x = found action.Update w (Fill w u) f.0 refl refl f.1 in (
    record { is_update = f.0; at_hand = whole action.Update f.0 refl (λ x. x); lies = x.0; place = f.2; none = refl },
    x.1,
    closes _ _ (closing_by action.Update (geometry_in job) track job.opened job.registers [] f.0) (sym f.3) refl,
  ))
  first_placed _ f = absurd f

first_not_filled : (slot : List ℕ) (o : Opened) (r : Registers) (p : Transfer) → IsFirstPlace slot o r p → is_filled_by p ≡ false
first_not_filled slot o r (Filled w u) f = absurd f
first_not_filled slot o r _ f = refl

-- how many bytes it wants, by its place
pub first_len : (job : AtWork) (p : Transfer) → IsFirstPlace (slot_in job) job.opened job.registers p
    → IsPlaced (record job { passed = [] }) p
    → length_after (geometry_in job) (track_of (slot_in job)) job.opened job.registers [] ≡ 0 + remaining (action_of job.opened.command) p 0
first_len job (Due w number count) f x = absurd f
first_len job (Filled w u) f x = absurd f
first_len job _ f x = x.1.len

-- What a look leaves.

pub credit_hand : (c : CacheState) (n : ℕ) (o : Opened) → aim o.command ≡ Credited → CreditAtHand (aim o.command) c n → HandIfAimed c n o
credit_hand c n o is h = λ _. (let at : AtHand c n = rw is at h in
    record { held = at.held; whole = whole_by (action_of o.command) _ (λ _. at.readable) })

-- The store is not called.
comes_quiet : (loads saves : Bool) (d now : Parts) (after : Option Fault → DriveState) → Stands now
    → now.job.cache.image ≡ d.job.cache.image → saves ≡ false
    → state_of now ≡ with_image (after None) now.job.cache.image → Comes loads saves (state_of d) after now
comes_quiet loads saves d now after x image s state =
    record {
      stands = x;
      state = rw (fault_none (state_of d) (state_of now) (ap (λ (i : ImageState). i.failures) image)) state;
      calls = calls_none loads saves (state_of d) (state_of now) image s;
      at_hand = λ e. absurd (no_more d.job.cache.image.loads (sym (ap (λ (i : ImageState). i.loads) image) ∙ e));
    }

sighted_with : (l : AfterLook) (d : DriveState) (i j : ImageState) → with_image (after_sight l (with_image d j)) i
    ≡ with_image (after_sight l d) i
sighted_with (Ready o) d i j = refl
sighted_with _ d i j = refl

no_other : (c : CacheState) (n : ℕ) → c.held ≡ Some n → holds c.held n ≡ false → ⊥
no_other c n e not = (let same : (n == n) ≡ true = grind (arith, nat_tests) in let other : (n == n) ≡ false = rw e at not in cc)

-- A command looks for its area.
module _ (old : HalfDone) (was : Mark) (x : Stands (parts_of old was Looking)) where
  abbrev asked : Parts
  asked = parts_of old was Looking

  -- what it sees, were it this command
  abbrev sees : Opened → Sight
  sees o = sight old.cache.image.geometry (track_of (own_slot old)) o old.registers

  -- It finds its area.
  pub found_looks : (o : Opened) (p : OpenTransfer) (s : DriveStage) → IsFirstPlace (own_slot old) o old.registers p.place
      → HandIfAimed old.cache (own_track old) o → sees o ≡ Found o → sees old.opened ≡ Found o
      → p ≡ first_progress (action_of o.command) p.place → s ≡ Passing
      → Looks asked (parts_of (record old { opened = o; progress = p }) was s)
  found_looks o p s f h again first p_is s_is =
      let place = p.place in
      let empty : is_filled_by place ≡ false = first_not_filled (own_slot old) o old.registers place f in
      let after : HalfDone = record old { opened = o; progress = first_progress (action_of o.command) place; passed = [] } in
      let placed = first_placed (at_work after) h again place f in
      let left_is : remaining (action_of o.command) place 0 ≡ length_after old.cache.image.geometry
      (track_of (own_slot old)) o old.registers [] = omega (arith, first_len (at_work after) place f placed) in
      rw (p_is, s_is)
      (comes_quiet _ _ asked (parts_of after was Passing) _
      (record {
        volume = x.volume;
        arm = x.arm;
        anchored = x.anchored;
        marked = rw empty x.marked;
        work = record { moved = refl; left = omega arith; placed = placed; no_credit = x.work.no_credit };
      })
      refl (rw first (and-false (is_written_by was)))
      (rw (no_filled_seen old.cache.slots (own_track old) old.before place empty, first, left_is) refl))

  -- The arm stays, and its registers are these.
  stays_looks : (q : Registers) (s : DriveStage) → old.cache.held ≡ Some (own_track old) → StaysAt old.registers q
      → is_filled s (record old { registers = q; passed = [] }) ≡ false → StageIs s (record old { registers = q; passed = [] })
      → look_saves (state_of asked) ≡ false → state_of (parts_of (record old { registers = q; passed = [] }) was s)
      ≡ with_image (after_look None (state_of asked)) old.cache.image
      → Looks asked (parts_of (record old { registers = q }) was s)
  stays_looks q s held keeps plain work saves state =
      comes_quiet _ _ asked (parts_of (record old { registers = q; passed = [] }) was s) _
      (record {
        volume = x.volume;
        arm = record { cylinder = rw keeps.cylinder x.arm.cylinder; head = rw keeps.head x.arm.head };
        anchored = λ _. held ∙ rw (keeps.cylinder, keeps.head) refl;
        marked = rw plain x.marked;
        work = work;
      })
      refl saves state

  -- the index passes
  pub passed_looks : (q : Registers) (k : Kind) → aim old.opened.command ≡ Next k → old.cache.held ≡ Some (own_track old)
      → sees old.opened ≡ IndexPassed q → Looks asked (parts_of (record old { registers = q }) was Looking)
  passed_looks q k aimed held sighted =
      let keeps = rw sighted at (sight_keeps old.cache.image.geometry (track_of (own_slot old)) old.opened old.registers x.arm) in
      stays_looks q Looking held keeps refl
      (record { transfers = x.work.transfers; credit = rw aimed tt; no_credit = keeps.credit ∙ x.work.no_credit })
      (rw sighted (and-false (is_written_by was))) (rw sighted refl)

  -- it finds none
  pub missed_looks : (q : Registers) → old.cache.held ≡ Some (own_track old) → sees old.opened ≡ Missed q
      → Looks asked (parts_of (record old { registers = q }) was Failed)
  missed_looks q held sighted =
      let keeps = rw sighted at (sight_keeps old.cache.image.geometry (track_of (own_slot old)) old.opened old.registers x.arm) in
      stays_looks q Failed held keeps refl (no_credit old.cache q (own_track (record old { registers = q })) (keeps.credit
      ∙ x.work.no_credit)) (rw sighted (and-false (is_written_by was))) (rw sighted refl)

  -- It goes on at the next head.
  pub next_looks : (new : HalfDone) (now : Mark) (q : Registers) (k : Kind) → aim old.opened.command ≡ Next k → sees old.opened ≡ NextHead q
      → Leaves old new now q → Looks asked (parts_of new now Looking)
  next_looks new now q k aimed sighted l =
      let keeps = rw sighted at (sight_keeps old.cache.image.geometry (track_of (own_slot old)) old.opened old.registers x.arm) in
      rw (l.0, l.1)
      (comes_saved _ _ asked (record old { cache = after_save old.cache; registers = q; passed = [] }) Looking _ x refl
      (rw sighted (and-true (is_written_by was))) (record {
        saved = refl;
        unfilled = refl;
        at = keeps.0;
        stage = record { transfers = x.work.transfers; credit = rw aimed tt; no_credit = keeps.1 ∙ x.work.no_credit };
      }) (rw (sighted, geometry_saved old.cache) refl))

  -- The track can't be saved that it goes on from.
  pub lost_looks : (new : HalfDone) (now : Mark) (q : Registers) → sees old.opened ≡ NextHead q → Loses old new now
      → Looks asked (parts_of new now Failed)
  lost_looks new now q sighted l =
      let after : HalfDone =
      record old { cache = after_failed_save old.cache l.left; registers = lost_registers old.registers; passed = [] } in
      let drive = state_of (parts_of after Lost Failed) in
      let s = save_lost asked old new now drive x refl refl l refl in
      rw (l.job, l.mark_is) (record {
        stands = lost_stands asked l.left after Failed x l.size refl refl refl refl tt;
        state = rw (s.fault, sighted, s.written, s.held, s.whole) refl;
        calls = calls_of_failed_save _ _ old.cache l.left (state_of asked) drive refl refl (changed_is asked x refl
            ∙ rw sighted (sym (and-true (is_written_by was)))) l.changed;
        at_hand = λ e. absurd (no_more old.cache.image.loads e);
      })

  -- Its track can't be loaded; what is written is at hand.
  not_written : holds old.cache.held (own_track old) ≡ false → is_written_by was ≡ false
  not_written not = sym (changed_is asked x refl) ∙ false_from_ne_true old.cache.changed (λ e. no_other old.cache (own_track old)
      (x.anchored e) not)

  pub unloaded_looks : (c' : CacheState) (r' : Registers) (k : Kind) → aim old.opened.command ≡ Next k
      → holds old.cache.held (own_track old) ≡ false → c' ≡ after_failed_hold old.cache → r' ≡ with_cause old.registers STORE_FAULT
      → Looks asked (parts_of (record old { cache = c'; registers = r' }) was Failed)
  unloaded_looks c' r' k aimed not e f =
      let c = old.cache in
      let drive = state_of (parts_of
      (record old { cache = after_failed_hold c; registers = with_cause old.registers STORE_FAULT; passed = [] }) was Failed) in
      rw (e, f) (record {
        stands = record {
          volume = volume_not_held c x.volume;
          arm = record { cylinder = x.arm.cylinder; head = x.arm.head };
          anchored = λ t. absurd (no_other c (own_track old) (x.anchored t) not);
          marked = x.marked;
          work = rw x.work.no_credit tt;
        };
        state = rw (fault_loading (state_of asked) drive refl refl, aimed) refl;
        calls = calls_of_failed_hold _ _ c (state_of asked) drive refl refl (rw aimed refl) (rw (not_written not) refl);
        at_hand = λ _. not_written not;
      })

  -- Its track was at hand, or was loaded first.
  loaded_looks : (b : Bool) (k : Kind) (now : Parts) (held : Option ℕ) → (b ≡ false → is_written_by was ≡ false)
      → aim old.opened.command ≡ Next k → now.job.cache.image.loads ≡ (loaded old.cache.image b).loads
      → Looks (parts_of (record old { cache = record old.cache { image = loaded old.cache.image b; held = held } }) was Looking) now
      → Looks asked now
  loaded_looks true k now held clean aimed e l = record { stands = l.stands; state = l.state; calls = l.calls; at_hand = l.at_hand }
  loaded_looks false k now held clean aimed e l =
      let unwritten : is_written_by was ≡ false = clean refl in
      let d = state_of asked in
      let new = state_of (parts_of (record now.job { passed = [] }) now.mark now.stage) in
      record {
        stands = l.stands;
        state = l.state ∙ sighted_with (look_by (fault_met d new) (record { opened = old.opened; state = d.state })) d now.job.cache.image
            (loaded old.cache.image false);
        calls = calls_behind_load _ _ d (with_image d (loaded old.cache.image false)) new refl (rw aimed refl)
            (rw unwritten refl) e l.calls;
        at_hand = λ _. unwritten;
      }

  -- the look of a drive that holds the track now is that of the drive that was asked
  pub held_looks : (c : CacheState) (k : Kind) (now : Parts) → aim old.opened.command ≡ Next k → c ≡ after_hold old.cache (own_track old)
      → now.job.cache.image.loads ≡ c.image.loads
      → Looks (parts_of (record old { cache = c }) was Looking) now → Looks asked now
  held_looks c k now aimed held loads l = loaded_looks (holds old.cache.held (own_track old)) k now (Some (own_track old)) not_written aimed
      (rw held at loads) (rw held at l)

-- The drive that was called, once no byte has passed.
pub has_looked : (old now : Parts) (passed : List ℕ) (d : DriveState) → state_of old ≡ d → passed ≡ [] → Looks old now
    → Comes (look_loads d) (look_saves d) d (λ f. after_look f d) (parts_of (record now.job { passed = passed }) now.mark now.stage)
has_looked old now passed d is nothing l = rw (← is, nothing) l
