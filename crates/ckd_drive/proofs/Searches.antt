-- A search that fails at once, on the track at hand.
use Rattle.std.proofs.Common.{◌≡◌, ◌⊎◌, inl, inr, ◌∙◌, ap, sym, refl, arith, ℕ, zero, suc, ◌<◌, List, Bool, true, false, Option}
use Rattle.std.proofs.Common.{Some, None, length}
use Rattle.std.proofs.lemmas.Bool.{eq-eqb, ne_eqb, lt-ltb}
use Rattle.std.specs.Prelude.{◌+◌, ◌&&◌, ◌==◌, if◌then◌else◌, nat_lt, slice_range}
use Rattle.std.proofs.lemmas.Option.{cond_some}
use Rattle.std.proofs.Math.Bool.{and-false}
use Rattle.ckd_track.specs.Track.{track_of, track_or_none}
use Rattle.ckd_position.specs.declared.areas.Area.{Area}
use Rattle.ckd_position.specs.declared.areas.Kind.{Kind}
use Rattle.ckd_position.specs.declared.areas.Next.{Next as NextArea}
use Rattle.ckd_position.specs.declared.areas.Next.TheVariants as next
use Rattle.ckd_position.specs.declared.areas.Position.{Position}
use Rattle.ckd_position.specs.declared.areas.Position.TheVariants.{At}
use Rattle.ckd_position.specs.Areas.{next_of_kind}
use Rattle.ckd_position.specs.Comparisons.{is_satisfied}
use Rattle.ckd_position.specs.Contents.{Sighted, is_readable, bytes_of}
use Rattle.ckd_sense.specs.Commands.{decoded}
use Rattle.ckd_sense.specs.Masks.{permit_of, inhibits_write, inhibits_seek}
use Rattle.ckd_sense.specs.declared.commands.Command.{Command}
use Rattle.ckd_sense.specs.declared.commands.CommandCode.{CommandCode}
use Rattle.ckd_sense.specs.declared.commands.Command.TheVariants as command
use Rattle.ckd_sense.specs.declared.masks.FileMask.{FileMask}
use Rattle.ckd_sense.specs.declared.masks.Permit.TheVariants.{Yes}
use Rattle.ckd_sense.specs.declared.masks.WritePermission.{WritePermission}
use Rattle.ckd_sense.specs.declared.masks.WritePermission.TheVariants as writes
use Rattle.ckd_sense.specs.declared.masks.SeekPermission.{SeekPermission}
use Rattle.ckd_sense.specs.declared.masks.SeekPermission.TheVariants as seeks
use Rattle.ckd_command.specs.declared.registers.Mark.{Mark}
use Rattle.ckd_command.specs.declared.registers.Registers.{Registers}
use Rattle.ckd_sense.specs.declared.sense_bytes.Sense.{Sense}
use Rattle.ckd_command.specs.declared.tables.Action.{Action}
use Rattle.ckd_command.specs.declared.tables.Action.TheVariants as action
use Rattle.ckd_command.specs.declared.tables.Aim.{Aim}
use Rattle.ckd_command.specs.declared.tables.Aim.TheVariants.{Next}
use Rattle.ckd_command.specs.Answers.{Sight}
use Rattle.ckd_command.specs.Commands.{area_bytes, begin_allowed, beginning, closing, ends, ending_status, refusal, search_ends, sight}
use Rattle.ckd_command.specs.Commands.{sight_of, started}
use Rattle.ckd_command.specs.Drive.{State, Open, Started, Ready, begin, begun, is_written, look, looked, close, length_of, track_under}
use Rattle.ckd_command.specs.Tables.{aim, action_of, extent_of, area_left, comparison, is_search}
use Rattle.ckd_command.proofs.Closings.{area_by, closing_by}
use Rattle.ckd_command.proofs.Lengths.{length_by}
use Rattle.ckd_command.proofs.Sights.{passing, sight_by}
use Rattle.ckd_slot.specs.declared.windows.Window.{Window}
use Rattle.ckd_slot.specs.Buffer.{Lies}
use Rattle.ckd_slot.specs.Cache.{holds, slot_at_hand, slot_held}
use Rattle.ckd_drive.specs.declared.answers.DriveStage.{DriveStage}
use Rattle.ckd_drive.specs.declared.answers.DriveStage.TheVariants.{Idle}
use Rattle.ckd_drive.specs.Invariant.{HalfDone, Stands, own_slot, own_track, parts_of, state_of}
use Rattle.ckd_drive.specs.Jobs.{IsUnlike, IsUnlikeBy}
use Rattle.ckd_drive.specs.Searches.{TellsCode, TellsSearch, Turns, asked_by, fails_at_once, fails_begun, fails_by, idle_state, searched_by}
use Rattle.ckd_drive.specs.Searches.{turned, turned_to}
use Rattle.ckd_drive.specs.Work.{DriveState, PassesBy, PassesOn, state_past}
use Rattle.ckd_drive.proofs.Standing.{slot_is}
use Rattle.ckd_drive.proofs.Wholes.{held_of}

-- The next area on the track at hand.

slot_there : (h : HalfDone) (slot : List ℕ) → Some slot ≡ slot_at_hand h.cache (own_track h) → slot ≡ own_slot h
slot_there h slot at =
    let hand = cond_some (holds h.cache.held (own_track h)) (slot_held h.cache) slot (sym at) in
    slot_is h.cache (own_track h) slot (held_of h.cache.held (own_track h) hand.0) (sym hand.1)

-- by what each call of the code says of the area and its bytes, which makes its premises many
pub is_unlike : (h : HalfDone) (c : Command) (k : Kind) (wanted slot : List ℕ) (a : Area) (w : Window)
    → Some slot ≡ slot_at_hand h.cache (own_track h) → is_readable (track_of slot) ≡ true
    → next.Found a ≡ next_of_kind (track_or_none (track_of slot)) h.registers.position k
    → Lies slot w (bytes_of (extent_of c) (track_of slot) a)
    → (w.len ≡ length wanted) × (is_satisfied (comparison c) (slice_range slot w.start (w.start + w.len)) wanted ≡ false)
    → IsUnlike h c k wanted a
is_unlike h c k wanted slot a w at whole comes lies (long, fails) =
    let own = slot_there h slot at in
    record {
      readable = rw (← own) whole;
      comes = rw (← own) comes;
      long = rw (← own) (lies.size ∙ long);
      fails = rw (← own) (ap (λ b. is_satisfied (comparison c) b wanted) (sym lies.here) ∙ fails);
    }

-- a command that looks for this kind of area as a search is one, and aims at it
pub searched_is : (a : Action) (m : Aim) (k : Kind) → Some k ≡ searched_by a m → (a ≡ action.Search) × (m ≡ Next k)
searched_is action.Search (Next j) k e = (refl, ap Next (cc e))
searched_is _ _ k e = absurd (cc e)

-- Every mask allows a search.

no_write : (w : WritePermission) (c : Command) → action_of c ≡ action.Search → inhibits_write w c ≡ false
no_write writes.InhibitHomeAddressAndR0 command.WriteHomeAddress e = cc
no_write writes.InhibitFormatWrites command.WriteHomeAddress e = cc
no_write writes.InhibitAllWrites command.WriteHomeAddress e = cc
no_write _ _ e = cc

no_seek : (p : SeekPermission) (c : Command) → action_of c ≡ action.Search → inhibits_seek p c ≡ false
no_seek seeks.PermitSeekCylinderAndHead command.Seek e = cc
no_seek seeks.PermitSeekHead command.Seek e = cc
no_seek seeks.InhibitAllSeeks command.Seek e = cc
no_seek _ _ e = cc

permitted : (mask : FileMask) (c : Command) → action_of c ≡ action.Search → permit_of mask c ≡ Yes
permitted mask c e = rw (no_write mask.writes c e, no_seek mask.seeks c e) refl

-- Its begin.

begins : (c : Command) (multi_track : Bool) (code : ℕ) (s : State) → action_of c ≡ action.Search
    → decoded code ≡ Some (record { command = c; multi_track = multi_track }) → begin None code s ≡ Started (asked_by c multi_track s)
unfolding beginning
begins command.SearchIdEqual multi_track code s e is = rw (is, permitted s.registers.file_mask command.SearchIdEqual e) cc
begins c multi_track code s e is = rw (is, permitted s.registers.file_mask c e) cc

left_there : (c : Command) (a : Area) → action_of c ≡ action.Search → area_left (extent_of c) a ≡ a
left_there command.ReadR0 a e = cc
left_there _ a e = cc

-- The whole.

-- of an area that passes where the track stands
module _ (h : HalfDone) (m : Mark) (code : ℕ) (wanted : List ℕ) (a : Area)
    (u : IsUnlikeBy (turned_to h.registers.position h) code wanted a) where
  abbrev before : DriveState
  before = state_of (parts_of h m Idle)

  abbrev after : DriveState
  after = record before { state = state_past before.state a }

  abbrev asked : Open
  asked = asked_by u.command u.multi_track before.state

  abbrev found : Open
  found = record asked { opened = record asked.opened { area = Some a } }

  abbrev track : Sighted
  track = track_of (own_slot h)

  finds : look None asked ≡ Ready found
  unfolding sight
  finds = rw (u.aimed, u.searches, u.unlike.readable, ← u.unlike.comes) refl

  wants : (b : List ℕ) → length_of found b ≡ length wanted
  wants b = length_by action.Search h.cache.image.geometry track found.opened found.state.registers b u.searches
      ∙ ap length (area_by action.Search track found.opened found.state.registers u.searches) ∙ u.unlike.long

  closes : closing h.cache.image.geometry track found.opened found.state.registers wanted ≡ ends (after.state.registers) ending_status
  closes = closing_by action.Search h.cache.image.geometry track found.opened found.state.registers wanted u.searches
      ∙ rw (
        area_by action.Search track found.opened found.state.registers u.searches,
        u.unlike.fails,
        and-false (nat_lt 0 (length wanted)),
        left_there u.command a u.searches,
      ) refl

  pub passes_by : PassesBy code wanted a before after
  passes_by = record {
    idle = refl;
    asked = asked;
    found = found;
    begins = begins u.command u.multi_track code before.state u.searches u.decodes;
    finds = finds;
    searches = rw u.searches refl;
    takes = rw u.searches refl;
    wants = wants;
    ends = rw closes refl;
    stays = refl;
  }

-- Several areas, one behind another.

-- one area more
one_more : (h : HalfDone) (m : Mark) (code : ℕ) (wanted : List ℕ) (n : ℕ) (p : Position) (a : Area)
    → Turns (λ q. IsUnlikeBy (turned_to q h) code wanted) h.registers.position n p → IsUnlikeBy (turned_to p h) code wanted a
    → PassesBy code wanted a (state_of (parts_of (turned n p h) m Idle)) (state_of (parts_of (turned_to (At a) h) m Idle))
one_more h m code wanted zero p a t u = passes_by h m code wanted a (rw t at u)
one_more h m code wanted (suc n) p a t u = passes_by (turned_to p h) m code wanted a u

passes_on : (h : HalfDone) (m : Mark) (code : ℕ) (wanted : List ℕ) (n : ℕ) (p : Position)
    → Turns (λ q. IsUnlikeBy (turned_to q h) code wanted) h.registers.position n p
    → PassesOn code wanted n (state_of (parts_of h m Idle)) (state_of (parts_of (turned n p h) m Idle))
passes_on h m code wanted zero p t = refl
passes_on h m code wanted (suc n) p (q, a, earlier, u, at) =
    (state_of (parts_of (turned n q h) m Idle), a, passes_on h m code wanted n q earlier, rw at (one_more h m code wanted n q a earlier u))

-- of a drive that stands so, where any has passed
pub passes_some : (h : HalfDone) (m : Mark) (s : DriveStage) (code : ℕ) (wanted : List ℕ) (n : ℕ) (p : Position) (old : DriveState)
    → (n ≡ 0 → ⊥) → s ≡ Idle → state_of (parts_of h m s) ≡ old
    → Turns (λ q. IsUnlikeBy (turned_to q h) code wanted) h.registers.position n p
    → PassesOn code wanted n old (state_of (parts_of (turned_to p h) m s))
passes_some h m s code wanted zero p old some idle is t = absurd (some refl)
passes_some h m s code wanted (suc n) p old some idle is t = rw (← is, idle) (passes_on h m code wanted (suc n) p t)

-- an area behind those that have passed
pub one_turn_more : (U : Position → Area → Type 0) (from : Position) (n : ℕ) (p : Position) (a : Area) → Turns U from n p → U p a
    → Turns U from (n + 1) (At a)
one_turn_more U from n p a t u = let more : n + 1 ≡ suc n = omega arith in rw more (p, a, t, u, refl)

-- what passes by, by the code of the search
pub each_by : (h : HalfDone) (code : ℕ) (wanted : List ℕ) (read : CommandCode) (k : Kind) (n : ℕ) (to : Position)
    → Some read ≡ decoded code → Some k ≡ searched_by (action_of read.command) (aim read.command)
    → Turns (λ p. IsUnlike (turned_to p h) read.command k wanted) h.registers.position n to
    → Turns (λ p. IsUnlikeBy (turned_to p h) code wanted) h.registers.position n to
each_by h code wanted read k zero to decodes searched t = t
each_by h code wanted read k (suc n) to decodes searched (p, a, earlier, u, at) =
    let s = searched_is (action_of read.command) (aim read.command) k searched in
    let c = read.command in
    let by : IsUnlikeBy (turned_to p h) code wanted a =
    record { command = c; multi_track = read.multi_track; decodes = sym decodes; kind = k; aimed = s.1; searches = s.0; unlike = u } in
    (p, a, each_by h code wanted read k n p decodes searched earlier, by, at)

-- When it passes by: exactly where the search fails at once, on the track at hand.

-- no track but the one at hand
pub tells_elsewhere : (h : HalfDone) (c : Command) (wanted : List ℕ) → None ≡ slot_at_hand h.cache (own_track h)
    → TellsSearch h c wanted false
tells_elsewhere h c wanted at m multi_track = rw (not_held (holds h.cache.held (own_track h)) at) refl
  where
    not_held : (b : Bool) → None ≡ (if b then Some (slot_held h.cache) else None) → b ≡ false
    not_held true e = absurd (cc e)
    not_held false e = refl

module _ (h : HalfDone) (c : Command) (k : Kind) (wanted slot : List ℕ) (at : Some slot
    ≡ slot_at_hand h.cache (own_track h)) (aimed : aim c ≡ Next k) (searches : action_of c ≡ action.Search) where
  own : slot ≡ own_slot h
  own = slot_there h slot at

  at_hand : holds h.cache.held (own_track h) ≡ true
  at_hand = (cond_some (holds h.cache.held (own_track h)) (slot_held h.cache) slot (sym at)).0

  abbrev asked_here : Mark → Bool → Open
  asked_here m multi_track = asked_by c multi_track (idle_state h m)

  sees : (m : Mark) (multi_track : Bool) (x : NextArea) → is_readable (track_of slot) ≡ true
      → x ≡ next_of_kind (track_or_none (track_of slot)) h.registers.position k
      → (let o = asked_here m multi_track in
      sight h.cache.image.geometry (track_of (own_slot h)) o.opened o.state.registers
      ≡ sight_of h.cache.image.geometry o.opened o.state.registers x)
  unfolding sight
  sees m multi_track x whole is = rw (← own, aimed, searches, whole, ← is) refl

  pub tells_unread : is_readable (track_of slot) ≡ false → TellsSearch h c wanted false
  unfolding sight
  tells_unread unread m multi_track = rw at_hand (rw (← own, aimed, searches, unread) refl)

  pub tells_passed : is_readable (track_of slot) ≡ true → next.IndexPassed
      ≡ next_of_kind (track_or_none (track_of slot)) h.registers.position k → TellsSearch h c wanted false
  tells_passed whole is m multi_track = (let o = asked_here m multi_track in rw (at_hand, sees m multi_track next.IndexPassed whole is)
      (passing (λ (x : Sight). false ≡ fails_by (looked None o x) wanted) h.cache.image.geometry o.opened o.state.registers refl (λ e. refl)
      (λ s e. refl)))

  module _ (a : Area) (w : Window) (whole : is_readable (track_of slot) ≡ true) (comes : next.Found a
      ≡ next_of_kind (track_or_none (track_of slot)) h.registers.position k)
      (lies : Lies slot w (bytes_of (extent_of c) (track_of slot) a)) where
    abbrev found_here : Mark → Bool → Open
    found_here m multi_track = (let o = asked_here m multi_track in record o { opened = record o.opened { area = Some a } })

    abbrev track_here : Sighted
    track_here = track_of (own_slot h)

    area_is : (m : Mark) (multi_track : Bool) → (let o = found_here m multi_track in
        area_bytes track_here o.opened o.state.registers ≡ slice_range slot w.start (w.start + w.len))
    area_is m multi_track = (let o = found_here m multi_track in
        area_by action.Search track_here o.opened o.state.registers searches ∙ rw (← own) (sym lies.here))

    tells : (b : Bool) → ((m : Mark) (multi_track : Bool) → b
        ≡ ((w.len == length wanted) && ((close None (found_here m multi_track) wanted).unit.0 == ending_status))) → TellsSearch h c wanted b
    tells b e m multi_track =
        let o = found_here m multi_track in
        let long : length_of o wanted ≡ w.len =
        length_by action.Search h.cache.image.geometry track_here o.opened o.state.registers wanted searches
        ∙ ap length (area_by action.Search track_here o.opened o.state.registers searches) ∙ rw (← own) lies.size in
        rw (at_hand, sees m multi_track (next.Found a) whole comes, searches, long) (e m multi_track)

    found_closes : (m : Mark) (multi_track b : Bool)
        → is_satisfied (comparison c) (slice_range slot w.start (w.start + w.len)) wanted ≡ b → (let o = found_here m multi_track in
        closing h.cache.image.geometry track_here o.opened o.state.registers wanted ≡ search_ends o.opened o.state.registers
        (nat_lt 0 (length wanted) && b) (length wanted == length (slice_range slot w.start (w.start + w.len))))
    found_closes m multi_track b is = (let o = found_here m multi_track in
        closing_by action.Search h.cache.image.geometry track_here o.opened o.state.registers wanted searches
        ∙ rw (area_is m multi_track, is) refl)

    pub tells_length : (w.len ≡ length wanted → ⊥) → TellsSearch h c wanted false
    tells_length short = tells false (λ m multi_track. rw (ne_eqb w.len (length wanted) short) refl)

    pub tells_satisfied : 0 < length wanted → is_satisfied (comparison c) (slice_range slot w.start (w.start + w.len)) wanted ≡ true
        → TellsSearch h c wanted false
    tells_satisfied some is = tells false (λ m multi_track. rw (found_closes m multi_track true is, lt-ltb 0 (length wanted) some)
        (sym (and-false (w.len == length wanted))))

    pub tells_failed : w.len ≡ length wanted → is_satisfied (comparison c) (slice_range slot w.start (w.start + w.len)) wanted ≡ false
        → TellsSearch h c wanted true
    tells_failed e is = tells true (λ m multi_track.
        rw (found_closes m multi_track false is, and-false (nat_lt 0 (length wanted)), eq-eqb w.len (length wanted) e) refl)

-- By the code.

pub tells_code : (h : HalfDone) (code : ℕ) (wanted : List ℕ) (read : CommandCode) (k : Kind) (b : Bool) → Some read ≡ decoded code
    → Some k ≡ searched_by (action_of read.command) (aim read.command)
    → TellsSearch h read.command wanted b → TellsCode h code wanted b
tells_code h code wanted read k b decodes searched tells m = rw (begins read.command read.multi_track code (idle_state h m) (searched_is
    (action_of read.command) (aim read.command) k searched).0 (sym decodes)) (tells m read.multi_track)

no_search : (c : Command) → None ≡ searched_by (action_of c) (aim c) → is_search (action_of c) ≡ false
no_search command.SearchIdEqual e = cc
no_search _ e = cc

look_other : (o : Open) (bytes : List ℕ) → is_search (action_of o.opened.command) ≡ false → fails_by (look None o) bytes ≡ false
look_other o bytes e = sight_by (λ (x : Sight). fails_by (looked None o x) bytes
    ≡ false) o.state.volume.geometry (track_under o.state) o.opened o.state.registers (rw e refl) (λ a. rw e refl) refl refl (λ h. refl)
    (λ c h. refl)

started_other : (c : Command) (multi_track : Bool) (area : Option Area) (s : State) (r : Registers) (bytes : List ℕ)
    → is_search (action_of c) ≡ false
    → fails_begun (begun None s (started c r (record { command = c; multi_track = multi_track; area = area }))) bytes ≡ false
started_other command.NoOperation multi_track area s r bytes e = refl
started_other command.Recalibrate multi_track area s r bytes e = refl
started_other _ multi_track area s r bytes e = look_other _ bytes e

other_begins : (read : CommandCode) (s : State) (bytes : List ℕ) (x : Option Sense) → is_search (action_of read.command) ≡ false
    → fails_begun (begun None s (begin_allowed read s.registers x)) bytes ≡ false
other_begins read s bytes (Some cause) e = refl
other_begins read s bytes None e = started_other read.command read.multi_track _ s _ bytes e

pub tells_none : (h : HalfDone) (code : ℕ) (wanted : List ℕ) → None ≡ decoded code → TellsCode h code wanted false
unfolding beginning
tells_none h code wanted none m = rw (← none) (sym (and-false (holds h.cache.held (own_track h))))

pub tells_other : (h : HalfDone) (code : ℕ) (wanted : List ℕ) (read : CommandCode) → Some read ≡ decoded code
    → None ≡ searched_by (action_of read.command) (aim read.command) → TellsCode h code wanted false
unfolding beginning
tells_other h code wanted read decodes other m = rw (← decodes) (rw (other_begins read (idle_state h m) wanted
    (refusal read.command (idle_state h m).registers) (no_search read.command other)) (sym (and-false (holds h.cache.held (own_track h)))))

-- behind the areas that have passed
pub tells_behind : (h : HalfDone) (code : ℕ) (wanted : List ℕ) (read : CommandCode) (k : Kind) (b : Bool) (n : ℕ) (p : Position)
    → Some read ≡ decoded code → Some k ≡ searched_by (action_of read.command) (aim read.command)
    → Turns (λ p. IsUnlike (turned_to p h) read.command k wanted) h.registers.position n p
    → TellsSearch (turned_to p h) read.command wanted b → TellsCode (turned n p h) code wanted b
tells_behind h code wanted read k b zero p decodes searched t tells = tells_code h code wanted read k b decodes searched (rw t at tells)
tells_behind h code wanted read k b (suc n) p decodes searched t tells =
    tells_code (turned_to p h) code wanted read k b decodes searched tells

-- the codes of the commonest search
pub identifier : (code : ℕ) → (code ≡ 0x31) ⊎ (code ≡ 0xB1)
    → (m : Bool) × (Some (record { command = command.SearchIdEqual; multi_track = m }) ≡ decoded code)
identifier code (inl e) = (false, rw e refl)
identifier code (inr e) = (true, rw e refl)

-- Where the track is written it is at hand.

-- an idle drive of these parts, which stand together
abbrev pub Stood : HalfDone → Mark → DriveStage → DriveState → Type 0
Stood h m s old = (s ≡ Idle) × (state_of (parts_of h m s) ≡ old) × Stands (parts_of h m s)

written_at_hand : (h : HalfDone) (m : Mark) (s : DriveStage) (old : DriveState) → Stood h m s old → is_written old.state ≡ true
    → holds h.cache.held (own_track h) ≡ true
written_at_hand h m s old (idle, is, stands) written =
    let x : Stands (parts_of h m Idle) = rw idle at stands in
    rw (x.anchored (x.marked ∙ rw (rw (← is) at written) refl)) (eq-eqb (own_track h) (own_track h) refl)

-- none has passed
pub written_none : (h : HalfDone) (m : Mark) (s : DriveStage) (code : ℕ) (wanted : List ℕ) (n most : ℕ) (p : Position) (old : DriveState)
    → Stood h m s old → (n ≡ 0) × (0 < most) × (n < most → TellsCode (turned n p h) code wanted false)
    → is_written old.state ≡ true → fails_at_once code wanted old ≡ false
written_none h m s code wanted (suc n) most p old stood (none, few, tells) written = absurd (cc none)
written_none h m s code wanted zero most p old stood (none, few, tells) written =
    rw (← stood.1, stood.0) (sym (rw (written_at_hand h m s old stood written) at (tells few m)))

-- some have passed
pub written_some : (h : HalfDone) (m : Mark) (s : DriveStage) (code : ℕ) (wanted : List ℕ) (n : ℕ) (p : Position) (old : DriveState)
    → Stood h m s old → (n ≡ 0 → ⊥) → TellsCode (turned n p h) code wanted false
    → is_written old.state ≡ true → fails_at_once code wanted (state_of (parts_of (turned_to p h) m s)) ≡ false
written_some h m s code wanted zero p old stood some tells written = absurd (some refl)
written_some h m s code wanted (suc n) p old stood some tells written =
    rw stood.0 (sym (rw (written_at_hand h m s old stood written) at (tells m)))
