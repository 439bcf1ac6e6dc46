-- Tracks that a command begins to write.
use Rattle.std.proofs.Common.{◌≡◌, ◌∙◌, ap, sym, refl, ℕ, ◌+◌, ◌<◌, ◌≤◌, List, [], ◌∷◌, ◌++◌, true, false, ◌&&◌, ◌==◌, Some}
use Rattle.std.proofs.Common.{length, take, drop, bytes_eq, length-append, length-take, append-nil, arith}
use Rattle.std.proofs.lemmas.List.{take-append-drop, drop_all, set-get_or}
use Rattle.std.proofs.lemmas.Bool.{and_parts, cond_both, eqb-true, false_from_ne_true}
use Rattle.ckd_track.specs.Track.{track_of, track_in, slot_of}
use Rattle.ckd_track.specs.Changes.{bare_track}
use Rattle.ckd_track.proofs.Slots.{length-slot_of}
use Rattle.ckd_track.specs.declared.geometries.Geometry.{Geometry}
use Rattle.ckd_command.specs.declared.registers.Registers.{Registers}
use Rattle.ckd_command.specs.declared.tables.Action.{Action}
use Rattle.ckd_command.specs.declared.tables.Action.TheVariants as action
use Rattle.ckd_command.specs.declared.begin.Opened.{Opened}
use Rattle.ckd_command.specs.Answers.{Found}
use Rattle.ckd_drive.specs.declared.transfer.Whole.{Whole}
use Rattle.ckd_drive.specs.declared.transfer.Whole.TheVariants as whole
use Rattle.ckd_slot.specs.declared.windows.Window.{Window}
use Rattle.ckd_drive.specs.declared.transfer.Transfer.TheVariants.{Field, Filled}
use Rattle.ckd_command.specs.Tables.{is_giving}
use Rattle.ckd_position.specs.Contents.{Sighted}
use Rattle.ckd_command.specs.Commands.{Closing, sight, length_after, closing, command_end, own_home_address, home_address_ends, writes}
use Rattle.ckd_slot.specs.Buffer.{lengths_on}
use Rattle.ckd_slot.specs.Cache.{slot_held, with_held}
use Rattle.ckd_drive.specs.declared.transfer.WrittenArea.{WrittenArea}
use Rattle.ckd_drive.specs.declared.transfer.WrittenArea.TheVariants as written
use Rattle.ckd_drive.specs.Invariant.{HalfDone, own_track, own_slot, action_now, HasFilled, IsFilled, slot_at, is_filled_by, AtWork}
use Rattle.ckd_drive.specs.Invariant.{geometry_in, slot_in, action_in, at_work, closes_by}
use Rattle.ckd_drive.specs.Passing.{Works, Absorbs, whole_of, with_taken}
use Rattle.ckd_slot.proofs.Writes.{bare_fits}
use Rattle.ckd_drive.proofs.Fills.{there, new_slot_at, FitsWindow, written_absorbs, reads_new}
use Rattle.ckd_command.proofs.Closings.{closing_by}
use Rattle.ckd_command.proofs.Lengths.{length_by}
use Rattle.ckd_drive.proofs.Takes.{ChangesNothing, Collects, field_goes, field_absorbs}
use Rattle.ckd_drive.proofs.Standing.{no_filled_seen, slot_is}

-- a command whose first bytes change the track, once they came: the slot is this
abbrev pub new_work : HalfDone → (more new : List ℕ) → Window → WrittenArea → AtWork
new_work half more new w what = at_work (with_taken half more (with_held half.cache new) (own_slot half) (Filled w what))

-- a command at whose track the drive stands, and which has written none of it, gets bytes that it writes
pub record BeginsWriting (half : HalfDone) (more : List ℕ) : Type 0 where
  pub held : half.cache.held ≡ Some (own_track half)
  pub plain : is_filled_by half.progress.place ≡ false
  pub again : sight half.cache.image.geometry (track_of (own_slot half)) half.opened half.registers ≡ Found half.opened
  pub takes : is_giving (action_now half) ≡ false
  pub some : 0 < length half.passed + length more

-- It goes on.
pub newly_absorbs : (half : HalfDone) (more new : List ℕ) (w : Window) (what : WrittenArea) (le0 : length {A = ℕ} [] ≤ w.len)
    → Works half → BeginsWriting half more → FitsWindow half more w
    → (f : IsFilled (new_work half more new w what) (slot_in (new_work half more new w what)) w (closes_by half.registers half.opened what))
    → new ≡ slot_of half.cache.image.geometry.track_size (f.closes [] le0).track
    → Absorbs half more (with_held half.cache new) (slot_held half.cache) (Filled w what)
newly_absorbs half more new w what le0 x begins room f is =
    let c = half.cache in
    let n = own_track half in
    let passed = half.passed in
    let k = f.closes [] le0 in
    let read = reads_new c.image.geometry.track_size k.track new k.fits is in
    let at_new = new_slot_at c n new begins.held (there half x) in
    let same = append-nil (passed ++ more) in
    let has : HasFilled (new_work half more new w what) w what = record {
      at_hand = record { held = begins.held; readable = rw at_new read.0 };
      size = x.volume.sizes n [] (there half x);
      filled = f;
      slot_is = at_new ∙ (rw same at (is ∙ k.slot_is));
      found = record { again = begins.again; len = omega (arith, (rw same at (f.wants [] le0)), f.rest, f.begins) };
      takes = begins.takes;
      some = omega (arith, begins.some, length-append passed more);
    } in
    rw (slot_is c n (slot_held c) begins.held refl) (written_absorbs half (own_slot half) more new w what x begins.held read.2 room has
    (set-get_or c.slots n [] ∙ sym (no_filled_seen c.slots n half.before half.progress.place begins.plain)))

-- What a field is that came whole.

-- what is known of it: a home address is the track's own, and count bytes are those of a formatting write
abbrev pub IsWhole : Action → (own : List ℕ) → (moved : ℕ) → (field : List ℕ) → Whole → Type 0
IsWhole a own moved f (whole.HomeAddress h) = (a ≡ action.WriteHomeAddress) × (moved ≡ 5) × (bytes_eq (take 5 f) own ≡ true)
    × (h ≡ take 5 f)
IsWhole a own moved f (whole.Count b) = (a ≡ action.Format) × (moved ≡ 8) × (b ≡ f)
IsWhole a own moved f whole.No = Unit {0}

pub is_whole : (a : Action) (own : List ℕ) (moved : ℕ) (f : List ℕ) → IsWhole a own moved f (whole_of a own moved f)
is_whole action.WriteHomeAddress own moved f = cond_both (moved == 5 && bytes_eq (take 5 f) own) _ _
    (IsWhole action.WriteHomeAddress own moved f)
    (λ whole. (let t = and_parts (moved == 5) (bytes_eq (take 5 f) own) whole in (refl, eqb-true moved 5 t.0, t.1, refl))) (λ _. tt)
is_whole action.Format own moved f = cond_both (moved == 8) _ _ (IsWhole action.Format own moved f)
    (λ eight. (refl, eqb-true moved 8 eight, refl)) (λ _. tt)
is_whole _ own moved f = tt

-- what is no whole field changes nothing, by each thing that the test of a field reads
pub no_change : (a : Action) (g : Geometry) (t : Sighted) (o : Opened) (r : Registers) (moved : ℕ) (f b : List ℕ)
    → whole_of a (own_home_address r) moved f ≡ whole.No → length b ≡ moved → take moved f ≡ b → ChangesNothing a g t o r b
no_change action.WriteHomeAddress g t o r moved f b e long is = λ five.
    (let m : moved ≡ 5 = sym long ∙ five in
    false_from_ne_true (bytes_eq b (own_home_address r)) (λ own. (let e' = rw (m, rw m at is, own) at e in cc)))
no_change action.Format g t o r moved f b e long is = λ eight. absurd (let m : moved ≡ 8 = sym long ∙ eight in let e' = rw m at e in cc)
no_change _ g t o r moved f b e long is = tt

pub field_stays : {half : HalfDone} {more f field : List ℕ} → Collects half more f field
    → whole_of (action_now half) (own_home_address half.registers) (half.progress.moved + length more) field ≡ whole.No
    → Absorbs half more half.cache half.before (Field field)
field_stays {half} {more} {f} {field} x none =
    let k = field_goes x in
    field_absorbs x (no_change (action_now half) half.cache.image.geometry (track_of (own_slot half)) half.opened half.registers
    (length (half.passed ++ more)) field (half.passed ++ more) (rw k.moved at none) refl k.collected)

-- the home address

pub nothing_more : (b more : List ℕ) → length more ≤ 0 → b ++ more ≡ b
nothing_more b [] le = append-nil b
nothing_more b (x ∷ more) le = absurd (omega (arith, le))

-- the track's own home address has come whole
abbrev pub home_filled : (job : AtWork) (now : List ℕ) → action_in job ≡ action.WriteHomeAddress → length job.passed ≡ 5
    → bytes_eq job.passed (own_home_address job.registers) ≡ true → 13 ≤ (geometry_in job).track_size
    → lengths_on (track_in now) ≡ lengths_on (bare_track job.passed) → IsFilled job now (record { start = 5; len = 0 })
    (command_end (home_address_ends job.opened job.registers))
home_filled job now is five own room lens =
    let g = geometry_in job in
    let r = job.registers in
    let o = job.opened in
    let t = track_of job.before in
    let b = job.passed in
    let s = slot_of g.track_size (bare_track b) in
    let f = bare_fits g.track_size b five room in
    record {
      head = take 5 s;
      tail = drop 5 s;
      lead = 5;
      room = 0;
      begins = omega (arith, five);
      lead_small = omega arith;
      within = omega (arith, room);
      start = omega (arith, length-take 5 s, length-slot_of g.track_size (bare_track b) f.room, room, five);
      rest = omega (arith, five);
      closes = λ more le.
          (let e = nothing_more b more le in
          let k : closing g t o r (b ++ more) ≡ writes (bare_track b) (home_address_ends o r) = ap (λ (x : List ℕ). closing g t o r x) e
          ∙ closing_by action.WriteHomeAddress g t o r b is ∙ rw (five, own) refl in
          record {
            track = bare_track b;
            so = ap command_end k;
            written = ap (λ (y : Closing). y.written) k;
            fits = f;
            lengths_stay = sym lens;
            slot_is = rw (e, drop_all 5 b (omega (arith, five))) (sym (take-append-drop 5 s));
          });
      wants = λ more le. ap (λ (x : List ℕ). length_after g t o r x) (nothing_more b more le)
          ∙ length_by action.WriteHomeAddress g t o r b is;
    }

-- by what the code has read of its field, and by the slot that it made
pub home_absorbs : {half : HalfDone} {more f field : List ℕ} (h new : List ℕ) → Collects half more f field
    → whole_of (action_now half) (own_home_address half.registers) (half.progress.moved + length more) field ≡ whole.HomeAddress h
    → new ≡ slot_of half.cache.image.geometry.track_size (bare_track h)
    → Absorbs half more (with_held half.cache new) (slot_held half.cache) (Filled (record { start = 5; len = 0 }) written.HomeAddress)
home_absorbs {half} {more} {f} {field} h new x e new_is =
    let works = x.may.works in
    let c = half.cache in
    let size = c.image.geometry.track_size in
    let room : 13 ≤ size = omega (arith, works.volume.geometry.room) in
    let n = own_track half in
    let k = field_goes x in
    let home = rw e at (is_whole (action_now half) (own_home_address half.registers) (half.progress.moved + length more) field) in
    let b = half.passed ++ more in
    let five : length b ≡ 5 = sym k.moved ∙ home.1 in
    let come : take 5 field ≡ b = rw five at k.collected in
    let held : c.held ≡ Some n = rw home.0 at k.has.at_hand in
    let made : new ≡ slot_of size (bare_track b) = new_is ∙ ap (λ (y : List ℕ). slot_of size (bare_track y)) (home.3 ∙ come) in
    let read = reads_new size (bare_track b) new (bare_fits size b five room) made in
    let now : List ℕ = slot_at (with_held c new).slots n in
    let lens : lengths_on (track_in now) ≡ lengths_on (bare_track b) =
    ap (λ (y : List ℕ). lengths_on (track_in y)) (new_slot_at c n new held (there half works)) ∙ ap lengths_on read.1 in
    let w : Window = record { start = 5; len = 0 } in
    newly_absorbs half more new w written.HomeAddress (omega arith) works
    (record { held = held; plain = rw x.placed refl; again = k.again; takes = x.may.taking; some = omega (arith, five, k.long) })
    (record { left = (let left = rw home.0 at k.left in omega (arith, left, five)); small = omega (arith, five, k.long) })
    (home_filled (new_work half more new w written.HomeAddress) now home.0 five (rw come at home.2) room lens) made
