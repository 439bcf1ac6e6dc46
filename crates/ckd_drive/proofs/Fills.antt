-- Tracks that are being written.
use Rattle.std.proofs.Common.{◌≡◌, ◌∙◌, ap, sym, refl, ℕ, ◌+◌, ◌-◌, ◌<◌, ◌≤◌, ◌^◌, List, [], ◌++◌, true, Some, Ok, Err, unwrap_or, length}
use Rattle.std.proofs.Common.{take, drop, set-set, get_or-set_same, slice_set, replicate, length-append, length-drop, length-take}
use Rattle.std.proofs.Common.{length-set, append_assoc, arith}
use Rattle.std.proofs.Math.Bool.{or-true}
use Rattle.std.proofs.lemmas.List.{length-replicate, drop-append-le}
use Rattle.std.proofs.lemmas.List.Elements.{All-set}
use Rattle.ckd_track.specs.Track.{Track, track_of, track_in, track_or_none, record_in, slot_of}
use Rattle.ckd_track.specs.Changes.{overwritten}
use Rattle.ckd_track.proofs.Slots.{slot_of_reads, length-slot_of}
use Rattle.ckd_position.specs.declared.areas.Area.TheVariants.{Of}
use Rattle.ckd_position.specs.declared.areas.RecordPart.{RecordPart}
use Rattle.ckd_position.specs.declared.extents.AreaBytes.{AreaBytes}
use Rattle.ckd_command.specs.Answers.{CommandEnd}
use Rattle.ckd_slot.specs.declared.windows.Window.{Window}
use Rattle.ckd_drive.specs.declared.transfer.Transfer.TheVariants.{Filled}
use Rattle.ckd_position.specs.Contents.{Sighted, is_readable, padded, replaced, with_record_changed}
use Rattle.ckd_command.specs.Commands.{length_after, closing, command_end}
use Rattle.ckd_slot.specs.Buffer.{FitsSlot, IsUpdate, SameRecords, lengths_on}
use Rattle.ckd_slot.specs.Cache.{CacheState, slot_held, with_held}
use Rattle.ckd_drive.specs.declared.transfer.WrittenArea.{WrittenArea}
use Rattle.ckd_drive.specs.Invariant.{HalfDone, own_track, seen_with, HasFilled, IsFilled, slot_at, track_under, AtWork, geometry_in}
use Rattle.ckd_drive.specs.Invariant.{slot_in, at_work, closes_by}
use Rattle.ckd_drive.specs.Passing.{Works, MayTake, Absorbs, with_taken}
use Rattle.ckd_slot.proofs.Writes.{update_offset, update_length, length-padded}
use Rattle.ckd_slot.proofs.Updates.{form_of, padded_on, same_records}
use Rattle.ckd_drive.proofs.Standing.{slot_is, number_below}

pub there : (half : HalfDone) → Works half → own_track half < length half.cache.slots
there half x = rw x.volume.count (number_below half.cache.image.geometry half.registers x.arm)

pub new_slot_at : (c : CacheState) (n : ℕ) (new : List ℕ) → c.held ≡ Some n → n < length c.slots → slot_at (with_held c new).slots n ≡ new
new_slot_at c n new held lt = rw held (get_or-set_same c.slots n new [] lt)

-- so many bytes more fit: what is left behind them lies in this window, and what passed is counted in 32 bits
pub record FitsWindow (half : HalfDone) (more : List ℕ) (w : Window) : Type 0 where
  pub left : half.progress.left - length more ≤ w.len
  pub small : length half.passed + length more < 2 ^ 32

-- The slot at hand has become another, made of a track.
pub written_absorbs : (half : HalfDone) (before' : List ℕ) (more new : List ℕ) (w : Window) (u : WrittenArea)
    → Works half → half.cache.held ≡ Some (own_track half) → length new ≡ half.cache.image.geometry.track_size → FitsWindow half more w
    → HasFilled (at_work (with_taken half more (with_held half.cache new) before' (Filled w u))) w u
    → slice_set half.cache.slots (own_track half) before' ≡ seen_with half half.before half.progress.place
    → Absorbs half more (with_held half.cache new) before' (Filled w u)
written_absorbs half before' more new w u x held size room filled seen =
    let c = half.cache in
    record {
      works = record {
        volume = record {
          geometry = x.volume.geometry;
          count = length-set c.slots (unwrap_or c.held 0) new ∙ x.volume.count;
          sizes = All-set (λ slot. length slot ≡ c.image.geometry.track_size) c.slots (unwrap_or c.held 0) new size x.volume.sizes;
          clean = λ e. absurd cc;
        };
        arm = x.arm;
        anchored = λ _. held;
        goes = record {
          moved = rw (← x.goes.moved) (length-append half.passed more);
          left = room.left;
          placed = filled;
          no_credit = x.goes.no_credit;
        };
      };
      image = refl;
      seen_same = rw held (set-set c.slots (own_track half) new before' ∙ seen);
      changed = sym (or-true c.changed);
      still = λ _. refl;
      small = room.small;
    }

-- a slot that reads whole reads to its track
pub old_read : (slot : List ℕ) → is_readable (track_of slot) ≡ true → track_of slot ≡ Ok (track_in slot)
old_read slot e = by (track_of slot) refl e
  where
    by : (t : Sighted) → track_of slot ≡ t → is_readable t ≡ true → track_of slot ≡ Ok (track_in slot)
    by (Ok t) is e = is ∙ ap (λ (x : Track). Ok x) (sym (ap track_or_none is))
    by (Err f) is e = absurd cc

-- A track whose slot is made anew is read.
pub reads_new : (size : ℕ) (t : Track) (new : List ℕ) → FitsSlot size t → new ≡ slot_of size t → (is_readable (track_of new) ≡ true)
    × (track_in new ≡ t) × (length new ≡ size)
reads_new size t new f e =
    let read = slot_of_reads size t f.home_address f.records in
    (rw (e, read) refl, ap (λ (s : List ℕ). track_in s) e ∙ ap track_or_none read, ap length e ∙ length-slot_of size t f.room)

-- An area that is filled, of which record of which track and behind how many bytes, and how its command closes.
pub record Filling : Type 0 where
  pub closes : CommandEnd
  pub track : Track
  pub extent : AreaBytes
  pub part : RecordPart
  pub number : ℕ
  pub lead : ℕ

abbrev pub room_of : Filling → ℕ
room_of fill = update_length fill.extent (record_in fill.track fill.number)

abbrev filled_with : Filling → List ℕ → Track
filled_with fill body = with_record_changed (replaced fill.extent body) (Of fill.part fill.number) fill.track

-- what the command closes to once these bytes came
pub record ClosesFilled (job : AtWork) (b : List ℕ) (fill : Filling) : Type 0 where
  pub so : command_end (closing (geometry_in job) (track_of job.before) job.opened job.registers b) ≡ fill.closes
  pub written : (closing (geometry_in job) (track_of job.before) job.opened job.registers b).written
      ≡ Some (filled_with fill (padded (drop fill.lead b) (room_of fill)))
  pub wants : length_after (geometry_in job) (track_of job.before) job.opened job.registers b ≡ fill.lead + room_of fill

-- bytes are written in an area of a record of the track, which a slot of this size holds
pub record WritesArea (size : ℕ) (fill : Filling) : Type 0 where
  pub update : IsUpdate fill.extent
  pub fits : FitsSlot size fill.track
  pub there : fill.number < length fill.track.records

-- so many bytes have passed, and the rest of the area lies in this window
pub record LeavesRest (passed : ℕ) (w : Window) (fill : Filling) : Type 0 where
  pub begins : fill.lead ≤ passed
  pub lead_small : fill.lead ≤ 8
  pub start : w.start ≡ update_offset fill.extent fill.track fill.number + (passed - fill.lead)
  pub rest : w.len + (passed - fill.lead) ≡ room_of fill

-- an area is filled: three commands come here, each by facts of its own
abbrev pub form_filled : (job : AtWork) (now : List ℕ) (w : Window) (fill : Filling)
    → WritesArea (geometry_in job).track_size fill → lengths_on (track_in now) ≡ lengths_on fill.track
    → LeavesRest (length job.passed) w fill
    → ((more : List ℕ) → length more ≤ w.len → ClosesFilled job (job.passed ++ more) fill)
    → IsFilled job now w fill.closes
form_filled job now w fill area lens come closes =
    let size = (geometry_in job).track_size in
    let t0 = fill.track in
    let off = update_offset fill.extent t0 fill.number in
    let room = room_of fill in
    let s0 = slot_of size t0 in
    let zeros = form_of size t0 fill.extent fill.part fill.number (replicate room 0) area.update area.fits area.there
    (length-replicate {A = ℕ} room 0) in
    let within : off + room ≤ size = omega (arith, zeros.within, length-replicate {A = ℕ} room 0) in
    record {
      head = take off s0;
      tail = drop (off + room) s0;
      lead = fill.lead;
      room = room;
      begins = come.begins;
      lead_small = come.lead_small;
      within = omega (arith, come.start, come.rest, within);
      start = omega (arith, come.start, length-take off s0, length-slot_of size t0 area.fits.room, within);
      rest = come.rest;
      closes = λ more le.
          (let c = closes more le in
          let b = job.passed ++ more in
          let body = padded (drop fill.lead b) room in
          let body_long : length body ≡ room = length-padded (drop fill.lead b) room
          (omega (arith, length-drop fill.lead b, length-append job.passed more, le, come.rest, come.begins)) in
          let form = form_of size t0 fill.extent fill.part fill.number body area.update area.fits area.there body_long in
          record {
            track = filled_with fill body;
            so = c.so;
            written = c.written;
            fits = form.fits;
            lengths_stay = form.lengths ∙ sym lens;
            slot_is = form.slot ∙ ap (λ (n : ℕ). take off s0 ++ (body ++ drop (off + n) s0)) body_long;
          });
      wants = λ more le. (closes more le).wants;
    }

-- More bytes, which leave the slot so.

abbrev pub filled_on : (job : AtWork) (new now' more : List ℕ) (w : Window) (u : CommandEnd) → length more ≤ w.len
    → lengths_on (track_in now') ≡ lengths_on (track_in (slot_in job))
    → IsFilled job (slot_in job) w u → IsFilled (record job { cache = with_held job.cache new; passed = job.passed ++ more }) now'
    (record { start = w.start + length more; len = w.len - length more }) u
filled_on job new now' more w u le lens f =
    let passed = job.passed in
    let far = length-append passed more in
    record {
      head = f.head;
      tail = f.tail;
      lead = f.lead;
      room = f.room;
      begins = omega (arith, f.begins, far);
      lead_small = f.lead_small;
      within = omega (arith, f.within, le);
      start = omega (arith, f.start, f.begins, far);
      rest = omega (arith, f.rest, f.begins, far, le);
      closes = λ m lm. rw (← append_assoc passed more m, ← lens) at (f.closes (more ++ m) (omega (arith, length-append more m, le, lm)));
      wants = λ m lm. rw (← append_assoc passed more m) at (f.wants (more ++ m) (omega (arith, length-append more m, le, lm)));
    }

-- the same of lists and numbers alone, so that tactics read no drive
pub next_made : (old head tail mid more : List ℕ) (room start : ℕ) → old ≡ head ++ (padded mid room ++ tail)
    → length head + length mid ≡ start → length mid + length more ≤ room
    → overwritten old start more ≡ head ++ (padded (mid ++ more) room ++ tail)
next_made old head tail mid more room start is at le = rw (is, ← at) (padded_on head tail mid more room le)

-- the slot that a filled track has next
pub record NextSlot (half : HalfDone) (more : List ℕ) (w : Window) (what : WrittenArea) : Type 0 where
  pub held : half.cache.held ≡ Some (own_track half)
  pub le : length more ≤ w.len
  pub room : w.start + length more ≤ half.cache.image.geometry.track_size
  pub records : SameRecords (slot_held half.cache) (overwritten (slot_held half.cache) w.start more)
  pub absorbs : Absorbs half more (with_held half.cache (overwritten (slot_held half.cache) w.start more)) half.before
      (Filled (record { start = w.start + length more; len = w.len - length more }) what)

pub filled_absorbs : (half : HalfDone) (more : List ℕ) (w : Window) (what : WrittenArea)
    → MayTake half more → half.progress.place ≡ Filled w what → NextSlot half more w what
filled_absorbs half more w what may at =
    let c = half.cache in
    let passed = half.passed in
    let g = c.image.geometry in
    let n : ℕ = track_under g half.registers in
    let left : half.progress.left ≤ w.len = rw at at may.works.goes.left in
    let le : length more ≤ w.len = omega (arith, left, may.room) in
    let h : HasFilled (at_work half) w what = rw at at may.works.goes.placed in
    let f = h.filled in
    let old = slot_at c.slots n in
    let new = overwritten old w.start more in
    let k = f.closes more le in
    let far = length-append passed more in
    let lead_len : length (drop f.lead passed) ≡ length passed - f.lead = length-drop f.lead passed in
    let made' : new ≡ f.head ++ (padded (drop f.lead (passed ++ more)) f.room ++ f.tail) =
    rw (drop-append-le f.lead passed more f.begins) (next_made old f.head f.tail (drop f.lead passed) more f.room w.start h.slot_is
    (omega (arith, f.start, lead_len)) (omega (arith, lead_len, f.rest, le, f.begins))) in
    let slot : new ≡ slot_of g.track_size k.track = made' ∙ sym k.slot_is in
    let read = reads_new g.track_size k.track new k.fits slot in
    let at_new = new_slot_at c n new h.at_hand.held (there half may.works) in
    let w' : Window = record { start = w.start + length more; len = w.len - length more } in
    let has : HasFilled (at_work (with_taken half more (with_held c new) half.before (Filled w' what))) w' what = record {
      at_hand = record { held = h.at_hand.held; readable = rw at_new read.0 };
      size = h.size;
      filled = filled_on (at_work half) new (slot_at (with_held c new).slots n) more w (closes_by half.registers half.opened what) le
          (ap (λ (y : List ℕ). lengths_on (track_in y)) at_new ∙ (ap lengths_on read.1 ∙ k.lengths_stay)) f;
      slot_is = at_new ∙ made';
      found = record { again = h.found.again; len = omega (arith, f.wants more le, f.rest, f.begins, far, le) };
      takes = h.takes;
      some = omega (arith, h.some, far);
    } in
    let here : slot_held c ≡ old = slot_is c n (slot_held c) h.at_hand.held refl in
    record {
      held = h.at_hand.held;
      le = le;
      room = omega (arith, f.within, le);
      records = rw here (same_records g.track_size old new k.track (old_read old h.at_hand.readable) k.fits slot k.lengths_stay);
      absorbs = rw here (written_absorbs half half.before more new w' what may.works h.at_hand.held read.2 (record {
        left = omega (arith, left, le);
        small = omega (arith, f.start, f.within, f.begins, f.lead_small, le, may.works.volume.geometry.limit);
      }) has (rw at refl));
    }
