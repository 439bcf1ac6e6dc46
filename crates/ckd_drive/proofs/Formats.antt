-- A track that gets a new record.
use Rattle.std.proofs.Common.{◌≡◌, ◌∙◌, ap, sym, subst, refl, ℕ, ◌+◌, ◌-◌, ◌<◌, ◌≤◌, List, [], ◌∷◌, ◌++◌, true, false, Option, Some, length}
use Rattle.std.proofs.Common.{take, drop, slice_range, replicate, unwrap_or, set-set, length-append, length-drop, length-take, drop-drop}
use Rattle.std.proofs.Common.{append_assoc, append-nil, arith}
use Rattle.std.proofs.Math.Bool.{or-false, or-true}
use Rattle.std.proofs.Math.Seq.{get_or-append_seam, set-append_seam}
use Rattle.std.proofs.lemmas.List.{drop_at, take_all, take-append-le}
use Rattle.ckd_track.specs.Track.{Track, Record, track_of, track_in, record_in, no_record, record_at, slot_of, key_length, body_length}
use Rattle.ckd_track.specs.Changes.{overwritten}
use Rattle.ckd_position.specs.declared.areas.Area.{Area}
use Rattle.ckd_position.specs.declared.areas.Area.TheVariants.{Of}
use Rattle.ckd_position.specs.declared.areas.RecordPart.{RecordPart}
use Rattle.ckd_position.specs.declared.areas.RecordPart.TheVariants as part
use Rattle.ckd_command.specs.declared.tables.Action.TheVariants as action
use Rattle.ckd_position.specs.declared.extents.AreaBytes.TheVariants as extent
use Rattle.ckd_drive.specs.declared.transfer.Whole.TheVariants as whole
use Rattle.ckd_slot.specs.declared.windows.Window.{Window}
use Rattle.ckd_drive.specs.declared.transfer.Transfer.TheVariants.{Field, Due, Filled}
use Rattle.ckd_position.specs.Contents.{Sighted, new_record, formatted, kept, padded, replaced, with_record_changed}
use Rattle.ckd_command.specs.Commands.{Closing, command_end, own_home_address, new_record_fits, format_ends}
use Rattle.ckd_slot.specs.Buffer.{HasFormatted, CanMake, IsPlaceOf, fits_track, lengths_on, made_on}
use Rattle.ckd_slot.specs.Cache.{with_held, slot_held, after_format}
use Rattle.ckd_drive.specs.declared.transfer.WrittenArea.TheVariants as written
use Rattle.ckd_drive.specs.Invariant.{HalfDone, HasDue, at_work, own_slot, own_track, action_now, IsFilled, AtHand}
use Rattle.ckd_drive.specs.Invariant.{slot_at, AtWork, geometry_in, action_in}
use Rattle.ckd_drive.specs.Passing.{Works, Absorbs, whole_of}
use Rattle.ckd_slot.proofs.Writes.{update_length, update_place, made_formatted, kept_le, length-padded, padded_whole}
use Rattle.ckd_track.proofs.ChargeLaws.{no_end_mark}
use Rattle.ckd_drive.proofs.Fills.{there, new_slot_at, reads_new, Filling, room_of, ClosesFilled, form_filled, filled_absorbs}
use Rattle.ckd_command.proofs.Closings.{formats_on}
use Rattle.ckd_command.proofs.Lengths.{same_count}
use Rattle.ckd_drive.proofs.Takes.{Collects, field_goes, field_absorbs}
use Rattle.ckd_drive.proofs.News.{new_work, newly_absorbs, is_whole}
use Rattle.ckd_drive.proofs.Standing.{slot_is}

abbrev record_with : (b body : List ℕ) → Record
record_with b body = record { id = take 5 b; key_area = take (key_length b) body; data_area = drop (key_length b) body }

-- a record of count bytes and as many bytes as these give
parts : (b body : List ℕ) → length b ≡ 8 → length body ≡ body_length b → record_at (b ++ body) ≡ record_with b body
parts b body eight long =
    let s = same_count b body (omega (arith, eight)) in
    let k = key_length b in
    let behind : drop 8 (b ++ body) ≡ body = drop_at b body 8 eight in
    let key : slice_range (b ++ body) 8 (8 + key_length (b ++ body)) ≡ take k body =
    rw (s.key, behind, (let e : 8 + k - 8 ≡ k = omega arith in e)) refl in
    let bytes : slice_range (b ++ body) (8 + key_length (b ++ body)) (8 + body_length (b ++ body)) ≡ drop k body =
    (let far : drop (8 + k) (b ++ body) ≡ drop k body = sym (drop-drop k 8 (b ++ body)) ∙ ap (drop k) behind in
    rw (s.key, s.bytes, far) (take_all (8 + body_length b - (8 + k)) (drop k body) (omega (arith, length-drop k body, long)))) in
    rw (take-append-le 5 b body (omega (arith, eight)), key, bytes) refl

-- the zeros behind the bytes that came
padded_behind : (b m : List ℕ) (n : ℕ) → length b ≡ 8 → padded (b ++ m) (8 + n) ≡ b ++ padded m n
padded_behind b m n eight =
    let e : 8 + n - length (b ++ m) ≡ n - length m = omega (arith, length-append b m, eight) in
    rw e (append_assoc b m (replicate (n - length m) 0))

pub new_with : (b m : List ℕ) → length b ≡ 8 → length m ≤ body_length b → new_record (b ++ m) ≡ record_with b (padded m (body_length b))
new_with b m eight le =
    let s = same_count b m (omega (arith, eight)) in
    let n : body_length (b ++ m) ≡ body_length b = rw (s.key, s.bytes) refl in
    ap (λ (k : ℕ). record_at (padded (b ++ m) (8 + k))) n ∙ ap record_at (padded_behind b m (body_length b) eight)
    ∙ parts b (padded m (body_length b)) eight (length-padded m (body_length b) le)

-- The new record stands behind the kept ones.

length-record : (b m : List ℕ) → length m ≤ body_length b → length (take (key_length b) (padded m (body_length b)))
    + length (drop (key_length b) (padded m (body_length b))) ≡ body_length b
length-record b m le =
    let long = length-padded m (body_length b) le in
    omega (arith, length-take (key_length b) (padded m (body_length b)), length-drop (key_length b) (padded m (body_length b)), long)

-- with zeros for its key and data, as yet
record_last : (t : Sighted) (after : Option Area) (b : List ℕ) (i : ℕ) → length b ≡ 8 → i ≡ length (kept t after)
    → record_in (formatted t after b) i ≡ record_with b (padded [] (body_length b))
record_last t after b i eight e = rw e (get_or-append_seam (kept t after) (new_record b) [] no_record) ∙ (ap new_record (sym (append-nil b))
    ∙ new_with b [] eight (omega arith))

pub format_bytes : (t : Sighted) (after : Option Area) (b : List ℕ) (i : ℕ) → i ≡ length (kept t after) → length b ≡ 8
    → update_length extent.KeyAndData (record_in (formatted t after b) i) ≡ body_length b
format_bytes t after b i e eight = ap (update_length extent.KeyAndData) (record_last t after b i eight e) ∙ length-record b [] (omega arith)

pub format_written : (t : Sighted) (after : Option Area) (b m : List ℕ) (part : RecordPart) (i : ℕ) → length b ≡ 8
    → i ≡ length (kept t after)
    → length m ≤ body_length b
    → with_record_changed
    (replaced extent.KeyAndData (padded (drop 8 (b ++ m)) (update_length extent.KeyAndData (record_in (formatted t after b) i))))
    (Of part i) (formatted t after b) ≡ formatted t after (b ++ m)
format_written t after b m part i eight e le =
    let n = body_length b in
    let k = key_length b in
    let key : length (take k (padded [] n)) ≡ k = omega (arith, length-take k (padded [] n), length-padded [] n (omega arith)) in
    rw (
      drop_at b m 8 eight,
      record_last t after b i eight e,
      (length-record b [] (omega arith)),
      key,
      padded_whole (padded m n) n (length-padded m n le),
      new_with b m eight le,
      e,
      set-append_seam (kept t after) (new_record b) [] (record_with b (padded m n)),
    ) refl

-- the record that a formatting write fills, behind its count bytes
abbrev format_filling : AtWork → RecordPart → ℕ → Filling
format_filling job part i = record {
  closes = command_end (format_ends job.registers i);
  track = formatted (track_of job.before) job.opened.area job.passed;
  extent = extent.KeyAndData;
  part = part;
  number = i;
  lead = 8;
}

pub format_filled : (job : AtWork) (m : List ℕ) (part : RecordPart) (i : ℕ) → action_in job ≡ action.Format → length job.passed ≡ 8
    → new_record_fits (geometry_in job) (track_of job.before) job.opened job.passed ≡ true
    → i ≡ length (kept (track_of job.before) job.opened.area) → length m ≤ room_of (format_filling job part i)
    → ClosesFilled job (job.passed ++ m) (format_filling job part i)
format_filled job m part i is eight fits e le =
    let t = track_of job.before in
    let o = job.opened in
    let b = job.passed in
    let n = format_bytes t o.area b i e eight in
    let k = formats_on (geometry_in job) t o job.registers b m is (omega (arith, eight)) fits in
    record {
      so = ap command_end k.closes ∙ rw e refl;
      written = ap (λ (y : Closing). y.written) k.closes
          ∙ ap (λ (y : Track). Some y) (sym (format_written t o.area b m part i eight e (rw n at le)));
      wants = rw n k.wants;
    }

-- the count bytes have come whole, and are these
pub record FormatGoes (half : HalfDone) (more f field count : List ℕ) : Type 0 where
  pub collects : Collects half more f field
  pub is : action_now half ≡ action.Format
  pub eight : length (half.passed ++ more) ≡ 8
  pub whole : count ≡ half.passed ++ more
  pub at_hand : AtHand half.cache (own_track half)

-- by what the code has read of its field
pub format_goes : {half : HalfDone} {more f field : List ℕ} (count : List ℕ) → Collects half more f field → length field ≡ 8
    → whole_of (action_now half) (own_home_address half.registers) (half.progress.moved + length more) field ≡ whole.Count count
    → FormatGoes half more f field count
format_goes {half} {more} {f} {field} count x long e =
    let k = field_goes x in
    let new = rw e at (is_whole (action_now half) (own_home_address half.registers) (half.progress.moved + length more) field) in
    let eight : length (half.passed ++ more) ≡ 8 = sym k.moved ∙ new.1 in
    record {
      collects = x;
      is = new.0;
      eight = eight;
      whole = new.2 ∙ sym (take_all 8 field (omega (arith, long))) ∙ rw eight at k.collected;
      at_hand = rw new.0 at k.has.at_hand;
    }

-- a record that does not fit
pub format_stays : {half : HalfDone} {more f field count : List ℕ} → FormatGoes half more f field count
    → fits_track half.cache.image.geometry.model half.opened.area count (track_of (slot_held half.cache)) ≡ false
    → Absorbs half more half.cache half.before (Field field)
format_stays {half} k no_room =
    let held = slot_is half.cache (own_track half) (slot_held half.cache) k.at_hand.held refl in
    field_absorbs k.collects (rw k.is (λ _. rw (held, k.whole) at no_room))

-- a record that fits
abbrev Fits : HalfDone → (count : List ℕ) → ℕ → Window → Type 0
Fits half count i w = HasFormatted half.cache.image.geometry.model half.cache.image.geometry.track_size half.opened.area count
    (track_of (slot_held half.cache)) i w

format_absorbs : {half : HalfDone} {more f field count : List ℕ} (i : ℕ) (w : Window) → FormatGoes half more f field count
    → Fits half count i w
    → Absorbs half more (after_format half.cache half.opened.area count) (slot_held half.cache) (Filled w (written.Record i))
format_absorbs {half} {more} {f} {field} {count} i w k has =
    let may = k.collects.may in
    let c = half.cache in
    let g = c.image.geometry in
    let n = own_track half in
    let t = track_of (own_slot half) in
    let a = half.opened.area in
    let b = half.passed ++ more in
    let goes = field_goes k.collects in
    let t0 = formatted t a b in
    let held = slot_is c n (slot_held c) k.at_hand.held refl in
    let new = slot_of g.track_size (formatted (track_of (slot_held c)) a count) in
    let is_new : HasFormatted g.model g.track_size a b t i w = rw (held, k.whole) at has in
    let made : new ≡ slot_of g.track_size t0 = rw (held, k.whole) refl in
    let now : List ℕ = slot_at (with_held c new).slots n in
    let lens : lengths_on (track_in now) ≡ lengths_on t0 = ap (λ (y : List ℕ). lengths_on (track_in y)) (new_slot_at c n new k.at_hand.held
    (there half may.works)) ∙ ap lengths_on (reads_new g.track_size t0 new is_new.spelled made).1 in
    let last : i < length t0.records = omega (arith, is_new.is_last, length-append (kept t a) (new_record b ∷ [])) in
    let place = update_place extent.KeyAndData t0 part.Data i w tt last is_new.place in
    let job = new_work half more new w (written.Record i) in
    let filled : IsFilled job now w (command_end (format_ends half.registers i)) =
    form_filled job now w (format_filling job part.Data i) (record { update = tt; fits = is_new.spelled; there = last }) lens (record {
      begins = omega (arith, k.eight);
      lead_small = omega arith;
      start = omega (arith, place.0, k.eight);
      rest = omega (arith, place.1, k.eight);
    }) (λ m le. format_filled job m part.Data i k.is k.eight is_new.fits is_new.is_last (omega (arith, le, place.1))) in
    let whole : with_record_changed
    (replaced extent.KeyAndData (padded (drop 8 (b ++ [])) (update_length extent.KeyAndData (record_in t0 i)))) (Of part.Data i) t0
    ≡ t0 = format_written t a b [] part.Data i k.eight is_new.is_last (omega arith) ∙ ap (λ (y : List ℕ). formatted t a y) (append-nil b) in
    newly_absorbs half more new w (written.Record i) (omega arith) may.works (record {
      held = k.at_hand.held;
      plain = rw k.collects.placed refl;
      again = goes.again;
      takes = may.taking;
      some = omega (arith, k.eight, goes.long);
    })
    (record { left = (let left = rw k.is at goes.left in omega (arith, left, k.eight)); small = omega (arith, k.eight, goes.long) })
    filled (made ∙ ap (slot_of g.track_size) (sym whole))

-- a record that fits is due, and the track stays
pub due_absorbs : {half : HalfDone} {more f field count : List ℕ} (i : ℕ) (w : Window) → FormatGoes half more f field count
    → Fits half count i w → Absorbs half more half.cache half.before (Due w i count)
due_absorbs {half} {more} {f} {field} {count} i w k has =
    let a = format_absorbs i w k has in
    let works = k.collects.may.works in
    let at = k.collects.placed in
    let h = a.works.goes.placed in
    let found = rw (slot_is half.cache (own_track half) (slot_held half.cache) k.at_hand.held refl) at h.found in
    record {
      works = record {
        volume = works.volume;
        arm = works.arm;
        anchored = works.anchored;
        goes = record {
          moved = a.works.goes.moved;
          left = a.works.goes.left;
          placed = record {
            at_hand = k.at_hand;
            fits = has;
            volume = a.works.volume;
            filled = h;
            found = record { again = found.again; len = found.len };
            plain = rw at at a.seen_same;
          };
          no_credit = works.goes.no_credit;
        };
      };
      image = refl;
      seen_same = rw at refl;
      changed = sym (or-false half.cache.changed);
      still = λ filled. absurd (let plain = rw at at filled in cc);
      small = a.small;
    }

-- a record that is due, once it is made with these bytes
pub record NextMade (half : HalfDone) (more : List ℕ) (w : Window) (number : ℕ) (count : List ℕ) : Type 0 where
  pub can : CanMake half.cache.image.geometry.track_size (track_of (slot_held half.cache)) number count w more
  pub absorbs : Absorbs half more
      (with_held half.cache
      (overwritten (slot_of half.cache.image.geometry.track_size (made_on (track_of (slot_held half.cache)) number count)) w.start more))
      (slot_held half.cache) (Filled (record { start = w.start + length more; len = w.len - length more }) (written.Record number))

pub made_absorbs : (half : HalfDone) (more : List ℕ) (w : Window) (number : ℕ) (count : List ℕ) → Works half
    → half.progress.place ≡ Due w number count → length more ≤ half.progress.left → NextMade half more w number count
made_absorbs half more w number count x at le =
    let c = half.cache in
    let size = c.image.geometry.track_size in
    let n = own_track half in
    let h : HasDue (at_work half) w number count = rw at at x.goes.placed in
    let t = track_of (slot_held c) in
    let area = half.opened.area in
    let same_track : formatted t area count ≡ made_on t number count = sym (made_formatted t area number count h.fits.is_last) in
    let made : List ℕ = slot_of size (made_on t number count) in
    let c' = after_format c area count in
    let left : half.progress.left ≤ w.len = rw at at x.goes.left in
    let half' : HalfDone =
    record half { cache = c'; before = slot_held c; progress = record half.progress { place = Filled w (written.Record number) } } in
    let works' : Works half' = record {
      volume = h.volume;
      arm = x.arm;
      anchored = λ _. h.at_hand.held;
      goes = record { moved = x.goes.moved; left = left; placed = h.filled; no_credit = x.goes.no_credit };
    } in
    let k = filled_absorbs half' more w (written.Record number) (record { works = works'; room = le; taking = h.filled.takes }) refl in
    let new_at : slot_held c' ≡ made =
    slot_is c' n (slot_held c') h.at_hand.held refl ∙ new_slot_at c n (slot_of size (formatted t area count)) h.at_hand.held (there half x)
    ∙ ap (slot_of size) same_track in
    let same : with_held c' (overwritten made w.start more) ≡ with_held c (overwritten made w.start more) =
    rw (set-set c.slots (unwrap_or c.held 0) (slot_of size (formatted t area count)) (overwritten made w.start more)) refl in
    let a = rw (new_at, same) at k.absorbs in
    let short : length more ≤ w.len = omega (arith, le, left) in
    let P : Track → Type 0 = λ y. IsPlaceOf extent.KeyAndData y (Of part.Data number) w in
    record {
      can = record {
        there = omega (arith, h.fits.is_last, kept_le t area);
        no_end_mark = no_end_mark c.image.geometry.model (kept t area) count h.fits.fits;
        fits = rw same_track at h.fits.spelled;
        place = subst P same_track h.fits.place;
        room = short;
        begins = rw new_at at k.records;
      };
      absorbs = record {
        works = a.works;
        image = a.image;
        seen_same = a.seen_same ∙ h.plain ∙ rw at refl;
        changed = sym (or-true c.changed);
        still = λ _. refl;
        small = a.small;
      };
    }
