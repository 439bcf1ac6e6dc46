-- What is written is read: a drive, a subchannel, a channel, all of them, and the checksum.
use Rattle.std.proofs.Common.{◌≡◌, ◌∙◌, ℕ, zero, suc, ◌+◌, ◌*◌, ◌/◌, ◌%◌, ◌==◌, ◌||◌}
use Rattle.std.proofs.Common.{ap, arith, refl, sym, subst, List, [], ◌∷◌, ◌++◌, length, take}
use Rattle.std.proofs.Common.{add-zero, Bool, true, false, cond, not, Option, Some, None}
use Rattle.std.specs.Prelude.{Result, Ok, Err, bytes_eq, codes, nat_lt, slice_get, slice_index, slice_range}
use Rattle.std.proofs.lemmas.Bool.{eq-eqb}
use Rattle.std.proofs.lemmas.List.{get_or-append-add, length-append, take_all}
use Rattle.std.proofs.lemmas.Slice.Eq.{bytes_eq-Decides}
use Rattle.s360_words.specs.declared.words.Csw.{Csw}
use Rattle.s360_laws.specs.declared.arm.Arm.{Arm}
use Rattle.s360_laws.specs.declared.arm.Arm.TheVariants.{AtRest, InMotion, Arrived}
use Rattle.attached_drives.specs.declared.drives_saved.SavedDrive.{SavedDrive}
use Rattle.s360_channel.specs.declared.saving.SavedChannel.{SavedChannel}
use Rattle.saved_state.specs.Bytes.{beginning, bytes_of, channel_bytes, channels_bytes}
use Rattle.saved_state.specs.Bytes.{checksum, drive_bytes, drives_bytes, pending_bytes, word_bytes}
use Rattle.saved_state.specs.Laws.{AreWhole}
use Rattle.saved_state.specs.Reading.{channel_of, channels_of, drive_of, drives_of, pending_of, read, read_value, word_at}
use Rattle.saved_state.specs.declared.faults.BytesFault.{BytesFault}
use Rattle.saved_state.specs.declared.faults.BytesFault.TheVariants.{NotSaved, OtherVersion, OtherLength, OtherSum, NotSound}
use Rattle.saved_state.proofs.Blocks.{AreLong, behind, first, inside, joined_length, part}
use Rattle.saved_state.proofs.Joining.{in_front}

-- Numbers.

number : (n : ℕ) → n / 256 * 256 + n % 256 ≡ n
number n = omega arith

word : (n : ℕ) → n / 16777216 * 16777216 + n / 65536 % 256 * 65536 + n / 256 % 256 * 256 + n % 256 ≡ n
word n = omega arith

-- A drive.

drive_with : (device : ℕ) (arm : Arm) (c c' h h' s s' : ℕ) → c ≡ c' → h ≡ h' → s ≡ s' → ◌≡◌ {A = Option (ℕ × SavedDrive)} (Some (
  device,
  record { arm = arm; cylinder = c; head = h; sense = record { 0 = s } },
)) (Some (device, record { arm = arm; cylinder = c'; head = h'; sense = record { 0 = s' } }))
drive_with device arm c c' h h' s s' e f g = cc

drive_back : (d : Option (ℕ × SavedDrive)) → drive_of (drive_bytes d) ≡ d
drive_back None = refl
drive_back (Some d) = go d.1.arm
  where
    go : (arm : Arm) → drive_of (drive_bytes (Some (d.0, record d.1 { arm = arm }))) ≡ Some (d.0, record d.1 { arm = arm })
    go AtRest = drive_with d.0 AtRest _ _ _ _ _ _ (number d.1.cylinder) (number d.1.head) (number d.1.sense.0)
    go InMotion = drive_with d.0 InMotion _ _ _ _ _ _ (number d.1.cylinder) (number d.1.head) (number d.1.sense.0)
    go Arrived = drive_with d.0 Arrived _ _ _ _ _ _ (number d.1.cylinder) (number d.1.head) (number d.1.sense.0)

drive_long : (d : Option (ℕ × SavedDrive)) → length (drive_bytes d) ≡ 8
drive_long None = refl
drive_long (Some d) = refl

drives_long : (ds : List (Option (ℕ × SavedDrive))) → AreLong drive_bytes 8 ds
drives_long [] = tt
drives_long (d ∷ ds) = (drive_long d, drives_long ds)

drives_back : (ds : List (Option (ℕ × SavedDrive))) → length ds ≡ 8 → drives_of (drives_bytes ds) ≡ ds
drives_back [] e = absurd (omega (arith, e))
drives_back (a ∷ []) e = absurd (omega (arith, e))
drives_back (a ∷ b ∷ []) e = absurd (omega (arith, e))
drives_back (a ∷ b ∷ c ∷ []) e = absurd (omega (arith, e))
drives_back (a ∷ b ∷ c ∷ d ∷ []) e = absurd (omega (arith, e))
drives_back (a ∷ b ∷ c ∷ d ∷ f ∷ []) e = absurd (omega (arith, e))
drives_back (a ∷ b ∷ c ∷ d ∷ f ∷ g ∷ []) e = absurd (omega (arith, e))
drives_back (a ∷ b ∷ c ∷ d ∷ f ∷ g ∷ h ∷ []) e = absurd (omega (arith, e))
drives_back (a ∷ b ∷ c ∷ d ∷ f ∷ g ∷ h ∷ i ∷ []) e =
    let all : List (Option (ℕ × SavedDrive)) = a ∷ b ∷ c ∷ d ∷ f ∷ g ∷ h ∷ i ∷ [] in
    eight (at all 0 0 8 a refl refl refl) (at all 1 8 16 b refl refl refl) (at all 2 16 24 c refl refl refl)
    (at all 3 24 32 d refl refl refl) (at all 4 32 40 f refl refl refl) (at all 5 40 48 g refl refl refl)
    (at all 6 48 56 h refl refl refl) (at all 7 56 64 i refl refl refl)
  where
    at : (ds : List (Option (ℕ × SavedDrive))) (k from to : ℕ) (d : Option (ℕ × SavedDrive)) → slice_get ds k ≡ Some d → from ≡ 8 * k
        → to ≡ from + 8 → drive_of (slice_range (drives_bytes ds) from to) ≡ d
    at ds k from to d h e f = ap drive_of (part drive_bytes 8 ds k from to d (drives_long ds) h e f) ∙ drive_back d

    eight : {A : Type 0} {a b c d e f g h a' b' c' d' e' f' g' h' : A} → a ≡ a' → b ≡ b' → c ≡ c' → d ≡ d' → e ≡ e' → f ≡ f' → g ≡ g'
        → h ≡ h' → a ∷ b ∷ c ∷ d ∷ e ∷ f ∷ g ∷ h ∷ [] ≡ a' ∷ b' ∷ c' ∷ d' ∷ e' ∷ f' ∷ g' ∷ h' ∷ []
    eight p q r s t u v w = cc
drives_back (a ∷ b ∷ c ∷ d ∷ f ∷ g ∷ h ∷ i ∷ j ∷ ds) e = absurd (omega (arith, e))

-- A channel.

csw_with : (device key a a' unit channel n n' : ℕ) → a ≡ a' → n ≡ n' → ◌≡◌ {A = Option (ℕ × Csw)} (Some (
  device,
  record { key = key; address = a; unit = record { 0 = unit }; channel = record { 0 = channel }; count = n },
)) (Some (device, record { key = key; address = a'; unit = record { 0 = unit }; channel = record { 0 = channel }; count = n' }))
csw_with device key a a' unit channel n n' e f = cc

pending_back : (p : Option (ℕ × Csw)) → pending_of (pending_bytes p) ≡ p
pending_back None = refl
pending_back (Some p) = csw_with p.0 p.1.key _ _ p.1.unit.0 p.1.channel.0 _ _ (word p.1.address) (number p.1.count)

pending_long : (p : Option (ℕ × Csw)) → length (pending_bytes p) ≡ 11
pending_long None = refl
pending_long (Some p) = refl

channel_long : (c : Option SavedChannel) → AreWhole (c ∷ []) → length (channel_bytes c) ≡ 75
channel_long None w = refl
channel_long (Some c) w =
    length-append (pending_bytes c.pending) (drives_bytes c.drives)
    ∙ (ap (λ n. n + length (drives_bytes c.drives)) (pending_long c.pending)
    ∙ (ap (λ n. 11 + n) (joined_length drive_bytes 8 c.drives (drives_long c.drives)) ∙ ap (λ n. 11 + 8 * n) w.0))

all_long : (p : Option (ℕ × Csw)) (ds : List (Option (ℕ × SavedDrive))) → length ds ≡ 8 → length (drives_bytes ds) ≡ 64
all_long p ds e = joined_length drive_bytes 8 ds (drives_long ds) ∙ ap (λ n. 8 * n) e

channel_back : (c : Option SavedChannel) → AreWhole (c ∷ []) → channel_of (channel_bytes c) ≡ c
channel_back None w = refl
channel_back (Some c) w = go c.pending
  where
    bytes : List ℕ
    bytes = drives_bytes c.drives

    drives : (p : Option (ℕ × Csw)) → slice_range (pending_bytes p ++ bytes) (length (pending_bytes p) + 0) (length (pending_bytes p) + 64)
        ≡ bytes
    drives p = behind (pending_bytes p) bytes 0 64 ∙ take_all 64 bytes (omega (arith, all_long p c.drives w.0))

    go : (p : Option (ℕ × Csw)) → channel_of (channel_bytes (Some (record c { pending = p }))) ≡ Some (record c { pending = p })
    go None = ap (λ ds. Some (record { pending = None; drives = ds })) (ap drives_of (drives None) ∙ drives_back c.drives w.0)
    go (Some p) =
        ap (λ ds. Some (record { pending = pending_of (pending_bytes (Some p)); drives = ds })) (ap drives_of (drives (Some p))
        ∙ drives_back c.drives w.0)
        ∙ ap (λ p. Some (record { pending = p; drives = c.drives })) (pending_back (Some p))

-- All channels.

whole_first : (c : Option SavedChannel) (cs : List (Option SavedChannel)) → AreWhole (c ∷ cs) → AreWhole (c ∷ [])
whole_first None cs w = tt
whole_first (Some c) cs w = (w.0, tt)

whole_others : (c : Option SavedChannel) (cs : List (Option SavedChannel)) → AreWhole (c ∷ cs) → AreWhole cs
whole_others None cs w = w
whole_others (Some c) cs w = w.1

channels_long : (cs : List (Option SavedChannel)) → AreWhole cs → AreLong channel_bytes 75 cs
channels_long [] w = tt
channels_long (c ∷ cs) w = (channel_long c (whole_first c cs w), channels_long cs (whole_others c cs w))

whole_at : (cs : List (Option SavedChannel)) (k : ℕ) (c : Option SavedChannel) → AreWhole cs → slice_get cs k ≡ Some c → AreWhole (c ∷ [])
whole_at [] k c w h = absurd (cc)
whole_at (d ∷ cs) zero c w h = subst (λ c. AreWhole (c ∷ [])) (inside d c h) (whole_first d cs w)
whole_at (d ∷ cs) (suc k) c w h = whole_at cs k c (whole_others d cs w) h

channels_back : (cs : List (Option SavedChannel)) → length cs ≡ 7 → AreWhole cs → channels_of (channels_bytes cs) ≡ cs
unfolding channels_of
channels_back [] e w = absurd (omega (arith, e))
channels_back (a ∷ []) e w = absurd (omega (arith, e))
channels_back (a ∷ b ∷ []) e w = absurd (omega (arith, e))
channels_back (a ∷ b ∷ c ∷ []) e w = absurd (omega (arith, e))
channels_back (a ∷ b ∷ c ∷ d ∷ []) e w = absurd (omega (arith, e))
channels_back (a ∷ b ∷ c ∷ d ∷ f ∷ []) e w = absurd (omega (arith, e))
channels_back (a ∷ b ∷ c ∷ d ∷ f ∷ g ∷ []) e w = absurd (omega (arith, e))
channels_back (a ∷ b ∷ c ∷ d ∷ f ∷ g ∷ h ∷ []) e w =
    let all : List (Option SavedChannel) = a ∷ b ∷ c ∷ d ∷ f ∷ g ∷ h ∷ [] in
    in_front (at all 0 0 75 a w refl refl refl) (in_front (at all 1 75 150 b w refl refl refl)
    (in_front (at all 2 150 225 c w refl refl refl) (in_front (at all 3 225 300 d w refl refl refl)
    (in_front (at all 4 300 375 f w refl refl refl) (in_front (at all 5 375 450 g w refl refl refl)
    (in_front (at all 6 450 525 h w refl refl refl) refl))))))
  where
    at : (cs : List (Option SavedChannel)) (k from to : ℕ) (c : Option SavedChannel) → AreWhole cs → slice_get cs k ≡ Some c → from ≡ 75 * k
        → to ≡ from + 75 → channel_of (slice_range (channels_bytes cs) from to) ≡ c
    at cs k from to c w h e f =
        ap channel_of (part channel_bytes 75 cs k from to c (channels_long cs w) h e f) ∙ channel_back c (whole_at cs k c w h)
channels_back (a ∷ b ∷ c ∷ d ∷ f ∷ g ∷ h ∷ i ∷ cs) e w = absurd (omega (arith, e))

-- All of them, with what stands before and behind.

word_behind : (b w : List ℕ) (n : ℕ) → length b ≡ n → word_at (b ++ w) n ≡ word_at w 0
word_behind b w n e =
    four (at n 0 (sym (add-zero n))) (at (n + 1) 1 refl) (at (n + 2) 2 refl) (at (n + 3) 3 refl)
  where
    at : (i k : ℕ) → i ≡ n + k → slice_index (b ++ w) i ≡ slice_index w k
    at i k h = ap (slice_index (b ++ w)) (h ∙ ap (λ n. n + k) (sym e)) ∙ get_or-append-add b w k 0

    four : {a b c d a' b' c' d' : ℕ} → a ≡ a' → b ≡ b' → c ≡ c' → d ≡ d'
        → a * 16777216 + b * 65536 + c * 256 + d ≡ a' * 16777216 + b' * 65536 + c' * 256 + d'
    four p q r s = cc

reads : (bytes : List ℕ) (saved : List (Option SavedChannel)) → length bytes ≡ 538 → bytes_eq (take 8 bytes) (codes "DASDSAVE") ≡ true
    → slice_index bytes 8 ≡ 1 → word_at bytes 534 ≡ checksum (take 534 bytes) → channels_of (slice_range bytes 9 534) ≡ saved
    → bytes_eq (bytes_of saved) bytes ≡ true → read bytes ≡ Ok saved
reads bytes saved long begins version sum value same =
    go (nat_lt (length bytes) 9) (bytes_eq (take 8 bytes) (codes "DASDSAVE")) (slice_index bytes 8 == 1) (length bytes == 538)
    (word_at bytes 534 == checksum (take 534 bytes)) (read_value bytes (channels_of (slice_range bytes 9 534)))
    (ap (λ n. nat_lt n 9) long) begins (eq-eqb _ 1 version) (eq-eqb _ 538 long) (eq-eqb _ _ sum)
    (ap (read_value bytes) value ∙ ap (λ b. cond b (Ok saved) (Err NotSound)) same)
  where
    go : (a b c d e : Bool) (r : Result (List (Option SavedChannel)) BytesFault) → a ≡ false → b ≡ true → c ≡ true → d ≡ true → e ≡ true
        → r ≡ Ok saved
        → cond (a || not b) (Err NotSaved) (cond (not c) (Err OtherVersion) (cond (not d) (Err OtherLength)
        (cond (not e) (Err OtherSum) r)))
        ≡ Ok saved
    go true b c d e r p q s t u v = absurd (cc)
    go false false c d e r p q s t u v = absurd (cc)
    go false true false d e r p q s t u v = absurd (cc)
    go false true true false e r p q s t u v = absurd (cc)
    go false true true true false r p q s t u v = absurd (cc)
    go false true true true true r p q s t u v = v

bytes_are : (saved : List (Option SavedChannel)) → bytes_of saved ≡ (beginning ++ channels_bytes saved)
    ++ word_bytes (checksum (beginning ++ channels_bytes saved))
unfolding bytes_of
bytes_are saved = refl

pub written_is_read : (saved : List (Option SavedChannel)) → length saved ≡ 7 → AreWhole saved → read (bytes_of saved) ≡ Ok saved
written_is_read saved seven whole =
    reads (bytes_of saved) saved
    (ap length is ∙ (length-append body sum ∙ ap (λ n. n + 4) long))
    (ap (λ b. bytes_eq (take 8 b) (codes "DASDSAVE")) is)
    (ap (λ b. slice_index b 8) is)
    (ap (λ b. word_at b 534) is ∙ (word_behind body sum 534 long ∙ (word (checksum body)
    ∙ ap checksum (sym (ap (take 534) is ∙ first body sum 534 long)))))
    (ap (λ b. channels_of (slice_range b 9 534)) is ∙ (ap channels_of (behind beginning (inner ++ sum) 0 525
    ∙ first inner sum 525 inner_long) ∙ channels_back saved seven whole))
    ((bytes_eq-Decides (bytes_of saved) (bytes_of saved)).1 refl)
  where
    inner : List ℕ
    inner = channels_bytes saved

    body : List ℕ
    body = beginning ++ inner

    sum : List ℕ
    sum = word_bytes (checksum body)

    is : bytes_of saved ≡ body ++ sum
    is = bytes_are saved

    inner_long : length inner ≡ 525
    inner_long = joined_length channel_bytes 75 saved (channels_long saved whole) ∙ ap (λ n. 75 * n) seven

    long : length body ≡ 534
    long = length-append beginning inner ∙ ap (λ n. 9 + n) inner_long
