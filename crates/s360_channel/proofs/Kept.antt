-- What the processor does to storage, at a channel and at the machine that it stands for; and a channel that finds another storage.
use Rattle.std.proofs.Common.{◌≡◌, ℕ, ◌+◌, refl, sym, ap, subst, ◌∙◌, true, false, Bool, cond, ◌||◌, ◌==◌, List, [], ◌∷◌, ◌++◌, length}
use Rattle.std.proofs.Common.{None, suc, ◌*◌, ◌/◌, ◌%◌, ◌≤◌, arith, ◌&&◌}
use Rattle.std.proofs.lemmas.Bool.{and_parts, eqb-true, lt-ltb}
use Rattle.std.proofs.lemmas.List.{length-set}
use Rattle.std.specs.Prelude.{nat_lt, nat_le, slice_set, ◌||◌}
use Rattle.s360_words.specs.Storage.{Storage, Change, Bytes, KeyOf, changed, is_within, is_size, overwritten}
use Rattle.s360_words.proofs.Overwriting.{length-overwritten}
use Rattle.s360_laws.proofs.Sizes.{keeps_size}
use Rattle.s360_laws.proofs.Standing.{goes_by}
use Rattle.s360_laws.specs.Scripts.{Outside}
use Rattle.s360_laws.specs.RunWrites.{OutcomeKeepsSize}
use Rattle.s360_program.proofs.Ties.{after_change, seen}
use Rattle.s360_laws.specs.Events.{Event, Store, SetKey, Show, Shown, WasKept}
use Rattle.s360_laws.specs.Machine.{Machine, react, keep, change, part_of, storage_of, start_of, with_device, with_subchannel, after_all}
use Rattle.s360_laws.specs.Machine.{plain}
use Rattle.s360_laws.specs.Machine as machine
use Rattle.s360_laws.proofs.LedgerLists.{stays}
use Rattle.s360_channel.specs.Calls.{DoesQuietly}
use Rattle.s360_channel.specs.Channel.{ChannelState, IsChannel, Shows, StandsFor, WorksFor}
use Rattle.s360_channel.specs.declared.subchannel.Subchannel.{Subchannel}
use Rattle.s360_channel.specs.declared.subchannel.Subchannel.TheVariants.{Idle, Working, Pending}
use Rattle.s360_channel.specs.Shares.{with_storage, FindsAnother, IsAsLarge, finding, keys_set}
use Rattle.s360_channel.proofs.Works.{storage_there, storage_seen, subchannel_of}

-- What the processor does to storage, at a channel and at the machine that it stands for.

-- Storage is as large in the channel as in the machine.

pub size_in : (c : ChannelState) (m : Machine) (s : Subchannel) → Shows c m s → length c.storage.bytes ≡ length m.storage.bytes
size_in c m Idle h = rw h.0 refl
size_in c m (Pending device csw) h = rw h.0 refl
size_in c m (Working place r) w =
    ap (λ s. length s.bytes) (sym (storage_seen r.key r.stage r.place c.storage w.attached.drive.state w.attached.drive.work))
    ∙ subst (OutcomeKeepsSize m.storage) (seen (start_of m w.drive) w.script r c.storage w.attached.drive w.runs)
    (keeps_size (start_of m w.drive) w.script)

within_size : (change : Change) (s t : Storage) → length s.bytes ≡ length t.bytes → is_within change s ≡ is_within change t
within_size (Bytes at bytes) s t e = ap (λ n. (length bytes == 0) || nat_le (at + length bytes) n) e
within_size (KeyOf at key) s t e = ap (nat_lt at) e

-- A change of storage.

shows_changed : (c : ChannelState) (m : Machine) (x : Change) (s : Subchannel) → Shows c m s → Shows (with_storage c (changed x c.storage))
    (change x m m.subchannel) s
shows_changed c m x Idle h = (ap (λ (m : Machine). change x m m.subchannel) h.0, h.1)
shows_changed c m x (Pending device csw) h = (ap (λ (m : Machine). change x m m.subchannel) h.0, h.1)
shows_changed c m x (Working place r) w = subst (λ s. WorksFor (with_storage c (changed x c.storage)) place r (change x m s))
    (sym (subchannel_of c place r m w)) (record {
      attached = w.attached;
      is_there = w.is_there;
      storage = w.storage;
      drive = w.drive;
      script = w.script ++ Outside x ∷ [];
      machine = ap (λ m. with_subchannel (machine.Working w.attached.device (w.script ++ Outside x ∷ [])) m) w.machine;
      runs = after_change goes_by (start_of m w.drive) w.script r c.storage w.attached.drive x w.runs;
      others = w.others;
    })

pub keeps : (e : Event) (x : Change) → ((m : Machine) → react e None m ≡ keep x m) → (c : ChannelState) (m : Machine) → StandsFor c m
    → DoesQuietly e m (WasKept (is_within x c.storage)) (with_storage c (cond (is_within x c.storage) (changed x c.storage) c.storage))
keeps e x is_keep c m h = go (is_within x c.storage) (within_size x m.storage c.storage (sym (size_in c m c.subchannel h.shows)))
  where
    reacts : (b : Bool) → is_within x m.storage ≡ b → react e None m ≡ cond b (WasKept true, change x m m.subchannel) (WasKept false, m)
    reacts b k = is_keep m ∙ rw k refl

    go : (b : Bool) → is_within x m.storage ≡ b → DoesQuietly e m (WasKept b) (with_storage c (cond b (changed x c.storage) c.storage))
    go true k = record {
      answers = rw (reacts true k) refl;
      stands = record {
        number = h.number;
        few = h.few;
        shows = rw (reacts true k) (shows_changed c m x c.subchannel h.shows);
        sound = stays m e None h.sound;
      };
    }
    go false k = record { answers = rw (reacts false k) refl; stands = rw (reacts false k) h }

-- A look at storage.

pub storage_in : (c : ChannelState) (m : Machine) → StandsFor c m → storage_of m m.subchannel ≡ c.storage
storage_in c m h = go c.subchannel h.shows
  where
    go : (s : Subchannel) → Shows c m s → storage_of m m.subchannel ≡ c.storage
    go Idle k = rw k.0 refl
    go (Pending device csw) k = rw k.0 refl
    go (Working place r) w = storage_there c place r m w h.sound

pub shows_part : (at len : ℕ) (c : ChannelState) (m : Machine) → StandsFor c m
    → DoesQuietly (Show at len) m (Shown (part_of c.storage at len)) c
shows_part at len c m h = record { answers = ap (λ s. Shown (part_of s at len)) (sym (storage_in c m h)); stands = h }

-- What a call that may refuse the change leaves and answers.

module _ (e : Event) (x : Change) (is_keep : (m : Machine) → react e None m ≡ keep x m) (c : ChannelState) (new : Storage) (kept ok : Bool)
    (within : kept ≡ is_within x c.storage) (becomes : new ≡ cond kept (changed x c.storage) c.storage) (told : ok ≡ kept) where
  pub does_kept : (m : Machine) → StandsFor c m → DoesQuietly e m (WasKept ok) (with_storage c new)
  does_kept m h = rw (becomes, told, within) (keeps e x is_keep c m h)

  pub channel_kept : IsChannel c → IsChannel (with_storage c new)
  channel_kept h = record { machine = (react e None h.machine).1; stands = (does_kept h.machine h.stands).stands }

-- and the size that it leaves
pub kept_size : (x : Change) (s new : Storage) (kept : Bool) → new ≡ cond kept (changed x s) s → length new.bytes ≡ length s.bytes
kept_size (Bytes at bytes) s new true e = ap (λ (s : Storage). length s.bytes) e ∙ length-overwritten s.bytes at bytes
kept_size (KeyOf at key) s new true e = ap (λ (s : Storage). length s.bytes) e
kept_size x s new false e = ap (λ (s : Storage). length s.bytes) e

-- A channel that finds another storage.

-- Bytes.

all_overwritten : (old new : List ℕ) → length new ≡ length old → overwritten old 0 new ≡ new
all_overwritten [] [] e = refl
all_overwritten [] (y ∷ ys) e = absurd (omega (arith, e))
all_overwritten (x ∷ xs) [] e = absurd (omega (arith, e))
all_overwritten (x ∷ xs) (y ∷ ys) e = ap (λ r. y ∷ r) (all_overwritten xs ys (omega (arith, e)))

within_all : (a b : ℕ) → a ≡ b → ((a == 0) || nat_le (0 + a) b) ≡ true
within_all a b e = search (arith, e)

-- Keys, one after another.

abbrev set_keys : List ℕ → ℕ → List ℕ → List ℕ
set_keys old block [] = old
set_keys old block (k ∷ ks) = set_keys (slice_set old block k) (block + 1) ks

step : (b : ℕ) → suc b + 1 ≡ suc (b + 1)
step b = omega arith

set_behind : (x : ℕ) (old : List ℕ) (block : ℕ) (ks : List ℕ) → set_keys (x ∷ old) (suc block) ks ≡ x ∷ set_keys old block ks
set_behind x old block [] = refl
set_behind x old block (k ∷ ks) = ap (λ n. set_keys (x ∷ slice_set old block k) n ks) (step block)
    ∙ set_behind x (slice_set old block k) (block + 1) ks

all_set : (old ks : List ℕ) → length ks ≡ length old → set_keys old 0 ks ≡ ks
all_set [] [] e = refl
all_set [] (k ∷ ks) e = absurd (omega (arith, e))
all_set (x ∷ xs) [] e = absurd (omega (arith, e))
all_set (x ∷ xs) (k ∷ ks) e = set_behind k xs 0 ks ∙ ap (λ r. k ∷ r) (all_set xs ks (omega (arith, e)))

block_of : (b : ℕ) → 2048 * b / 2048 ≡ b
block_of b = omega arith

keys_found : (ks : List ℕ) (block : ℕ) (c : ChannelState) (m : Machine) → block + length ks ≤ length c.storage.keys
    → length c.storage.bytes ≡ 2048 * length c.storage.keys
    → StandsFor c m → StandsFor (with_storage c (record c.storage { keys = set_keys c.storage.keys block ks }))
    (after_all (plain (keys_set block ks)) m)
keys_found [] block c m l e s = s
keys_found (k ∷ ks) block c m l e s =
    let one : Storage = record c.storage { keys = slice_set c.storage.keys block k } in
    let d = keeps (SetKey (2048 * block) k) (KeyOf (2048 * block) k) (λ m. refl) c m s in
    let there : StandsFor (with_storage c one) (react (SetKey (2048 * block) k) None m).1 =
    rw (lt-ltb (2048 * block) (length c.storage.bytes) (omega arith), block_of block) at d.stands in
    keys_found ks (block + 1) (with_storage c one) (react (SetKey (2048 * block) k) None m).1
    (rw length-set (omega arith)) (rw length-set e) there

pub finds_another : FindsAnother
finds_another c m s large h =
    let d = keeps (Store 0 s.bytes) (Bytes 0 s.bytes) (λ m. refl) c m h in
    let one : Storage = record c.storage { bytes = s.bytes } in
    let there : StandsFor (with_storage c one) (react (Store 0 s.bytes) None m).1 =
    rw (within_all (length s.bytes) (length c.storage.bytes) large.bytes, all_overwritten c.storage.bytes s.bytes large.bytes) at
    d.stands in
    subst (λ keys. StandsFor (with_storage c (record one { keys = keys })) (finding s m)) (all_set c.storage.keys s.keys large.keys)
    (keys_found s.keys 0 (with_storage c one) (react (Store 0 s.bytes) None m).1 (omega (arith, large.keys))
    (large.blocks ∙ ap (λ n. 2048 * n) large.keys) there)

-- what the code asks of two sizes
blocks_of : (n : ℕ) → is_size n ≡ true → n ≡ 2048 * (n / 2048)
blocks_of n h = let e = eqb-true (n % 2048) 0 (and_parts (nat_le 4096 n && nat_le n 16777216) _ h).1 in omega (arith, e)

-- two storages whose sizes are alike; by all that the code has read of both, a premise each
pub as_large : (s t : Storage) (a b : ℕ) → a ≡ length s.bytes → is_size a ≡ true → length s.keys ≡ a / 2048 → b ≡ length t.bytes
    → length t.keys ≡ b / 2048 → a ≡ b → IsAsLarge s t
as_large s t a b e z k f l h = record {
  bytes = sym e ∙ (h ∙ f);
  keys = k ∙ (ap (λ n. n / 2048) h ∙ sym l);
  blocks = sym e ∙ (blocks_of a z ∙ ap (λ n. 2048 * n) (sym k));
}
