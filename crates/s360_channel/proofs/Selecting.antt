-- A selector over each storage that it is lent.
use Rattle.std.proofs.Common.{◌≡◌, ℕ, ◌/◌, refl, sym, ap, ◌∙◌, length, true, None}
use Rattle.s360_words.specs.Storage.{Storage, is_size}
use Rattle.s360_storage.specs.Kept.{KeepsStorage}
use Rattle.s360_laws.specs.Events.{Event, Answer}
use Rattle.s360_laws.specs.Machine.{Machine, react}
use Rattle.s360_channel.specs.Calls.{Does, DoesQuietly, CallsAtMost}
use Rattle.s360_channel.specs.Channel.{ChannelState, IsChannel, StandsFor}
use Rattle.s360_channel.specs.Selector.{SelectorState, IsSelector, IsOver, over}
use Rattle.s360_channel.specs.Shares.{finding, with_storage}
use Rattle.s360_channel.proofs.Kept.{as_large, finds_another}

-- over each storage of its size a selector is a channel; by what the code has read of the storage, a premise each
pub is_over : (c : SelectorState) (s : Storage) (a : ℕ) → IsSelector c → a ≡ length s.bytes → is_size a ≡ true
    → length s.keys ≡ a / 2048 → length s.bytes ≡ c.size → IsOver c s
is_over c s a h e z k l =
    let before = h.is_over in
    let large = as_large s h.storage a c.size e z k (sym before.size) before.keys (e ∙ l) in
    record {
      size = l;
      keys = k ∙ ap (λ n. n / 2048) (e ∙ l);
      channel = record {
        machine = finding s before.channel.machine;
        stands = finds_another (over c h.storage) before.channel.machine s large before.channel.stands;
      };
    }

-- what a call leaves is a selector, where over the storage that it leaves it is a channel,
pub still_selector : (old new : SelectorState) (s t : Storage) → IsOver old s → new.size ≡ old.size → KeepsStorage s t
    → IsChannel (over new t) → IsSelector new
still_selector old new s t h same keeps is = record {
  storage = t;
  is_over = record {
    size = keeps.size ∙ (h.size ∙ sym same);
    keys = ap length keeps.keys ∙ (h.keys ∙ ap (λ n. n / 2048) (sym same));
    channel = is;
  };
}

-- where it needs no storage,
pub still_over : (old new : SelectorState) (h : IsSelector old) → new.size ≡ old.size → IsChannel (over new h.storage) → IsSelector new
still_over old new h same is = still_selector old new h.storage h.storage h.is_over same (record { size = refl; keys = refl }) is

-- where it does what an event without a fault does,
pub quiet_selector : (e : Event) (answer : Answer) (old new : SelectorState) (s t : Storage) → IsOver old s → new.size ≡ old.size
    → KeepsStorage s t → ((m : Machine) → StandsFor (over old s) m → DoesQuietly e m answer (over new t)) → IsSelector new
quiet_selector e answer old new s t h same keeps does =
    let m = h.channel.machine in
    still_selector old new s t h same keeps (record { machine = (react e None m).1; stands = (does m h.channel.stands).stands })

-- and with one
pub does_selector : (e : Event) (answer : Answer) (most : ℕ) (old new : SelectorState) (s t : Storage) → IsOver old s
    → new.size ≡ old.size → KeepsStorage s t
    → ((m : Machine) → StandsFor (over old s) m → Does e m answer (over old s) (over new t) × CallsAtMost most (over old s) (over new t))
    → IsSelector new
does_selector e answer most old new s t h same keeps does =
    let m = h.channel.machine in
    let d = (does m h.channel.stands).0 in
    still_selector old new s t h same keeps (record { machine = (react e d.fault m).1; stands = d.stands })

-- calls of the stores don't depend on the storage
pub calls_over : (most : ℕ) (old new : ChannelState) (s t : Storage) → CallsAtMost most old new
    → CallsAtMost most (with_storage old s) (with_storage new t)
calls_over most old new s t h =
    record { calls = h.calls; failures = h.failures; lasting = h.lasting; geometries = h.geometries }
