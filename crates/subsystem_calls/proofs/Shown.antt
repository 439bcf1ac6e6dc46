-- A channel's view says whose program runs.
use Rattle.std.proofs.Common.{◌≡◌, ◌∙◌, ap, refl, ℕ, Bool, false, Option, Some, None}
use Rattle.s360_words.specs.Storage.{Storage}
use Rattle.s360_laws.specs.Machine as machine
use Rattle.s360_channel.specs.Channel.{ChannelState}
use Rattle.s360_channel.specs.Packs.{runs_at}
use Rattle.s360_channel.specs.Views.{subchannel_seen}
use Rattle.s360_channel.specs.declared.view.View.{View}
use Rattle.s360_channels.specs.Asked.{ShowsAt}
use Rattle.subsystem_calls.specs.Shown.{WorksAt, is_working}

abbrev works_in : (device : ℕ) → Option View → Bool
works_in device None = false
works_in device (Some view) = is_working device view.subchannel

works_seen : (device : ℕ) (m : machine.Machine) (s : machine.Subchannel) → is_working device (subchannel_seen m s) ≡ runs_at device s
works_seen device m machine.Idle = refl
works_seen device m (machine.Working d script) = refl
works_seen device m (machine.Pending d csw) = refl

pub works_at : (s : Storage) (device : ℕ) (o : Option ChannelState) (seen : Option View) → ShowsAt seen s o
    → WorksAt (works_in device seen) s device o
works_at s device None None h = refl
works_at s device None (Some view) h = absurd h
works_at s device (Some c) None h = absurd h
works_at s device (Some c) (Some view) h = λ m stands.
    ap (λ (v : View). is_working device v.subchannel) (h m stands) ∙ works_seen device m m.subchannel
