-- Several channels between two programs as they are saved, and channels that are put back so.
use Rattle.std.specs.Prelude.{◌≡◌, ℕ, List, [], ◌∷◌, Option, Some, None, option_map, slice_index_or}
use Rattle.s360_words.specs.Storage.{Storage}
use Rattle.s360_laws.specs.Machine.{Machine}
use Rattle.s360_channel.specs.Channel.{StandsFor}
use Rattle.s360_channel.specs.Returns.{machine_saved}
use Rattle.s360_channel.specs.Saves.{machine_back, put_back, saved_of, why_not_back}
use Rattle.s360_channel.specs.Selector.{SelectorState, over}
use Rattle.s360_channel.specs.declared.saving.SavedChannel.{SavedChannel}
use Rattle.s360_channels.specs.Channels.{numbered}
use Rattle.s360_channels.specs.declared.faults.SavedFault.{SavedFault}
use Rattle.s360_channels.specs.declared.faults.SavedFault.TheVariants.{OtherChannels, Refused}

-- what is saved of a number's channel, if there is one; nothing is saved while a program runs
abbrev pub saved_at : Option SelectorState → Option (Option SavedChannel)
saved_at None = Some None
saved_at (Some c) = option_map Some (saved_of c)

-- one more in front of those that are saved behind it
abbrev pub with_first : Option (Option SavedChannel) → Option (List (Option SavedChannel)) → Option (List (Option SavedChannel))
with_first None others = None
with_first (Some first) others = option_map (λ others. first ∷ others) others

-- all of them by their numbers, if no program runs
abbrev pub all_saved : List (Option SelectorState) → Option (List (Option SavedChannel))
all_saved [] = Some []
all_saved (c ∷ cs) = with_first (saved_at c) (all_saved cs)

-- why a number's channel is not put back: it was saved, and there is none, or the other way round; or the channel refuses it
abbrev pub why_not_at : Option SavedChannel → Option SelectorState → Option SavedFault
why_not_at None None = None
why_not_at None (Some c) = Some OtherChannels
why_not_at (Some saved) None = Some OtherChannels
why_not_at (Some saved) (Some c) = option_map Refused (why_not_back saved c)

-- the first reason, if there is one
abbrev pub first_of : Option SavedFault → Option SavedFault → Option SavedFault
first_of None others = others
first_of (Some why) others = Some why

-- why they are not put back, in the order of their numbers
abbrev pub why_not_all : List (Option SavedChannel) → List (Option SelectorState) → Option SavedFault
why_not_all [] cs = None
why_not_all (saved ∷ others) [] = None
why_not_all (saved ∷ others) (c ∷ cs) = first_of (why_not_at saved c) (why_not_all others cs)

-- a number's channel as it was saved
abbrev pub back_at : Option SavedChannel → Option SelectorState → Option SelectorState
back_at None c = c
back_at (Some saved) c = option_map (put_back saved) c

-- all of them
abbrev pub all_back : List (Option SavedChannel) → List (Option SelectorState) → List (Option SelectorState)
all_back [] cs = cs
all_back (saved ∷ others) [] = []
all_back (saved ∷ others) (c ∷ cs) = back_at saved c ∷ all_back others cs

-- The same of machines, one for each channel, over whatever storage.

-- a number's channel over this storage stands for a machine; where there is no such channel, nothing does
abbrev pub StandsAt : Option SelectorState → Storage → Machine → Type 0
StandsAt None s m = ⊥
StandsAt (Some c) s m = StandsFor (over c s) m

-- what is saved by the channels' numbers is what is saved of every machine that a channel stands for
abbrev pub AllShow : List (Option SavedChannel) → List (Option SelectorState) → Type 0
AllShow saved cs = (number : ℕ) (s : Storage) (m : Machine) → StandsAt (numbered number cs) s m
    → Some (slice_index_or saved number None) ≡ option_map Some (machine_saved m)

-- a machine as its channel was saved, if that was
abbrev pub machine_back_at : Option SavedChannel → Machine → Machine
machine_back_at None m = m
machine_back_at (Some saved) m = machine_back saved m

-- each channel stands for the machine as it was saved, of every machine that it stood for
abbrev pub AllStandBack : List (Option SavedChannel) → (old new : List (Option SelectorState)) → Type 0
AllStandBack saved old new = (number : ℕ) (s : Storage) (m : Machine) → StandsAt (numbered number old) s m
    → StandsAt (numbered number new) s (machine_back_at (slice_index_or saved number None) m)
