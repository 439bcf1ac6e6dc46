-- Channels as they were saved, and the machines that they stand for.
use Rattle.std.proofs.Common.{◌≡◌, ℕ, zero, suc, ◌∙◌, ap, sym, subst, List, [], ◌∷◌, Option, Some, None, IfSome}
use Rattle.std.specs.Prelude.{option_map, slice_index_or}
use Rattle.s360_words.specs.Storage.{Storage}
use Rattle.s360_laws.specs.Machine.{Machine}
use Rattle.s360_channel.specs.Returns.{machine_saved}
use Rattle.s360_channel.specs.Selector.{SelectorState}
use Rattle.s360_channel.specs.declared.saving.SavedChannel.{SavedChannel}
use Rattle.attached_drives.proofs.Places.{none_is_some}
use Rattle.s360_channel.proofs.Returning.{saved_there}
use Rattle.s360_channel.proofs.Saved.{clear, stands_back}
use Rattle.s360_channels.specs.Channels.{numbered}
use Rattle.s360_channels.specs.Saves.{AllShow, AllStandBack, StandsAt, all_back, all_saved, back_at, machine_back_at, saved_at}
use Rattle.s360_channels.specs.Saves.{why_not_all, why_not_at, with_first}
use Rattle.s360_channels.proofs.BackFits.{none_first, not_refused}

one_stands : (v : Option SavedChannel) (x : Option SelectorState) (s : Storage) (m : Machine) → why_not_at v x ≡ None → StandsAt x s m
    → StandsAt (back_at v x) s (machine_back_at v m)
one_stands None None s m h st = st
one_stands None (Some c) s m h st = st
one_stands (Some v) None s m h st = none_is_some (sym h)
one_stands (Some v) (Some c) s m h st = stands_back v c s (clear v c (not_refused _ h)) m st

stand : (saved : List (Option SavedChannel)) (cs : List (Option SelectorState)) → why_not_all saved cs ≡ None
    → AllStandBack saved cs (all_back saved cs)
stand [] cs h zero s m st = st
stand [] cs h (suc k) s m st = st
stand (v ∷ vs) [] h zero s m st = absurd st
stand (v ∷ vs) [] h (suc k) s m st = absurd st
stand (v ∷ vs) (c ∷ cs) h zero s m st = one_stands v c s m (none_first _ _ h).0 st
stand (v ∷ vs) (c ∷ cs) h (suc k) s m st = stand vs cs (none_first _ _ h).1 k s m st

-- channels that were put back stand for the machines as they were saved
pub all_stand : (saved : List (Option SavedChannel)) (cs new : List (Option SelectorState)) → why_not_all saved cs ≡ None
    → new ≡ all_back saved cs → AllStandBack saved cs new
all_stand saved cs new h e = subst (AllStandBack saved cs) (sym e) (stand saved cs h)

one_shown : (c : Option SelectorState) (v : Option SavedChannel) (s : Storage) (m : Machine) → Some v ≡ saved_at c → StandsAt c s m
    → Some v ≡ option_map Some (machine_saved m)
one_shown None v s m h st = absurd st
one_shown (Some c) v s m h st = h ∙ ap (option_map Some) (saved_there c s m st)

first_is : (x : Option (Option SavedChannel)) (r : Option (List (Option SavedChannel))) (v : Option SavedChannel)
    (vs : List (Option SavedChannel)) → Some (v ∷ vs) ≡ with_first x r → (Some v ≡ x) × (Some vs ≡ r)
first_is None r v vs h = none_is_some (sym h)
first_is (Some w) None v vs h = none_is_some (sym h)
first_is (Some w) (Some ws) v vs h = (cc, cc)

none_behind : (x : Option (Option SavedChannel)) (r : Option (List (Option SavedChannel))) → Some [] ≡ with_first x r → ⊥
none_behind None r h = none_is_some (sym h)
none_behind (Some w) None h = none_is_some (sym h)
none_behind (Some w) (Some ws) h = absurd (cc)

shown : (saved : List (Option SavedChannel)) (cs : List (Option SelectorState)) → Some saved ≡ all_saved cs → AllShow saved cs
shown saved [] h zero s m st = absurd st
shown saved [] h (suc k) s m st = absurd st
shown [] (c ∷ cs) h k s m st = absurd (none_behind _ _ h)
shown (v ∷ vs) (c ∷ cs) h zero s m st = one_shown c v s m (first_is _ _ v vs h).0 st
shown (v ∷ vs) (c ∷ cs) h (suc k) s m st = shown vs cs (first_is _ _ v vs h).1 k s m st

-- what is saved of channels is what is saved of their machines
pub all_shown : (saved : Option (List (Option SavedChannel))) (cs : List (Option SelectorState)) → saved ≡ all_saved cs
    → IfSome saved (λ saved. AllShow saved cs)
all_shown None cs h = tt
all_shown (Some saved) cs h = shown saved cs h
