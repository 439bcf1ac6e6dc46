-- Bytes that are put one behind another, and values that are equal place by place.
use Rattle.std.proofs.Common.{◌≡◌, ◌≤◌, ◌∙◌, ℕ, ap, arith, append_assoc, refl, sym, List, [], ◌∷◌, ◌++◌, length, take}
use Rattle.std.proofs.Common.{Option, None}
use Rattle.std.proofs.lemmas.List.{append-nil, length-take}
use Rattle.std.specs.Prelude.{slice_index_or}
use Rattle.attached_drives.specs.declared.drives_saved.SavedDrive.{SavedDrive}
use Rattle.s360_channel.specs.declared.saving.SavedChannel.{SavedChannel}
use Rattle.saved_state.specs.Bytes.{channel_bytes, channels_bytes, drive_bytes, drives_bytes}

-- one more in front of both
pub in_front : {A : Type 0} {x y : A} {xs ys : List A} → x ≡ y → xs ≡ ys → x ∷ xs ≡ y ∷ ys
in_front p q = cc

pub first_long : (bytes : List ℕ) (n m : ℕ) → length bytes ≡ m → n ≤ m → n ≡ length (take n bytes)
first_long bytes n m e h = grind (arith, length-take)

-- one behind another, with what follows both
pub step : (o o' r b rest : List ℕ) → o' ≡ o ++ r → r ≡ b → o' ++ rest ≡ o ++ (b ++ rest)
step o o' r b rest e q = ap (λ x. x ++ rest) (e ∙ ap (λ r. o ++ r) q) ∙ append_assoc o b rest

pub along : (o o' b rest : List ℕ) → o' ≡ o ++ b → o' ++ rest ≡ o ++ (b ++ rest)
along o o' b rest e = ap (λ x. x ++ rest) e ∙ append_assoc o b rest

-- all drives of a list of eight
pub eight_drives : (ds : List (Option (ℕ × SavedDrive))) → length ds ≡ 8
    → drive_bytes (slice_index_or ds 0 None) ++ (drive_bytes (slice_index_or ds 1 None) ++ (drive_bytes (slice_index_or ds 2 None)
    ++ (drive_bytes (slice_index_or ds 3 None) ++ (drive_bytes (slice_index_or ds 4 None) ++ (drive_bytes (slice_index_or ds 5 None)
    ++ (drive_bytes (slice_index_or ds 6 None) ++ (drive_bytes (slice_index_or ds 7 None) ++ [])))))))
    ≡ drives_bytes ds
eight_drives [] e = absurd (omega (arith, e))
eight_drives (a ∷ []) e = absurd (omega (arith, e))
eight_drives (a ∷ b ∷ []) e = absurd (omega (arith, e))
eight_drives (a ∷ b ∷ c ∷ []) e = absurd (omega (arith, e))
eight_drives (a ∷ b ∷ c ∷ d ∷ []) e = absurd (omega (arith, e))
eight_drives (a ∷ b ∷ c ∷ d ∷ f ∷ []) e = absurd (omega (arith, e))
eight_drives (a ∷ b ∷ c ∷ d ∷ f ∷ g ∷ []) e = absurd (omega (arith, e))
eight_drives (a ∷ b ∷ c ∷ d ∷ f ∷ g ∷ h ∷ []) e = absurd (omega (arith, e))
eight_drives (a ∷ b ∷ c ∷ d ∷ f ∷ g ∷ h ∷ i ∷ []) e = refl
eight_drives (a ∷ b ∷ c ∷ d ∷ f ∷ g ∷ h ∷ i ∷ j ∷ ds) e = absurd (omega (arith, e))

-- and all channels of a list of seven
pub seven_channels : (cs : List (Option SavedChannel)) → length cs ≡ 7
    → channel_bytes (slice_index_or cs 0 None) ++ (channel_bytes (slice_index_or cs 1 None) ++ (channel_bytes (slice_index_or cs 2 None)
    ++ (channel_bytes (slice_index_or cs 3 None) ++ (channel_bytes (slice_index_or cs 4 None) ++ (channel_bytes (slice_index_or cs 5 None)
    ++ (channel_bytes (slice_index_or cs 6 None) ++ []))))))
    ≡ channels_bytes cs
seven_channels [] e = absurd (omega (arith, e))
seven_channels (a ∷ []) e = absurd (omega (arith, e))
seven_channels (a ∷ b ∷ []) e = absurd (omega (arith, e))
seven_channels (a ∷ b ∷ c ∷ []) e = absurd (omega (arith, e))
seven_channels (a ∷ b ∷ c ∷ d ∷ []) e = absurd (omega (arith, e))
seven_channels (a ∷ b ∷ c ∷ d ∷ f ∷ []) e = absurd (omega (arith, e))
seven_channels (a ∷ b ∷ c ∷ d ∷ f ∷ g ∷ []) e = absurd (omega (arith, e))
seven_channels (a ∷ b ∷ c ∷ d ∷ f ∷ g ∷ h ∷ []) e = refl
seven_channels (a ∷ b ∷ c ∷ d ∷ f ∷ g ∷ h ∷ i ∷ cs) e = absurd (omega (arith, e))

-- three are put behind others, one behind another
pub three_puts : (o o0 o1 o2 a b c : List ℕ) → o0 ≡ o ++ a → o1 ≡ o0 ++ b → o2 ≡ o1 ++ c → o2 ≡ o ++ (a ++ (b ++ c))
three_puts o o0 o1 o2 a b c e0 e1 e2 = e2 ∙ (along o0 o1 b c e1 ∙ along o o0 a (b ++ c) e0)

three_in_front : (a b c rest : List ℕ) → (a ++ (b ++ c)) ++ rest ≡ a ++ (b ++ (c ++ rest))
three_in_front a b c rest = append_assoc a (b ++ c) rest ∙ ap (λ l. a ++ l) (append_assoc b c rest)

-- the bytes of all channels are put behind others: of three, of three more, and of the last
pub all_puts : (cs : List (Option SavedChannel)) (o o2 o5 o6 : List ℕ) → length cs ≡ 7
    → o2 ≡ o ++ (channel_bytes (slice_index_or cs 0 None) ++ (channel_bytes (slice_index_or cs 1 None)
    ++ channel_bytes (slice_index_or cs 2 None)))
    → o5 ≡ o2 ++ (channel_bytes (slice_index_or cs 3 None) ++ (channel_bytes (slice_index_or cs 4 None)
    ++ channel_bytes (slice_index_or cs 5 None)))
    → o6 ≡ o5 ++ channel_bytes (slice_index_or cs 6 None)
    → o6 ≡ o ++ channels_bytes cs
all_puts cs o o2 o5 o6 seven e2 e5 e6 =
    let b0 : List ℕ = channel_bytes (slice_index_or cs 0 None) in
    let b1 : List ℕ = channel_bytes (slice_index_or cs 1 None) in
    let b2 : List ℕ = channel_bytes (slice_index_or cs 2 None) in
    let b3 : List ℕ = channel_bytes (slice_index_or cs 3 None) in
    let b4 : List ℕ = channel_bytes (slice_index_or cs 4 None) in
    let b5 : List ℕ = channel_bytes (slice_index_or cs 5 None) in
    let b6 : List ℕ = channel_bytes (slice_index_or cs 6 None) in
    e6 ∙ (along o2 o5 (b3 ++ (b4 ++ b5)) b6 e5 ∙ (along o o2 (b0 ++ (b1 ++ b2)) ((b3 ++ (b4 ++ b5)) ++ b6) e2
    ∙ ap (λ l. o ++ l) (three_in_front b0 b1 b2 ((b3 ++ (b4 ++ b5)) ++ b6)
    ∙ (ap (λ l. b0 ++ (b1 ++ (b2 ++ l))) (three_in_front b3 b4 b5 b6 ∙ ap (λ l. b3 ++ (b4 ++ (b5 ++ l))) (sym (append-nil b6)))
    ∙ seven_channels cs seven))))
