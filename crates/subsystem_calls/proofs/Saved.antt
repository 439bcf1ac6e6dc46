-- What is told of channels that are saved.
use Rattle.std.proofs.Common.{◌≡◌, ◌≤◌, ◌∙◌, ap, inl, refl, ℕ, List, ◌++◌, drop, length, Option, Some, None}
use Rattle.std.specs.Prelude.{option_map, pos, unwrap_or}
use Rattle.s360_channel.specs.declared.saving.SavedChannel.{SavedChannel}
use Rattle.saved_state.specs.Bytes.{bytes_of}
use Rattle.subsystem_calls.specs.States.{TellsSaved}

-- the bytes stand first, and the others stay
pub told : (x : Option (List (Option SavedChannel))) (items old new : List ℕ) (before : ℕ) → Some items ≡ option_map bytes_of x
    → 538 ≤ length old → new ≡ items → TellsSaved x (pos 0) old (new ++ drop 538 old) before 538
told None items old new before e room is = absurd (cc)
told (Some saved) items old new before e room is = inl (record {
  done = refl;
  room = room;
  bytes = ap (λ b. b ++ drop 538 old) (is ∙ ap (λ o. unwrap_or o items) e);
  told = refl;
})
