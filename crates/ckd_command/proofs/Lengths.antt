-- How many bytes pass in a command: it gives all those of its area, and no command gets shorter by bytes that pass.
use Rattle.std.proofs.Common.{◌≡◌, ◌⊎◌, inl, inr, ℕ, ◌+◌, ◌≤◌, refl, sym, ap, ◌∙◌, arith, true, false, Bool, not, ◌||◌, List, ◌++◌, nat_lt}
use Rattle.std.proofs.Common.{length, length-append}
use Rattle.std.specs.Prelude.{if◌then◌else◌, slice_index}
use Rattle.std.proofs.lemmas.Bool.Decides.{nat_tests}
use Rattle.std.proofs.lemmas.List.{get_or_append_left}
use Rattle.ckd_command.specs.declared.registers.Registers.{Registers}
use Rattle.ckd_command.specs.declared.tables.Action.{Action}
use Rattle.ckd_command.specs.declared.tables.Action.TheVariants as action
use Rattle.ckd_command.specs.declared.begin.Opened.{Opened}
use Rattle.ckd_command.specs.Tables.{action_of, is_giving}
use Rattle.ckd_command.specs.Commands.{format_length, length_for, length_after, new_record_fits}
use Rattle.ckd_command.specs.Drive.{Open, gives, given, length_of, track_under}
use Rattle.ckd_position.specs.Contents.{Sighted}
use Rattle.ckd_track.specs.Track.{key_length, data_length, body_length}
use Rattle.ckd_track.specs.declared.geometries.Geometry.{Geometry}

pub length_by : (a : Action) (g : Geometry) (t : Sighted) (o : Opened) (r : Registers) (b : List ℕ) → action_of o.command ≡ a
    → length_after g t o r b ≡ length_for a g t o r b
unfolding length_after
length_by a g t o r b is = rw is refl

length_in : (a : Action) (o : Open) (b : List ℕ) → action_of o.opened.command ≡ a → length_of o b ≡ length_for a o.state.volume.geometry
    (track_under o.state) o.opened o.state.registers b
length_in a o b is = length_by a o.state.volume.geometry (track_under o.state) o.opened o.state.registers b is

-- what a command gives is the whole of its area
pub gives_length : (o : Open) (b : List ℕ) → gives o ≡ true → length_of o b ≡ length (given o)
gives_length o b g = go (action_of o.opened.command) refl g
  where
    go : (a : Action) → action_of o.opened.command ≡ a → is_giving a ≡ true → length_of o b ≡ length (given o)
    go action.GiveSense e h = length_in action.GiveSense o b e
    go action.Read e h = length_in action.Read o b e
    go _ e h = cc

eight_least : (c : Bool) (n : ℕ) → 8 ≤ (if c then 8 else 8 + n)
eight_least true n = omega arith
eight_least false n = omega arith

-- the count bytes give the lengths, whatever comes behind them
pub record SameCount (b more : List ℕ) : Type 0 where
  pub short : nat_lt (length (b ++ more)) 8 ≡ false
  pub key : key_length (b ++ more) ≡ key_length b
  pub bytes : data_length (b ++ more) ≡ data_length b

pub same_count : (b more : List ℕ) → 8 ≤ length b → SameCount b more
same_count b more long =
    let sum : length (b ++ more) ≡ length b + length more = length-append b more in
    let six : slice_index (b ++ more) 6 ≡ slice_index b 6 = get_or_append_left b more 0 6 (omega arith) in
    let seven : slice_index (b ++ more) 7 ≡ slice_index b 7 = get_or_append_left b more 0 7 (omega arith) in
    record { short = grind (arith, nat_tests); key = get_or_append_left b more 0 5 (omega arith); bytes = rw (six, seven) refl }

-- the length of a formatting write is 8, until the count area gives it, which later bytes do not change
format_stays : (g : Geometry) (t : Sighted) (o : Opened) (b more : List ℕ) → nat_lt (length b) 8 ≡ false
    → format_length g t o b ≡ format_length g t o (b ++ more)
format_stays g t o b more k =
    let s = same_count b more (grind (arith, nat_tests)) in
    rw (k, s.short, s.key, s.bytes) refl

format_eight : (g : Geometry) (t : Sighted) (o : Opened) (b : List ℕ) → nat_lt (length b) 8 ≡ true → format_length g t o b ≡ 8
format_eight g t o b k = ap (λ s. if s || not (new_record_fits g t o b) then 8 else 8 + body_length b) k

-- with more bytes the length is the same; or it was 8, and is no less than that
record Changes (before after : ℕ) : Type 0 where
  grows : before ≤ after
  stays : (before ≡ 8) ⊎ (before ≡ after)

length_changes : (o : Open) (b more : List ℕ) → Changes (length_of o b) (length_of o (b ++ more))
length_changes o b more = go (action_of o.opened.command) refl
  where
    G : Geometry
    G = o.state.volume.geometry

    T : Sighted
    T = track_under o.state

    same : (a : Action) → action_of o.opened.command ≡ a → length_for a G T o.opened o.state.registers b
        ≡ length_for a G T o.opened o.state.registers (b ++ more)
        → Changes (length_of o b) (length_of o (b ++ more))
    same a e h = let is = length_in a o b e ∙ h ∙ sym (length_in a o (b ++ more) e) in record { grows = omega (arith, is); stays = inr is }

    formats : action_of o.opened.command ≡ action.Format → (short : Bool) → nat_lt (length b) 8 ≡ short
        → Changes (length_of o b) (length_of o (b ++ more))
    formats e true k =
        let eight = length_in action.Format o b e ∙ format_eight G T o.opened b k in
        let least = eight_least (nat_lt (length (b ++ more)) 8 || not (new_record_fits G T o.opened (b ++ more)))
        (body_length (b ++ more)) in
        record { grows = rw (eight, length_in action.Format o (b ++ more) e) least; stays = inl eight }
    formats e false k = same action.Format e (format_stays G T o.opened b more k)

    go : (a : Action) → action_of o.opened.command ≡ a → Changes (length_of o b) (length_of o (b ++ more))
    go action.Format e = formats e (nat_lt (length b) 8) refl
    go _ e = same _ e refl

pub length_grows : (o : Open) (b more : List ℕ) → length_of o b ≤ length_of o (b ++ more)
length_grows o b more = (length_changes o b more).grows

-- a length that bytes change is that of a count area
pub length_stays : (o : Open) (b more : List ℕ) → (length_of o b ≡ 8) ⊎ (length_of o b ≡ length_of o (b ++ more))
length_stays o b more = (length_changes o b more).stays
