-- What a look comes to: one of these ways, and the same again for a command whose area was found.
use Rattle.std.proofs.Common.{◌≡◌, ap, refl, sym, subst, false, Option, Some, ◌∙◌}
use Rattle.std.proofs.lemmas.Bool.{cond_both}
use Rattle.std.specs.Prelude.{bit_and, not, ◌&&◌, ◌==◌, ◌+◌}
use Rattle.ckd_track.specs.Model.{heads_of}
use Rattle.ckd_track.specs.Track.{track_or_none}
use Rattle.ckd_track.specs.declared.geometries.Geometry.{Geometry}
use Rattle.ckd_position.specs.Areas.{next_of_kind}
use Rattle.ckd_position.specs.Contents.{Sighted, is_readable}
use Rattle.ckd_position.specs.declared.areas.Area.{Area}
use Rattle.ckd_position.specs.declared.areas.Next.{Next as NextArea}
use Rattle.ckd_position.specs.declared.areas.Next.TheVariants as next
use Rattle.ckd_position.specs.declared.areas.Position.TheVariants.{AtIndex}
use Rattle.ckd_sense.specs.Masks.{allows_head_change}
use Rattle.ckd_sense.specs.declared.sense_bytes.Sense.{Sense}
use Rattle.ckd_sense.specs.declared.sense_bytes.TheConstants.Sense as cause
use Rattle.ckd_command.specs.declared.registers.Registers.{Registers}
use Rattle.ckd_command.specs.declared.registers.Lap.{Lap}
use Rattle.ckd_command.specs.declared.registers.Lap.TheVariants.{First, Second}
use Rattle.ckd_command.specs.declared.tables.Aim.{Aim}
use Rattle.ckd_command.specs.declared.tables.Aim.TheVariants.{NoArea, Next, Credited}
use Rattle.ckd_command.specs.declared.begin.Opened.{Opened}
use Rattle.ckd_command.specs.Answers.{Sight, Found, IndexPassed, NextHead, Missed, moved_to}
use Rattle.ckd_command.specs.Tables.{aim, action_of, needs_readable}
use Rattle.ckd_command.specs.Commands.{sight, sight_of, look_for, next_head, turned, at_index, with_cause}

turning : (P : Sight → Type 0) (r : Registers) (l : Lap) → P (IndexPassed (record r { position = AtIndex; lap = Second }))
    → P (Missed (with_cause (at_index r) cause.NO_RECORD_FOUND)) → P (turned r l)
turning P r First passed missed = passed
turning P r Second passed missed = missed

-- a look that passes the index goes on by one of these ways; it fails for no fault of the store
pub passing : (P : Sight → Type 0) (g : Geometry) (o : Opened) (r : Registers)
    → P (IndexPassed (record r { position = AtIndex; lap = Second }))
    → ((r.head + 1 == heads_of g.model) ≡ false → P (NextHead (moved_to r r.cylinder (r.head + 1))))
    → ((c : Sense) → bit_and c.0 cause.EQUIPMENT_CHECK.0 ≡ 0 → P (Missed (with_cause (at_index r) c)))
    → P (sight_of g o r next.IndexPassed)
passing P g o r passed head missed =
    cond_both o.multi_track (next_head g r) (turned r r.lap) P
    (λ _. cond_both (not (allows_head_change r.file_mask)) _ _ P (λ _. missed cause.HEAD_CHANGE_NOT_ALLOWED refl)
    (λ _. cond_both (r.head + 1 == heads_of g.model) _ _ P (λ _. missed cause.END_OF_CYLINDER refl) head))
    (λ _. turning P r r.lap passed (missed cause.NO_RECORD_FOUND refl))

-- what holds of these ways holds of every look; it has a premise for each of them
pub sight_by : (P : Sight → Type 0) (g : Geometry) (t : Sighted) (o : Opened) (r : Registers) → P (Found o)
    → ((a : Area) → P (Found (record o { area = Some a })))
    → P (Missed (with_cause r cause.UNREADABLE_TRACK)) → P (IndexPassed (record r { position = AtIndex; lap = Second }))
    → ((r.head + 1 == heads_of g.model) ≡ false → P (NextHead (moved_to r r.cylinder (r.head + 1))))
    → ((c : Sense) → bit_and c.0 cause.EQUIPMENT_CHECK.0 ≡ 0 → P (Missed (with_cause (at_index r) c)))
    → P (sight g t o r)
unfolding sight
sight_by P g t o r had found unread passed head missed = go (aim o.command)
  where
    at : (n : NextArea) → P (sight_of g o r n)
    at (next.Found a) = found a
    at next.IndexPassed = passing P g o r passed head missed

    go : (a : Aim) → P (look_for g t o r a)
    go (Next kind) = cond_both (needs_readable (action_of o.command) && not (is_readable t)) _ _ P (λ _. unread)
        (λ _. at (next_of_kind (track_or_none t) r.position kind))
    go _ = had

-- a command that looks for no area has found it
pub sight_without : (g : Geometry) (t : Sighted) (o : Opened) (r : Registers) → aim o.command ≡ NoArea → sight g t o r ≡ Found o
unfolding sight
sight_without g t o r e = rw e refl

pub sight_credited : (g : Geometry) (t : Sighted) (o : Opened) (r : Registers) → aim o.command ≡ Credited → sight g t o r ≡ Found o
unfolding sight
sight_credited g t o r e = rw e refl

-- a command whose area was found finds it again: it is the same but for the area, which a look does not read
abbrev IsSameBut : Opened → Sight → Type 0
IsSameBut o (Found o') = o' ≡ record o { area = o'.area }
IsSameBut o _ = Unit {0}

same_sight : (g : Geometry) (o : Opened) (r : Registers) (a : Option Area) (n : NextArea) → sight_of g (record o { area = a }) r n
    ≡ sight_of g o r n
same_sight g o r a (next.Found b) = refl
same_sight g o r a next.IndexPassed = refl

again : (k : Aim) (g : Geometry) (t : Sighted) (o : Opened) (r : Registers) (a : Option Area) → Found (record o { area = a })
    ≡ look_for g t o r k → look_for g t (record o { area = a }) r k ≡ Found (record o { area = a })
again (Next kind) g t o r a e = rw (same_sight g o r a (next_of_kind (track_or_none t) r.position kind)) (sym e)
again _ g t o r a e = refl

pub look_again : (g : Geometry) (t : Sighted) (o o' : Opened) (r : Registers) → Found o' ≡ sight g t o r → (o'.command ≡ o.command)
    × (sight g t o' r ≡ Found o')
unfolding sight
look_again g t o o' r e =
    let same : o' ≡ record o { area = o'.area } = subst (IsSameBut o) (sym e) (sight_by (IsSameBut o) g t o r refl (λ a. refl) tt tt
    (λ _. tt) (λ c h. tt)) in
    let found = again (aim o.command) g t o r o'.area (ap Found (sym same) ∙ e) in
    (ap (λ (x : Opened). x.command) same, rw same found)
