-- Where a running program stands.
use Rattle.std.proofs.Common.{◌≡◌, ℕ, ◌-◌, refl, sym, ap, subst, ◌∙◌, arith, Option, None, Some, [], ◌++◌, append_assoc, append-nil}
use Rattle.s360_words.specs.Words.{caw_of}
use Rattle.s360_words.specs.declared.words.Caw.{Caw}
use Rattle.s360_laws.specs.Endings.{Ended, NotEnded, Standing}
use Rattle.s360_laws.specs.Laws.{StandsAtStart, StandsAfterWalk, walked_on, EndsAfterWalk, StandsSomewhere}
use Rattle.s360_laws.specs.Runs.{Start, run, run_from, start_point}
use Rattle.s360_laws.specs.Scripts.{units_in, Script}
use Rattle.s360_laws.specs.Units.{StandsAt, walk, Walk, outcome_of, ProgramPhase, standing_in, Between, StandsIn, EndsWith}
use Rattle.s360_laws.proofs.Walks.{run_is_walk, walks_on, run_walk}

-- a program stands at its start point as it begins
pub begins : StandsAtStart
begins s caw h more = run_is_walk s caw more h

-- it goes on by any walk, to the next phase
pub goes_by : StandsAfterWalk
goes_by s script more key f g h w k =
    subst (λ l. run l s ≡ outcome_of l key (walk k key g)) (sym (append_assoc script more k))
    (h (more ++ k) ∙ ap (outcome_of (script ++ (more ++ k)) key) (walks_on more k key f ∙ ap (λ w. walked_on w key k) w))

-- or to its end
pub ends_by : EndsAfterWalk
ends_by s script more key f st e h w =
    let used : units_in (script ++ more) - 0 ≡ units_in (script ++ more) = omega arith in
    h more ∙ ap (outcome_of (script ++ more) key) w ∙ ap (λ u. Ended u st e) used

-- its run is what is seen there
pub seen_there : (s : Start) (script : Script) (key : ℕ) (g : ProgramPhase) → StandsAt s script key g
    → run script s ≡ NotEnded (standing_in key g)
seen_there s script key g h = ap (λ l. run l s) (sym (append-nil script)) ∙ h []

-- A program that did not end stands somewhere.

-- where a walk from its start leads
pub record StandsBy (s : Start) (script : Script) (seen : Standing) : Type 0 where
  pub caw : Caw
  pub phase : ProgramPhase
  pub is_caw : caw_of s.caw ≡ Some caw
  pub walks : walk script caw.key (Between (start_point caw s)) ≡ StandsIn phase
  pub seen_is : seen ≡ standing_in caw.key phase

pub stands_by_walk : (s : Start) (script : Script) (seen : Standing) → run script s ≡ NotEnded seen → StandsBy s script seen
stands_by_walk s script seen r = from (caw_of s.caw) refl r
  where
    go : (caw : Caw) → caw_of s.caw ≡ Some caw → (w : Walk) → walk script caw.key (Between (start_point caw s)) ≡ w
        → outcome_of script caw.key w ≡ NotEnded seen → StandsBy s script seen
    go caw at (StandsIn g) h k = record { caw = caw; phase = g; is_caw = at; walks = h; seen_is = cc }
    go caw at (EndsWith rest st e) h k = absurd (cc)

    from : (c : Option Caw) → caw_of s.caw ≡ c → run_from script s c ≡ NotEnded seen → StandsBy s script seen
    from None at r = absurd (cc)
    from (Some caw) at r = go caw at (walk script caw.key (Between (start_point caw s))) refl (sym (run_walk s caw script) ∙ r)

pub stands_somewhere : StandsSomewhere
stands_somewhere s script seen r =
    let y = stands_by_walk s script seen r in
    (y.caw.key, y.phase, goes_by s [] script y.caw.key (Between (start_point y.caw s)) y.phase (begins s y.caw y.is_caw) y.walks, y.seen_is)
