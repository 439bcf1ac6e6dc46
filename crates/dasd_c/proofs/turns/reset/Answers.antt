use Rattle.std.proofs.Common.{rules, ◌≡◌, ℤ, refl, sym, subst, w32}
use Rattle.std.proofs.lemmas.Int.{to_z-of_z}
use Rattle.s360_channels.specs.Channels.{OnChannel, ResetsTo}
use Rattle.s360_channels.specs.Selectors.{across}
use Rattle.subsystem_calls.specs.Codes.{no_channel}
use Rattle.subsystem_calls.proofs.OtherWords.{nobody, there}
use Rattle.dasd_c.specs.declared.turns.Track.{Track}
use Rattle.dasd_c.specs.Calls.{ResetsFor}
use Rattle.dasd_c.proofs.turns.reset.Goals as goal

abbrev Lacking : (code : ℤ) → (before named : Track) → Type 0
Lacking code before named = (code ≡ no_channel) × (named ≡ before)

-- the track that the channel could not save
pub returns-in-Some-clause-does : goal.returns-in-Some-clause-does
returns-in-Some-clause-does c = λ s.
    let code = c.of_unsaved.result in let before = c.args.unsaved.now in let named = c.of_unsaved.new.unsaved in
    subst (λ (code : ℤ). OnChannel c.args.channel (ResetsFor code before named) (Lacking code before named) (across c.args.channels.now s)
    (across c.reset.new.self s))
    (sym (to_z-of_z w32 code (search rules)))
    (there ResetsTo c.args.channel (across c.args.channels.now s) (across c.reset.new.self s) (ResetsFor code before named)
    (Lacking code before named)
    c.reset.result c.in-Some.reset c.in-Some.is (λ b d h. record {
      unsaved = c.in-Some.reset.unsaved;
      told = c.of_unsaved.ensures.told;
      names = c.of_unsaved.ensures.named;
      resets = h;
    }) (c.reset.ensures.does s))

-- there is no such channel
pub returns-in-None-clause-does : goal.returns-in-None-clause-does
returns-in-None-clause-does c = λ s.
    nobody ResetsTo c.args.channel (across c.args.channels.now s) (across c.reset.new.self s)
    (ResetsFor no_channel c.args.unsaved.now c.args.unsaved.now) (Lacking no_channel c.args.unsaved.now c.args.unsaved.now)
    c.reset.result c.in-None.is (λ b d h. h) (refl, refl) (c.reset.ensures.does s)
