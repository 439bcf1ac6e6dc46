use Rattle.std.proofs.Common.{◌≡◌, ◌∙◌, ◌⊎◌, ℕ, List, Option, Result, Err, inl, inr, refl, sym, subst}
use Rattle.std.proofs.lemmas.Bool.{false≢true}
use Rattle.std.proofs.lemmas.Result.{err_from_is_err_and}
use Rattle.std.specs.Global.{Vec}
use Rattle.counted_io.specs.Streams.{Stream}
use Rattle.dasd_jobs.specs.Sources.{SourceFile}
use Rattle.s360_assembler.specs.Assembled.{assembled}
use Rattle.s360_assembler.specs.declared.fault.AssemblyFault.{AssemblyFault}
use Rattle.s360_assembler.specs.declared.fault.AssemblyFault.TheVariants as assembly
use Rattle.s360_assembler.specs.declared.files.LoadableFile.{LoadableFile}
use Rattle.program_faults.specs.declared.fault.ProgramFault.{ProgramFault}
use Rattle.program_faults.specs.declared.fault.ProgramFault.TheVariants as fault
use Rattle.dasd_run.specs.Loads.{NotLoaded}
use Rattle.dasd_run.specs.Words.{NotAssembled, TellsNotLoaded, MakesDeck, AssemblesText}
use Rattle.dasd_run.proofs.words.print_deck.Goals as goal

same_fault : (f other : AssemblyFault) → ◌≡◌ {A = Result (Vec ℕ) AssemblyFault} (Err f) (Err other) → other ≡ f
same_fault f other same = cc

-- a text whose deck is not made, though there was memory
not_made : (told : ProgramFault) (path : Option (List ℕ)) (f : AssemblyFault) (text : List ℕ) (before now : List SourceFile)
    (printed : Stream) → ((loaded : List LoadableFile) → assembled loaded text ≡ Err f → NotAssembled told path loaded text)
    → ((loaded : List LoadableFile) → NotLoaded f loaded → TellsNotLoaded told path loaded text) → (f ≡ assembly.OutOfMemory → ⊥)
    → MakesDeck (Err f) text before now → AssemblesText (Err told) path text before now printed printed
not_made told path f text before now printed tells tells_short other (inl made) =
    inl (made.0, made.1, inr (told, refl, tells made.0 (found made.2), refl))
  where
    found : (f ≡ assembly.OutOfMemory) ⊎ (assembled made.0 text ≡ Err f) → assembled made.0 text ≡ Err f
    found (inl memory) = absurd (other memory)
    found (inr same) = same
not_made told path f text before now printed tells tells_short other (inr short) =
    inr (
      told,
      short.1,
      short.2,
      refl,
      short.4,
      tells_short short.2 (subst (λ (f : AssemblyFault). NotLoaded f short.2) (same_fault f short.0 short.3) short.5),
      refl,
    )

pub returns-clause-assembles : goal.returns-clause-assembles
returns-clause-assembles g c =
    let name = c.in_ok-source_name.ensures.name in
    not_made _ _ c.in-Err.fault _ _ _ _ (λ loaded same. (name, same)) (λ loaded why. (name, why))
    (λ memory. false≢true (sym c.if-eq.false ∙ (rw memory at c.eq.ensures))) c.in-Err.ensures.made

-- there is no memory for the text's name
pub returns-in_err-source_name-clause-assembles : goal.returns-in_err-source_name-clause-assembles
returns-in_err-source_name-clause-assembles g c =
    let p = err_from_is_err_and c.from_residual.result c.from_residual.ensures.1 in
    let why : p.0 ≡ fault.OutOfMemory = p.2 ∙ c.in_err-source_name.ensures.fault in
    rw (p.1, why) (not_made fault.OutOfMemory _ c.in-Err.fault _ _ _ _ (λ loaded same. tt) (λ loaded why. tt)
    (λ memory. false≢true (sym c.if-eq.false ∙ (rw memory at c.eq.ensures))) c.in-Err.ensures.made)
