use Rattle.std.proofs.Common.{◌≡◌, ◌∙◌, ap, sym, subst, All, ℕ, ◌-◌, List, take, length}
use Rattle.std.specs.List.{flat_map}
use Rattle.std.specs.Global.{Vec}
use Rattle.std.proofs.lemmas.List.Elements.{All-take}
use Rattle.record_tracks.specs.Records.{areas_of, RecordGoesOn}
use Rattle.record_tracks.specs.ReadBack.{keyed_text}
use Rattle.record_tracks.specs.declared.records.NewRecord.{NewRecord}
use Rattle.record_tracks.specs.Blocks.{block_areas}
use Rattle.loaded_folders.specs.Contents.{all_keyed}
use Rattle.loaded_folders.proofs.Found.{if_ok}
use Rattle.loaded_folders.proofs.Keyed.{spelled_before}
use Rattle.loaded_folders.proofs.blocks.spell_blocks.Goals as goal

pub spell_records-requires : goal.spell_records-requires
spell_records-requires c =
    All-take (RecordGoesOn c.args.model) (c.len.result - 1) c.deref.result.now
    (subst (All (RecordGoesOn c.args.model)) (sym c.deref.ensures.value) (c.in_ok-records.ensures.fit c.args.model c.requires))

pub returns : goal.returns
returns c =
    let items = c.in_ok-records.records.items in
    let text : NewRecord → List ℕ = λ (b : NewRecord). keyed_text (areas_of b) in
    let areas = block_areas c.args.blocks.cut c.args.blocks.bytes.now in
    if_ok c.spell_records.result (λ (b : Vec ℕ). b.items ≡ flat_map text (take (c.len.result - 1) c.deref.result.now))
    (λ (b : Vec ℕ). b.items ≡ all_keyed areas)
    (λ b is. is ∙ ap (λ (n : ℕ). flat_map text (take (n - 1) c.deref.result.now)) (c.len.ensures ∙ sym c.deref.ensures.len)
    ∙ ap (λ (r : List NewRecord). flat_map text (take (length r - 1) r)) c.deref.ensures.value
    ∙ spelled_before items c.args.blocks.cut c.args.blocks.bytes.now c.in_ok-records.ensures.records)
    c.spell_records.ensures
