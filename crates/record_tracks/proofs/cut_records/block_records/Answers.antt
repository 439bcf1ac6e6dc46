use Rattle.std.proofs.Common.{◌≡◌, ◌∙◌, ap, ◌++◌, ◌∷◌, [], List}
use Rattle.std.proofs.lemmas.List.{map-append}
use Rattle.record_tracks.specs.{declared.records.NewRecord.NewRecord, Blocks.block_areas, Blocks.areas_of as areas_in}
use Rattle.record_tracks.specs.Records.{Areas, areas_of, all_areas, end_of_file}
use Rattle.record_tracks.proofs.{Listed.blocks_go, Texts.all_go, Texts.read_as, Texts.read_back, cut_records.block_records.Goals.In_ok-push}
use Rattle.record_tracks.proofs.cut_records.block_records.Goals as goal

pub returns : goal.returns
returns c =
    let b = c.args.blocks in
    let are : all_areas c.push.new.self.items ≡ areas_in b.cut b.bytes.now = ap all_areas c.in_ok-push.ensures.items
    ∙ map-append areas_of c.push_blocks.new.records.items _
    ∙ ap (λ (xs : List Areas). xs ++ end_of_file ∷ []) (c.in_ok-push_blocks.ensures.records
    ∙ ap (λ (items : List NewRecord). all_areas items ++ block_areas b.cut b.bytes.now) c.new-records.ensures.items) in
    record {
      records = are;
      fit = λ model each. blocks_go model _ _ are (all_go model b.cut b.bytes.now each);
      read = λ model each. read_back model b.cut b.bytes.now each c.in_ok-push_blocks.ensures.bytes;
      forms = λ model. read_as model b.cut b.bytes.now;
    }
