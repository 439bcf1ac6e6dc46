use Rattle.std.proofs.Common.{◌≡◌, ◌∙◌, ap, List, [], ◌∷◌, ◌++◌}
use Rattle.record_tracks.specs.{declared.records.NewRecord.NewRecord, Library.directory_areas, Library.members_areas, Library.library_areas}
use Rattle.record_tracks.specs.Records.{Areas, all_areas, end_of_file}
use Rattle.record_tracks.proofs.{Listed.blocks_go, Members.library_goes, Members.directory_read, Members.members_read}
use Rattle.record_tracks.proofs.member_records.library_records.Goals as goal

pub returns : goal.returns
returns c =
    let directory = c.args.directory.now in
    let members = c.args.members.now in
    let are : all_areas c.push_members.new.records.items ≡ library_areas directory members = c.in_ok-push_members.ensures
    ∙ ap (λ (xs : List Areas). xs ++ members_areas members) (c.in_ok-push.ensures
    ∙ ap (λ (xs : List Areas). xs ++ end_of_file ∷ []) (c.in_ok-push_directory.ensures
    ∙ ap (λ (items : List NewRecord). all_areas items ++ directory_areas directory) c.new-records.ensures.items)) in
    record {
      records = are;
      fit = λ model goes. blocks_go model _ (library_areas directory members) are (library_goes model directory members goes);
      directory = λ model. directory_read model directory members;
      members = λ model. members_read model directory members;
    }
