use Rattle.std.proofs.Common.{◌∙◌, ◌++◌, ◌∷◌, [], map, ap}
use Rattle.std.proofs.lemmas.List.{map-append}
use Rattle.dasd_jobs.specs.Sources.{Content}
use Rattle.dasd_jobs.proofs.opened.add_head.Goals as goal

pub returns-clause-adds : goal.returns-clause-adds
returns-clause-adds g c =
    let content = g.O.OpenedFile.content in
    let before = c.args.opened.now.items in record {
      head = c.in_ok-head.head;
      file = ap (map content) c.in_ok-push-2.ensures.pushed ∙ map-append content before (c.read_head.new.file ∷ [])
          ∙ ap (λ (one : Content). map content before ++ one ∷ []) c.read_head.ensures.kept;
      headed = c.in_ok-push.ensures.pushed;
      is_head = c.in_ok-head.ensures.head;
    }
