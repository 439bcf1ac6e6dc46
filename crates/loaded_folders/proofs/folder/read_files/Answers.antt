use Rattle.std.proofs.Common.{◌∙◌, ◌++◌, ◌∷◌, []}
use Rattle.std.specs.String.{string_bytes}
use Rattle.loaded_folders.proofs.Chains.{split, one_more, reads_more}
use Rattle.loaded_folders.proofs.Told.{read_stops, none_for}
use Rattle.loaded_folders.proofs.folder.read_files.Goals as goal

-- the next file is not read
pub returns-in-Err-clause-fault : goal.returns-in-Err-clause-fault
returns-in-Err-clause-fault g c =
    let i = c.loop-name.invariant in
    read_stops c.args.folder.now _ i.first _ (string_bytes c.name-item.result)
    (split string_bytes c.args.names.now c.loop-name.name-index i.first i.passed c.name-item.result c.name-item.is
    c.loop-name-test.true) _ _ _
    i.read c.in-Err.fault _ c.in-Err.ensures.same (rw c.as_str.ensures.value at c.in-Err.ensures.fault)

-- there is no memory for its bytes
pub returns-in-Err-push-clause-fault : goal.returns-in-Err-push-clause-fault
returns-in-Err-push-clause-fault g c =
    let i = c.loop-name.invariant in
    none_for c.args.folder.now _ i.first _ (string_bytes c.name-item.result)
    (split string_bytes c.args.names.now c.loop-name.name-index i.first i.passed c.name-item.result c.name-item.is
    c.loop-name-test.true) _ _ _
    i.read c.in-Err-push.fault c.in-Ok.bytes.items _ (rw c.as_str.ensures.value at c.in-Ok.ensures.read) c.in-Err-push.ensures.fault

pub loop-name-preserved : goal.loop-name-preserved
loop-name-preserved g c =
    let i = c.loop-name.invariant in
    record {
      kept = c.in-Ok.ensures.kept ∙ i.kept;
      first = i.first ++ string_bytes c.name-item.result ∷ [];
      passed =
          one_more string_bytes c.args.names.now c.loop-name.name-index i.first i.passed c.name-item.result c.name-item.is
          c.loop-name-test.true;
      read =
          rw c.in-Ok-push.ensures.all
          (reads_more c.args.folder.now i.first _ (string_bytes c.name-item.result) c.in-Ok.bytes.items _ _ _ i.read
          (rw c.as_str.ensures.value at c.in-Ok.ensures.read));
    }
