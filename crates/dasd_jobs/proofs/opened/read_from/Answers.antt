use Rattle.std.proofs.Common.{◌<◌, OnOk, length, subst, sym, ap, arith}
use Rattle.dasd_jobs.specs.Sources.{Content, StandsIn}
use Rattle.dasd_jobs.proofs.Volumes.{read_there, one_read}
use Rattle.dasd_jobs.proofs.opened.read_from.Goals as goal

pub returns : goal.returns
returns g c =
    let content = g.O.OpenedFile.content in
    let files = c.args.files.now in
    let lent = c.as_mut_slice-files.result.now in
    let is = c.as_mut_slice-files.ensures.value in
    let file = c.index-files-place.result in
    let place = c.args.place in
    let inside : place < length lent = (let same = ap length is in
    let count = files.ok.0 in
    let there = c.requires in omega arith) in
    let is_file = c.index-files-place.is in record {
      read = subst (λ (known : Content). OnOk c.read_at.result (StandsIn known c.args.at c.read_at.new.into))
          (sym (cc (read_there content lent place file inside is_file))) c.read_at.ensures.read;
      kept = one_read content files.items lent files.len place file c.read_at.new.self is files.ok.0 inside is_file (cc);
    }
