use Rattle.std.proofs.Common.{◌≡◌, length, rules}
use Rattle.dasd_jobs.proofs.Volumes.{head_read, short_head}
use Rattle.dasd_jobs.proofs.opened.read_head.Goals as goal

pub returns-then-len-clause-head : goal.returns-then-len-clause-head
returns-then-len-clause-head g c = short_head (g.O.OpenedFile.content c.args.file.now) _ c.len-len.result c.len-len.ensures c.if-len.true

pub returns-in-Ok-clause-head : goal.returns-in-Ok-clause-head
returns-in-Ok-clause-head g c =
    let long : length c.read_at.new.into ≡ 512 = search rules in
    head_read (g.O.OpenedFile.content c.args.file.now) c.read_at.new.into c.len-len.result c.len-len.ensures c.in-Ok.ensures.read long
