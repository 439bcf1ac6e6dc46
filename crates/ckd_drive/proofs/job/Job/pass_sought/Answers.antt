use Rattle.ckd_drive.proofs.job.Job.pass_sought.Goals as goal

pub returns-in_default-AnyCount-Identifier-clause-unlike : goal.returns-in_default-AnyCount-Identifier-clause-unlike
returns-in_default-AnyCount-Identifier-clause-unlike g c = rw c.in_default-AnyCount-Identifier.is-1 c.pass_on.ensures.unlike

pub returns-in-SearchKeyEqual-Key-Key-clause-unlike : goal.returns-in-SearchKeyEqual-Key-Key-clause-unlike
returns-in-SearchKeyEqual-Key-Key-clause-unlike g c = rw (c.in-SearchKeyEqual-Key-Key.is-0, c.in-SearchKeyEqual-Key-Key.is-1)
    c.pass_keys.ensures.unlike

pub returns-in_default-Key-Key : goal.returns-in_default-Key-Key
returns-in_default-Key-Key g c =
    let e = c.pass_on-in_default-Key-Key.ensures in
    record { most = e.most; unlike = rw c.in_default-Key-Key.is-1 e.unlike; tells = e.tells }
