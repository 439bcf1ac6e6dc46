use Rattle.std.proofs.Common.{◌≡◌, ◌∙◌, ◌⊎◌, inl, inr, ap, refl}
use Rattle.std.proofs.lemmas.Result.{err_from_is_err_and}
use Rattle.dasd_jobs.specs.declared.faults.JobFault.{JobFault}
use Rattle.dasd_jobs.specs.declared.faults.JobFault.TheVariants.{Read, OutOfMemory}
use Rattle.program_faults.specs.declared.fault.ProgramFault.TheVariants as fault
use Rattle.dasd_run.proofs.strict.check_strictly.Goals as goal

told : (f : JobFault) → (f ≡ Read) ⊎ (f ≡ OutOfMemory) → (fault.Job f ≡ fault.Job Read) ⊎ (fault.Job f ≡ fault.Job OutOfMemory)
told f (inl is) = inl (ap fault.Job is)
told f (inr is) = inr (ap fault.Job is)

-- the headers were not read
pub returns-in_err-heads-clause-checks : goal.returns-in_err-heads-clause-checks
returns-in_err-heads-clause-checks g c =
    let p = err_from_is_err_and c.from_residual-in_err-heads.result c.from_residual-in_err-heads.ensures.1 in
    let f = c.in_err-heads.field-0.0 in
    let v = c.in_ok-volume.volume in
    rw (p.1, p.2, ← c.host.view_is) (inr (inl (
      told f c.in_err-heads.ensures.fault,
      record {
        geometry = v.geometry;
        contents = v.contents;
        opens = rw c.as_slice-paths.ensures.value at c.in_ok-volume.ensures.opens;
        mounts = c.in_ok-volume.ensures.mounts;
        so = tt;
      },
      refl,
    )))

pub returns-clause-checks : goal.returns-clause-checks
returns-clause-checks g c =
    let v = c.in_ok-volume.volume in
    rw (← c.host.view_is) (inr (inr (record {
      geometry = v.geometry;
      contents = v.contents;
      opens = rw c.as_slice-paths.ensures.value at c.in_ok-volume.ensures.opens;
      mounts = c.in_ok-volume.ensures.mounts;
      heads = c.in_ok-heads.heads.items;
      are_heads = c.in_ok-heads.ensures.headers;
      so = rw (
        c.style.ensures,
        c.as_str.ensures.value ∙ c.in_ok-path.ensures.text,
        c.as_slice-paths.ensures.value,
        c.as_slice-heads.ensures.value,
        c.in_ok-heads.ensures.kept,
      ) at c.check_opened.ensures;
    })))
