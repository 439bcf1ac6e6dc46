use Rattle.std.proofs.Common.{◌∙◌, inr, Ok, rules}
use Rattle.dasd_run.proofs.details.list_library.Goals as goal

pub returns-clause-lists : goal.returns-clause-lists
returns-clause-lists g c =
    let v = c.in_ok-volume.volume in
    rw (← c.host.view_is, ← c.as_slice-paths.ensures.value)
    (rw (← (c.as_str.ensures.value ∙ c.in_ok-path.ensures.text), ← c.path_if-json.ensures, c.worse.ensures) (inr (
      Ok c.in_ok-is_wrong.is_wrong,
      search rules,
      record {
        geometry = v.geometry;
        contents = v.contents;
        opens = c.in_ok-volume.ensures.opens;
        mounts = c.in_ok-volume.ensures.mounts;
        so = c.in_ok-is_wrong.ensures.lists;
      },
    )))

pub returns-in_err-is_wrong-clause-lists : goal.returns-in_err-is_wrong-clause-lists
returns-in_err-is_wrong-clause-lists g c =
    rw (← c.host.view_is, ← c.as_slice-paths.ensures.value)
    (rw (← (c.as_str.ensures.value ∙ c.in_ok-path.ensures.text), ← c.path_if-json.ensures) (search rules))
