use Rattle.std.proofs.Common.{◌∙◌, inr}
use Rattle.dasd_run.proofs.details.list_details.Goals as goal

pub returns-clause-lists : goal.returns-clause-lists
returns-clause-lists g c =
    let v = c.in_ok-volume.volume in
    rw (← c.host.view_is, ← c.as_slice-paths.ensures.value)
    (rw (← (c.as_str.ensures.value ∙ c.in_ok-path.ensures.text), ← c.path_if-json.ensures) (inr (record {
      geometry = v.geometry;
      contents = v.contents;
      opens = c.in_ok-volume.ensures.opens;
      mounts = c.in_ok-volume.ensures.mounts;
      reach = c.reach-reach.result;
      is_reach = c.reach-reach.ensures;
      so = (c.print_details-printed.result, c.with_reach.ensures, c.print_details-printed.ensures);
    })))
