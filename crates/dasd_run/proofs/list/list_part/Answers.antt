use Rattle.std.proofs.Common.{◌≡◌, ◌∙◌, Result, Ok, Err, inr}
use Rattle.counted_io.specs.Streams.{Stream}
use Rattle.dasd_jobs.specs.declared.lengths.Reach.{Reach}
use Rattle.dasd_run.specs.Printed.{TakesMemoryFirst}
use Rattle.dasd_run.specs.Reaches.{with_reach}
use Rattle.dasd_run.specs.declared.commands.Ending.{Ending}
use Rattle.program_faults.specs.declared.fault.ProgramFault.{ProgramFault}
use Rattle.dasd_run.proofs.list.list_part.Goals as goal

pub returns-clause-lists : goal.returns-clause-lists
returns-clause-lists g c =
    let v = c.in_ok-volume.volume in
    rw (← c.host.view_is, ← c.as_slice-paths.ensures.value, ← (c.as_str.ensures.value ∙ c.in_ok-path.ensures.text), ← c.style.ensures)
    (inr (record {
      geometry = v.geometry;
      contents = v.contents;
      opens = c.in_ok-volume.ensures.opens;
      mounts = c.in_ok-volume.ensures.mounts;
      reach = c.reach-reach.result;
      is_reach = c.reach-reach.ensures;
      so = (c.list_opened-listed.result, c.with_reach.ensures, c.list_opened-listed.ensures.part);
    }))

first : (reach : Reach) (ended result : Result Ending ProgramFault) (before now : Stream) → result ≡ with_reach reach ended
    → TakesMemoryFirst ended before now → TakesMemoryFirst result before now
first reach (Ok ending) result before now is memory = rw is tt
first reach (Err f) result before now is memory = rw is memory

pub returns-clause-memory : goal.returns-clause-memory
returns-clause-memory g c =
    let listed = c.list_opened-listed in
    rw (← c.host.view_is) (first c.reach-reach.result listed.result _ _ _ c.with_reach.ensures listed.ensures.memory)
