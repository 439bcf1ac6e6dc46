use Rattle.std.proofs.Common.{◌∙◌, inl, inr, refl, sym, ap, Ok, Err}
use Rattle.counted_io.specs.Streams.{seen_by}
use Rattle.volume_details.proofs.libraries.print_library.Goals as goal

pub returns-then-not-is_partitioned : goal.returns-then-not-is_partitioned
returns-then-not-is_partitioned g c = record {
  lists = inl (
    record {
      set = c.in-Ok-Some.set;
      named = rw (c.in-Ok-Some.field-0-is) at c.in-Ok-Some.ensures.found;
      is_so = sym c.is_partitioned.ensures ∙ c.if-not-is_partitioned.true;
    },
    refl,
  );
}

pub returns-in-Ok-print_members : goal.returns-in-Ok-print_members
returns-in-Ok-print_members g c =
    let p = c.in-Ok-print_members.ensures in
    let name = c.as_str.ensures.value ∙ c.in-Ok.ensures in
    let lines = rw (c.in-Ok-Some.ensures.kept, name, c.as_slice-extents.ensures.value) at p.lines in
    let wrong = rw (c.in-Ok-Some.ensures.kept, name, c.as_slice-extents.ensures.value) at p.wrong in record {
      lists = inr (record {
        set = c.in-Ok-Some.set;
        named = rw (c.in-Ok-Some.field-0-is) at c.in-Ok-Some.ensures.found;
        is_so = (
          sym c.is_partitioned.ensures ∙ c.if-not-is_partitioned.false,
          Ok c.in-Ok-print_members.is_wrong,
          refl,
          (lines, wrong, p.writes, tt, p.flushed),
        );
      });
    }

pub returns : goal.returns
returns g c =
    let p = c.in-Err-print_members.ensures in
    let name = c.as_str.ensures.value ∙ c.in-Ok.ensures in
    let lines = rw (c.in-Ok-Some.ensures.kept, name, c.as_slice-extents.ensures.value) at p.lines in record {
      lists = inr (record {
        set = c.in-Ok-Some.set;
        named = rw (c.in-Ok-Some.field-0-is) at c.in-Ok-Some.ensures.found;
        is_so = (
          sym c.is_partitioned.ensures ∙ c.if-not-is_partitioned.false,
          Err c.in-Err-print_members.fault,
          ap Err c.of_volume-in-Err-print_members.ensures,
          (lines, tt, p.writes, λ e. ap (seen_by g.W.Write.contents) (p.none e), tt),
        );
      });
    }
