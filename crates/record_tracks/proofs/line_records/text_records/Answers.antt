use Rattle.std.proofs.lemmas.{List.nil_from_length, Bool.eqb-true}
use Rattle.std.proofs.Common.{length, sym, arith}
use Rattle.record_tracks.proofs.{Joined.none_joined, Joined.one_joined, Joined.not_joined, Joined.all_joined, TextReading.read_as_text}
use Rattle.record_tracks.proofs.line_records.text_records.Goals as goal

pub loop-rest-init : goal.loop-rest-init
loop-rest-init c = (omega arith, rw c.new-records.ensures.items (none_joined c.args.size c.args.text.now))

pub loop-rest-preserved : goal.loop-rest-preserved
loop-rest-preserved c = (
  omega arith,
  one_joined c.args.size c.args.text.now c.loop-rest.number c.loop-rest.rest.now c.split_line.result.0.now c.split_line.result.1.now
      c.loop-rest.records.items c.loop-rest.invariant.1 c.split_line.ensures.lines c.put_record.new.records.items
      (rw c.in-Ok-None.field-0-is at c.in-Ok-None.ensures),
)

pub returns-in-Ok-Some-clause-fault : goal.returns-in-Ok-Some-clause-fault
returns-in-Ok-Some-clause-fault c =
    not_joined c.args.size c.args.text.now c.loop-rest.number c.loop-rest.rest.now c.split_line.result.0.now c.split_line.result.1.now
    c.loop-rest.records.items c.loop-rest.invariant.1 c.split_line.ensures.lines c.in-Ok-Some.fault
    (rw c.in-Ok-Some.field-0-is at c.in-Ok-Some.ensures)

pub returns-clause-records : goal.returns-clause-records
returns-clause-records c = all_joined c.args.size c.args.text.now c.loop-rest.number c.loop-rest.rest.now c.loop-rest.records.items
    (nil_from_length c.loop-rest.rest.now (eqb-true (length c.loop-rest.rest.now) 0 (sym c.loop-rest-test.ensures))) c.loop-rest.invariant.1

pub returns-clause-read : goal.returns-clause-read
returns-clause-read c = read_as_text c.args.size c.args.text.now c.loop-rest.records.items c.requires.size (returns-clause-records c)
