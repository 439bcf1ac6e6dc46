use Rattle.std.proofs.Common.{rules, subst, List, ℕ, ◌++◌}
use Rattle.new_labels.specs.Tracks.{PutBehind}
use Rattle.new_labels.proofs.Filled.{Put, put_of, four_put, length-record}
use Rattle.new_labels.proofs.slots.append_record.Goals as goal

-- the identifier, the lengths, the key and the data, one behind the other
pub returns-clause-written : goal.returns-clause-written
returns-clause-written c =
    let s0 = c.args.slot.now in
    let s1 = c.append-at.new.slot in
    let s2 = c.append-at-2.new.slot in
    let s3 = c.append-at-3.new.slot in
    let id : Put s0 s1 = put_of _ _ _ _ c.append-at.ensures.written c.append-at.ensures.same in
    let lengths : Put s1 s2 = put_of _ _ _ _ c.append-at-2.ensures.written c.append-at-2.ensures.same in
    let key : Put s2 s3 = put_of _ _ _ _ c.append-at-3.ensures.written c.append-at-3.ensures.same in
    let area : Put s3 c.append.new.slot = put_of _ _ _ _ c.append.ensures.written c.append.ensures.same in
    let all = four_put _ _ _ _ _ id lengths key area c.append-at.ensures.next c.append-at-2.ensures.next c.append-at-3.ensures.next in
    subst (λ (x : List ℕ). PutBehind c.args.at (((c.args.id ++ x) ++ c.args.key.now) ++ c.args.bytes.now) s0 c.append.new.slot)
    c.length_bytes.ensures all.put

pub returns-clause-size : goal.returns-clause-size
returns-clause-size c = length-record c.args.id c.args.key.now c.args.bytes.now (search rules)
