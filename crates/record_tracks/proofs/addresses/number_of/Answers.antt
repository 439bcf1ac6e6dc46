use Rattle.std.proofs.Common.{◌≡◌, ap, List, length, drop, arith}
use Rattle.std.proofs.lemmas.List.{drop_all}
use Rattle.record_tracks.specs.{declared.libraries.NewMember.NewMember, Library.members_areas}
use Rattle.record_tracks.proofs.{Members.length-next, Members.length-first, Members.no_member, addresses.number_of.Goals.After-loop-k}
use Rattle.record_tracks.proofs.addresses.number_of.Goals as goal

pub loop-k-preserved : goal.loop-k-preserved
loop-k-preserved c = omega (arith, length-next c.args.members.now c.loop-k.k no_member c.loop-k-test.true)

none_left : (c : After-loop-k) → length (members_areas (drop c.loop-k.k c.args.members.now)) ≡ 0
none_left c = ap (λ (xs : List NewMember). length (members_areas xs)) (drop_all c.loop-k.k c.args.members.now (omega arith))

pub overflow_add-result : goal.overflow_add-result
overflow_add-result c = omega (arith, none_left c, length-first c.args.members.now c.args.member c.requires.member)

pub returns : goal.returns
returns c = omega (arith, none_left c)
