use Rattle.std.proofs.Common.{◌≡◌, ◌+◌, arith}
use Rattle.record_tracks.specs.Library.{first_record}
use Rattle.record_tracks.proofs.Members.{block_there, length-records, length-behind, is_address, is_near}
use Rattle.record_tracks.proofs.addresses.block_address.Goals as goal
use Rattle.record_tracks.proofs.addresses.block_address.Goals.{After-number_of-number}

pub number_of-number-requires-clause-records : goal.number_of-number-requires-clause-records
number_of-number-requires-clause-records c =
    omega (arith, length-records c.args.placed c.requires.placed.are, length-behind c.args.placed.library.now c.args.member)

number_is : (c : After-number_of-number) → c.number_of-number.result
    ≡ first_record c.args.placed.library.now.directory_blocks c.args.placed.library.now.members.now c.args.member + c.args.block
number_is c = omega (arith, length-records c.args.placed c.requires.placed.are, length-behind c.args.placed.library.now c.args.member)

pub place_of-track-requires-clause-number : goal.place_of-track-requires-clause-number
place_of-track-requires-clause-number c =
    let there = block_there c.args.placed.library.now c.args.member c.args.block c.requires.member c.requires.block in
    omega (arith, number_is c, length-records c.args.placed c.requires.placed.are)

pub overflow_cast-result : goal.overflow_cast-result
overflow_cast-result c =
    let p = c.args.placed in
    let there = block_there p.library.now c.args.member c.args.block c.requires.member c.requires.block in
    let is = number_is ((goal.at.overflow_cast-result c).After-number_of-number) in
    let size = length-records p c.requires.placed.are in
    let near = is_near p c.requires.placed c.number_of-number.result c.place_of-track.result.track c.place_of-track.result.number
    (omega arith) c.place_of-track.ensures in
    omega arith

pub returns : goal.returns
returns c =
    let p = c.args.placed in
    let there = block_there p.library.now c.args.member c.args.block c.requires.member c.requires.block in
    let is = number_is ((goal.at.returns c).After-number_of-number) in
    let size = length-records p c.requires.placed.are in
    cc (is_address p c.requires.placed.are c.number_of-number.result c.place_of-track.result.track c.place_of-track.result.number
    (omega arith) c.place_of-track.ensures)
