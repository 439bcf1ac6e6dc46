use Rattle.record_tracks.proofs.Members.{if_far, last_track}
use Rattle.std.proofs.lemmas.Bool.Decides.{nat_tests}
use Rattle.std.proofs.Common.{true, false, arith}
use Rattle.record_tracks.specs.declared.library_faults.LibraryFault.TheVariants as fault
use Rattle.record_tracks.proofs.addresses.length_fault.Goals as goal

pub returns-then-last-ge-TRACKS : goal.returns-then-last-ge-TRACKS
returns-then-last-ge-TRACKS c =
    let is = last_track c.args.placed c.requires c.place_of-last.result.track c.place_of-last.result.number c.place_of-last.ensures in
    cc (if_far c.place_of-last.result.track fault.TooManyTracks true (grind (arith, nat_tests)))

pub returns : goal.returns
returns c =
    let is = last_track c.args.placed c.requires c.place_of-last.result.track c.place_of-last.result.number c.place_of-last.ensures in
    cc (if_far c.place_of-last.result.track fault.TooManyTracks false (grind (arith, nat_tests)))
