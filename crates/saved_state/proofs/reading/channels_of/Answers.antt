use Rattle.std.proofs.Common.{lit≤, refl}
use Rattle.saved_state.specs.Reading.{channels_of}
use Rattle.saved_state.proofs.Joining.{first_long, in_front}
use Rattle.saved_state.proofs.reading.channels_of.Goals as goal

pub slice_bounds-channel_of-end : goal.slice_bounds-channel_of-end
slice_bounds-channel_of-end c = first_long c.args.bytes.now 75 525 c.requires (lit≤ tt)

pub returns : goal.returns
unfolding channels_of
returns c =
    in_front c.channel_of.ensures (in_front c.channel_of-2.ensures (in_front c.channel_of-3.ensures (in_front c.channel_of-4.ensures
    (in_front c.channel_of-5.ensures (in_front c.channel_of-6.ensures (in_front c.channel_of-7.ensures refl))))))
