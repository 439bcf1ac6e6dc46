use Rattle.std.proofs.Common.{refl}
use Rattle.s360_channel.proofs.Quiet.{none_calls, quiet_does}
use Rattle.s360_channel.proofs.channel.Channel.react.Goals as goal

pub returns-in-Sio-clause-does : goal.returns-in-Sio-clause-does
returns-in-Sio-clause-does g c m stands = rw c.in-Sio.is (quiet_does _ m _ _ _ stands (c.sio.ensures.does m stands) c.sio.ensures.calls)

pub returns-in-Tio-clause-does : goal.returns-in-Tio-clause-does
returns-in-Tio-clause-does g c m stands = rw c.in-Tio.is (quiet_does _ m _ _ _ stands (c.tio.ensures.does m stands) c.tio.ensures.calls)

pub returns-in-Arrive-clause-does : goal.returns-in-Arrive-clause-does
returns-in-Arrive-clause-does g c m stands =
    rw c.in-Arrive.is (quiet_does _ m _ _ _ stands (c.arrive.ensures.does m stands) c.arrive.ensures.calls)

pub returns-in-Interrupt-clause-does : goal.returns-in-Interrupt-clause-does
returns-in-Interrupt-clause-does g c m stands =
    rw c.in-Interrupt.is (quiet_does _ m _ _ _ stands (c.interrupt.ensures.does m stands) c.interrupt.ensures.calls)

pub returns-in-Store-clause-does : goal.returns-in-Store-clause-does
returns-in-Store-clause-does g c m stands = rw (c.in-Store.is, c.is_ok.ensures.value, ← c.as_slice.ensures.value)
    (quiet_does _ m _ _ _ stands (c.poke.ensures.does m stands) c.poke.ensures.calls)

pub returns-in-Key-clause-does : goal.returns-in-Key-clause-does
returns-in-Key-clause-does g c m stands = rw (c.in-Key.is, c.is_ok-in-Key.ensures.value, ← c.get.ensures.value)
    (quiet_does _ m _ _ _ stands (c.set_key.ensures.does m stands) c.set_key.ensures.calls)

pub returns-in-Show-clause-does : goal.returns-in-Show-clause-does
returns-in-Show-clause-does g c m stands = rw c.in-Show.is (quiet_does _ m _ _ _ stands (c.shown.ensures m stands) refl)

pub returns-in-Reset-clause-does : goal.returns-in-Reset-clause-does
returns-in-Reset-clause-does g c m stands = rw c.in-Reset.is (c.reset.ensures.does m stands)

pub returns-in-Reset-clause-calls : goal.returns-in-Reset-clause-calls
returns-in-Reset-clause-calls g c = rw c.in-Reset.is c.reset.ensures.calls

pub returns-in-Sio-clause-calls : goal.returns-in-Sio-clause-calls
returns-in-Sio-clause-calls g c = none_calls _ _ _ c.sio.ensures.calls

pub returns-in-Tio-clause-calls : goal.returns-in-Tio-clause-calls
returns-in-Tio-clause-calls g c = none_calls _ _ _ c.tio.ensures.calls

pub returns-in-Arrive-clause-calls : goal.returns-in-Arrive-clause-calls
returns-in-Arrive-clause-calls g c = none_calls _ _ _ c.arrive.ensures.calls

pub returns-in-Interrupt-clause-calls : goal.returns-in-Interrupt-clause-calls
returns-in-Interrupt-clause-calls g c = none_calls _ _ _ c.interrupt.ensures.calls

pub returns-in-Store-clause-calls : goal.returns-in-Store-clause-calls
returns-in-Store-clause-calls g c = none_calls _ _ _ c.poke.ensures.calls

pub returns-in-Key-clause-calls : goal.returns-in-Key-clause-calls
returns-in-Key-clause-calls g c = none_calls _ _ _ c.set_key.ensures.calls
