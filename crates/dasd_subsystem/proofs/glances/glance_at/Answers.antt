use Rattle.std.proofs.Common.{◌∙◌, ◌+◌, ◌*◌, ◌/◌, ◌<◌, ap, rules, option_map}
use Rattle.s360_channels.specs.Asked.{drive_at}
use Rattle.s360_channels.specs.Channels.{channel_at}
use Rattle.s360_channels.specs.Selectors.{across}
use Rattle.dasd_subsystem.proofs.Seeing.{high_byte, low_byte, work_is_seen}
use Rattle.dasd_subsystem.proofs.glances.glance_at.Goals as goal

-- each part is what its call shows
pub returns-clause-work : goal.returns-clause-work
returns-clause-work g c = λ s.
    let v = across c.args.channels.now s in
    let number = c.args.number in
    let device = c.seen-device.result.1 in
    let less : device < 256 = search rules in
    let address = c.from.result * 256 + c.from-2.result in
    let low = low_byte number device c.from.result c.from-2.result less c.from.ensures c.from-2.ensures in
    let high = high_byte number device c.from.result c.from-2.result less c.from.ensures c.from-2.ensures in
    work_is_seen _ c.program.result (option_map (λ d. d.now) c.drive_at_work.result) s (channel_at number v) (c.program.ensures s)
    c.work_seen.ensures (c.drive_at_work.ensures s) c.phase_seen.ensures
    (c.drive.ensures s ∙ ap (λ n. drive_at n (channel_at (address / 256) v)) low ∙ ap (λ n. drive_at device (channel_at n v)) high
    ∙ ap (λ n. drive_at n.1 (channel_at number v)) c.seen-device.ensures)
