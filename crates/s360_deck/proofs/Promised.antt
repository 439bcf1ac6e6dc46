-- What a deck that has run promises.
use Rattle.s360_deck.specs.Laws.{RunsKeepHeadline, RunsAreSerial, RunsReportFaults}

pub keeps_headline : RunsKeepHeadline
keeps_headline text old new answers m h stands = let f = h.follows m stands in (f.inputs, f.are_these, f.same_answers, f.headline)

pub is_serial : RunsAreSerial
is_serial text old new answers m h stands none =
    let w = (h.follows m stands).without_faults none in (w.same_answers, w.is_serial)

pub reports_faults : RunsReportFaults
reports_faults text old new answers m h stands = let f = h.follows m stands in (f.inputs, f.are_these, f.faults, f.reported)
