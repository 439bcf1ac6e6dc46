use Rattle.std.proofs.Common.{take, flat_map}
use Rattle.std.specs.Option.{option_copied}
use Rattle.std.specs.Io.KnownBytes.{Appends}
use Rattle.volume_findings.specs.Texts.{data_text}
use Rattle.volume_findings.proofs.lines.write_findings.Given as goal

-- the lines so far are written
abbrev pub invariant-loop-finding : goal.invariant-loop-finding
invariant-loop-finding g l = Appends (g.W.Write.contents l.fn.writer) (g.W.Write.contents l.writer)
    (flat_map (data_text (option_copied l.json)) (take l.finding-index l.findings))
