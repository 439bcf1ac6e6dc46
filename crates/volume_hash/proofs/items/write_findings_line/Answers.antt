use Rattle.std.proofs.KnownBytes.{Appends-trans}
use Rattle.volume_hash.proofs.items.write_findings_line.Goals as goal

pub returns : goal.returns
returns g c =
    Appends-trans _ _ _ _ _ c.in_ok-write_all.ensures.bytes
    (Appends-trans _ _ _ _ _ c.in_ok-write_path_of.ensures c.in_ok-write_all-2.ensures.bytes)
