use Rattle.std.proofs.Common.{◌≡◌, take}
use Rattle.std.specs.List.{AllZip}
use Rattle.dasd_run.specs.Built.{IsNewChannel, OpensVolumes, HasAddressOf}
use Rattle.dasd_run.proofs.runs.build.Given as goal

-- no file was replaced so far; each volume so far has its drive, for which its files were opened, at its address
abbrev pub invariant-loop-i : goal.invariant-loop-i
invariant-loop-i g l = record {
  kept : g.F.ImageFiles.written l.files ≡ g.F.ImageFiles.written l.fn.files;
  is_new : IsNewChannel l.fn.storage l.fn.number l.channel;
  drives : OpensVolumes (take l.i l.volumes) l.channel.drives (g.F.ImageFiles.opened l.fn.files) (g.F.ImageFiles.opened l.files);
  addresses : AllZip HasAddressOf (take l.i l.volumes) l.channel.drives;
}
