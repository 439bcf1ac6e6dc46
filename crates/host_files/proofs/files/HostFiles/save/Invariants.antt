use Rattle.std.proofs.Common.{◌≡◌, ◌++◌, take}
use Rattle.dasd_jobs.specs.Written.{files_of}
use Rattle.host_files.proofs.files.HostFiles.save.Given as goal

-- those so far are noted
abbrev pub invariant-loop-it : goal.invariant-loop-it
invariant-loop-it l = record {
  written : l.self.written.files ≡ l.fn.self.written.files ++ files_of (λ d. d.written.bytes) (take l.it-index l.new);
  opened : l.self.opened ≡ l.fn.self.opened;
}
