use Rattle.std.proofs.Common.{◌∙◌, sym}
use Rattle.dasd_files.proofs.Unwritten.{as_then}
use Rattle.dasd_files.proofs.volume_file.VolumeFile.may_have_changed.Goals as goal

-- what is not told of is what it was
pub returns-clause-kept : goal.returns-clause-kept
returns-clause-kept c = λ e.
    as_then _ c.args.self.now c.args.number c.args.at c.args.len c.self.view_is c.self.invariant c.requires.within
    (sym c.may_differ.ensures ∙ e)
