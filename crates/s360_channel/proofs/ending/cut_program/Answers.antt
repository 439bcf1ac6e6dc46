use Rattle.std.proofs.Common.{sym, subst, ◌∙◌, arith}
use Rattle.s360_channel.specs.Ends.{CutsProgram}
use Rattle.attached_drives.specs.DriveCalls.{CutsAt}
use Rattle.s360_channel.proofs.Calling.{still_there}
use Rattle.s360_channel.proofs.ending.cut_program.Goals as goal

pub end_program-requires : goal.end_program-requires
end_program-requires g c = (
  omega arith,
  still_there c.in-Working.place (CutsAt c.in-Working.running c.cut-motion.result) c.args.drives.now
      c.cut-motion.new.self c.cut-motion.ensures,
)

pub returns-in-Working : goal.returns-in-Working
returns-in-Working g c = subst (λ s. CutsProgram s c.args.drives.now c.end_program.new.drives c.end_program.new.subchannel)
    (sym c.in-Working.is ∙ c.replace.ensures.value)
    (record { told = c.cut-motion.result; between = c.cut-motion.new.self; cut = c.cut-motion.ensures; over = c.end_program.ensures })
