use Rattle.std.proofs.Common.{refl, rules}
use Rattle.s360_program.specs.Place.{place_of}
use Rattle.s360_program.proofs.Begins.{misses, rejects, immediately}
use Rattle.s360_program.proofs.Quiet.{immediately_quiet}
use Rattle.s360_program.proofs.run.Run.next_command.Goals as goal

pub returns-in-NoCcw-clause-comes : goal.returns-in-NoCcw-clause-comes
returns-in-NoCcw-clause-comes g c =
    let holds = g.M.MainStorage.holds in
    let a = c.args in
    let p = c.end_program in (
      refl,
      misses a.self.now.key (place_of a.self.now.place) (place_of c.miss.new.self) (holds a.storage.now) _ a.drive.now p.new.drive
          c.in-NoCcw.ensures.fetched c.requires.fits.stands.saved c.miss.ensures p.ensures,
    )

pub returns-in-Rejected-clause-comes : goal.returns-in-Rejected-clause-comes
returns-in-Rejected-clause-comes g c =
    let holds = g.M.MainStorage.holds in
    let a = c.args in
    let b = c.in-Rejected.ensures in
    let p = c.end_program-in-Rejected in (
      refl,
      rejects a.self.now.key (place_of a.self.now.place) (holds a.storage.now) c.in-GoodCcw.ccw a.drive.now c.begin.new.self
          c.in-GoodCcw.ensures.fetched c.requires.fits.stands.saved b.state
          _ p.new.drive b.answer b.calls b.reported (place_of c.go_by.new.self) c.go_by.ensures (rw c.keep.ensures at p.ensures),
    )

pub returns-in-Immediate : goal.returns-in-Immediate
returns-in-Immediate g c =
    let holds = g.M.MainStorage.holds in
    let a = c.args in
    let b = c.in-Immediate.ensures in
    let e = c.conclude in
    let saved = c.requires.fits.stands.saved in
    record {
      comes = immediately a.self.now.key (place_of a.self.now.place) (holds a.storage.now) c.in-GoodCcw.ccw a.drive.now c.begin.new.self
          c.in-GoodCcw.ensures.fetched saved b.state
          e.new.self e.result e.new.drive b.answer b.reported e.ensures.loads e.ensures.unwritten
          (place_of c.go_by.new.self) c.go_by.ensures (rw c.keep.ensures at (e.ensures.comes (holds a.storage.now)));
      calls = search rules;
      quiet = immediately_quiet _ c.in-GoodCcw.ccw.code a.drive.now c.begin.new.self e.new.drive saved c.requires.idle b.state b.calls
          e.ensures.unwritten;
    }
