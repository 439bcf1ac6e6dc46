use Rattle.std.proofs.Common.{ap}
use Rattle.lone_drive_c.specs.Codes.{look_code}
use Rattle.lone_drive_c.proofs.whole.move_more.Goals as goal

-- whatever the look answers, what is left of the bytes passes after it
pub returns : goal.returns
returns c = record {
  code = look_code c.look.result;
  looked = c.look.new.self;
  looks = record {
    told = ap look_code c.look.ensures.answer;
    state = c.look.ensures.state;
    calls = c.look.ensures.calls;
    reported = c.look.ensures.reported;
  };
  rest = c.pass_left.ensures;
}
