use Rattle.std.proofs.Common.{◌∙◌, sym, refl, rules}
use Rattle.ckd_drive.specs.Jobs.{half_done}
use Rattle.ckd_drive.proofs.News.{field_stays, home_absorbs}
use Rattle.ckd_drive.proofs.Formats.{format_goes, format_stays, due_absorbs}
use Rattle.ckd_drive.proofs.Takes.{Collects}
use Rattle.ckd_drive.proofs.job.Job.collect.Given.{Over}
use Rattle.ckd_drive.proofs.job.Job.collect.Goals.{After-whole_field}
use Rattle.ckd_drive.proofs.job.Job.collect.Goals as goal

-- the field has the bytes that came
more : (g : Over) (c : After-whole_field g) → Collects (half_done c.args.self.now) c.args.bytes.now c.args.field c.collected-field.result
more g c = record { may = c.requires.may; placed = c.requires.at; is = c.collected-field.ensures }

pub returns-in-No : goal.returns-in-No
returns-in-No g c = record {
  absorbs = field_stays (more g (goal.at.returns-in-No g c).After-whole_field) (sym c.whole_field.ensures
      ∙ c.in-No.is);
  stays = refl;
}

pub returns-in-HomeAddress : goal.returns-in-HomeAddress
returns-in-HomeAddress g c =
    rw (c.of-self.ensures, c.bytes.ensures, c.buffer.ensures.slot, c.write_home_address.ensures)
    record {
      absorbs = home_absorbs _ _ (more g (goal.at.returns-in-HomeAddress g c).After-whole_field) (sym c.whole_field.ensures
          ∙ c.in-HomeAddress.is) refl;
      stays = refl;
    }

pub returns-in_default : goal.returns-in_default
returns-in_default g c =
    let k = format_goes c.in-Count.count (more g (goal.at.returns-in_default g c).After-whole_field) (search rules)
    (sym c.whole_field.ensures ∙ c.in-Count.is) in
    rw c.place_for.ensures.stays record { absorbs = format_stays k (rw c.in_default.is at c.place_for.ensures.places); stays = refl }

pub returns-in-Some : goal.returns-in-Some
returns-in-Some g c =
    let k = format_goes c.in-Count.count (more g (goal.at.returns-in-Some g c).After-whole_field) (search rules) (sym c.whole_field.ensures
    ∙ c.in-Count.is) in
    rw c.place_for.ensures.stays
    record { absorbs = due_absorbs c.in-Some.number c.in-Some.place k (rw c.in-Some.is at c.place_for.ensures.places); stays = refl }
