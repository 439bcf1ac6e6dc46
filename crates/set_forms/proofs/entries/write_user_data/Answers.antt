use Rattle.set_forms.specs.Forms.{user_data_text}
use Rattle.set_forms.proofs.Reading.{after}
use Rattle.set_forms.proofs.entries.write_user_data.Goals as goal

pub returns : goal.returns
unfolding user_data_text
returns g c = after _ _ _ _ _ _ c.in_ok-write_notes.ensures c.write_user.ensures
