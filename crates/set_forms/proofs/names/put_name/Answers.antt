use Rattle.std.proofs.Common.{◌∙◌}
use Rattle.set_forms.proofs.Reading.{put_before}
use Rattle.set_forms.proofs.names.put_name.Goals as goal

pub returns : goal.returns
returns c = put_before c.args.name.now c.args.word.now c.in-Some.bytes.items _ _ c.if-word-gt-SPELLED_NAME.false c.in-Some.ensures
    c.len-len.ensures.value
    c.if-len-eq0.false c.if-len-name.false (c.copy_from_slice.ensures.after ∙ c.as_slice.ensures.value) c.requires
