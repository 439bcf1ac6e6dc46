use Rattle.std.proofs.Common.{◌≡◌, ◌∙◌, ap, ◌++◌}
use Rattle.saved_state.specs.Bytes.{beginning, bytes_of, channels_bytes, checksum, word_bytes}
use Rattle.saved_state.proofs.Joining.{all_puts, three_puts}
use Rattle.saved_state.proofs.writing.to_bytes.Goals as goal

pub returns-clause-bytes : goal.returns-clause-bytes
unfolding bytes_of
returns-clause-bytes c =
    let saved = c.args.saved.now in
    let body : c.put_channel-7.new.out.items ≡ beginning ++ channels_bytes saved =
    all_puts saved c.put.new.out.items c.put_channel-3.new.out.items c.put_channel-6.new.out.items c.put_channel-7.new.out.items
    c.told-saved
    (three_puts c.put.new.out.items c.put_channel.new.out.items c.put_channel-2.new.out.items c.put_channel-3.new.out.items _ _ _
    c.put_channel.ensures.items c.put_channel-2.ensures.items c.put_channel-3.ensures.items)
    (three_puts c.put_channel-3.new.out.items c.put_channel-4.new.out.items c.put_channel-5.new.out.items
    c.put_channel-6.new.out.items _ _ _
    c.put_channel-4.ensures.items c.put_channel-5.ensures.items c.put_channel-6.ensures.items)
    c.put_channel-7.ensures.items
    ∙ ap (λ o. o ++ channels_bytes saved) (c.put.ensures.items ∙ ap (λ o. o ++ beginning) c.new-out.ensures) in
    c.put-2.ensures.items
    ∙ (ap (λ w. c.put_channel-7.new.out.items ++ w) (c.word_bytes.ensures
    ∙ ap word_bytes (c.checksum-sum.ensures ∙ ap checksum c.as_slice.ensures.value))
    ∙ ap (λ o. o ++ word_bytes (checksum o)) body)
