use Rattle.std.proofs.Common.{◌≡◌, ◌∙◌, ℕ, List, [], ◌∷◌, codes, subst, append_assoc}
use Rattle.std.proofs.lemmas.Result.{err_from_is_err_and}
use Rattle.std.specs.Fmt.{decimal}
use Rattle.std.specs.List.{concat}
use Rattle.counted_io.specs.Streams.{Stream, seen_by, TakesFront, OneFailed, WritesWhole}
use Rattle.dasd_volumes.specs.Lines.{fault_text, line_feed}
use Rattle.dasd_volumes.proofs.Together.{pieces_behind}
use Rattle.dasd_volumes.proofs.Printing.{then_whole, stopped_before}
use Rattle.dasd_volumes.proofs.objects.list_unreadable_object.Goals as goal

pub returns-in_err-begin_object : goal.returns-in_err-begin_object
returns-in_err-begin_object g c =
    let p = err_from_is_err_and c.from_residual.result c.from_residual.ensures.1 in
    let place = codes "{\"path\":" ∷ c.args.path.now ∷ codes ",\"cylinder\":" ∷ decimal c.args.address.cylinder ∷ codes ",\"head\":"
    ∷ decimal c.args.address.head ∷ [] in
    let more = codes ",\"unreadable\":\"" ∷ fault_text c.args.fault ∷ codes "\"}" ∷ line_feed ∷ [] in
    let a = seen_by g.W.Write.contents c.args.writer.now in
    let b = seen_by g.W.Write.contents c.begin_object.new.writer in
    rw p.1 (subst (λ t. TakesFront a b t × OneFailed a b) (pieces_behind place more) (stopped_before a b (concat place)
    (concat more) c.in_err-begin_object.ensures))

pub returns : goal.returns
returns g c =
    subst (λ t. WritesWhole c.write_whole.result a d t) (pieces_behind place more)
    (then_whole c.write_whole.result a b d (concat place) (concat more) c.in_ok-begin_object.ensures
    (subst (λ t. WritesWhole c.write_whole.result b d t) text c.write_whole.ensures))
  where
    place : List (List ℕ)
    place = codes "{\"path\":" ∷ c.args.path.now ∷ codes ",\"cylinder\":" ∷ decimal c.args.address.cylinder ∷ codes ",\"head\":"
        ∷ decimal c.args.address.head ∷ []

    more : List (List ℕ)
    more = codes ",\"unreadable\":\"" ∷ fault_text c.args.fault ∷ codes "\"}" ∷ line_feed ∷ []

    a : Stream
    a = seen_by g.W.Write.contents c.args.writer.now

    b : Stream
    b = seen_by g.W.Write.contents c.begin_object.new.writer

    d : Stream
    d = seen_by g.W.Write.contents c.write_whole.new.writer

    line : c.push_str-2.new.self.bytes ≡ concat more
    line =
        rw (
          c.push_str-2.ensures.bytes,
          c.put_fault.ensures.text,
          c.push_str.ensures.bytes,
          c.new-line.ensures,
        ) (simp (append_assoc))

    text : c.as_bytes.result.now ≡ concat more
    text = c.as_bytes.ensures.value ∙ (c.deref.ensures.0 ∙ line)
