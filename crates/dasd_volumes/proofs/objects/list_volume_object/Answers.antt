use Rattle.std.proofs.Common.{◌≡◌, ◌∙◌, ℕ, List, [], ◌∷◌, ◌++◌, codes, subst}
use Rattle.std.proofs.lemmas.Result.{err_from_is_err_and}
use Rattle.std.specs.Fmt.{decimal}
use Rattle.std.specs.List.{concat}
use Rattle.counted_io.specs.Streams.{seen_by, WritesWhole}
use Rattle.ckd_track.specs.Model.{heads_of, model_number_of}
use Rattle.dasd_volumes.proofs.Together.{together_is}
use Rattle.dasd_volumes.proofs.Printing.{then_whole, stopped_before}
use Rattle.dasd_volumes.proofs.objects.list_volume_object.Goals as goal

pub returns-in_err-write_path : goal.returns-in_err-write_path
returns-in_err-write_path g c =
    let p = err_from_is_err_and c.from_residual.result c.from_residual.ensures.1 in
    rw p.1 (stopped_before _ _ _ _ c.in_err-write_path.ensures)

pub returns : goal.returns
returns g c =
    then_whole c.write_whole.result _ _ _ (codes "{\"path\":" ++ c.args.path.now) (concat pieces) c.in_ok-write_path.ensures
    (subst (λ t. WritesWhole c.write_whole.result (seen_by g.W.Write.contents c.write_path.new.writer)
    (seen_by g.W.Write.contents c.write_whole.new.writer) t) text c.write_whole.ensures)
  where
    pieces : List (List ℕ)
    pieces =
        codes ",\"model\":" ∷ decimal (model_number_of c.args.geometry.model) ∷ codes ",\"cylinders\":" ∷ decimal c.args.geometry.cylinders
        ∷ codes ",\"heads\":" ∷ decimal (heads_of c.args.geometry.model) ∷ codes ",\"slot_size\":" ∷ decimal c.args.geometry.track_size
        ∷ codes "}\n" ∷ []

    line : c.push_str-5.new.self.bytes ≡ concat pieces
    line =
        rw (
          c.push_str-5.ensures.bytes,
          c.put_decimal-4.ensures.text,
          c.push_str-4.ensures.bytes,
          c.put_decimal-3.ensures.text,
          c.push_str-3.ensures.bytes,
          c.put_decimal-2.ensures.text,
          c.push_str-2.ensures.bytes,
          c.put_decimal.ensures.text,
          c.push_str.ensures.bytes,
          c.new-line.ensures,
          c.from.ensures,
          c.from-2.ensures,
          c.from-3.ensures,
          c.number.ensures,
          c.heads.ensures,
        ) (together_is [] pieces)

    text : c.as_bytes.result.now ≡ concat pieces
    text = c.as_bytes.ensures.value ∙ (c.deref.ensures.0 ∙ line)
