use Rattle.std.proofs.Common.{◌≡◌, ◌∙◌, ◌-◌, ◌^◌, [], ◌∷◌, min, codes, subst}
use Rattle.std.specs.Fmt.{decimal}
use Rattle.counted_io.specs.Streams.{seen_by, WritesWhole}
use Rattle.ckd_track.specs.Charges.{used_of}
use Rattle.dasd_volumes.specs.Lines.{bytes_text}
use Rattle.dasd_volumes.specs.Listing.{whole_text}
use Rattle.dasd_volumes.proofs.Together.{together_is}
use Rattle.dasd_volumes.proofs.objects.write_track.Goals as goal

pub returns : goal.returns
returns g c = subst (λ t. WritesWhole c.write_whole.result (seen_by g.W.Write.contents c.args.writer.now)
    (seen_by g.W.Write.contents c.write_whole.new.writer) t) text c.write_whole.ensures
  where
    line : c.push_str-3.new.self.bytes ≡ whole_text c.args.model c.args.view.now
    line =
        rw (
          c.push_str-3.ensures.bytes,
          c.put_decimal.ensures.text,
          c.push_str-2.ensures.bytes,
          c.put_bytes.ensures.text,
          c.push_str.ensures.bytes,
          c.new-line.ensures,
          c.ha.ensures.bytes,
          c.used.ensures,
        ) (together_is [] (
        codes ",\"home_address\":\"" ∷ bytes_text c.args.view.now.home_address ∷ codes "\",\"used\":"
        ∷ decimal (min (used_of c.args.model c.args.view.now.records) (2 ^ 32 - 1)) ∷ codes ",\"records\":[" ∷ []))

    text : c.as_bytes.result.now ≡ whole_text c.args.model c.args.view.now
    text = c.as_bytes.ensures.value ∙ (c.deref.ensures.0 ∙ line)
