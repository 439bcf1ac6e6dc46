use Rattle.std.proofs.Common.{[], ◌∷◌, codes}
use Rattle.std.specs.Fmt.{decimal}
use Rattle.dasd_volumes.proofs.Together.{together_is}
use Rattle.dasd_volumes.proofs.objects.put_lengths.Goals as goal

pub returns : goal.returns
returns c =
    rw (
      c.push_str-3.ensures.bytes,
      c.put_count-2.ensures.text,
      c.push_str-2.ensures.bytes,
      c.put_count.ensures.text,
      c.push_str.ensures.bytes,
    ) (together_is c.args.line.now.bytes (codes "\",\"key_length\":" ∷ decimal c.args.key_length ∷ codes ",\"data_length\":"
    ∷ decimal c.args.data_length ∷ codes "}" ∷ []))
