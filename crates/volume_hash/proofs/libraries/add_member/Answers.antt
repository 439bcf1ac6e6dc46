use Rattle.std.proofs.Common.{◌∙◌, ap, append_assoc, ℕ, Bool, List, ◌++◌, ◌&&◌}
use Rattle.hex.specs.Hex.{encode_lower}
use Rattle.volume_labels.specs.Names.{safe_name_of}
use Rattle.volume_hash.specs.SetLines.{shown, member_text}
use Rattle.volume_hash.specs.Sets.{where_asked}
use Rattle.volume_hash.proofs.libraries.add_member.Goals as goal

pub returns-in-Ok-list_member-clause-member : goal.returns-in-Ok-list_member-clause-member
returns-in-Ok-list_member-clause-member g c =
    let hashed = c.in-Ok.ensures.hash in
    let listed = c.in-Ok-list_member.ensures in
    let before = c.args.listed.now in
    let e = c.args.entry.now in
    let form = c.args.named.form in
    let f = shown form.path.now form.json form.sets form.members in
    let line = λ (digest : List ℕ) (whole : Bool). before.report.lines.items
    ++ where_asked form.members (member_text f c.args.named.name.now (safe_name_of e.name) (encode_lower digest) whole) in
    record {
      message = λ slots known. listed.message ∙ append_assoc before.message e.name _
          ∙ ap (λ digest. before.message ++ (e.name ++ digest)) (hashed.digest slots known);
      lines = λ slots known. listed.lines ∙ ap (λ digest. line digest c.in-Ok.hash.is_whole) (hashed.digest slots known)
          ∙ ap (line _) (hashed.whole slots known);
      whole = λ slots known. listed.whole ∙ ap (λ whole. before.report.is_whole && whole) (hashed.whole slots known);
    }
