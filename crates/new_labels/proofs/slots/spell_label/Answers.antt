use Rattle.std.proofs.Common.{◌≡◌, ◌∙◌, ap, sym, refl, List, ℕ, ◌+◌, length, replicate, ◌∷◌, ◌++◌}
use Rattle.ckd_track.specs.Track.{Record, slot_of, record_bytes, end_mark}
use Rattle.new_labels.specs.Records.{track_bytes, loader_data, volume_data, record_id}
use Rattle.new_labels.specs.Tracks.{filled, track_front, first_record, with_id, first_loader_key, second_loader_key, label_key}
use Rattle.new_labels.proofs.Filled.{Put, put_of, four_put, put_behind, label_spelled, same_record}
use Rattle.new_labels.proofs.slots.spell_label.Goals as goal

pub returns : goal.returns
unfolding slot_of
returns c =
    let g = c.args.geometry in
    let track = track_bytes g 0 in
    let front = track_front track in
    let first = with_id c.record_id-first.result first_loader_key c.loader_data.result in
    let second = with_id c.record_id-second.result second_loader_key (replicate 144 0) in
    let third = with_id c.record_id-third.result label_key c.volume_data.result in
    let is_first : first ≡ with_id (record_id g 0 1) first_loader_key loader_data =
    same_record _ _ _ _ _ _ c.record_id-first.ensures refl c.loader_data.ensures in
    let is_second : second ≡ with_id (record_id g 0 2) second_loader_key (replicate 144 0) =
    same_record _ _ _ _ _ _ c.record_id-second.ensures refl refl in
    let is_third : third ≡ with_id (record_id g 0 3) label_key (volume_data g c.args.label.now) =
    same_record _ _ _ _ _ _ c.record_id-third.ensures refl c.volume_data.ensures.bytes in
    let s1 = c.begin-at.new.slot in
    let s2 = c.append_record-at.new.slot in
    let s3 = c.append_record-at-2.new.slot in
    let s4 = c.append_record-at-3.new.slot in
    let s5 = c.append.new.slot in
    let one : Put s1 s2 = put_of _ _ _ _ c.append_record-at.ensures.written c.append_record-at.ensures.same in
    let two : Put s2 s3 = put_of _ _ _ _ c.append_record-at-2.ensures.written c.append_record-at-2.ensures.same in
    let three : Put s3 s4 = put_of _ _ _ _ c.append_record-at-3.ensures.written c.append_record-at-3.ensures.same in
    let mark : Put s4 s5 = put_of _ _ _ _ c.append.ensures.written c.append.ensures.same in
    let all = four_put _ _ _ _ _ one two three mark
    (c.append_record-at.ensures.next ∙ ap (λ (n : ℕ). c.begin-at.result + n) (sym c.append_record-at.ensures.size))
    (c.append_record-at-2.ensures.next ∙ ap (λ (n : ℕ). c.append_record-at.result + n) (sym c.append_record-at-2.ensures.size))
    (c.append_record-at-3.ensures.next ∙ ap (λ (n : ℕ). c.append_record-at-2.result + n) (sym c.append_record-at-3.ensures.size)) in
    let put : (a b d : Record) → List ℕ = λ a b d. filled (length c.args.slot.now)
    (front ++ (((record_bytes a ++ record_bytes b) ++ record_bytes d) ++ end_mark)) in
    let label_first = with_id (record_id g 0 1) first_loader_key loader_data in
    let label_second = with_id (record_id g 0 2) second_loader_key (replicate 144 0) in
    let label_third = with_id (record_id g 0 3) label_key (volume_data g c.args.label.now) in
    put_behind (length c.args.slot.now) s1 s5 front all.bytes all.at all.put c.begin-at.ensures.same (sym c.begin-at.ensures.next)
    c.begin-at.ensures.written
    ∙ ap (λ (r : Record). put r second third) is_first
    ∙ ap (λ (r : Record). put label_first r third) is_second
    ∙ ap (λ (r : Record). put label_first label_second r) is_third
    ∙ ap (filled (length c.args.slot.now)) (label_spelled (0 ∷ track) (record_bytes (first_record track))
    (record_bytes label_first) (record_bytes label_second) (record_bytes label_third) end_mark)
