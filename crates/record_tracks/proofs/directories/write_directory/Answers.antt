use Rattle.std.proofs.Common.{◌≡◌, ◌∙◌, ap, sym, ℕ, suc, ◌+◌, ◌-◌, ◌*◌, ◌/◌, ◌≤◌, ◌++◌, length, drop, take, arith, append_assoc}
use Rattle.std.proofs.Common.{append-nil, drop-drop}
use Rattle.std.specs.List.{concat}
use Rattle.std.proofs.lemmas.{List.take_all, Slice.take-put_mid, List.Elements.All-drop}
use Rattle.record_tracks.specs.{Entries.all_contents, Entries.all_entries, Directory.going_in, Directory.block_of, Directory.blocks_of}
use Rattle.record_tracks.proofs.{Going.IsShort, Going.entries_short, DirectoryReading.length-block, DirectoryReading.read_back}
use Rattle.record_tracks.proofs.directories.write_directory.Goals as goal

pub loop-k-preserved : goal.loop-k-preserved
unfolding blocks_of
loop-k-preserved c =
    let all = all_entries (all_contents c.args.entries.now) in
    let left = drop c.loop-k.from all in
    let blocks = length c.args.directory.now / 264 in
    let k = c.loop-k.k in
    let start = k * 264 in
    let d = c.loop-k.directory in
    let b = c.write_block-from.new.block in
    let n = blocks - (k + 1) in
    let one : blocks - k ≡ suc n = omega arith in
    let size : length b ≡ 264 = ap length c.write_block-from.ensures.block ∙ length-block left (All-drop IsShort c.loop-k.from all
    (entries_short (all_contents c.args.entries.now) c.requires.entries.each)) in
    let end : (k + 1) * 264 ≡ start + length b = omega arith in
    let there : start ≤ length d = omega arith in
    let others : drop (going_in 2 left) left ≡ drop c.write_block-from.result all = cc (drop-drop (going_in 2 left) c.loop-k.from all) in
    record {
      within = c.write_block-from.ensures.within;
      blocks = c.loop-k.invariant.blocks ∙ cc (
        ap (λ (m : ℕ). take start d ++ concat (blocks_of left m)) one,
        append_assoc (take start d) (block_of left) (concat (blocks_of (drop c.write_block-from.result all) n)),
        take-put_mid start (start + 264 - start) d b ((k + 1) * 264) end there,
      );
    }

pub returns-clause-blocks : goal.returns-clause-blocks
unfolding blocks_of
returns-clause-blocks c =
    let all = all_entries (all_contents c.args.entries.now) in
    let blocks = length c.args.directory.now / 264 in
    let k : c.loop-k.k ≡ blocks = omega arith in
    let none : blocks - c.loop-k.k ≡ 0 = omega arith in
    let whole : length c.loop-k.directory ≤ c.loop-k.k * 264 = omega arith in sym (c.loop-k.invariant.blocks
    ∙ rw (none, append-nil (take (c.loop-k.k * 264) c.loop-k.directory)) (take_all (c.loop-k.k * 264) c.loop-k.directory whole))

pub returns-clause-read : goal.returns-clause-read
returns-clause-read c =
    read_back (all_contents c.args.entries.now) (length c.args.directory.now / 264) c.requires.entries.each c.requires.room
