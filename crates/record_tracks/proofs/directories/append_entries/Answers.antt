use Rattle.std.proofs.Common.{◌≡◌, ◌∙◌, ap, ℕ, List, ◌+◌, ◌<◌, ◌++◌, [], length, drop, take, arith, length-append, length-drop}
use Rattle.std.specs.List.{concat}
use Rattle.std.proofs.lemmas.List.{get_or-drop}
use Rattle.record_tracks.specs.{Entries.all_contents, Entries.all_entries}
use Rattle.record_tracks.proofs.{Going.length-entries, Going.concat_more, Going.concat_fewer, Filled.two_puts}
use Rattle.record_tracks.proofs.directories.append_entries.Goals.{After-bytes_at}
use Rattle.record_tracks.proofs.directories.append_entries.Goals as goal

-- the bytes with one entry more
module _ (c : After-bytes_at) where
  abbrev left : List (List ℕ)
  left = drop c.args.from (all_entries (all_contents c.args.entries.now))

  abbrev own : List ℕ
  own = c.bytes_at.result.front ++ c.bytes_at.result.user_data.now

  next_bytes : concat (take (c.loop-k.k + 1) left) ≡ concat (take c.loop-k.k left) ++ own
  next_bytes =
      let all = all_entries (all_contents c.args.entries.now) in
      let there : c.loop-k.k < length left = omega (arith, length-drop c.args.from all, length-entries c.args.entries.now) in
      cc (concat_more left c.loop-k.k there, get_or-drop c.args.from all c.loop-k.k [])

  next_size : length (concat (take (c.loop-k.k + 1) left)) ≡ length (concat (take c.loop-k.k left)) + length own
  next_size = omega (arith, ap length next_bytes, length-append (concat (take c.loop-k.k left)) own)

pub append_entry-at-requires : goal.append_entry-at-requires
append_entry-at-requires c =
    let before = (goal.at.append_entry-at-requires c).After-bytes_at in
    let fewer = concat_fewer (c.loop-k.k + 1) c.args.count (left before) (omega arith) in
    omega (arith, next_size before, ap length c.bytes_at.ensures.bytes)

pub loop-k-preserved : goal.loop-k-preserved
loop-k-preserved c =
    let before = (goal.at.loop-k-preserved c).After-bytes_at in record {
      size = c.append_entry-at.ensures.same ∙ c.loop-k.invariant.size;
      place = omega (arith, next_size before, ap length c.bytes_at.ensures.bytes);
      written = rw (next_bytes before) (two_puts 10 c.loop-k.at (concat (take c.loop-k.k (left before))) (own before)
          c.args.block.now c.loop-k.block c.append_entry-at.new.block
          c.loop-k.invariant.written c.append_entry-at.ensures.written c.loop-k.invariant.place c.loop-k.invariant.size);
    }
