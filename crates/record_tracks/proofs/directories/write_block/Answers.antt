use Rattle.std.proofs.Common.{◌≡◌, ◌∙◌, ap, sym, ℕ, ◌+◌, ◌-◌, ◌/◌, ◌%◌, ◌<◌, ◌≤◌, ◌++◌, [], ◌∷◌, length, drop, take, replicate, arith}
use Rattle.std.proofs.Common.{length-append, append_assoc, ⊎_elim}
use Rattle.std.specs.List.{concat}
use Rattle.std.proofs.lemmas.{Bool.cases_lt, List.get_or-drop, List.get_or-take, List.drop_all, List.length-take-le, List.Elements.All-drop}
use Rattle.record_tracks.specs.{Entries.all_contents, Entries.all_entries, Directory.key_of, Directory.block_front, Directory.block_of}
use Rattle.record_tracks.specs.Filled.{filled}
use Rattle.record_tracks.proofs.{Going.IsShort, Going.entries_short, Going.goes_in, Going.some_fit, Filled.put_behind}
use Rattle.record_tracks.proofs.DirectoryReading.{block_made, length-key}
use Rattle.record_tracks.proofs.directories.write_block.Goals as goal

pub returns-then-count-eq0-clause-block : goal.returns-then-count-eq0-clause-block
returns-then-count-eq0-clause-block c =
    let all = all_entries (all_contents c.args.entries.now) in
    let from = c.args.from in
    let past : length all ≤ from = ⊎_elim
    (λ (there : from < length all). absurd
    (omega (arith, some_fit all from (entries_short (all_contents c.args.entries.now) c.requires.each) there)))
    (λ (past : length all ≤ from). past) (cases_lt from (length all)) in
    c.clear.ensures ∙ ap (λ (n : ℕ). replicate n 0) c.requires.room ∙ ap block_of (sym (drop_all from all past))

pub returns-clause-block : goal.returns-clause-block
returns-clause-block c =
    let all = all_entries (all_contents c.args.entries.now) in
    let from = c.args.from in
    let left = drop from all in
    let g = c.going_in-count.result.count in
    let used = c.going_in-count.result.used in
    let count = c.going_in-count.ensures.count in
    let ps = take g left in
    let key = c.key_at.result in
    let within = (goes_in 2 left).within in
    let size : length ps ≡ g = length-take-le g left (omega arith) in
    let far : from + (g - 1) ≡ from + g - 1 = omega arith in
    let key_is : key ≡ key_of ps = cc (get_or-drop from all (g - 1) [], get_or-take g left (g - 1) [] (omega arith)) in
    let head = key ++ (used / 256 ∷ used % 256 ∷ []) in
    let front_is : head ++ concat ps ≡ block_front ps = cc (append_assoc key (used / 256 ∷ used % 256 ∷ []) (concat ps)) in
    let some : 1 ≤ length left = omega arith in
    let short = entries_short (all_contents c.args.entries.now) c.requires.each in
    let short_left = All-drop IsShort from all short in
    let one = ap (λ (n : ℕ). length (key_of (take n left))) count in
    let two = length-append key (used / 256 ∷ used % 256 ∷ []) in
    let ten : length head ≡ 10 = omega (arith, ap length key_is, length-key left short_left some) in
    cc (
      put_behind 264 c.begin.new.block c.append_entries.new.block head (concat ps) 10 c.append_entries.ensures.written
          (c.begin.ensures.same ∙ c.requires.room) ten (c.begin.ensures.written ∙ ap (λ (n : ℕ). filled n head) c.requires.room),
      block_made left some,
    )
