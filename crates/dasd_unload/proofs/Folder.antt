-- Files that come to a folder.
use Rattle.std.proofs.Common.{◌∙◌, ap, sym, ℕ, List, [], ◌++◌, append_assoc, append-nil, rules}
use Rattle.std.proofs.lemmas.List.Elements.{All-append}
use Rattle.dasd_jobs.specs.Written.{Replaced}
use Rattle.dasd_unload.specs.Unloads.{AddsIn, StandsIn}

-- some came, and then others
pub adds_both : (folder : List ℕ) (before between now : List Replaced) → AddsIn folder before between → AddsIn folder between now
    → AddsIn folder before now
adds_both folder before between now first next = record {
  more = first.more ++ next.more;
  added = next.added ∙ ap (λ l. l ++ next.more) first.added ∙ append_assoc before first.more next.more;
  stand = All-append (StandsIn folder) first.more next.more first.stand next.stand;
}

-- none came
pub adds_none : (folder : List ℕ) (files : List Replaced) → AddsIn folder files files
adds_none folder files = record { more = []; added = sym (append-nil files); stand = search rules }
