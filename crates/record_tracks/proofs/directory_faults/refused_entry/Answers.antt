use Rattle.std.proofs.Common.{◌≡◌, ◌∙◌, ap, sym, subst, ℕ, ◌+◌, ◌<◌, List, ◌∷◌, length, drop, take, get_or, arith, All, Option, Some, ◌≤◌}
use Rattle.std.proofs.lemmas.List.{drop_more, get_or-map, length-map, drop_all, take_all, Elements.All-more}
use Rattle.record_tracks.specs.declared.{entries.NewEntry.NewEntry, directory_faults.EntryFault.EntryFault}
use Rattle.record_tracks.specs.Entries.{EntryContents, contents_of, all_contents, IsEntry}
use Rattle.record_tracks.specs.DirectoryFaults.{entry_fault, refused_or, refused_from}
use Rattle.record_tracks.proofs.directory_faults.refused_entry.Goals as goal

-- a loop over the entries that has passed so many
module _ (entries : List NewEntry) (number : ℕ) (d : NewEntry) (there : number < length entries) where
  abbrev e : EntryContents
  e = contents_of (get_or entries number d)

  here : number < length (all_contents entries)
  here = omega (arith, length-map entries contents_of)

  is : get_or (all_contents entries) number (contents_of d) ≡ e
  is = get_or-map contents_of entries number d (contents_of d) there

  next_refused : (before : Option (List ℕ)) (f : Option EntryFault) → f ≡ entry_fault before e
      → refused_from number before (drop number (all_contents entries))
      ≡ refused_or number f (refused_from (number + 1) (Some e.name) (drop (number + 1) (all_contents entries)))
  unfolding refused_from
  next_refused before f fault =
      let rest = drop (number + 1) (all_contents entries) in
      ap (refused_from number before) (drop_more (all_contents entries) number (contents_of d) here)
      ∙ ap (λ x. refused_from number before (x ∷ rest)) is
      ∙ ap (λ o. refused_or number o (refused_from (number + 1) (Some e.name) rest)) (sym fault)

  more_are : All IsEntry (take number (all_contents entries)) → IsEntry e → All IsEntry (take (number + 1) (all_contents entries))
  more_are so_far fits = All-more IsEntry (all_contents entries) number (contents_of d) here so_far (subst IsEntry (sym is) fits)

pub returns-in-Some-clause-fault : goal.returns-in-Some-clause-fault
returns-in-Some-clause-fault c = sym (c.loop-number.invariant.refused
    ∙ next_refused c.args.entries.now c.loop-number.number _ c.loop-number-test.true c.loop-number.before _
    (sym c.in-Some.is ∙ c.entry_fault.ensures.fault))

pub loop-number-preserved : goal.loop-number-preserved
loop-number-preserved c = record {
  refused = c.loop-number.invariant.refused
      ∙ next_refused c.args.entries.now c.loop-number.number _ c.loop-number-test.true c.loop-number.before _
      (sym c.in_default.is ∙ c.entry_fault.ensures.fault);
  each = more_are c.args.entries.now c.loop-number.number _ c.loop-number-test.true c.loop-number.invariant.each c.in_default.ensures.fits;
}

pub returns : goal.returns
unfolding refused_from
returns c =
    let entries = all_contents c.args.entries.now in
    let past : length entries ≤ c.loop-number.number = omega (arith, length-map c.args.entries.now contents_of) in
    let none = c.loop-number.invariant.refused
    ∙ ap (refused_from c.loop-number.number c.loop-number.before) (drop_all c.loop-number.number entries past) in
    record {
      fault = sym none;
      fits = record {
        not_refused = none;
        each = subst (All IsEntry) (take_all c.loop-number.number entries past) c.loop-number.invariant.each;
      };
      within = tt;
    }
