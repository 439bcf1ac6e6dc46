-- The steps of a volume, as they were done.
use Rattle.std.proofs.Common.{◌≡◌, ◌∙◌, inl, inr, sym, refl, ap, subst, ℕ, Bool, true, false, if◌then◌else◌, List, [], ◌∷◌, ◌++◌, map}
use Rattle.std.proofs.Common.{codes, length, Option, Some, None, Result, Ok, Err, IfOk, OnOk, append-nil}
use Rattle.std.specs.List.{flat_map, fold}
use Rattle.std.proofs.lemmas.List.Concat.{flat_map_single}
use Rattle.counted_io.specs.Streams.{Stream, Takes, TakesFront}
use Rattle.counted_io.proofs.Written.{takes_more, takes_nothing}
use Rattle.volume_labels.specs.declared.fields.Extent.{Extent}
use Rattle.volume_labels.specs.declared.blocks.DataSetBlock.{DataSetBlock}
use Rattle.volume_labels.specs.Labels.{data_set_block_of}
use Rattle.volume_labels.specs.declared.directories.DirectoryEntry.{DirectoryEntry}
use Rattle.dasd_volumes.specs.Reading.{KnownVolume}
use Rattle.dasd_volumes.proofs.Fronts.{front_behind}
use Rattle.volume_contents.specs.declared.blocks.Block.{Block}
use Rattle.volume_contents.specs.declared.chains.ChainFault.{ChainFault}
use Rattle.volume_contents.specs.declared.sets.DataSet.{DataSet}
use Rattle.volume_contents.specs.declared.reading.Contents.{Contents}
use Rattle.volume_contents.specs.Contents.{IsContents, contents_of}
use Rattle.volume_contents.specs.Sets.{DataSetOf, is_data_set, extents_behind, behind_block}
use Rattle.dasd_extract.specs.declared.blocks.ExtractedForm.{ExtractedForm}
use Rattle.dasd_extract.specs.declared.members.Members.{Members}
use Rattle.dasd_extract.specs.declared.stops.Stop.{Stop}
use Rattle.dasd_extract.specs.Members.{MembersOf, directory}
use Rattle.dasd_extract.specs.Walk.{Wanted, wanted, source_written}
use Rattle.dasd_jobs.specs.Sources.{SourceFile, OfVolume, OpensPaths, Mounts, OpenedState, volume_in}
use Rattle.dasd_jobs.specs.Written.{Replaced, with_file}
use Rattle.dasd_unload.specs.declared.fault.UnloadFault.{UnloadFault}
use Rattle.dasd_unload.specs.declared.report.Tally.{Tally}
use Rattle.dasd_unload.specs.declared.sets.Unloaded.{Unloaded}
use Rattle.dasd_unload.specs.Unloads.{Outcome, outcome, Unloads, file_name, text_name}
use Rattle.dasd_unload.specs.Described.{described, IsDescribed}
use Rattle.dasd_unload.specs.Parts.{is_partitioned, written_texts}
use Rattle.dasd_unload.specs.Asked.{form_of, beginning}
use Rattle.dasd_unload.specs.Told.{Line, FileLine, FindingLine, finding_lines, line_text, count_line, no_line, total_text, contents_texts}
use Rattle.dasd_unload.specs.Told.{chain_texts, directory_texts, end_texts, TellsText}
use Rattle.dasd_unload.specs.Volumes.{Plan, Unloading, unloading, Step, Unload, Tell, Describe, Done, path_in, member_step}
use Rattle.dasd_unload.specs.Volumes.{partitioned_steps, steps_of_form, set_steps, block_steps, table_steps, volume_steps, unloaded_lines}
use Rattle.dasd_unload.specs.Volumes.{DoesOfVolume, UnloadsKnown, UnloadsVolume}
use Rattle.dasd_unload.proofs.Steps.{SoFar, one, counts_told, nothing, finished, with_more, stop_in, with_last, same, of_steps}

abbrev Result0 : Type 0
Result0 = Result (Unit {0}) UnloadFault

on_ok : (r : Result0) (P : Type 0) → P → OnOk r P
on_ok (Ok _) P p = p
on_ok (Err _) P p = tt

-- something was told of what has a name, or nothing
module _ (r : Result0) (v : KnownVolume) (p : Plan) (name : List ℕ) (files : List Replaced) (a b : Stream) (s t : Tally) where
  pub tell : (texts : List (List ℕ)) → TellsText r (flat_map (line_text p.json) (finding_lines name texts)) a b
      → OnOk r (t ≡ fold count_line s (finding_lines name texts))
      → DoesOfVolume r v p (λ u. Tell name texts ∷ []) (outcome files a) (outcome files b) s t
  tell texts told counted = record {
    counts = counts_told r _ a b told;
    does = λ slots known.
        one r (unloading v slots p) (record { step = Tell name texts; is_kept_out = false }) (outcome files a) (outcome files b) s t
        (sym (append-nil files)) told counted;
  }

  as_one : (text : List ℕ) → TellsText r (line_text p.json (FindingLine name text)) a b
      → TellsText r (flat_map (line_text p.json) (finding_lines name (text ∷ []))) a b
  as_one text told = subst (λ l. TellsText r l a b) (sym (append-nil (line_text p.json (FindingLine name text)))) told

  pub tell_one : (text : List ℕ) → TellsText r (line_text p.json (FindingLine name text)) a b → t ≡ count_line s (FindingLine name text)
      → DoesOfVolume r v p (λ u. Tell name (text ∷ []) ∷ []) (outcome files a) (outcome files b) s t
  tell_one text told counted = tell (text ∷ []) (as_one text told) (on_ok r _ counted)

  -- what is to be unloaded was kept out, and that was told
  pub kept_out : (source : Wanted) (d : DataSetBlock) (now : List Replaced) → now ≡ files
      → TellsText r (line_text p.json (FindingLine name (codes "file exists"))) a b
      → t ≡ count_line s (FindingLine name (codes "file exists"))
      → DoesOfVolume r v p (λ u. Unload name source d ∷ []) (outcome files a) (outcome now b) s t
  kept_out source d now same_files told counted = record {
    counts = counts_told r _ a b told;
    does = λ slots known.
        one r (unloading v slots p) (record { step = Unload name source d; is_kept_out = true }) (outcome files a) (outcome now b) s t
        (same_files ∙ sym (append-nil files)) (as_one (codes "file exists") told) (on_ok r _ counted);
  }

-- the file came, and was told
abbrev told_lines : (name : List ℕ) → DataSetBlock → (bytes : ℕ) → Option Stop → List Line
told_lines name d bytes stop = FileLine name bytes ∷ finding_lines name (written_texts d stop)

module _ (r : Result0) (v : KnownVolume) (p : Plan) (name : List ℕ) where
  pub came : (path : List ℕ) (source : Wanted) (d : DataSetBlock) (before now : List Replaced) (x : Unloaded)
      (a b : Stream) (s t : Tally) → path ≡ path_in p.folder name → Unloads path source v before now x
      → TellsText r (flat_map (line_text p.json) (told_lines name d x.bytes (Some x.stop))) a b
      → OnOk r (t ≡ fold count_line s (told_lines name d x.bytes (Some x.stop)))
      → DoesOfVolume r v p (λ u. Unload name source d ∷ []) (outcome before a) (outcome now b) s t
  came path source d before now x a b s t at file told counted = record {
    counts = counts_told r _ a b told;
    does = λ slots known.
        let w = source_written source v.geometry slots in
        let e = file.blocks slots known in
        let lines : told_lines name d x.bytes (Some x.stop) ≡ unloaded_lines name d w = cc in
        one r (unloading v slots p) (record { step = Unload name source d; is_kept_out = false }) (outcome before a) (outcome now b) s t
        (cc)
        (subst (λ l. TellsText r (flat_map (line_text p.json) l) a b) lines told)
        (subst (λ l. OnOk r (t ≡ fold count_line s l)) lines counted);
  }

-- the text was put into its file, and nothing is told of it; or it was kept out, and that was told
module _ (v : KnownVolume) (p : Plan) (blocks : List Block) (text : List ℕ) (is : IsDescribed v blocks text) where
  abbrev describe_steps : Unloading → List Step
  describe_steps u = Describe (described blocks u.volume.geometry u.slots) ∷ []

  pub described_step : (path : List ℕ) (files now : List Replaced) (a : Stream) (t : Tally) → path ≡ path_in p.folder text_name
      → now ≡ with_file files path text → DoesOfVolume {A = Unit {0}} (Ok tt) v p describe_steps (outcome files a) (outcome now a) t t
  described_step path files now a t at put = record {
    counts = refl;
    does = λ slots known.
        one (Ok tt) (unloading v slots p) (record { step = Describe (described blocks v.geometry slots); is_kept_out = false })
        (outcome files a) (outcome now a) t t
        (cc (is slots known))
        (takes_nothing a, refl) refl;
  }

  pub description_kept_out : (r : Result0) (files now : List Replaced) (a b : Stream) (s t : Tally) → now ≡ files
      → TellsText r (line_text p.json (FindingLine text_name (codes "file exists"))) a b
      → t ≡ count_line s (FindingLine text_name (codes "file exists"))
      → DoesOfVolume r v p describe_steps (outcome files a) (outcome now b) s t
  description_kept_out r files now a b s t same_files told counted = record {
    counts = counts_told r _ a b told;
    does = λ slots known.
        one r (unloading v slots p) (record { step = Describe (described blocks v.geometry slots); is_kept_out = true }) (outcome files a)
        (outcome now b) s t (same_files ∙ sym (append-nil files)) (as_one r v p text_name files a b s t (codes "file exists") told)
        (on_ok r _ counted);
  }

-- the data sets of a table were unloaded, and then they were described
pub table_done : (r : Result0) (v : KnownVolume) (p : Plan) (blocks : List Block) (a b c : Outcome) (s t w : Tally)
    → DoesOfVolume {A = Unit {0}} (Ok tt) v p (λ u. flat_map (block_steps u blocks) blocks) a b s t
    → DoesOfVolume r v p (λ u. Describe (described blocks u.volume.geometry u.slots) ∷ []) b c t w
    → DoesOfVolume r v p (λ u. table_steps u blocks) a c s w
table_done r v p blocks a b c s t w sets text =
    with_last v p (λ u. table_steps u blocks) r (λ u. Describe (described blocks u.volume.geometry u.slots) ∷ []) a b c s t w
    (with_more v p (λ u. table_steps u blocks) (λ u. flat_map (block_steps u blocks) blocks)
    (λ u. Describe (described blocks u.volume.geometry u.slots) ∷ []) a a b s s t
    (nothing v p (λ u. table_steps u blocks) a s) sets) text

pub table_stopped : (f : UnloadFault) (v : KnownVolume) (p : Plan) (blocks : List Block) (a b : Outcome) (s t : Tally)
    → DoesOfVolume {A = Unit {0}} (Err f) v p (λ u. flat_map (block_steps u blocks) blocks) a b s t
    → DoesOfVolume {A = Unit {0}} (Err f) v p (λ u. table_steps u blocks) a b s t
table_stopped f v p blocks a b s t sets = stop_in v p (λ u. table_steps u blocks) f (λ u. flat_map (block_steps u blocks) blocks)
    (λ u. Describe (described blocks u.volume.geometry u.slots) ∷ []) a a b s s t t (nothing v p (λ u. table_steps u blocks) a s) sets

-- The steps of a directory.
module _ (v : KnownVolume) (p : Plan) (d : DataSetBlock) (extents : List Extent) (form : ExtractedForm) (m : Members)
    (is : MembersOf extents v m) where
  abbrev told_texts : List (List ℕ)
  told_texts = directory_texts m.fault ++ end_texts (Some m.stop)

  abbrev of_entry : Unloading → DirectoryEntry → List Step
  of_entry u e = member_step d extents form e ∷ []

  abbrev told_steps : Unloading → List Step
  told_steps u = Tell (file_name d.name None) told_texts ∷ flat_map (of_entry u) m.entries.items

  -- they are those that its members say
  pub are_steps : (slots : List (List ℕ)) → v.slots ≡ Some slots
      → told_steps (unloading v slots p) ≡ partitioned_steps (unloading v slots p) d extents form
  are_steps slots known =
      let w = source_written (directory extents) v.geometry slots in
      let k = is slots known in
      let step = member_step d extents form in cc (flat_map_single step m.entries.items)

  -- what is wrong with it was told, and the members are left; or a fault stopped that
  module _ (entries : List DirectoryEntry) (are : entries ≡ m.entries.items) (files : List Replaced) (a b : Stream) (s t : Tally) where
    pub directory_told : TellsText {A = Unit {0}} (Ok tt) (flat_map (line_text p.json)
        (finding_lines (file_name d.name None) told_texts)) a b → t ≡ fold count_line s (finding_lines (file_name d.name None) told_texts)
        → SoFar v p (λ u. flat_map (of_entry u) entries) (λ u. partitioned_steps u d extents form) (outcome files a)
        (outcome files b) s t
    directory_told told counted =
        of_steps v p (λ u. flat_map (of_entry u) entries) told_steps (λ u. partitioned_steps u d extents form) (outcome files a)
        (outcome files b) s t are_steps
        (with_more v p told_steps (λ u. Tell (file_name d.name None) told_texts ∷ []) (λ u. flat_map (of_entry u) entries)
        (outcome files a) (outcome files a) (outcome files b) s s t
        (subst (λ (l : List DirectoryEntry). SoFar v p (λ u. Tell (file_name d.name None) told_texts ∷ flat_map (of_entry u) l)
        told_steps (outcome files a) (outcome files a) s s) (sym are)
        (nothing v p told_steps (outcome files a) s)) (tell (Ok tt) v p (file_name d.name None) files a b s t told_texts told counted))

    pub directory_stopped : (f : UnloadFault) → TellsText {A = Unit {0}} (Err f)
        (flat_map (line_text p.json) (finding_lines (file_name d.name None) told_texts)) a b
        → DoesOfVolume {A = Unit {0}} (Err f) v p (λ u. partitioned_steps u d extents form) (outcome files a) (outcome files b) s t
    directory_stopped f told =
        same (Err f) v p told_steps (λ u. partitioned_steps u d extents form) (outcome files a) (outcome files b) s t are_steps
        (stop_in v p told_steps f (λ u. Tell (file_name d.name None) told_texts ∷ []) (λ u. flat_map (of_entry u) m.entries.items)
        (outcome files a) (outcome files a) (outcome files b) s s t t
        (nothing v p told_steps (outcome files a) s) (tell (Err f) v p (file_name d.name None) files a b s t told_texts told tt))

-- The steps of a data set: its form, and whether it has members.
module _ (r : Result0) (v : KnownVolume) (p : Plan) (d : DataSetBlock) (extents : List Extent) (a b : Outcome) (s t : Tally) where
  pub of_form : (form : Option ExtractedForm) → form_of d p.block_form ≡ form
      → DoesOfVolume r v p (λ u. steps_of_form u d extents form) a b s t
      → DoesOfVolume r v p (λ u. steps_of_form u d extents (form_of d u.plan.block_form)) a b s t
  of_form form is this =
      same r v p (λ u. steps_of_form u d extents form) (λ u. steps_of_form u d extents (form_of d u.plan.block_form)) a b s t
      (λ slots known. ap (steps_of_form (unloading v slots p) d extents) (sym is)) this

  pub of_kind : (form : ExtractedForm) (is : Bool) → is_partitioned d ≡ is
      → DoesOfVolume r v p (λ u. if is then partitioned_steps u d extents form else Unload (file_name d.name None)
      (wanted form extents beginning 65535) d ∷ []) a b s t → DoesOfVolume r v p (λ u. steps_of_form u d extents (Some form)) a b s t
  of_kind form is e this = subst (λ (yes : Bool). DoesOfVolume r v p
      (λ u. if yes then partitioned_steps u d extents form else Unload (file_name d.name None) (wanted form extents beginning 65535)
      d ∷ []) a b s t) (sym e) this

-- Of a data set it was told if its chain is broken, and the rest was done; or a fault stopped that.
module _ (v : KnownVolume) (p : Plan) (d : DataSetBlock) (extents : List Extent) (fault : Option ChainFault) (files : List Replaced)
    (a b : Stream) (s t : Tally) where
  abbrev rest_steps : Unloading → List Step
  rest_steps u = steps_of_form u d extents (form_of d u.plan.block_form)

  abbrev all_steps : Unloading → List Step
  all_steps u = set_steps u d extents fault

  abbrev told_first : Unloading → List Step
  told_first u = Tell (file_name d.name None) (chain_texts fault) ∷ []

  pub set_done : (r : Result0) (form : Option ExtractedForm) (c : Outcome) (w : Tally)
      → TellsText {A = Unit {0}} (Ok tt) (flat_map (line_text p.json) (finding_lines (file_name d.name None) (chain_texts fault))) a b
      → t ≡ fold count_line s (finding_lines (file_name d.name None) (chain_texts fault)) → form_of d p.block_form ≡ form
      → DoesOfVolume r v p (λ u. steps_of_form u d extents form) (outcome files b) c t w
      → DoesOfVolume r v p (λ u. set_steps u d extents fault) (outcome files a) c s w
  set_done r form c w told counted is this = with_last v p all_steps r rest_steps (outcome files a) (outcome files b) c s t w
      (with_more v p all_steps told_first rest_steps (outcome files a) (outcome files a) (outcome files b) s s t
      (nothing v p all_steps (outcome files a) s)
      (tell (Ok tt) v p (file_name d.name None) files a b s t (chain_texts fault) told counted))
      (of_form r v p d extents (outcome files b) c t w form is this)

  pub set_stopped : (f : UnloadFault) → TellsText {A = Unit {0}} (Err f)
      (flat_map (line_text p.json) (finding_lines (file_name d.name None) (chain_texts fault))) a b
      → DoesOfVolume {A = Unit {0}} (Err f) v p (λ u. set_steps u d extents fault) (outcome files a) (outcome files b) s t
  set_stopped f told = stop_in v p all_steps f told_first rest_steps (outcome files a) (outcome files a) (outcome files b) s s t t
      (nothing v p all_steps (outcome files a) s)
      (tell (Err f) v p (file_name d.name None) files a b s t (chain_texts fault) told tt)

-- The steps of a control block: those of its data set, or none.
module _ (r : Result0) (v : KnownVolume) (p : Plan) (blocks : List Block) (k : Block) (a b : Outcome) (s t : Tally) where
  either : (is : Bool) → is_data_set k.kind ≡ is
      → DoesOfVolume r v p (λ u. if is then set_steps u (data_set_block_of k.key k.bytes) (extents_behind blocks k)
      (behind_block blocks k).fault else []) a b s t → DoesOfVolume r v p (λ u. block_steps u blocks k) a b s t
  either is e this = subst (λ (yes : Bool). DoesOfVolume r v p
      (λ u. if yes then set_steps u (data_set_block_of k.key k.bytes) (extents_behind blocks k) (behind_block blocks k).fault else []) a
      b s t) (sym e) this

  pub of_block : (d : DataSet) → is_data_set k.kind ≡ true → DataSetOf blocks k d
      → DoesOfVolume r v p (λ u. set_steps u d.block d.extents.items d.fault) a b s t
      → DoesOfVolume r v p (λ u. block_steps u blocks k) a b s t
  of_block d is of this = either true is
      (subst (λ (f : Option ChainFault). DoesOfVolume r v p (λ u. set_steps u (data_set_block_of k.key k.bytes) (extents_behind blocks k)
      f) a b s t) of.fault
      (subst (λ (l : List Extent). DoesOfVolume r v p (λ u. set_steps u (data_set_block_of k.key k.bytes) l d.fault) a b s t) of.extents
      (subst (λ (x : DataSetBlock). DoesOfVolume r v p (λ u. set_steps u x d.extents.items d.fault) a b s t) of.block this)))

pub no_block : (v : KnownVolume) (p : Plan) (blocks : List Block) (k : Block) (a : Outcome) (t : Tally) → is_data_set k.kind ≡ false
    → DoesOfVolume {A = Unit {0}} (Ok tt) v p (λ u. block_steps u blocks k) a a t t
no_block v p blocks k a t is = either (Ok tt) v p blocks k a a t t false is (finished v p (λ u. []) a a t t (nothing v p (λ u. []) a t))

-- The steps of a volume are those that its contents say.
module _ (v : KnownVolume) (p : Plan) (m : Contents) (is : IsContents v m) where
  pub are_volume_steps : (slots : List (List ℕ)) → v.slots ≡ Some slots → let u = unloading v slots p in
      Tell (codes "volume table of contents") (contents_texts (length m.found.findings.items)) ∷ table_steps u m.found.blocks.items
      ≡ volume_steps u
  are_volume_steps slots known =
      let u = unloading v slots p in
      let k = is slots known in
      let said = contents_of v.geometry slots in cc

  -- of the table it was told if something is wrong, and its data sets were unloaded; or a fault stopped that
  module _ (files : List Replaced) (a b : Stream) (s t : Tally) where
    abbrev the_name : List ℕ
    the_name = codes "volume table of contents"

    abbrev the_texts : List (List ℕ)
    the_texts = contents_texts (length m.found.findings.items)

    abbrev the_sets : Unloading → List Step
    the_sets u = table_steps u m.found.blocks.items

    abbrev the_steps : Unloading → List Step
    the_steps u = Tell the_name the_texts ∷ the_sets u

    pub contents_done : (r : Result0) (c : Outcome) (w : Tally)
        → TellsText {A = Unit {0}} (Ok tt) (flat_map (line_text p.json) (finding_lines the_name the_texts)) a b
        → t ≡ fold count_line s (finding_lines the_name the_texts) → DoesOfVolume r v p the_sets (outcome files b) c t w
        → DoesOfVolume r v p volume_steps (outcome files a) c s w
    contents_done r c w told counted this = same r v p the_steps volume_steps (outcome files a) c s w are_volume_steps
        (with_last v p the_steps r the_sets (outcome files a) (outcome files b) c s t w
        (with_more v p the_steps (λ u. Tell the_name the_texts ∷ []) the_sets (outcome files a) (outcome files a) (outcome files b) s s t
        (nothing v p the_steps (outcome files a) s)
        (tell (Ok tt) v p the_name files a b s t the_texts told counted)) this)

    pub contents_stopped : (f : UnloadFault) → TellsText {A = Unit {0}} (Err f)
        (flat_map (line_text p.json) (finding_lines the_name the_texts)) a b
        → DoesOfVolume {A = Unit {0}} (Err f) v p volume_steps (outcome files a) (outcome files b) s t
    contents_stopped f told = same (Err f) v p the_steps volume_steps (outcome files a) (outcome files b) s t are_volume_steps
        (stop_in v p the_steps f (λ u. Tell the_name the_texts ∷ []) the_sets (outcome files a) (outcome files a) (outcome files b) s s t
        t (nothing v p the_steps (outcome files a) s)
        (tell (Err f) v p the_name files a b s t the_texts told tt))

-- All was done, and the last line was printed, or its first bytes.
module _ (v : KnownVolume) (p : Plan) (a b : Outcome) (c : Stream) (t : Tally)
    (d : DoesOfVolume {A = Unit {0}} (Ok tt) v p volume_steps a b no_line t) where
  pub reported : (n : ℕ) → Takes b.printed c (total_text p.json t) → n ≡ t.findings → UnloadsKnown (Ok n) v p a (outcome b.written c)
  reported n last is = λ slots known.
      let u = unloading v slots p in
      let k = d.does slots known in record {
        done = k.done;
        in_order = sym (append-nil (map (λ (x : Done). x.step) k.done)) ∙ k.in_order;
        written = k.written;
        told = (
          takes_more a.printed b.printed c _ _ k.printed (subst (λ (x : Tally). Takes b.printed c (total_text p.json x)) k.counted last),
          is ∙ ap (λ (x : Tally). x.findings) k.counted,
        );
      }

  pub not_reported : (f : UnloadFault) → TakesFront b.printed c (total_text p.json t) → UnloadsKnown (Err f) v p a (outcome b.written c)
  not_reported f last = λ slots known.
      let k = d.does slots known in inr (record {
        done = k.done;
        in_order = sym (append-nil (map (λ (x : Done). x.step) k.done)) ∙ k.in_order;
        written = k.written;
        told = front_behind a.printed b.printed c _ _ k.printed
            (subst (λ (x : Tally). TakesFront b.printed c (total_text p.json x)) k.counted last);
      })

-- the volume in files that were opened
module _ (as_far : Bool) (paths : List (List ℕ)) (p : Plan) (opened_before opened : List SourceFile) (x : OpenedState) (a b : Outcome)
    (t : Tally) (opens : OpensPaths paths x.contents opened_before opened) (mounts : Mounts as_far x.contents x.geometry) where
  abbrev of_volume : (KnownVolume → Type 0) → Type 0
  of_volume P = OfVolume as_far paths opened_before opened P

  is_of : (P : KnownVolume → Type 0) → P (volume_in x.geometry x.contents) → of_volume P
  is_of P so = record { geometry = x.geometry; contents = x.contents; opens = opens; mounts = mounts; so = so }

  pub volume_ended : (r : Result ℕ UnloadFault) (c : Stream) → DoesOfVolume {A = Unit {0}} (Ok tt) (volume_in x.geometry x.contents) p
      volume_steps a b no_line t → TellsText r (total_text p.json t) b.printed c → IfOk r (λ n. n ≡ t.findings)
      → UnloadsVolume as_far r paths p opened_before opened a (outcome b.written c)
  volume_ended (Ok n) c d last is =
      is_of (λ v. UnloadsKnown (Ok n) v p a (outcome b.written c)) (reported (volume_in x.geometry x.contents) p a b c t d n last.0 is)
  volume_ended (Err f) c d last is = inr (is_of (λ v. UnloadsKnown (Err f) v p a (outcome b.written c))
      (not_reported (volume_in x.geometry x.contents) p a b c t d f last.0))

  pub volume_stopped : (f : UnloadFault) → DoesOfVolume {A = Unit {0}} (Err f) (volume_in x.geometry x.contents) p volume_steps a b
      no_line t → UnloadsVolume as_far (Err f) paths p opened_before opened a b
  volume_stopped f d = inr (is_of (λ v. UnloadsKnown (Err f) v p a b) (λ slots known. inl (d.does slots known)))
