-- A folder that is read, or not.
use Rattle.std.proofs.Common.{◌≡◌, ◌∙◌, ap, sym, refl, subst, ℕ, List, [], ◌∷◌, length, flat_map, append-nil, Result, Ok, Err, inl, inr}
use Rattle.std.specs.String.{string_bytes}
use Rattle.dasd_jobs.specs.Sources.{SourceFile}
use Rattle.dasd_jobs.specs.Written.{Replaced}
use Rattle.dasd_jobs.specs.declared.faults.JobFault.TheVariants.{OutOfMemory}
use Rattle.changed_volumes.specs.Files.{Around, TellsChange}
use Rattle.set_forms.specs.declared.forms.FormLine.{FormLine}
use Rattle.set_forms.specs.Parsing.{parsed}
use Rattle.loaded_folders.specs.Faults.{FolderFault}
use Rattle.changed_volumes.specs.declared.fault.ChangeFault.TheVariants as fault
use Rattle.loaded_folders.specs.declared.fault.FolderRefusal.TheVariants as refusal
use Rattle.loaded_folders.specs.declared.saves.NewFolder.{NewFolder}
use Rattle.loaded_folders.specs.Sets.{SetLines, sets_of, file_names, with_files}
use Rattle.loaded_folders.specs.Reading.{HasText, ReadsFiles, ReadsBefore, IsUnread}
use Rattle.loaded_folders.specs.Loads.{LoadsFolder, loading_all, with_opened}
use Rattle.loaded_folders.specs.Parts.{HasNoText, IsWrong, ReadsFirst, StopsReading, TellsRead}
use Rattle.loaded_folders.proofs.Chains.{as_many}

-- its text is not read
pub no_text : (r : FolderFault) (folder : List ℕ) (a z : List SourceFile) → HasNoText r folder a z → IsUnread r folder a z
no_text (fault.Refused refusal.TooLong) folder a z why = why
no_text (fault.Refused (refusal.NoFile n)) folder a z why = inl why
no_text (fault.Job f) folder a z why = (why.0, inl why.1)
no_text (fault.Refused (refusal.Line n f)) folder a z why = elim why.0 [ ]
no_text (fault.Refused (refusal.Entry n f)) folder a z why = elim why.0 [ ]
no_text (fault.Refused (refusal.Load n f)) folder a z why = elim why.0 [ ]
no_text (fault.Refused (refusal.Uncarried n f)) folder a z why = elim why.0 [ ]
no_text (fault.Save f) folder a z why = elim why.0 [ ]

module _ (folder text : List ℕ) (a m : List SourceFile) (has : HasText folder text a m) where
  -- a line of it is wrong
  pub wrong : (r : FolderFault) → IsWrong r text → IsUnread r folder a m
  wrong (fault.Refused (refusal.Line n f)) why = (text, has, why)
  wrong (fault.Job f) why = (why, inr (inl (text, has.read)))
  wrong (fault.Refused refusal.TooLong) why = elim why [ ]
  wrong (fault.Refused (refusal.NoFile n)) why = elim why [ ]
  wrong (fault.Refused (refusal.Entry n f)) why = elim why [ ]
  wrong (fault.Refused (refusal.Load n f)) why = elim why [ ]
  wrong (fault.Refused (refusal.Uncarried n f)) why = elim why [ ]
  wrong (fault.Save f) why = elim why [ ]

  -- there is no memory behind it
  pub no_room : IsUnread (fault.Job OutOfMemory) folder a m
  no_room = (refl, inr (inl (text, has.read)))

  module _ (forms : List FormLine) (is : parsed text ≡ Ok forms) (sets : List SetLines) (are : sets ≡ sets_of forms) where
    module _ (names : List (List ℕ)) (named : names ≡ flat_map file_names sets) (z : List SourceFile) where
      before : (others : List (List ℕ)) (first : ReadsFirst folder names others m z) → ReadsBefore folder sets others first.bytes a z
      before others first = record {
        text = text;
        between = m;
        has = has;
        says = record { forms = forms; parsed = is; are = sym are };
        names = first.first;
        all = sym named ∙ first.all;
        read = first.read;
      }

      -- one of its files is not read
      pub unread : (r : FolderFault) → StopsReading r folder names m z → IsUnread r folder a z
      unread (fault.Refused (refusal.NoFile n)) (others, first) = inr (sets, others, first.bytes, before (string_bytes n ∷ others) first)
      unread (fault.Job f) (no_memory, others, first) = (no_memory, inr (inr (sets, others, first.bytes, before others first)))
      unread (fault.Refused refusal.TooLong) why = elim why [ ]
      unread (fault.Refused (refusal.Line n f)) why = elim why [ ]
      unread (fault.Refused (refusal.Entry n f)) why = elim why [ ]
      unread (fault.Refused (refusal.Load n f)) why = elim why [ ]
      unread (fault.Refused (refusal.Uncarried n f)) why = elim why [ ]
      unread (fault.Save f) why = elim why [ ]

      module _ (bytes : List (List ℕ)) (read : ReadsFiles folder names bytes m z) where
        -- all of them are
        pub all_read : ReadsBefore folder sets [] bytes a z
        all_read = before [] (record { first = names; bytes = bytes; all = sym (append-nil names); read = read })

        pub files_read : length bytes ≡ length (flat_map file_names sets)
        files_read = as_many folder names bytes m z read ∙ ap length named

        -- and its data sets are put onto the volume, unless there is no memory
        pub told : (result : Result (Unit {0}) FolderFault) (asked : NewFolder) (paths : List (List ℕ)) (b b1 now : Around)
            → asked.folder.now ≡ folder → b.opened ≡ a → with_opened b z ≡ b1
            → TellsRead result asked.source (with_files sets bytes) paths b1 now → LoadsFolder result asked paths b now
        told result asked paths b b1 now at_folder at_start same (inl (none, kept)) =
            inl (
              fault.Job OutOfMemory,
              none,
              (
                refl,
                inr (inr (
                  sets,
                  [],
                  bytes,
                  subst (λ (f : List ℕ). ReadsBefore f sets [] bytes b.opened now.opened) (sym at_folder)
                      (subst (λ (s : List SourceFile). ReadsBefore folder sets [] bytes s now.opened) (sym at_start)
                      (subst (λ (s : List SourceFile). ReadsBefore folder sets [] bytes a s)
                      (ap (λ (x : Around). x.opened) (same ∙ sym kept)) all_read)),
                )),
              ),
              kept ∙ sym same ∙ ap (λ (x : Around). with_opened b x.opened) (same ∙ sym kept),
            )
        told result asked paths b b1 now at_folder at_start same (inr tells) =
            inr (
              with_files sets bytes,
              z,
              (
                sets,
                bytes,
                subst (λ (f : List ℕ). ReadsBefore f sets [] bytes b.opened z) (sym at_folder)
                    (subst (λ (s : List SourceFile). ReadsBefore folder sets [] bytes s z) (sym at_start) all_read),
                refl,
              ),
              subst (λ (x : Around). TellsChange result (loading_all asked.source (with_files sets bytes)) paths string_bytes x now)
                  (sym same) tells,
            )

-- a folder that is not read
pub not_read : (r : FolderFault) (asked : NewFolder) (paths : List (List ℕ)) (b : Around) (o : List SourceFile) (w : List Replaced)
    → w ≡ b.written → IsUnread r asked.folder.now b.opened o
    → LoadsFolder {A = Unit {0}} (Err r) asked paths b (record { opened = o; written = w; printed = b.printed })
not_read r asked paths b o w same why =
    inl (r, refl, why, ap (λ (x : List Replaced). record { opened = o; written = x; printed = b.printed }) same)
