use Rattle.std.proofs.Common.{rules, ◌≡◌, ◌∙◌, ◌<◌, ◌≤◌, ◌++◌, ap, arith, subst, List, ℕ, length, take, drop, map, Err}
use Rattle.std.proofs.lemmas.List.{take_at}
use Rattle.ckd_image.specs.declared.fault.MountFault.{MountFault}
use Rattle.ckd_image.specs.declared.fault.MountFault.TheVariants as why
use Rattle.ckd_image.specs.Files.{FailedRead, each}
use Rattle.ckd_image.specs.Header.{head_of, mount_of}
use Rattle.ckd_image.specs.Image.{FilesRefused}
use Rattle.dasd_subsystem.specs.Attaching.{AreFew, WhyNoImage}
use Rattle.dasd_subsystem.proofs.There.{count_seen}
use Rattle.dasd_subsystem.proofs.Refusing.{not_mounted}
use Rattle.dasd_subsystem.proofs.mounting.mounted.Goals as goal

-- as many as there are bytes of
are_few : (files : List (List ℕ)) (n : ℕ) → n ≡ length files → (0 < n) × (n ≤ 8) → AreFew files
are_few files n count h = let some = h.0 in let few = h.1 in (omega arith, omega arith)

-- what a mount refuses is why the files are no image
why_none : (fault : MountFault) (held files : List (List ℕ)) (before now : List ℕ) → FilesRefused fault held before now → held ≡ files
    → WhyNoImage fault files
why_none why.StoreFault held files before now h e =
    record { before = before; now = now; failed = subst (λ fs. FailedRead (map head_of fs) before now) e h }
why_none why.Compressed held files before now h e = subst (λ fs. mount_of fs ≡ Err why.Compressed) e h.0
why_none why.NotCkdP370 held files before now h e = subst (λ fs. mount_of fs ≡ Err why.NotCkdP370) e h.0
why_none why.DeviceType held files before now h e = subst (λ fs. mount_of fs ≡ Err why.DeviceType) e h.0
why_none why.Heads held files before now h e = subst (λ fs. mount_of fs ≡ Err why.Heads) e h.0
why_none why.TrackSize held files before now h e = subst (λ fs. mount_of fs ≡ Err why.TrackSize) e h.0
why_none why.Split held files before now h e = subst (λ fs. mount_of fs ≡ Err why.Split) e h.0
why_none why.Length held files before now h e = subst (λ fs. mount_of fs ≡ Err why.Length) e h.0

pub returns-in-Err-clause-refused : goal.returns-in-Err-clause-refused
returns-in-Err-clause-refused c =
    not_mounted c.args.files (length c.files.inside.held.items) c.in-Err.refusal
    (count_seen c.files.inside.held.items c.args.files c.files.invariant c.files.view_is) (search rules)

pub returns-then-is_err-clause-refused : goal.returns-then-is_err-clause-refused
returns-then-is_err-clause-refused c =
    are_few c.args.files _ (count_seen c.files.inside.held.items c.args.files c.files.invariant c.files.view_is) (search rules)

pub returns-in-Ok-clause-few : goal.returns-in-Ok-clause-few
returns-in-Ok-clause-few c =
    are_few c.args.files _ (count_seen c.files.inside.held.items c.args.files c.files.invariant c.files.view_is) (search rules)

pub returns-in-Err-mount_files-clause-refused : goal.returns-in-Err-mount_files-clause-refused
returns-in-Err-mount_files-clause-refused c =
    let items = c.files.inside.held.items in
    let new = c.all_anew.new.files in
    let long : length new ≡ length items = search rules in
    let held : take (length items) (new ++ drop (length new) items) ≡ new = take_at new (drop (length new) items) (length items) long in
    let same = ap (each (λ f. f.content)) held ∙ c.all_anew.ensures.contents
    ∙ ap (each (λ f. f.content)) c.as_mut_slice.ensures.value ∙ c.files.view_is in (
      are_few c.args.files _ (count_seen items c.args.files c.files.invariant c.files.view_is) (search rules),
      why_none c.in-Err-mount_files.fault _ _ _ _ c.in-Err-mount_files.ensures.refused same,
    )
