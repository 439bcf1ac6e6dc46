-- Why the volume in files is not opened.
use Rattle.std.proofs.Common.{◌≡◌, Bool, false, ◌∙◌, ◌⊎◌, inl, inr, ℕ, ◌+◌, ◌<◌, ◌≤◌, List, [], ◌∷◌, ◌++◌, length, take, map, get_or, Some}
use Rattle.std.proofs.Common.{refl, sym, ap, subst, arith}
use Rattle.std.specs.List.{AllZip}
use Rattle.std.proofs.lemmas.List.{take_all, take_more, take-map, length-map, length-take-le, map-append}
use Rattle.ckd_image.specs.declared.fault.MountFault.{MountFault}
use Rattle.ckd_image.specs.declared.fault.MountFault.TheVariants.{StoreFault}
use Rattle.ckd_image.specs.Header.{mount_of}
use Rattle.dasd_jobs.specs.declared.faults.JobFault.{JobFault}
use Rattle.dasd_jobs.specs.declared.faults.JobFault.TheVariants.{OutOfMemory, Mount, Read, Write, Store, InUse, Exists}
use Rattle.dasd_jobs.specs.declared.reasons.Head.{Head}
use Rattle.dasd_jobs.specs.Causes.{mounting_fault}
use Rattle.dasd_jobs.specs.Sources.{Content, SourceFile, IsWhole, OpensMaybe, OpensPaths, OpensFirst}
use Rattle.dasd_jobs.specs.Unopened.{OpensSome, OpensBut, NotOpened, NotRead}
use Rattle.dasd_jobs.specs.Opening.{IsHeadOf, NotAdded, NotLocked, IsBroken, IsNoImage, alone, judged}
use Rattle.dasd_jobs.proofs.Volumes.{all_known, both_long, one_more_opened}
use Rattle.dasd_jobs.proofs.Reached.{broken_files}

-- The first files.

-- all of them
pub opens_all : (paths : List (List ℕ)) (contents : List Content) (before now : List SourceFile) → OpensPaths paths contents before now
    → OpensSome paths before now
opens_all paths contents before now opens = (
  length paths,
  record {
    contents = contents;
    few = omega arith;
    opens = subst (λ (ps : List (List ℕ)). OpensPaths ps contents before now) (sym (take_all (length paths) paths (omega arith))) opens;
  },
)

module _ {P : Type 0} (path : P → List ℕ) (paths : List P) (before : List SourceFile) where
  -- those in front of a place
  pub in_front : (i : ℕ) (contents : List Content) (now : List SourceFile) → i ≤ length paths
      → OpensPaths (map path (take i paths)) contents before now → OpensFirst i (map path paths) before now
  in_front i contents now inside opens = record {
    contents = contents;
    few = let long = length-map paths path in omega (arith, long, inside);
    opens = subst (λ (ps : List (List ℕ)). OpensPaths ps contents before now) (sym (take-map path i paths)) opens;
  }

  -- those, and the one at the place, or not
  pub up_to : (i : ℕ) (d : P) (contents : List Content) (between now : List SourceFile) → i < length paths
      → OpensPaths (map path (take i paths)) contents before between → OpensMaybe (path (get_or paths i d)) between now
      → OpensSome (map path paths) before now
  up_to i d contents between now inside opens (inl same) =
      let so_far = subst (λ (l : List SourceFile). OpensPaths (map path (take i paths)) contents before l) (sym same) opens in
      (i, in_front i contents now (omega arith) so_far)
  up_to i d contents between now inside opens (inr (content, one)) =
      let p = path (get_or paths i d) in
      let more : map path (take (i + 1) paths) ≡ map path (take i paths) ++ p ∷ [] =
      ap (map path) (take_more paths i d inside) ∙ map-append path (take i paths) (get_or paths i d ∷ []) in (
        i + 1,
        in_front (i + 1) (contents ++ content ∷ []) now (omega arith)
            (subst (λ (ps : List (List ℕ)). OpensPaths ps (contents ++ content ∷ []) before now) (sym more)
            (one_more_opened (map path (take i paths)) contents p content before between now opens one)),
      )

  -- those, and not the one at the place
  but : (i : ℕ) (contents : List Content) (between now : List SourceFile) → i < length paths
      → OpensPaths (map path (take i paths)) contents before between → now ≡ between → OpensBut (map path paths) before now
  but i contents between now inside opens same =
      let long = length-map paths path in
      let so_far = subst (λ (l : List SourceFile). OpensPaths (map path (take i paths)) contents before l) (sym same) opens in
      (i, omega (arith, long, inside), in_front i contents now (omega arith) so_far)

  -- the next is not opened
  pub stopped : (as_far : Bool) (f : JobFault) (i : ℕ) (d : P) (contents : List Content) (between now : List SourceFile) → i < length paths
      → OpensPaths (map path (take i paths)) contents before between → NotAdded f (path (get_or paths i d)) between now
      → NotOpened as_far f (map path paths) before now
  stopped as_far (Mount broken) i d contents between now inside opens not = absurd not
  stopped as_far Write i d contents between now inside opens not = absurd not
  stopped as_far Store i d contents between now inside opens not = absurd not
  stopped as_far InUse i d contents between now inside opens not = but i contents between now inside opens not
  stopped as_far Exists i d contents between now inside opens not = but i contents between now inside opens not
  stopped as_far f i d contents between now inside opens not = up_to i d contents between now inside opens not

  -- or not locked
  pub stopped_locking : (f : JobFault) (i : ℕ) (d : P) (contents : List Content) (heads : List Head) (between now : List SourceFile)
      → i < length paths → OpensPaths (map path (take i paths)) contents before between → AllZip IsHeadOf contents heads
      → NotLocked f (length heads) (path (get_or paths i d)) between now → NotRead f (map path paths) before now
  stopped_locking (Mount broken) i d contents heads between now inside opens are not =
      let both = both_long IsHeadOf contents heads are in
      let count = opens.count in
      let long = length-map (take i paths) path in
      let those = length-take-le i paths (omega arith) in
      let some = not.1 in
      let all = length-map paths path in inr (
        ap Mount not.0,
        i,
        omega (arith, both, count, long, those, some),
        omega (arith, all, inside),
        in_front i contents now (omega arith)
            (subst (λ (l : List SourceFile). OpensPaths (map path (take i paths)) contents before l) (sym not.2) opens),
      )
  stopped_locking f i d contents heads between now inside opens are not = inl (stopped false f i d contents between now inside opens not)

-- Files that were opened, and are no image.

pub not_mounted : (as_far : Bool) (broken : MountFault) (paths : List (List ℕ)) (contents : List Content) (heads : List Head)
    (before now : List SourceFile) → OpensPaths paths contents before now → AllZip IsHeadOf contents heads
    → IsBroken broken (map alone (judged as_far heads)) → NotOpened as_far (mounting_fault broken) paths before now
not_mounted as_far StoreFault paths contents heads before now opens are is = opens_all paths contents before now opens
not_mounted as_far broken paths contents heads before now opens are is =
    inr (record { contents = contents; opens = opens; breaks = broken_files as_far broken contents heads are is })

-- what was read of files that are known is what they hold
read_whole : (files bytes : List (List ℕ)) → AllZip IsWhole (map Some files) bytes → bytes ≡ files
read_whole [] [] are = refl
read_whole [] (b ∷ bytes) are = absurd are
read_whole (file ∷ files) [] are = absurd are
read_whole (file ∷ files) (b ∷ bytes) are = cc (are.0 file refl, read_whole files bytes are.1)

pub not_an_image : (f : JobFault) (paths : List (List ℕ)) (contents : List Content) (bytes : List (List ℕ)) (before now : List SourceFile)
    → OpensPaths paths contents before now → AllZip IsWhole contents bytes → IsNoImage f bytes → NotOpened false f paths before now
not_an_image f paths contents bytes before now opens are (broken, told, is) =
    subst (λ (g : JobFault). NotOpened false g paths before now) (sym told) (by broken is)
  where
    by : (m : MountFault) → IsBroken m bytes → NotOpened false (mounting_fault m) paths before now
    by StoreFault rule = opens_all paths contents before now opens
    by m rule = inr (record {
      contents = contents;
      opens = opens;
      breaks = λ files all.
          let whole = subst (λ (l : List Content). AllZip IsWhole l bytes) (all_known contents files all) are in
          ap mount_of (sym (read_whole files bytes whole)) ∙ rule;
    })

-- files that were opened are not read, or there is no memory
pub not_read : (f : JobFault) (paths : List (List ℕ)) (contents : List Content) (before now : List SourceFile)
    → OpensPaths paths contents before now → (f ≡ Read) ⊎ (f ≡ OutOfMemory) → NotOpened false f paths before now
not_read f paths contents before now opens (inl read) =
    subst (λ (g : JobFault). NotOpened false g paths before now) (sym read) (opens_all paths contents before now opens)
not_read f paths contents before now opens (inr none) =
    subst (λ (g : JobFault). NotOpened false g paths before now) (sym none) (opens_all paths contents before now opens)
