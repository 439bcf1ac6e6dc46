-- Drives that are attached one after another.
use Rattle.std.proofs.Common.{◌≡◌, ◌∙◌, ◌+◌, ◌<◌, ◌==◌, ℕ, suc, Bool, true, false, List, [], ◌∷◌, ◌++◌, take, drop, length, get_or}
use Rattle.std.proofs.Common.{position, is_some, inl, inr, add-one, take-append-drop, ap, sym, refl, arith}
use Rattle.std.specs.List.{AllZip, position_or_len}
use Rattle.std.proofs.Math.Seq.{take-suc, drop-cons}
use Rattle.std.proofs.lemmas.Bool.Decides.{nat_tests}
use Rattle.std.proofs.lemmas.Slice.Zip.{AllZip-long}
use Rattle.s360_channel.specs.Attaches.{RefusedAs}
use Rattle.s360_channel.specs.Channel.{ChannelState}
use Rattle.attached_drives.specs.Drives.{AttachedState, is_at}
use Rattle.s360_channel.specs.declared.faults.AttachFault.{AttachFault}
use Rattle.s360_channel.specs.declared.faults.AttachFault.TheVariants.{UnitTaken, Full, OutOfMemory}
use Rattle.dasd_words.specs.declared.volumes.Volume.{Volume}
use Rattle.dasd_jobs.specs.Sources.{SourceFile}
use Rattle.dasd_jobs.specs.declared.faults.JobFault.{JobFault}
use Rattle.dasd_jobs.specs.declared.faults.JobFault.TheVariants as job
use Rattle.program_faults.specs.declared.fault.ProgramFault.{ProgramFault}
use Rattle.program_faults.specs.declared.fault.ProgramFault.TheVariants as fault
use Rattle.program_faults.specs.Faults.{volume_fault}
use Rattle.dasd_run.specs.Built.{IsNewChannel, IsDriveOf, HasImage, OpensVolumes, AreOpened, AttachesOne}
use Rattle.dasd_run.specs.Built.{HasNoImage, is_addressed, has_address, HasAddressOf, NotAttached, NotAllAttached}

-- one volume more: its drive stands behind the others, and its files were opened behind theirs
opens_more : (vs : List Volume) (us : List AttachedState) (v : Volume) (u : AttachedState) (before between now : List SourceFile)
    → OpensVolumes vs us before between → IsDriveOf v u between now → OpensVolumes (vs ++ v ∷ []) (us ++ u ∷ []) before now
opens_more [] [] v u before between now so_far one = (now, rw so_far at one, refl)
opens_more (w ∷ vs) (x ∷ us) v u before between now so_far one =
    (so_far.0, so_far.1, opens_more vs us v u so_far.0 between now so_far.2 one)
opens_more vs us v u before between now so_far one = absurd so_far

-- one more, where the volumes are looked at up to a place
pub opens_next : (vs : List Volume) (i : ℕ) (v : Volume) (old new : ChannelState) (before between now : List SourceFile)
    → i < length vs → v ≡ get_or vs i v → OpensVolumes (take i vs) old.drives before between → AttachesOne v old new between now
    → OpensVolumes (take (i + 1) vs) new.drives before now
opens_next vs i v old new before between now inside is so_far one =
    let front : take (i + 1) vs ≡ take i vs ++ v ∷ [] =
    rw add-one (take-suc vs i v inside) ∙ ap (λ z. take i vs ++ z ∷ []) (sym is) in
    rw (one.2, front) (opens_more (take i vs) old.drives v one.0 before between now so_far one.1)

-- the drives have the addresses of their volumes
pub addressed : (vs : List Volume) (us : List AttachedState) (before now : List SourceFile) → OpensVolumes vs us before now
    → AllZip HasAddressOf vs us
addressed [] [] before now all = tt
addressed (v ∷ vs) (u ∷ us) before now all = (ap (λ (x : AttachedState). x.device) all.1.2, addressed vs us all.0 now all.2)
addressed vs us before now all = absurd all

-- one drive more leaves the rest
pub still_new : (size number : ℕ) (v : Volume) (old new : ChannelState) (before now : List SourceFile)
    → IsNewChannel size number old → AttachesOne v old new before now → IsNewChannel size number new
still_new size number v old new before now h one = rw one.2 (record { number = h.number; storage = h.storage; subchannel = h.subchannel })

-- a list at one of its places
parted : {A : Type 0} (xs : List A) (i : ℕ) (x : A) → i < length xs → x ≡ get_or xs i x → xs ≡ take i xs ++ x ∷ drop (suc i) xs
parted {A} xs i x inside is = sym (take-append-drop i xs) ∙ ap (λ l. take i xs ++ l) (drop-cons xs i x inside
    ∙ ap (λ (y : A). y ∷ drop (suc i) xs) (sym is))

-- the volume at a place gets no drive
pub stops_at : (f : ProgramFault) (vs before : List Volume) (i : ℕ) (v : Volume) (opened_before between opened : List SourceFile)
    → before ≡ take i vs → (i < length vs) × (v ≡ get_or vs i v) → AreOpened (take i vs) opened_before between
    → NotAttached f before v between opened → NotAllAttached f vs opened_before opened
stops_at f vs before i v opened_before between opened is there opens why = record {
  before = before;
  volume = v;
  behind = drop (suc i) vs;
  are_all = rw is (parted vs i v there.0 there.1);
  between = between;
  opens = rw is opens;
  why = why;
}

-- they have the addresses of their volumes, so that one is found at the same place
same_place : (device : ℕ) (vs : List Volume) (us : List AttachedState) → AllZip HasAddressOf vs us
    → position_or_len (is_at device) us ≡ position_or_len (is_addressed device) vs
same_place device [] [] all = refl
same_place device (v ∷ vs) (u ∷ us) all =
    let same : u.device ≡ v.device = all.0 in
    let behind = same_place device vs us all.1 in
    cc
same_place device vs us all = absurd all

same_addresses : (device : ℕ) (vs : List Volume) (us : List AttachedState) → AllZip HasAddressOf vs us
    → is_some (position (is_at device) us) ≡ has_address device vs
same_addresses device vs us all =
    let place = same_place device vs us all in
    let count = AllZip-long HasAddressOf vs us all in
    cc

is_eight : (n : ℕ) → (n == 8) ≡ true → n ≡ 8
is_eight n is = grind (arith, nat_tests)

-- what the fault of a drive that is not attached is to the program
abbrev pub attach_fault : AttachFault → ProgramFault
attach_fault UnitTaken = fault.AddressTaken
attach_fault Full = fault.TooManyDrives
attach_fault (OutOfMemory e) = fault.OutOfMemory

-- a drive is not attached
pub is_refused : (f : AttachFault) (vs : List Volume) (c : ChannelState) (v : Volume) (before now : List SourceFile)
    → AllZip HasAddressOf vs c.drives → HasImage v.source before now → RefusedAs v.device c f
    → NotAttached (attach_fault f) vs v before now
is_refused UnitTaken vs c v before now all image r = (sym (same_addresses v.device vs c.drives all) ∙ r, inr image)
is_refused Full vs c v before now all image r = (
  sym (same_addresses v.device vs c.drives all) ∙ r.0,
  sym (AllZip-long HasAddressOf vs c.drives all) ∙ is_eight (length c.drives) r.1,
  image,
)
is_refused (OutOfMemory e) vs c v before now all image r = (sym (same_addresses v.device vs c.drives all) ∙ r.0, image)

-- a volume is not opened
not_opened : (f : JobFault) (is_taken : Bool) (vs : List Volume) (v : Volume) (before now : List SourceFile)
    → has_address v.device vs ≡ is_taken → HasNoImage f v.source before now
    → NotAttached (volume_fault f is_taken) vs v before now
not_opened job.InUse true vs v before now is none = (is, inl none)
not_opened job.InUse false vs v before now is none = (is, none)
not_opened f is_taken vs v before now is none = none

pub is_not_opened : (f : JobFault) (vs : List Volume) (v : Volume) (before now : List SourceFile) → HasNoImage f v.source before now
    → NotAttached (volume_fault f (has_address v.device vs)) vs v before now
is_not_opened f vs v before now none = not_opened f (has_address v.device vs) vs v before now refl none
