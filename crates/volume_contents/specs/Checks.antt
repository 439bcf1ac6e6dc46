-- What is wrong with data sets and free tracks: each extent, and then all free tracks, against those that claim tracks before it.
use Rattle.std.specs.Prelude.{◌≡◌, ℕ, ◌+◌, ◌-◌, ◌==◌, Bool, ◌||◌, nat_lt, if◌then◌else◌, List, [], ◌∷◌, ◌++◌, length, replicate, count_by, fold, Option, Some}
use Rattle.std.specs.Prelude.{None}
use Rattle.ckd_track.specs.declared.geometries.Geometry.{Geometry}
use Rattle.ckd_track.specs.Geometry.{tracks_of}
use Rattle.volume_labels.specs.declared.fields.Extent.{Extent}
use Rattle.volume_labels.specs.declared.fields.FreeTracks.{FreeTracks}
use Rattle.volume_labels.specs.declared.fields.RecordAddress.{RecordAddress}
use Rattle.volume_labels.specs.declared.blocks.ContentsBlock.{ContentsBlock}
use Rattle.volume_labels.specs.Labels.{data_set_block_of}
use Rattle.volume_contents.specs.declared.blocks.Block.{Block}
use Rattle.volume_contents.specs.declared.chains.ChainFault.{ChainFault}
use Rattle.volume_contents.specs.declared.runs.Run.{Run}
use Rattle.volume_contents.specs.declared.findings.Problem.{Problem}
use Rattle.volume_contents.specs.declared.findings.Problem.TheVariants.{Chain, OtherNumber, FreeOutside, FreeInUse}
use Rattle.volume_contents.specs.declared.findings.Finding.{Finding}
use Rattle.volume_contents.specs.Claims.{first_taken, claimed, claim_of, claimed_by}
use Rattle.volume_contents.specs.Sets.{is_data_set, extents_behind, behind_block, number_of_free, free_chain, free_place, pieces_behind}

-- a problem, if there is one, is a finding at the place of its control block
abbrev pub found_at : RecordAddress → Option Problem → List Finding
found_at place None = []
found_at place (Some problem) = record { place = place; problem = problem } ∷ []

-- a chain of control blocks that is cut
abbrev pub chain_findings : RecordAddress → Option ChainFault → List Finding
chain_findings place None = []
chain_findings place (Some fault) = found_at place (Some (Chain fault))

-- an extent for user labels, which a format 1 block may count or not
abbrev pub is_for_labels : Extent → Bool
is_for_labels e = e.kind == 0x40

-- there are as many extents as a format 1 block says
abbrev pub is_number : List Extent → (said : ℕ) → Bool
is_number extents said = said == length extents || said == length extents - count_by is_for_labels extents

abbrev pub number_findings : RecordAddress → List Extent → (said : ℕ) → List Finding
number_findings place extents said = if is_number extents said then [] else found_at place (Some (OtherNumber (length extents) said))

-- extents claim their tracks one after another, and each is held against those before it
unfoldable pub extent_findings : Geometry → RecordAddress → (marks : List ℕ) → List Extent → List Finding
extent_findings g place marks [] = []
extent_findings g place marks (e ∷ more) = found_at place (claim_of g marks e) ++ extent_findings g place (claimed_by g marks e) more

-- the tracks that are claimed behind extents
abbrev pub claimed_behind : Geometry → (marks : List ℕ) → List Extent → List ℕ
claimed_behind g marks extents = fold (claimed_by g) marks extents

-- What is wrong with a data set: the chain behind its format 1 block, the number of its extents, and each extent.
abbrev pub set_findings : Geometry → (blocks : List Block) → (marks : List ℕ) → Block → List Finding
set_findings g blocks marks b =
    chain_findings b.address (behind_block blocks b).fault
    ++ (number_findings b.address (extents_behind blocks b) (data_set_block_of b.key b.bytes).extents
    ++ extent_findings g b.address marks (extents_behind blocks b))

-- the extents of a control block that is one of a data set
abbrev pub extents_of : (blocks : List Block) → Block → List Extent
extents_of blocks b = if is_data_set b.kind then extents_behind blocks b else []

abbrev pub block_findings : Geometry → (blocks : List Block) → (marks : List ℕ) → Block → List Finding
block_findings g blocks marks b = if is_data_set b.kind then set_findings g blocks marks b else []

-- the tracks that are claimed behind a control block
abbrev pub claimed_by_block : Geometry → (blocks : List Block) → (marks : List ℕ) → Block → List ℕ
claimed_by_block g blocks marks b = claimed_behind g marks (extents_of blocks b)

-- what is wrong with the data sets of these control blocks, one after another
unfoldable pub sets_findings : Geometry → (blocks : List Block) → (marks : List ℕ) → List Block → List Finding
sets_findings g blocks marks [] = []
sets_findings g blocks marks (b ∷ more) = block_findings g blocks marks b ++ sets_findings g blocks (claimed_by_block g blocks marks b) more

-- the tracks that are claimed behind them
abbrev pub claimed_by_sets : Geometry → (blocks : List Block) → (marks : List ℕ) → List Block → List ℕ
claimed_by_sets g blocks marks some = fold (claimed_by_block g blocks) marks some

-- the run of a piece of free tracks
abbrev pub free_run : Geometry → FreeTracks → Run
free_run g f = record { first = f.first; tracks = number_of_free g f }

abbrev pub in_use : FreeTracks → Option ℕ → Option Problem
in_use f None = None
in_use f (Some track) = Some (FreeInUse f track)

-- a piece of free tracks leaves the volume
abbrev pub is_outside : Geometry → FreeTracks → Bool
is_outside g f = nat_lt (tracks_of g) (f.first + number_of_free g f)

-- what is wrong with a piece of free tracks: it leaves the volume, or has a track that is claimed, or was said to be free before
abbrev pub free_claim_of : Geometry → (marks : List ℕ) → FreeTracks → Option Problem
free_claim_of g marks f = if is_outside g f then Some (FreeOutside f) else in_use f (first_taken marks (free_run g f))

abbrev pub claimed_by_free : Geometry → (marks : List ℕ) → FreeTracks → List ℕ
claimed_by_free g marks f = if is_outside g f then marks else claimed marks (free_run g f)

unfoldable pub piece_findings : Geometry → RecordAddress → (marks : List ℕ) → List FreeTracks → List Finding
piece_findings g place marks [] = []
piece_findings g place marks (f ∷ more) = found_at place (free_claim_of g marks f) ++ piece_findings g place (claimed_by_free g marks f) more

-- What is wrong with the free tracks, at the first format 5 block: its chain, and each piece.
abbrev pub free_findings_at : Geometry → (blocks : List Block) → (marks : List ℕ) → Option RecordAddress → List Finding
free_findings_at g blocks marks None = []
free_findings_at g blocks marks (Some place) =
    chain_findings place (free_chain blocks).fault ++ piece_findings g place marks (pieces_behind blocks)

abbrev pub free_findings : Geometry → (blocks : List Block) → (marks : List ℕ) → List Finding
free_findings g blocks marks = free_findings_at g blocks marks (free_place blocks)

-- no track is claimed but those of the volume table of contents
abbrev pub claimed_first : Geometry → ContentsBlock → List ℕ
claimed_first g t = claimed_by g (replicate (tracks_of g) 0) t.extent

-- What is wrong with the data sets of a volume, in the order of their format 1 blocks, and with its free tracks; of one without a
-- volume table of contents nothing is said.
abbrev pub findings_of : Geometry → Option ContentsBlock → (blocks : List Block) → List Finding
findings_of g None blocks = []
findings_of g (Some t) blocks =
    sets_findings g blocks (claimed_first g t) blocks ++ free_findings g blocks (claimed_by_sets g blocks (claimed_first g t) blocks)

-- only the first of these findings were added, perhaps none, perhaps all
pub record AddsFront (before now found : List Finding) : Type 0 where
  pub front : List Finding
  pub rest : List Finding
  pub whole : found ≡ front ++ rest
  pub added : now ≡ before ++ front
