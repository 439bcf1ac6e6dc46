-- The findings of extents, of pieces of free tracks and of data sets, one after another.
use Rattle.std.proofs.Common.{◌≡◌, refl, ℕ, List, [], ◌∷◌, ◌++◌}
use Rattle.ckd_track.specs.declared.geometries.Geometry.{Geometry}
use Rattle.volume_labels.specs.declared.fields.Extent.{Extent}
use Rattle.volume_labels.specs.declared.fields.FreeTracks.{FreeTracks}
use Rattle.volume_labels.specs.declared.fields.RecordAddress.{RecordAddress}
use Rattle.volume_contents.specs.declared.blocks.Block.{Block}
use Rattle.volume_contents.specs.Claims.{claim_of, claimed_by}
use Rattle.volume_contents.specs.Checks.{found_at, extent_findings, piece_findings, free_claim_of, claimed_by_free, sets_findings}
use Rattle.volume_contents.specs.Checks.{block_findings, claimed_by_block}

pub no_extent : (g : Geometry) (place : RecordAddress) (marks : List ℕ) → extent_findings g place marks [] ≡ []
unfolding extent_findings
no_extent g place marks = refl

pub more_extents : (g : Geometry) (place : RecordAddress) (marks : List ℕ) (e : Extent) (more : List Extent)
    → extent_findings g place marks (e ∷ more) ≡ found_at place (claim_of g marks e) ++ extent_findings g place (claimed_by g marks e) more
unfolding extent_findings
more_extents g place marks e more = refl

pub no_piece : (g : Geometry) (place : RecordAddress) (marks : List ℕ) → piece_findings g place marks [] ≡ []
unfolding piece_findings
no_piece g place marks = refl

pub more_pieces : (g : Geometry) (place : RecordAddress) (marks : List ℕ) (f : FreeTracks) (more : List FreeTracks)
    → piece_findings g place marks (f ∷ more) ≡ found_at place (free_claim_of g marks f) ++ piece_findings g place
    (claimed_by_free g marks f) more
unfolding piece_findings
more_pieces g place marks f more = refl

pub no_set : (g : Geometry) (blocks : List Block) (marks : List ℕ) → sets_findings g blocks marks [] ≡ []
unfolding sets_findings
no_set g blocks marks = refl

pub more_sets : (g : Geometry) (blocks : List Block) (marks : List ℕ) (b : Block) (more : List Block)
    → sets_findings g blocks marks (b ∷ more) ≡ block_findings g blocks marks b ++ sets_findings g blocks
    (claimed_by_block g blocks marks b) more
unfolding sets_findings
more_sets g blocks marks b more = refl
