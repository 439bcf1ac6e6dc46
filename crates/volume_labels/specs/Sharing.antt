-- Laws of split extents, which share their cylinders.
use Rattle.std.specs.Prelude.{◌≡◌, ◌≢◌, ◌≤◌, ◌<◌, ℕ, true}
use Rattle.volume_labels.specs.declared.fields.TrackAddress.{TrackAddress}
use Rattle.volume_labels.specs.declared.fields.Extent.{Extent}
use Rattle.volume_labels.specs.Addresses.{is_split, is_run, number_of_track, tracks_of_extent, split_track, track_in}

-- a track lies on the cylinders of an extent, and on its heads
pub record LiesIn (e : Extent) (t : TrackAddress) : Type 0 where
  pub first_cylinder : e.first.cylinder ≤ t.cylinder
  pub last_cylinder : t.cylinder ≤ e.last.cylinder
  pub first_head : e.first.head ≤ t.head
  pub last_head : t.head ≤ e.last.head

-- an extent of a drive with so many heads is a split one
pub record IsSplit (heads : ℕ) (e : Extent) : Type 0 where
  pub shares : is_split e ≡ true
  pub is_run : is_run heads e ≡ true

-- track n of an extent is this one
pub record HasTrack (heads : ℕ) (e : Extent) (t : TrackAddress) : Type 0 where
  pub n : ℕ
  pub within : n < tracks_of_extent heads e
  pub is_track : track_in heads e n ≡ number_of_track heads t

-- each track of a split extent lies on its cylinders and heads
abbrev pub TracksLieIn : Type 0
TracksLieIn = (heads : ℕ) (e : Extent) (n : ℕ) → IsSplit heads e → n < tracks_of_extent heads e → LiesIn e (split_track e n)

-- and each track that lies there is one of its tracks
abbrev pub HasAllTracks : Type 0
HasAllTracks = (heads : ℕ) (e : Extent) (t : TrackAddress) → IsSplit heads e → LiesIn e t → HasTrack heads e t

-- two split extents with no head in common have no track in common
abbrev pub ShareNoTrack : Type 0
ShareNoTrack = (heads : ℕ) (d e : Extent) (m n : ℕ) → IsSplit heads d → IsSplit heads e → d.last.head < e.first.head
    → m < tracks_of_extent heads d → n < tracks_of_extent heads e → track_in heads d m ≢ track_in heads e n

-- one to work out by hand: heads 2 to 4 of cylinders 5 to 9
abbrev pub three_heads : Extent
three_heads = record { kind = 0x80; number = 0; first = record { cylinder = 5; head = 2 }; last = record { cylinder = 9; head = 4 } }
