use Rattle.std.proofs.Common.{length}
use Rattle.attached_drives.proofs.drives_saved.+have_tracks.Given as goal

abbrev pub decreases-have_tracks : goal.decreases-have_tracks
decreases-have_tracks g l = length l.drives.now
