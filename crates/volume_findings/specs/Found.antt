-- What is found, as the code keeps it.
use Rattle.std.specs.Prelude.{◌≡◌, ℕ, List, Some, None}
use Rattle.dasd_volumes.specs.Reading.{KnownVolume}
use Rattle.volume_contents.specs.Contents.{contents_of}
use Rattle.volume_findings.specs.declared.printing.Found.{Found}
use Rattle.volume_findings.specs.Data.{data_findings}
use Rattle.volume_findings.specs.Texts.{contents_findings}

-- these are the findings of a volume, if its slots are known; the contents have no label
pub record IsFound (v : KnownVolume) (f : Found) : Type 0 where
  pub label : f.contents.label ≡ None
  pub contents : (slots : List (List ℕ)) → v.slots ≡ Some slots
      → f.contents.found.findings.items ≡ contents_findings v.geometry (contents_of v.geometry slots)
  pub sets : (slots : List (List ℕ)) → v.slots ≡ Some slots
      → f.sets.items ≡ data_findings (contents_of v.geometry slots).blocks v.geometry slots
