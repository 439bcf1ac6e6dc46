-- What the commands that name places in packs ask for, and which of their words are files of the host.
use Rattle.std.specs.Prelude.{ℕ, ◌==◌, Bool, true, false, not, ◌||◌, List, codes, is_some}
use Rattle.std.specs.List.{list_any, starts_with}
use Rattle.dasd_words.specs.declared.requests.Request.{Request}
use Rattle.dasd_words.specs.declared.requests.Request.TheVariants as request

-- a word has a colon
abbrev pub has_colon : (word : List ℕ) → Bool
has_colon word = list_any (λ c. c == 58) word

-- a word of `dasd cp` is a file of the host, and no place in a pack: it has no colon, or begins with ./
abbrev pub is_host_file : (word : List ℕ) → Bool
is_host_file word = not (has_colon word) || starts_with ◌==◌ word (codes "./")

-- what a volume holds is listed, or the members of a library
abbrev pub lists : Request → Bool
lists (request.ListContents asked) = true
lists (request.ListDetails asked) = true
lists (request.ListMembers asked) = true
lists other = false

-- a data set or a member is taken out of a volume, to a file
abbrev pub takes_to_file : Request → Bool
takes_to_file (request.Extract asked) = is_some asked.target
takes_to_file (request.ExtractTracks asked) = is_some asked.target
takes_to_file other = false

-- or to standard output
abbrev pub prints_set : Request → Bool
prints_set (request.Extract asked) = not (is_some asked.target)
prints_set (request.ExtractTracks asked) = not (is_some asked.target)
prints_set other = false

-- to a file or not, as asked
abbrev pub takes : (to_file : Bool) → Request → Bool
takes true asked = takes_to_file asked
takes false asked = prints_set asked

-- a file is put onto a volume, as a data set or a member
abbrev pub puts : Request → Bool
puts (request.Load asked) = true
puts (request.LoadMember asked) = true
puts other = false

-- a data set gets another name, or a member
abbrev pub renames : Request → Bool
renames (request.Rename asked) = true
renames (request.RenameMember asked) = true
renames other = false

-- a data set is deleted, or a member
abbrev pub deletes : Request → Bool
deletes (request.Delete asked) = true
deletes (request.DeleteMember asked) = true
deletes other = false
