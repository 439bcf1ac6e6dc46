-- A search that fails, and a transfer in channel behind it that leads back to it: so a program goes round until its record comes
-- (Principles of Operation, Input/Output Operations: 'Transfer in Channel'; component descriptions, 'Search Commands').
use Rattle.std.specs.Prelude.{◌≡◌, ℕ, ◌+◌, ◌≤◌, ◌<◌, List, Bool, true, false, None, length, take, drop}
use Rattle.s360_words.specs.Storage.{Storage}
use Rattle.s360_words.specs.Words.{chains_command, chains_data, interrupts}
use Rattle.s360_words.specs.declared.words.Ccw.{Ccw}
use Rattle.ckd_command.specs.Commands.{ending_status}
use Rattle.ckd_command.specs.Drive.{State, Open, Started, Ready, begin, look, close, gives, length_of}
use Rattle.s360_laws.specs.Places.{Place, fetch, past_ccw, GoodCcw, TransferTo}
use Rattle.s360_laws.specs.Scripts.{units}
use Rattle.s360_laws.specs.Units.{Between, StandsIn, walk}

-- A command of this code begins at the drive, finds its area with its next look, and takes these bytes, which are as many as it
-- wants; with them it ends by channel end and device end alone, and leaves the drive so.
pub record PassesBy (code : ℕ) (bytes : List ℕ) (before after : State) : Type 0 where
  pub asked : Open
  pub found : Open
  pub begins : begin None code before ≡ Started asked
  pub finds : look None asked ≡ Ready found
  pub takes : gives found ≡ false
  pub wants : (b : List ℕ) → length_of found b ≡ length bytes
  pub ends : close None found bytes ≡ record { state = after; unit = record { 0 = ending_status }; motion = false }

-- The place is the one behind a transfer in channel back to this word, whose count was spent before: the word stands there, and
-- that transfer behind it. It chains commands and no data, and asks for no interruption, and its bytes are in storage.
pub record LeadsBack (s : Storage) (p : Place) (ccw : Ccw) : Type 0 where
  pub fetched : fetch s p true ≡ GoodCcw ccw
  pub back : fetch s (past_ccw p ccw) true ≡ TransferTo p.next
  pub some : 0 < ccw.count
  pub chains : chains_command ccw ≡ true
  pub unchained : chains_data ccw ≡ false
  pub silent : interrupts ccw ≡ false
  pub inside : ccw.address + ccw.count ≤ length s.bytes
  pub transferred : p.may_transfer ≡ false
  pub last : p.last ≡ p.next + 8
  pub spent : p.residual ≡ 0

-- A round takes a unit for the fetch of the search, one for each of its bytes, one for its end, and one for the transfer. After
-- it the program stands where it stood before, and only the drive has changed, as the search left it.
abbrev pub RoundIsUnits : Type 0
RoundIsUnits = (key : ℕ) (s : Storage) (p : Place) (ccw : Ccw) (before after : State) → LeadsBack s p ccw
    → PassesBy ccw.code (take ccw.count (drop ccw.address s.bytes)) before after
    → walk (units (ccw.count + 3)) key (Between (record { storage = s; place = p; state = before }))
    ≡ StandsIn (Between (record { storage = s; place = p; state = after }))
