-- The line of an event and of its answer. Hexadecimal digits are capitals.
use Rattle.std.specs.Prelude.{ℕ, ◌+◌, ◌%◌, ◌==◌, true, false, Bool, not, ◌&&◌, ◌||◌, if◌then◌else◌, List, [], ◌∷◌, ◌++◌, codes, Option, Some, None}
use Rattle.std.specs.List.{concat}
use Rattle.std.specs.Fmt.{decimal}
use Rattle.s360_words.specs.Words.{has}
use Rattle.s360_words.specs.declared.words.Csw.{Csw}
use Rattle.s360_explain.specs.Names.{names_text}
use Rattle.s360_explain.specs.declared.bits.Field.TheVariants as field
use Rattle.s360_laws.specs.declared.status.Status.{Status}
use Rattle.s360_laws.specs.declared.status.Condition.{Condition}
use Rattle.s360_laws.specs.declared.status.Condition.TheVariants.{Zero, Stored, Two, Three}
use Rattle.s360_laws.specs.declared.answers.Answer.{Answer}
use Rattle.s360_laws.specs.declared.answers.Answer.TheVariants.{Sio, Tio, Hio, Tch, Step, Run, Arrive, Interrupt, Reset}
use Rattle.trace_words.specs.Numbers.{storage_address, device_address, key_digit}

-- Status.

-- unit status and channel status by their bits
unfoldable pub status_text : (unit channel : ℕ) → List ℕ
status_text unit channel =
    if unit == 0 && channel == 0 then codes "none"
    else if unit == 0 then names_text field.ChannelStatus channel
    else if channel == 0 then names_text field.UnitStatus unit
    else concat (names_text field.UnitStatus unit ∷ codes "; " ∷ names_text field.ChannelStatus channel ∷ [])

-- where the last word stands that was fetched or tried: eight less than the command address, in 24 bits
abbrev pub last_word : (command_address : ℕ) → ℕ
last_word command_address = (command_address + 0xFFFFF8) % 0x1000000

-- the word whose count a residual count is, where that is another than the last
abbrev pub other_word_text : (counted : Option ℕ) → (last : ℕ) → List ℕ
other_word_text None last = []
other_word_text (Some at) last = if at == last then [] else codes " of " ++ storage_address at

-- what a program leaves: its last word, the residual count, and its key
unfoldable pub ended_text : Csw → (counted : Option ℕ) → List ℕ
ended_text csw counted =
    (codes "; last word " ++ storage_address (last_word csw.address))
    ++ ((codes "; residual count " ++ (decimal csw.count ++ other_word_text counted (last_word csw.address)))
    ++ (codes "; key " ++ key_digit csw.key))

-- whether a program has left a channel status word: it has channel status, or channel end
abbrev pub has_ended : (unit channel : ℕ) → Bool
has_ended unit channel = not (channel == 0) || has unit 0x08

-- a channel status word: of one that no program has left, which has neither channel status nor channel end, the status alone
unfoldable pub csw_text : Csw → (counted : Option ℕ) → List ℕ
csw_text csw counted =
    status_text csw.unit.0 csw.channel.0
    ++ (if has_ended csw.unit.0 csw.channel.0 then ended_text csw counted else [])

-- Condition codes.

-- of Start I/O and Halt I/O, which say other things by code 0 and by code 2
unfoldable pub code_text : (zero two : List ℕ) → Condition Status → List ℕ
code_text zero two Zero = zero
code_text zero two (Stored status) = codes "CC 1, status stored: " ++ status_text status.unit.0 status.channel.0
code_text zero two Two = two
code_text zero two Three = codes "CC 3, no such device"

-- of Start I/O
unfoldable pub started_text : Condition Status → List ℕ
started_text c = code_text (codes "CC 0, started") (codes "CC 2, the channel is busy") c

-- of Halt I/O
unfoldable pub halted_text : Condition Status → List ℕ
halted_text c = code_text (codes "CC 0, an interruption is pending") (codes "CC 2, the program is cut") c

-- of Test I/O
unfoldable pub tested_text : Condition Csw → (counted : Option ℕ) → List ℕ
tested_text Zero counted = codes "CC 0, available"
tested_text (Stored csw) counted = codes "CC 1, CSW stored: " ++ csw_text csw counted
tested_text Two counted = codes "CC 2, the channel is busy"
tested_text Three counted = codes "CC 3, no such device"

-- of Test Channel
abbrev pub channel_text : Condition (Unit {0}) → List ℕ
channel_text Zero = codes "TCH CC 0, available"
channel_text (Stored nothing) = codes "TCH CC 1, an interruption is pending"
channel_text Two = codes "TCH CC 2, a program runs"
channel_text Three = codes "TCH CC 3, not operational"

-- Events.

-- an instruction for a device, and what is said of its condition code
abbrev pub instruction_text : (name : List ℕ) → (address : ℕ) → (code : List ℕ) → List ℕ
instruction_text name address code = concat (name ∷ codes " " ∷ device_address address ∷ codes " " ∷ code ∷ [])

-- a drive whose track, which was written, a reset has lost
abbrev pub lost_text : (address cylinder head : ℕ) → List ℕ
lost_text address cylinder head =
    (codes "RESET; " ++ device_address address)
    ++ ((codes " has lost the track of cylinder " ++ decimal cylinder) ++ (codes " head " ++ decimal head))

-- what is neither an instruction for a device nor an interruption; STORE, KEY and SHOW have no line of their own
abbrev pub other_text : Answer → List ℕ
other_text (Tch c) = channel_text c
other_text (Step done) = codes "STEP " ++ decimal done
other_text (Run done) = codes "RUN " ++ decimal done
other_text (Arrive address true) = concat (codes "ARRIVE " ∷ device_address address ∷ codes ": the arm has come to rest" ∷ [])
other_text (Arrive address false) = concat (codes "ARRIVE " ∷ device_address address ∷ codes ": no arm was in motion" ∷ [])
other_text (Reset None) = codes "RESET"
other_text (Reset (Some t)) = lost_text t.0 t.1 t.2
other_text _ = codes "INT none"

-- an event and its answer
abbrev pub event_text : Answer → (counted : Option ℕ) → List ℕ
event_text (Sio address c) counted = instruction_text (codes "SIO") address (started_text c)
event_text (Hio address c) counted = instruction_text (codes "HIO") address (halted_text c)
event_text (Tio address c) counted = instruction_text (codes "TIO") address (tested_text c counted)
event_text (Interrupt (Some i)) counted = instruction_text (codes "INT") i.0 (csw_text i.1 counted)
event_text answer counted = other_text answer
