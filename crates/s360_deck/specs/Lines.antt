-- The line of each answer. Hexadecimal digits are capitals.
use Rattle.std.specs.Prelude.{ℕ, List, [], ◌∷◌, ◌++◌, true, false, Some, None, take, drop, codes}
use Rattle.std.specs.List.{flat_map}
use Rattle.std.specs.Fmt.{decimal}
use Rattle.counted_io.specs.Text.{hexadecimal, bytes_text}
use Rattle.s360_words.specs.Words.{csw_bytes}
use Rattle.s360_words.specs.declared.words.Csw.{Csw}
use Rattle.s360_laws.specs.declared.status.Status.{Status}
use Rattle.s360_laws.specs.declared.status.Condition.{Condition}
use Rattle.s360_laws.specs.declared.status.Condition.TheVariants as condition
use Rattle.s360_laws.specs.declared.answers.Answer.{Answer}
use Rattle.s360_laws.specs.declared.answers.Answer.TheVariants.{Sio, Tio, Hio, Tch, Step, Run, Arrive, Interrupt, Reset, Store, Key, Show}

-- unit and channel status, in four digits
abbrev pub status_text : Status → List ℕ
status_text status = bytes_text (status.unit.0 ∷ status.channel.0 ∷ [])

-- the two halves of a channel status word
abbrev pub csw_text : Csw → List ℕ
csw_text csw = bytes_text (take 4 (csw_bytes csw)) ++ codes " " ++ bytes_text (drop 4 (csw_bytes csw))

-- a condition code, and what was stored under code 1
abbrev pub condition_text : {T : Type 0} → (T → List ℕ) → Condition T → List ℕ
condition_text text condition.Zero = codes " CC 0"
condition_text text (condition.Stored stored) = codes " CC 1" ++ text stored
condition_text text condition.Two = codes " CC 2"
condition_text text condition.Three = codes " CC 3"

-- a text behind a space
abbrev pub after_space : List ℕ → List ℕ
after_space text = codes " " ++ text

-- the line of an answer
abbrev pub answer_text : Answer → List ℕ
answer_text (Sio address c) = codes "SIO " ++ hexadecimal 3 address
    ++ condition_text (λ s. after_space (status_text s)) c
answer_text (Tio address c) = codes "TIO " ++ hexadecimal 3 address ++ condition_text (λ s. after_space (csw_text s)) c
answer_text (Hio address c) = codes "HIO " ++ hexadecimal 3 address
    ++ condition_text (λ s. after_space (status_text s)) c
answer_text (Tch c) = codes "TCH" ++ condition_text (λ nothing. []) c
answer_text (Step done) = codes "STEP " ++ decimal done
answer_text (Run done) = codes "RUN " ++ decimal done
answer_text (Arrive address true) = codes "ARRIVE " ++ hexadecimal 3 address ++ codes " YES"
answer_text (Arrive address false) = codes "ARRIVE " ++ hexadecimal 3 address ++ codes " NO"
answer_text (Interrupt None) = codes "INT NONE"
answer_text (Interrupt (Some i)) = codes "INT " ++ hexadecimal 3 i.0 ++ codes " " ++ csw_text i.1
answer_text (Reset None) = codes "RESET CLEAN"
answer_text (Reset (Some t)) =
    codes "RESET UNSAVED " ++ hexadecimal 3 t.0 ++ codes " " ++ hexadecimal 4 t.1 ++ codes " " ++ hexadecimal 4 t.2
answer_text (Store true) = codes "STORE OK"
answer_text (Store false) = codes "STORE OUTSIDE"
answer_text (Key true) = codes "KEY OK"
answer_text (Key false) = codes "KEY OUTSIDE"
answer_text (Show at (Some bytes)) = codes "SHOW " ++ hexadecimal 6 at ++ codes " " ++ bytes_text bytes.items
answer_text (Show at None) = codes "SHOW OUTSIDE"

-- the lines, which each end with LF
abbrev pub lines_text : List Answer → List ℕ
lines_text answers = flat_map (λ answer. answer_text answer ++ 10 ∷ []) answers
