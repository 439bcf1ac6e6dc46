-- What a trace tells in lines of their own, beside those of words and of events. Hexadecimal digits are capitals.
use Rattle.std.specs.Prelude.{ℕ, ◌/◌, ◌%◌, ◌==◌, nat_le, if◌then◌else◌, List, [], ◌∷◌, ◌++◌, codes, length, take}
use Rattle.std.specs.List.{concat}
use Rattle.std.specs.Fmt.{decimal}
use Rattle.counted_io.specs.Text.{bytes_text}
use Rattle.ckd_command.specs.declared.registers.Credit.{Credit}
use Rattle.ckd_command.specs.declared.registers.Credit.TheVariants.{EqualHomeAddress, WroteHomeAddress, EqualId, EqualKey, WroteRecord}
use Rattle.ckd_sense.specs.declared.sense_bytes.Sense.{Sense}
use Rattle.s360_explain.specs.Names.{names_text}
use Rattle.s360_explain.specs.declared.bits.Field.TheVariants as field
use Rattle.trace_words.specs.Reasons.{compared_text, sense_reason_text, check_reason_text}
use Rattle.trace_words.specs.declared.reasons.Compared.{Compared}
use Rattle.trace_words.specs.declared.remarks.CreditUse.{CreditUse}
use Rattle.trace_words.specs.declared.remarks.CreditUse.TheVariants.{Leaves, Uses, TakesAway}
use Rattle.trace_words.specs.declared.remarks.Remark.{Remark}
use Rattle.trace_words.specs.declared.remarks.Remark.TheVariants as remark

-- for what a credit gives leave
abbrev pub credit_text : Credit → List ℕ
credit_text EqualHomeAddress = codes "home address, found equal"
credit_text WroteHomeAddress = codes "home address, written"
credit_text (EqualId number) = concat (codes "R" ∷ decimal number ∷ codes ", whose ID was found equal" ∷ [])
credit_text (EqualKey number) = concat (codes "R" ∷ decimal number ∷ codes ", whose key was found equal" ∷ [])
credit_text (WroteRecord number) = concat (codes "R" ∷ decimal number ∷ codes ", written" ∷ [])

-- what becomes of it
abbrev pub credit_use_text : CreditUse → List ℕ
credit_use_text Leaves = codes "leaves a credit"
credit_use_text Uses = codes "uses the credit"
credit_use_text TakesAway = codes "takes the credit away"

-- a search that leaves none
abbrev pub no_credit_text : Compared → List ℕ
no_credit_text c = concat (
    codes "        leaves no credit: " ∷ compared_text c ∷ (if c.count == 1 then codes " was compared" else codes " were compared") ∷ [])

-- the key of a record, eight bytes of it at most
abbrev pub key_text : (number : ℕ) → (key : List ℕ) → List ℕ
key_text number key =
    if nat_le (length key) 8 then concat (codes "        the key of R" ∷ decimal number ∷ codes ": " ∷ bytes_text key ∷ [])
    else concat (codes "        the key of R" ∷ decimal number ∷ codes ": " ∷ bytes_text (take 8 key) ∷ codes ".." ∷ [])

-- the bytes that a write has filled
abbrev pub filled_text : (number : ℕ) → List ℕ
filled_text number =
    if number == 1 then codes "        fills the other byte with a zero"
    else concat (codes "        fills the other " ∷ decimal number ∷ codes " bytes with zeros" ∷ [])

-- sense bytes 0 and 1, and their bits by name
abbrev pub sense_text : Sense → List ℕ
sense_text s = concat (
    codes "    sense " ∷ bytes_text (s.0 / 256 ∷ s.0 % 256 ∷ []) ∷ codes ": " ∷ names_text field.SenseBytes s.0 ∷ [])

-- a line of its own
abbrev pub remark_text : Remark → List ℕ
remark_text remark.AsksForInterruption = codes "        asks for an interruption"
remark_text remark.IndexPasses = codes "        the index passes"
remark_text (remark.NextHead head) = codes "        the next head: " ++ decimal head
remark_text (remark.Credit becomes credit) = concat (codes "        " ∷ credit_use_text becomes ∷ codes ": " ∷ credit_text credit ∷ [])
remark_text (remark.NoCredit compared) = no_credit_text compared
remark_text (remark.Key number key) = key_text number key.now
remark_text (remark.Filled number) = filled_text number
remark_text (remark.Sense s) = sense_text s
remark_text (remark.UnitCheck reason) = codes "    " ++ sense_reason_text reason
remark_text remark.UnitException = codes "    unit exception: the record has no data, as at the end of a file"
remark_text (remark.Check channel reason) = concat (
    codes "    " ∷ names_text field.ChannelStatus channel.0 ∷ codes ": " ∷ check_reason_text reason ∷ [])
