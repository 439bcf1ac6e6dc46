-- Symbols, and where statements stand in storage.
use Rattle.std.specs.Prelude.{◌≡◌, ◌⊎◌, ℕ, ◌+◌, ◌-◌, ◌*◌, ◌/◌, List, [], ◌∷◌, ◌++◌, length, find, not, ◌==◌, nat_lt, nat_le, Option, Some}
use Rattle.std.specs.Prelude.{None, option_map, is_some, Result, Ok, Err, if◌then◌else◌, ◌&&◌}
use Rattle.std.specs.Str.{bytes_eq}
use Rattle.s360_assembler.specs.declared.fault.Cause.{Cause}
use Rattle.s360_assembler.specs.declared.fault.Cause.TheVariants as cause
use Rattle.s360_assembler.specs.declared.constants.Boundary.{Boundary}
use Rattle.s360_assembler.specs.declared.constants.Boundary.TheVariants.{Byte, Fullword, Doubleword}
use Rattle.s360_assembler.specs.declared.fault.Mistake.{Mistake}
use Rattle.s360_assembler.specs.declared.files.LoadableFile.{LoadableFile}
use Rattle.s360_assembler.specs.declared.numbers.Address.{Address}
use Rattle.s360_assembler.specs.declared.numbers.Base.{Base}
use Rattle.s360_assembler.specs.declared.numbers.Base.TheVariants as base
use Rattle.s360_assembler.specs.declared.statements.Statement.{Statement}
use Rattle.s360_assembler.specs.declared.statements.Statement.TheVariants.{Origin, Reserve, Constant, Pointer, Word, Load}
use Rattle.s360_assembler.specs.declared.symbols.Symbol.{Symbol}
use Rattle.s360_assembler.specs.Numbers.{is_symbol, padded}
use Rattle.s360_assembler.specs.Fields.{operands_at}
use Rattle.s360_assembler.specs.Constants.{bytes_between}
use Rattle.s360_assembler.specs.Statements.{statement_of, label_in}

-- the address of a symbol
abbrev pub address_named : List Symbol → (name : List ℕ) → Option ℕ
address_named symbols name = option_map (λ s. s.address) (find (λ s. bytes_eq s.name name) symbols)

-- what an address is counted from, at this location
abbrev pub base_value : List Symbol → (here : ℕ) → Base → Option ℕ
base_value symbols here base.Nothing = Some 0
base_value symbols here base.Here = Some here
base_value symbols here (base.Label name) = address_named symbols name

-- from 0 to FFFFFF
abbrev pub in_storage : (value minus : ℕ) → Result ℕ Cause
in_storage value minus = if nat_le minus value && nat_lt (value - minus) 16777216 then Ok (value - minus) else Err cause.Outside

-- the value of an address that is counted from this value, if it is defined
abbrev pub displaced_value : Address → Option ℕ → Result ℕ Cause
displaced_value address None = Err cause.Undefined
displaced_value address (Some value) = in_storage (value + address.plus) address.minus

-- the value of an address, at this location
abbrev pub value_of : List Symbol → (here : ℕ) → Address → Result ℕ Cause
value_of symbols here address = displaced_value address (base_value symbols here address.base)

-- the boundary that a statement stands on, and the bytes that it takes
abbrev pub boundary_of : Statement → Boundary
boundary_of (Reserve boundary bytes) = boundary
boundary_of (Constant boundary bytes) = boundary
boundary_of (Pointer address) = Fullword
boundary_of (Word word) = Doubleword
boundary_of s = Byte

-- the bytes that a statement takes
abbrev pub size_of : Statement → ℕ
size_of (Reserve boundary bytes) = bytes
size_of (Constant boundary bytes) = length bytes.items
size_of (Pointer address) = 4
size_of (Word word) = 8
size_of (Load place size) = size
size_of s = 0

-- the first place of a boundary from here on
abbrev pub place_on : Boundary → (here : ℕ) → ℕ
place_on boundary here = (here + (bytes_between boundary - 1)) / bytes_between boundary * bytes_between boundary

-- where a statement stands that may stand from here on
abbrev pub place_of : (here : ℕ) → Statement → ℕ
place_of here s = place_on (boundary_of s) here

-- the end of a statement: none goes past FFFFFF
abbrev pub end_of : (here : ℕ) → Statement → Result ℕ Cause
end_of here s =
    if nat_le (place_of here s + size_of s) 16777216 then Ok (place_of here s + size_of s) else Err cause.Outside

-- the location behind a statement: an origin's value, or the end of another
abbrev pub location_behind : List Symbol → (here : ℕ) → Statement → Result ℕ Cause
location_behind symbols here (Origin address) = value_of symbols here address
location_behind symbols here s = end_of here s

-- a label more, if there is one
abbrev pub defined : List Symbol → (label : List ℕ) → (address : ℕ) → Result (List Symbol) Cause
defined symbols label address =
    if length label == 0 then Ok symbols
    else (if not (is_symbol label) then Err cause.Label
    else (if is_some (address_named symbols (padded label)) then Err cause.Twice
    else Ok (symbols ++ record { name = padded label; address = address } ∷ [])))

-- a label was defined so; where memory ran out, this says nothing
abbrev pub Defines : Result (Unit {0}) Cause → (before now : List Symbol) → (label : List ℕ) → (address : ℕ) → Type 0
Defines (Ok done) before now label address = defined before label address ≡ Ok now
Defines (Err why) before now label address = (why ≡ cause.OutOfMemory) ⊎ (defined before label address ≡ Err why)

-- Lines.

-- what is wrong at a byte of a line
abbrev pub at_byte : {T : Type 0} → ℕ → Result T Cause → Result T Mistake
at_byte at (Ok value) = Ok value
at_byte at (Err why) = Err (record { column = at + 1; cause = why })

-- what is read of a line goes on, or it is wrong
abbrev pub and_then : {T U : Type 0} → Result T Mistake → (T → Result U Mistake) → Result U Mistake
and_then (Ok value) behind = behind value
and_then (Err m) behind = Err m

-- the symbols behind a line that stands at this location, and the location behind it
abbrev pub noted : List LoadableFile → List Symbol → (here : ℕ) → (line : List ℕ) → Result (List Symbol × ℕ) Mistake
noted files symbols here line =
    and_then (statement_of files line) (λ s.
    and_then (at_byte 0 (defined symbols (label_in line) (place_of here s))) (λ more.
    and_then (at_byte (operands_at line) (location_behind more here s)) (λ next.
    Ok (more, next))))

-- a line was noted so; where memory ran out, this says nothing
abbrev pub Notes : Result ℕ Mistake → List LoadableFile → (before now : List Symbol) → (here : ℕ) → (line : List ℕ) → Type 0
Notes (Ok next) files before now here line = noted files before here line ≡ Ok (now, next)
Notes (Err m) files before now here line = (m.cause ≡ cause.OutOfMemory) ⊎ (noted files before here line ≡ Err m)
