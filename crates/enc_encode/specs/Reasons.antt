-- What a call that writes a code to a vector answers.
use Rattle.std.specs.Prelude.{ℕ, ◌++◌, ◌≡◌, Option, Some, None, Result, Ok, Err, Vec}
use Rattle.enc_model.specs.Encode.{Coded}
use Rattle.enc_encode.specs.Growth.{NoRoom, Appended, Stopped}
use Rattle.enc_encode.specs.declared.error.EncodeError.{EncodeError}
use Rattle.enc_encode.specs.declared.error.EncodeError.TheVariants.{NoMemory, Unencodable}
use Rattle.enc_encode.specs.declared.shift.ShiftState.{ShiftState}
use Rattle.enc_encode.specs.State.{shift_of}

-- none when out of memory, else the character that has no code
abbrev pub reason_of : EncodeError → Option ℕ
reason_of NoMemory = None
reason_of (Unencodable c) = Some c

-- the whole code was appended and leads to this state; or a part of it, out of memory; or all of it before the
-- first fault
abbrev pub Gave : {Z : Type 0} → Coded → Vec ℕ Z → Vec ℕ Z → Result ShiftState EncodeError → Type 0
Gave code old new (Ok next) = (code.fault ≡ None) × (shift_of next ≡ code.state) × Appended old code.bytes new
Gave code old new (Err NoMemory) = Stopped old code.bytes new
Gave code old new (Err (Unencodable c)) = (code.fault ≡ Some c) × Appended old code.bytes new

-- an error: no room for the code, or all of it before the first fault was appended
abbrev pub Explains : {Z X : Type 0} → Coded → Vec ℕ Z → Vec ℕ Z → Result X EncodeError → Type 0
Explains code old new (Ok x) = Unit {0}
Explains code old new (Err NoMemory) = NoRoom old code.bytes
Explains code old new (Err (Unencodable c)) = new.items ≡ old.items ++ code.bytes
