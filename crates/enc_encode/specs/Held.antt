-- Bytes that are held before they are appended to a vector.
use Rattle.std.specs.Prelude.{ℕ, Bool, true, false, List, ◌++◌, ◌≡◌, ◌<◌, ◌≤◌, Some, None, Result, Ok, Err, Vec, All}
use Rattle.std.specs.Prelude.{length, take}
use Rattle.std.specs.Char.{is_ascii}
use Rattle.std.specs.Str.{IsUtf8, chars}
use Rattle.enc_model.specs.declared.Encoding.{Encoding}
use Rattle.enc_model.specs.declared.Encoding.TheVariants.{Iso2022Jp}
use Rattle.enc_model.specs.Encode.{Coded, Shift, InAscii}
use Rattle.lane_kernels.specs.Classes.{is_plain_2022}
use Rattle.enc_encode.specs.Growth.{Appended, Stopped}
use Rattle.enc_encode.specs.State.{shift_of}
use Rattle.enc_encode.specs.declared.error.EncodeError.{EncodeError}
use Rattle.enc_encode.specs.declared.error.EncodeError.TheVariants.{NoMemory, Unencodable}
use Rattle.enc_encode.specs.declared.shift.ShiftState.{ShiftState}

-- of those that were held and some more, a prefix was appended, and the rest is held
pub record Passed {Z : Type 0} (old : Vec ℕ Z) (held bytes : List ℕ) (new : Vec ℕ Z) (still_held : List ℕ) : Type 0
  where
    pub prefix : List ℕ
    pub parts : held ++ bytes ≡ prefix ++ still_held
    pub appended : Appended old prefix new

-- a code that goes after bytes that are held: it is passed on; or out of memory; or all before the first fault is
-- appended
abbrev pub HoldsCode : {Z : Type 0} → Coded → Vec ℕ Z → List ℕ → Vec ℕ Z → List ℕ → Result ShiftState EncodeError
    → Type 0
HoldsCode code old held new still_held (Ok next) =
    (code.fault ≡ None) × (shift_of next ≡ code.state) × Passed old held code.bytes new still_held
HoldsCode code old held new still_held (Err NoMemory) = Stopped old (held ++ code.bytes) new
HoldsCode code old held new still_held (Err (Unencodable c)) =
    (code.fault ≡ Some c) × Appended old (held ++ code.bytes) new

-- the code of a text's start went after bytes that are held, and the rest is left
pub record HeldPrefix {Z : Type 0} (code_of : List ℕ → Coded) (text rest : List ℕ) (old : Vec ℕ Z) (held : List ℕ)
    (new : Vec ℕ Z) (still_held : List ℕ) (r : Result ShiftState EncodeError) : Type 0 where
  pub prefix : List ℕ
  pub parts : text ≡ prefix ++ rest
  pub own : IsUtf8 prefix
  pub code : HoldsCode (code_of (chars prefix)) old held new still_held r

-- the bytes of ASCII that an encoder writes as they are
abbrev pub own_byte : Encoding → Shift → ℕ → Bool
own_byte Iso2022Jp InAscii = is_plain_2022
own_byte Iso2022Jp _ = λ _. false
own_byte _ _ = is_ascii

-- lanes at the start of a text, so many bytes of which are ASCII that the encoding writes as it is
pub record IsOwnPrefix (to : Encoding) (s : Shift) (text lanes : List ℕ) (n : ℕ) : Type 0 where
  pub lanes_are : lanes ≡ take 32 text
  pub some : 0 < n
  pub few : n ≤ 32
  pub long : 32 ≤ length text
  pub own : All (λ b. own_byte to s b ≡ true) (take n text)
