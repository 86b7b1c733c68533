-- What is written in the end.
use Rattle.std.proofs.Common.{ℕ, List, Vec, Result, Ok, Err}
use Rattle.enc_model.specs.declared.Mode.{Mode}
use Rattle.enc_model.specs.declared.Mode.TheVariants.{Html, Fatal}
use Rattle.enc_model.specs.Encode.{Shift, Unmappable, reference, Coded, led_by}
use Rattle.enc_encode.specs.Code.{final}
use Rattle.enc_encode.specs.declared.error.EncodeError.{EncodeError}
use Rattle.enc_encode.specs.declared.error.EncodeError.TheVariants.{NoMemory, Unencodable}
use Rattle.enc_encode.specs.declared.shift.ShiftState.{ShiftState}
use Rattle.enc_encode.specs.Reasons.{Gave}
use Rattle.enc_encode.specs.Growth.{Appended, Stopped}
use Rattle.enc_encode.proofs.Growth.{prefix, both, after_part}

-- refused before an error's own bytes
pub unmappable_prefix : (mode : Mode) (b : List ℕ) (s : Shift) (d : ℕ) {Z : Type 0} {old new : Vec ℕ Z}
    → Stopped old b new
    → Stopped old (final mode (Unmappable b s d)).bytes new
unmappable_prefix Html b s d p = prefix (reference d) p
unmappable_prefix Fatal b s d p = p

-- after a part of the code
pub gave_after : {Z : Type 0} {old mid : Vec ℕ Z} (b : List ℕ) (code : Coded) (new : Vec ℕ Z)
    (r : Result ShiftState EncodeError) →
    Appended old b mid → Gave code mid new r → Gave (led_by b code) old new r
gave_after b code new (Ok next) p q = (q.0, q.1, both p q.2)
gave_after b code new (Err NoMemory) p q = after_part p q
gave_after b code new (Err (Unencodable c)) p q = (q.0, both p q.1)
