-- The code's answers for one character as the definitions have them.
use Rattle.std.specs.Prelude.{ℕ, List, [], ◌++◌, None, Some}
use Rattle.enc_model.specs.declared.Mode.{Mode}
use Rattle.enc_model.specs.declared.Mode.TheVariants.{Html, Fatal}
use Rattle.enc_model.specs.Encode as encode
use Rattle.enc_encode.specs.declared.written.Bytes.{Bytes}
use Rattle.enc_encode.specs.declared.written.Bytes.TheVariants.{Zero, One, Two, Three, Four, Five}
use Rattle.enc_encode.specs.declared.written.Written.{Written}
use Rattle.enc_encode.specs.declared.written.Written.TheVariants.{Wrote, Restore, Unmappable}
use Rattle.enc_encode.specs.State.{shift_of}

abbrev pub code_bytes : Bytes → List ℕ
code_bytes Zero = []
code_bytes (One a) = a
code_bytes (Two a) = a
code_bytes (Three a) = a
code_bytes (Four a) = a
code_bytes (Five a) = a

abbrev pub written_of : Written → encode.Written
written_of (Wrote b s) = encode.Wrote (code_bytes b) (shift_of s)
written_of (Restore b s) = encode.Restore (code_bytes b) (shift_of s)
written_of (Unmappable b s c) = encode.Unmappable (code_bytes b) (shift_of s) c

-- what is written in the end: the bytes, and for an error the reference or nothing more
abbrev pub final : Mode → encode.Written → encode.Coded
final mode (encode.Wrote b s) = record { bytes = b; state = s; fault = None }
final mode (encode.Restore b s) = record { bytes = b; state = s; fault = None }
final Html (encode.Unmappable b s c) = record { bytes = b ++ encode.reference c; state = s; fault = None }
final Fatal (encode.Unmappable b s c) = record { bytes = b; state = s; fault = Some c }
