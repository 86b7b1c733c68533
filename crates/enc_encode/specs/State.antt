-- What an encoder is: where it encodes to, what it does with what that lacks, and its state.
use Rattle.std.specs.Prelude.{ℕ, List, ◌≡◌, refl}
use Rattle.enc_model.specs.declared.Encoding.{Encoding}
use Rattle.enc_model.specs.declared.Mode.{Mode}
use Rattle.enc_model.specs.Encode.{Tables, Shift, InAscii, InRoman, InJis, Coded, coded, encoder}
use Rattle.enc_model.specs.Transcode.{Coder}
use Rattle.enc_encode.specs.declared.shift.ShiftState.{ShiftState}
use Rattle.enc_encode.specs.declared.shift.ShiftState.TheVariants.{Ascii, Roman, Jis}

abbrev pub shift_of : ShiftState → Shift
shift_of Ascii = InAscii
shift_of Roman = InRoman
shift_of Jis = InJis

abbrev pub code_of_shift : Shift → ShiftState
code_of_shift InAscii = Ascii
code_of_shift InRoman = Roman
code_of_shift InJis = Jis

pub code_of_shift_of : {A : Type 0} (s : ShiftState) (f : ShiftState → A) → f (code_of_shift (shift_of s)) ≡ f s
code_of_shift_of Ascii f = refl
code_of_shift_of Roman f = refl
code_of_shift_of Jis f = refl

pub record EncoderState : Type 0 where
  pub to : Encoding
  pub mode : Mode
  pub shift : Shift

-- the same encoder in another state
abbrev pub shifted : EncoderState → Shift → EncoderState
shifted e s = record e { shift = s }

-- an encoder's state and what was written
abbrev pub coder : EncoderState → List ℕ → Coder
coder e out = record { state = e.shift; out = out }

-- the code of a text from an encoder's state
abbrev pub code_from : Tables → EncoderState → List ℕ → Coded
code_from t e text = coded (encoder t e.to) e.mode e.shift text
