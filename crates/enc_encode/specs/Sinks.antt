-- An encoder that writes to a vector, as a sink.
use Rattle.std.specs.Prelude.{ℕ, List, ◌≡◌, ◌≤◌, Vec, vec_capacity}
use Rattle.std.specs.declared.alloc.Global.{Global}
use Rattle.enc_model.specs.declared.Encoding.{Encoding}
use Rattle.enc_model.specs.declared.Mode.{Mode}
use Rattle.enc_model.specs.Encode.{encoder, Coded, Shift, coded}
use Rattle.enc_model.specs.Transcode.{Coder, Took, Refused}
use Rattle.enc_model.specs.Indexes.{IndexSet, tables}
use Rattle.enc_encode.specs.declared.error.EncodeError.{EncodeError}
use Rattle.enc_encode.specs.declared.error.EncodeError.TheVariants.{NoMemory}
use Rattle.enc_encode.specs.Growth.{NoRoom}
use Rattle.enc_encode.specs.State.{EncoderState, coder}
use Rattle.enc_encode.specs.Reasons.{reason_of}

pub record SinkState : Type 0 where
  pub encoder : EncoderState
  pub set : IndexSet
  pub out : Vec ℕ Global

-- what stays: the index files, the encoding and the mode
pub record Setting : Type 0 where
  pub set : IndexSet
  pub to : Encoding
  pub mode : Mode

abbrev pub setting_of : SinkState → Setting
setting_of a = record { set = a.set; to = a.encoder.to; mode = a.encoder.mode }

abbrev pub coder_of : SinkState → Coder
coder_of a = coder a.encoder a.out.items

abbrev pub code_in : Setting → Shift → List ℕ → Coded
code_in g s text = coded (encoder (tables g.set) g.to) g.mode s text

-- it wrote the code of the text
pub record SinkTook (a : SinkState) (text : List ℕ) (b : SinkState) : Type 0 where
  pub setting : setting_of b ≡ setting_of a
  pub took : Took (encoder (tables a.set) a.encoder.to) a.encoder.mode (coder_of a) text (coder_of b)
  pub capacity : vec_capacity a.out ≤ vec_capacity b.out

-- it wrote a part of the code's start, out of memory where there was no room for the code
pub record SinkRefused (a : SinkState) (text : List ℕ) (why : EncodeError) (b : SinkState) : Type 0 where
  pub setting : setting_of b ≡ setting_of a
  pub refused : Refused (encoder (tables a.set) a.encoder.to) a.encoder.mode (coder_of a) text (reason_of why)
      (coder_of b)
  pub memory : why ≡ NoMemory → NoRoom a.out (code_in (setting_of a) a.encoder.shift text).bytes
