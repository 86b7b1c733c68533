-- Characters at a text's start, whose bytes are known and leave the encoder's state as it is.
use Rattle.std.specs.Prelude.{ℕ, List, [], ◌∷◌, ◌++◌, ◌≡◌, None, encode_utf8}
use Rattle.std.specs.Str.{IsUtf8, chars}
use Rattle.enc_model.specs.declared.Encoding.{Encoding}
use Rattle.enc_model.specs.declared.Mode.{Mode}
use Rattle.enc_model.specs.Encode.{Encoder, Shift, Tables, Wrote, coded, encoder}

-- an encoder gives these bytes for a character, and stays in its state
abbrev pub Stays : Encoder → Shift → ℕ → List ℕ → Type 0
Stays f s c bytes = f s c ≡ Wrote bytes s

-- in this mode the encoder's code of a character is these bytes, and it stays in its state
abbrev pub IsCoded : Tables → Encoding → Mode → Shift → ℕ → List ℕ → Type 0
IsCoded t to mode s c bytes =
    coded (encoder t to) mode s (c ∷ []) ≡ record { bytes = bytes; state = s; fault = None }

-- a text's first character, its bytes, and the rest
pub record FirstGiven (gives : ℕ → List ℕ → Type 0) (text bytes rest : List ℕ) : Type 0 where
  pub c : ℕ
  pub parts : text ≡ encode_utf8 c ++ rest
  pub given : gives c bytes

-- characters and their bytes
abbrev pub AllGiven : (ℕ → List ℕ → Type 0) → List ℕ → List ℕ → Type 0
AllGiven gives [] bytes = bytes ≡ []
AllGiven gives (c ∷ cs) bytes = (b more : List ℕ) × (bytes ≡ b ++ more) × gives c b × AllGiven gives cs more

-- the bytes of a text's start went after those that are held, and the rest is left
pub record RunPrefix (gives : ℕ → List ℕ → Type 0) (text rest held new : List ℕ) : Type 0 where
  pub prefix : List ℕ
  pub bytes : List ℕ
  pub parts : text ≡ prefix ++ rest
  pub own : IsUtf8 prefix
  pub grown : new ≡ held ++ bytes
  pub given : AllGiven gives (chars prefix) bytes
