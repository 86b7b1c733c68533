-- The metadata of an upload (tus 1.0.0, Upload-Metadata).
use Rattle.std.specs.Prelude.{ℕ, Bool, false, ◌&&◌, ◌||◌, List, [], ◌∷◌, ◌++◌, map, length, codes, bytes_eq, nat_le}
use Rattle.std.specs.Prelude.{if◌then◌else◌, Option, Some, None, option_map}
use Rattle.std.specs.List.{list_all}
use Rattle.common.specs.declared.limits.TheConstants.{MOST_METADATA}
use Rattle.enc_model.specs.declared.Encoding.{Encoding}
use Rattle.enc_model.specs.declared.Mode.{Mode}
use Rattle.enc_model.specs.declared.Mode.TheVariants.{Html, Fatal}
use Rattle.enc_labels.specs.Labels.{encoding_of, output_encoding_of}
use Rattle.common.specs.Splits.{before, rest_after}
use Rattle.tus_request.specs.Texts.{parts, trimmed}
use Rattle.tus_request.specs.Value.{value_of}

abbrev pub KeyValue : Type 0
KeyValue = List ℕ × List ℕ

-- A value is empty or the Base64 of some bytes.
abbrev pub pair_value : List ℕ → Option (List ℕ)
pair_value [] = Some []
pair_value (b ∷ text) = value_of (b ∷ text)

-- A pair is a key, or a key, one space and a value. The key isn't empty.
abbrev pub pair_with : List ℕ → List ℕ → Option KeyValue
pair_with [] text = None
pair_with (k ∷ key) text = option_map (λ value. (k ∷ key, value)) (pair_value text)

-- The pair of a part.
abbrev pub key_value_of : List ℕ → Option KeyValue
key_value_of part = pair_with (before 32 part) (rest_after 32 part)

-- One of the pairs has the key.
abbrev pub has_key : List ℕ → List KeyValue → Bool
has_key key [] = false
has_key key (pair ∷ pairs) = bytes_eq pair.0 key || has_key key pairs

-- The pairs with one more, whose key must be new.
abbrev pub with_key_value : List KeyValue → Option KeyValue → Option (List KeyValue)
with_key_value pairs None = None
with_key_value pairs (Some pair) = if has_key pair.0 pairs then None else Some (pairs ++ pair ∷ [])

-- The pairs so far, and those of the further parts.
abbrev pub key_values_from : Option (List KeyValue) → List (List ℕ) → Option (List KeyValue)
key_values_from None rest = None
key_values_from (Some pairs) [] = Some pairs
key_values_from (Some pairs) (part ∷ rest) = key_values_from (with_key_value pairs (key_value_of part)) rest

-- Printable ASCII.
abbrev pub is_plain : ℕ → Bool
is_plain b = nat_le 32 b && nat_le b 126

-- At most 1,536 bytes of 20..7E.
abbrev pub is_metadata : List ℕ → Bool
is_metadata bytes = nat_le (length bytes) MOST_METADATA && list_all is_plain bytes

-- The pairs of the metadata. Empty metadata has none, and spaces around a pair are ignored.
abbrev pub metadata_of : List ℕ → Option (List KeyValue)
metadata_of [] = Some []
metadata_of (b ∷ bytes) =
    if is_metadata (b ∷ bytes) then key_values_from (Some []) (map (trimmed (32 ∷ [])) (parts (b ∷ bytes))) else None

-- The value of the key, or a default.
abbrev pub setting : List ℕ → List ℕ → List KeyValue → List ℕ
setting key other [] = other
setting key other (pair ∷ pairs) = if bytes_eq pair.0 key then pair.1 else setting key other pairs

-- The error mode of this name.
abbrev pub mode_of : List ℕ → Option Mode
mode_of name = if bytes_eq name (codes "html") then Some Html else if bytes_eq name (codes "fatal") then Some Fatal
    else None

-- The encoding of the bytes, the encoding of the text, and the error mode for characters that the latter lacks.
pub record Choice : Type 0 where
  pub from : Encoding
  pub to : Encoding
  pub mode : Mode

-- The choice, if all three are known.
abbrev pub choice_with : Option Encoding → Option Encoding → Option Mode → Option Choice
choice_with None to mode = None
choice_with (Some from) None mode = None
choice_with (Some from) (Some to) None = None
choice_with (Some from) (Some to) (Some mode) = Some (record { from = from; to = output_encoding_of to; mode = mode })

-- The choice of the keys `from`, `to` and `mode`. Other keys are ignored.
abbrev pub choice_of : List KeyValue → Option Choice
choice_of pairs =
    choice_with (encoding_of (setting (codes "from") (codes "utf-8") pairs))
    (encoding_of (setting (codes "to") (codes "utf-8") pairs))
    (mode_of (setting (codes "mode") (codes "html") pairs))
