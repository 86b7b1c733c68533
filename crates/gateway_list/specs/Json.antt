-- The lines of `list --json`.
use Rattle.std.specs.Prelude.{◌≡◌, ℕ, Bool, List, [], ◌∷◌, ◌++◌, ◌+◌, ◌/◌, ◌%◌, ◌==◌, ◌||◌, codes, decimal, encode_utf8}
use Rattle.std.specs.Prelude.{flat_map, if◌then◌else◌, length, nat_lt, Option, Some, None}
use Rattle.std.specs.Io.KnownBytes.{Appends}
use Rattle.std.specs.Str.{chars}
use Rattle.enc_model.specs.Indexes.{IndexSet}
use Rattle.enc_model.specs.declared.Encoding.{Encoding}
use Rattle.enc_model.specs.declared.Mode.{Mode}
use Rattle.enc_labels.specs.Labels.{name_of}
use Rattle.upload_rules.specs.Lengths.{is_length}
use Rattle.upload_rules.specs.Store.{Store, Upload, accepted_count, is_complete, text_of}
use Rattle.upload_rules.specs.declared.records.Record.{Record}
use Rattle.gateway_texts.specs.Naming.{given_name, is_hidden}
use Rattle.gateway_list.specs.Lines.{mode_text}

-- the last digit of a number to the base 16
abbrev pub digit_of : ℕ → ℕ
digit_of n = if nat_lt n 10 then 48 + n else 87 + n

unfoldable pub hex_digit : ℕ → ℕ
hex_digit n = digit_of (n % 16)

-- a character by its number, which has four digits
abbrev pub by_number : ℕ → List ℕ
by_number c =
    codes "\\u" ++ (encode_utf8 (hex_digit (c / 4096)) ++ (encode_utf8 (hex_digit (c / 256))
    ++ (encode_utf8 (hex_digit (c / 16)) ++ encode_utf8 (hex_digit c))))

-- a character: by its number where it shows something else than itself, and else with a backslash where it has to be
abbrev pub escape : ℕ → List ℕ
escape c = if c == 34 || c == 92 then codes "\\" else []

abbrev pub json_char : ℕ → List ℕ
json_char c = if is_hidden c then by_number c else escape c ++ encode_utf8 c

-- A TEXT, in quotes
unfoldable pub json_chars : List ℕ → List ℕ
json_chars cs = flat_map json_char cs

abbrev pub json_text : List ℕ → List ℕ
json_text text = 34 ∷ (json_chars (chars text) ++ (34 ∷ []))

-- and what may lack
abbrev pub text_or_null : Option (List ℕ) → List ℕ
text_or_null None = codes "null"
text_or_null (Some text) = json_text text

abbrev pub number_or_null : Option ℕ → List ℕ
number_or_null None = codes "null"
number_or_null (Some n) = decimal n

-- THE LINE of an upload, but for its losses: its number, how many bytes were accepted and declared, whether it is
-- complete, and the length of its text,
abbrev pub json_counts : ℕ → ℕ → Option ℕ → Bool → ℕ → List ℕ
json_counts number accepted declared complete text_len =
    codes "{\"number\":" ++ (decimal number ++ (codes ",\"accepted\":" ++ (decimal accepted ++ (codes ",\"declared\":"
    ++ (number_or_null declared ++ (codes ",\"complete\":" ++ ((if complete then codes "true" else codes "false")
    ++ (codes ",\"text\":" ++ decimal text_len))))))))

-- both encodings and the mode,
abbrev pub json_encodings : Encoding → Encoding → Mode → List ℕ
json_encodings from to mode =
    codes ",\"from\":\"" ++ (name_of from ++ (codes "\",\"to\":\"" ++ (name_of to ++ (codes "\",\"mode\":\""
    ++ (mode_text mode ++ codes "\"")))))

-- the file name that the metadata gives, and the metadata
abbrev pub json_names : List ℕ → List ℕ
json_names metadata =
    codes ",\"filename\":" ++ (text_or_null (given_name metadata) ++ (codes ",\"metadata\":" ++ json_text metadata))

abbrev pub upload_head : IndexSet → ℕ × Upload → List ℕ
upload_head x entry =
    json_counts entry.0 (accepted_count entry.1) entry.1.declared (is_complete entry.1) (length (text_of x entry.1))
    ++ (json_encodings entry.1.from entry.1.to entry.1.mode ++ json_names entry.1.metadata)

abbrev pub record_counts : Record → List ℕ
record_counts r = json_counts r.number r.accepted r.declared (is_length r.declared r.accepted) r.text_len

abbrev pub record_encodings : Record → List ℕ
record_encodings r = json_encodings r.from r.to r.mode

abbrev pub record_head : Record → List ℕ
record_head r = record_counts r ++ (record_encodings r ++ json_names r.metadata.bytes.items)

-- with how often the text has a sign of lost bytes
abbrev pub json_line : List ℕ → ℕ → List ℕ
json_line head losses = head ++ (codes ",\"losses\":" ++ (decimal losses ++ codes "}\n"))

-- THE LINES of these uploads, each with some number of losses: how many there are is only tested
abbrev pub AreJsonLines : IndexSet → List (ℕ × Upload) → List ℕ → Type 0
AreJsonLines x [] lines = lines ≡ []
AreJsonLines x (entry ∷ entries) lines =
    (losses : ℕ) × (rest : List ℕ) × (lines ≡ json_line (upload_head x entry) losses ++ rest)
    × AreJsonLines x entries rest

-- such a line was written
abbrev pub AppendsLine : Option (List ℕ) → Option (List ℕ) → List ℕ → Type 0
AppendsLine before after head = (losses : ℕ) × Appends before after (json_line head losses)

-- such lines of all uploads were written
pub record WritesLines (before after : Option (List ℕ)) (m : Store) : Type 0 where
  pub lines : List ℕ
  pub are : AreJsonLines m.indexes m.uploads lines
  pub wrote : Appends before after lines

-- and then the line of the indexes: what is in it is only tested
pub record WritesJson (before after : Option (List ℕ)) (m : Store) : Type 0 where
  pub lines : List ℕ
  pub are : AreJsonLines m.indexes m.uploads lines
  pub last : List ℕ
  pub wrote : Appends before after (lines ++ last)
