-- The lines of `list`.
use Rattle.std.specs.Prelude.{ℕ, Bool, List, [], ◌∷◌, ◌++◌, codes, decimal, flat_map, length}
use Rattle.std.specs.Prelude.{if◌then◌else◌, Option, Some, None}
use Rattle.enc_model.specs.Indexes.{IndexSet}
use Rattle.enc_model.specs.declared.Encoding.{Encoding}
use Rattle.enc_model.specs.declared.Mode.{Mode}
use Rattle.enc_model.specs.declared.Mode.TheVariants.{Html, Fatal}
use Rattle.enc_labels.specs.Labels.{name_of}
use Rattle.upload_rules.specs.Store.{Store, Upload, text_of, accepted_count}
use Rattle.upload_rules.specs.declared.records.Record.{Record}
use Rattle.gateway_texts.specs.Naming.{given_name, is_clean}

abbrev pub mode_text : Mode → List ℕ
mode_text Html = codes "html"
mode_text Fatal = codes "fatal"

-- a declared length, or `?`
abbrev pub length_text : Option ℕ → List ℕ
length_text None = codes "?"
length_text (Some n) = decimal n

-- some text after a space, or nothing
abbrev pub spaced : List ℕ → List ℕ
spaced [] = []
spaced (b ∷ text) = 32 ∷ b ∷ text

-- the metadata, where it is to be shown
abbrev pub to_show : Bool → List ℕ → List ℕ
to_show long metadata = if long then metadata else []

-- the file name that the metadata gives, where no character of it is barred
abbrev pub shown_name : Option (List ℕ) → List ℕ
shown_name None = []
shown_name (Some name) = if is_clean name then codes " (filename: " ++ (name ++ codes ")") else []

-- the number, how many bytes were accepted and declared, the length of the text, both encodings, the mode, the metadata
-- that is shown, the file name that it gives, and LF
abbrev pub line : ℕ → ℕ → Option ℕ → ℕ → Encoding → Encoding → Mode → List ℕ → List ℕ
line number accepted declared text_len from to mode metadata =
    decimal number ++ (32 ∷ (decimal accepted ++ (47 ∷ (length_text declared ++ (32 ∷ (decimal text_len ++ (32 ∷
    (name_of from ++ (32 ∷ (name_of to ++ (32 ∷ (mode_text mode ++ (spaced metadata
    ++ (shown_name (given_name metadata) ++ (10 ∷ [])))))))))))))))

-- THE LINE of an upload, with its metadata or without
abbrev pub upload_line : Bool → IndexSet → ℕ × Upload → List ℕ
upload_line long x entry =
    line entry.0 (accepted_count entry.1) entry.1.declared (length (text_of x entry.1)) entry.1.from entry.1.to
    entry.1.mode (to_show long entry.1.metadata)

-- THE LINES of all uploads, by their numbers
abbrev pub list_lines : Bool → Store → List ℕ
list_lines long m = flat_map (upload_line long m.indexes) m.uploads

abbrev pub record_line : Bool → Record → List ℕ
record_line long r =
    line r.number r.accepted r.declared r.text_len r.from r.to r.mode (to_show long r.metadata.bytes.items)
