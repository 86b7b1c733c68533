-- Names and labels of the encodings that the gateway has (Encoding Standard, 4.2).
use Rattle.std.specs.Prelude.{ℕ, ◌-◌, List, [], ◌∷◌, ◌++◌, map, take, drop, length, Option, Some, None, bytes_eq}
use Rattle.std.specs.Prelude.{if◌then◌else◌, codes}
use Rattle.std.specs.Borrow.{Bor}
use Rattle.std.specs.List.{prefix_len, suffix_len}
use Rattle.std.specs.Char.{is_ascii_whitespace, to_ascii_lowercase}
use Rattle.enc_model.specs.declared.Encoding.{Encoding}
use Rattle.enc_model.specs.declared.Encoding.TheVariants as e

-- The label without ASCII whitespace at both ends: TAB, LF, FF, CR and SPACE.
unfoldable pub stripped : List ℕ → List ℕ
stripped bytes =
    let after = drop (prefix_len is_ascii_whitespace bytes) bytes in
    take (length after - suffix_len is_ascii_whitespace after) after

-- The rows of one encoding.
abbrev pub rows : Encoding → List (List ℕ) → List (List ℕ × Encoding)
rows encoding names = map (λ name. (name, encoding)) names

-- Every label in lower case, with its encoding.
unfoldable pub labels : List (List ℕ × Encoding)
labels =
    rows e.Utf8 (codes "unicode-1-1-utf-8" ∷ codes "unicode11utf8" ∷ codes "unicode20utf8" ∷ codes "utf-8" ∷ codes
    "utf8" ∷ codes "x-unicode20utf8" ∷ [])
    ++ rows e.Utf16Be (codes "unicodefffe" ∷ codes "utf-16be" ∷ [])
    ++ rows e.Utf16Le (codes "csunicode" ∷ codes "iso-10646-ucs-2" ∷ codes "ucs-2" ∷ codes "unicode" ∷ codes
    "unicodefeff" ∷ codes "utf-16" ∷ codes "utf-16le" ∷ [])
    ++ rows e.ShiftJis (codes "csshiftjis" ∷ codes "ms932" ∷ codes "ms_kanji" ∷ codes "shift-jis" ∷ codes
    "shift_jis" ∷ codes "sjis" ∷ codes "windows-31j" ∷ codes "x-sjis" ∷ [])
    ++ rows e.EucJp (codes "cseucpkdfmtjapanese" ∷ codes "euc-jp" ∷ codes "x-euc-jp" ∷ [])
    ++ rows e.Iso2022Jp (codes "csiso2022jp" ∷ codes "iso-2022-jp" ∷ [])
    ++ rows e.Ibm866 (codes "866" ∷ codes "cp866" ∷ codes "csibm866" ∷ codes "ibm866" ∷ [])
    ++ rows e.Iso8859X2 (codes "csisolatin2" ∷ codes "iso-8859-2" ∷ codes "iso-ir-101" ∷ codes "iso8859-2" ∷ codes
    "iso88592" ∷ codes "iso_8859-2" ∷ codes "iso_8859-2:1987" ∷ codes "l2" ∷ codes "latin2" ∷ [])
    ++ rows e.Iso8859X5 (codes "csisolatincyrillic" ∷ codes "cyrillic" ∷ codes "iso-8859-5" ∷ codes "iso-ir-144" ∷ codes
    "iso8859-5" ∷ codes "iso88595" ∷ codes "iso_8859-5" ∷ codes "iso_8859-5:1988" ∷ [])
    ++ rows e.Iso8859X15 (codes "csisolatin9" ∷ codes "iso-8859-15" ∷ codes "iso8859-15" ∷ codes "iso885915" ∷ codes
    "iso_8859-15" ∷ codes "l9" ∷ [])
    ++ rows e.Koi8R (codes "cskoi8r" ∷ codes "koi" ∷ codes "koi8" ∷ codes "koi8-r" ∷ codes "koi8_r" ∷ [])
    ++ rows e.Macintosh (codes "csmacintosh" ∷ codes "mac" ∷ codes "macintosh" ∷ codes "x-mac-roman" ∷ [])
    ++ rows e.Windows1250 (codes "cp1250" ∷ codes "windows-1250" ∷ codes "x-cp1250" ∷ [])
    ++ rows e.Windows1251 (codes "cp1251" ∷ codes "windows-1251" ∷ codes "x-cp1251" ∷ [])
    ++ rows e.Windows1252 (
    codes "ansi_x3.4-1968" ∷ codes "ascii" ∷ codes "cp1252" ∷ codes "cp819" ∷ codes "csisolatin1" ∷ codes
    "ibm819" ∷ codes "iso-8859-1" ∷ codes "iso-ir-100" ∷ codes "iso8859-1"
    ∷ codes "iso88591" ∷ codes "iso_8859-1" ∷ codes "iso_8859-1:1987" ∷ codes "l1" ∷ codes "latin1" ∷ codes
    "us-ascii" ∷ codes "windows-1252" ∷ codes "x-cp1252" ∷ []
    )
    ++ rows e.Windows1253 (codes "cp1253" ∷ codes "windows-1253" ∷ codes "x-cp1253" ∷ [])
    ++ rows e.Windows1254 (
    codes "cp1254" ∷ codes "csisolatin5" ∷ codes "iso-8859-9" ∷ codes "iso-ir-148" ∷ codes "iso8859-9" ∷ codes
    "iso88599" ∷ codes "iso_8859-9" ∷ codes "iso_8859-9:1989"
    ∷ codes "l5" ∷ codes "latin5" ∷ codes "windows-1254" ∷ codes "x-cp1254" ∷ []
    )
    ++ rows e.Windows1255 (codes "cp1255" ∷ codes "windows-1255" ∷ codes "x-cp1255" ∷ [])
    ++ rows e.Windows1256 (codes "cp1256" ∷ codes "windows-1256" ∷ codes "x-cp1256" ∷ [])
    ++ rows e.Windows1257 (codes "cp1257" ∷ codes "windows-1257" ∷ codes "x-cp1257" ∷ [])
    ++ rows e.Windows1258 (codes "cp1258" ∷ codes "windows-1258" ∷ codes "x-cp1258" ∷ [])

-- The encoding of the first row with this label.
unfoldable pub found_label : List (List ℕ × Encoding) → List ℕ → Option Encoding
found_label [] label = None
found_label (row ∷ table) label = if bytes_eq row.0 label then Some row.1 else found_label table label

-- A row of the code's table, in lower case.
abbrev pub lowered_row : Bor (List ℕ) × Encoding → List ℕ × Encoding
lowered_row row = (map to_ascii_lowercase row.0.now, row.1)

-- Get an encoding: whitespace around the label and the case of its letters are ignored.
unfoldable pub encoding_of : List ℕ → Option Encoding
encoding_of label = found_label labels (map to_ascii_lowercase (stripped label))

-- Get an output encoding (Encoding Standard, 4.3): UTF-8 for UTF-16.
abbrev pub output_encoding_of : Encoding → Encoding
output_encoding_of e.Utf16Be = e.Utf8
output_encoding_of e.Utf16Le = e.Utf8
output_encoding_of encoding = encoding

-- The name of an encoding.
abbrev pub name_of : Encoding → List ℕ
name_of e.Utf8 = codes "UTF-8"
name_of e.Utf16Be = codes "UTF-16BE"
name_of e.Utf16Le = codes "UTF-16LE"
name_of e.ShiftJis = codes "Shift_JIS"
name_of e.EucJp = codes "EUC-JP"
name_of e.Iso2022Jp = codes "ISO-2022-JP"
name_of e.Ibm866 = codes "IBM866"
name_of e.Iso8859X2 = codes "ISO-8859-2"
name_of e.Iso8859X5 = codes "ISO-8859-5"
name_of e.Iso8859X15 = codes "ISO-8859-15"
name_of e.Koi8R = codes "KOI8-R"
name_of e.Macintosh = codes "macintosh"
name_of e.Windows1250 = codes "windows-1250"
name_of e.Windows1251 = codes "windows-1251"
name_of e.Windows1252 = codes "windows-1252"
name_of e.Windows1253 = codes "windows-1253"
name_of e.Windows1254 = codes "windows-1254"
name_of e.Windows1255 = codes "windows-1255"
name_of e.Windows1256 = codes "windows-1256"
name_of e.Windows1257 = codes "windows-1257"
name_of e.Windows1258 = codes "windows-1258"
