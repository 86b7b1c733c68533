-- The encoders, and their run over a list of code points.
use Rattle.std.specs.Prelude.{ℕ, zero, suc, ◌+◌, ◌-◌, ◌*◌, ◌/◌, ◌%◌, Bool, true, false, not, ◌&&◌, ◌||◌, List, [], ◌∷◌}
use Rattle.std.specs.Prelude.{◌++◌, Option, Some, None, length, ◌==◌, ◌<◌, ◌≤◌, nat_lt, if◌then◌else◌, decimal}
use Rattle.enc_model.specs.declared.Encoding.{Encoding}
use Rattle.enc_model.specs.declared.Encoding.TheVariants as encodings
use Rattle.enc_model.specs.declared.Mode.{Mode}
use Rattle.enc_model.specs.declared.Mode.TheVariants.{Html, Fatal}
use Rattle.enc_model.specs.Index.{Index, code, pointer, pointer_sjis, within}

-- The index files (Encoding Standard, section 5).
pub record Tables : Type 0 where
  pub jis0208 : Index
  pub jis0212 : Index
  pub katakana : Index
  pub single : Encoding → Index

-- The states of the ISO-2022-JP encoder. The other encoders stay in the first.
pub data Shift : Type 0 where
  InAscii : Shift
  InRoman : Shift
  InJis : Shift

-- An encoder's answer to a code point: its bytes; or bytes after which it reads the code point again; or bytes and an
-- error with this code point. Each has the next state.
pub data Written : Type 0 where
  Wrote : List ℕ → Shift → Written
  Restore : List ℕ → Shift → Written
  Unmappable : List ℕ → Shift → ℕ → Written

-- An encoder answers to a state and a code point.
abbrev pub Encoder : Type 0
Encoder = Shift → ℕ → Written

-- The bytes, or an error for c.
abbrev pub known : Shift → ℕ → Option (List ℕ) → Written
known s c (Some bytes) = Wrote bytes s
known s c None = Unmappable [] s c

-- The bytes of a pointer, if there is one.
abbrev pub mapped : Option ℕ → (ℕ → List ℕ) → Option (List ℕ)
mapped (Some p) f = Some (f p)
mapped None f = None

-- The UTF-8 encoder (Encoding Standard, 8.1.2).
abbrev pub utf8_bytes : ℕ → List ℕ
utf8_bytes c =
    if nat_lt c 0x80 then c ∷ []
    else if nat_lt c 0x800 then (0xC0 + c / 64) ∷ (0x80 + c % 64) ∷ []
    else if nat_lt c 0x10000 then (0xE0 + c / 4096) ∷ (0x80 + c / 64 % 64) ∷ (0x80 + c % 64) ∷ []
    else (0xF0 + c / 262144) ∷ (0x80 + c / 4096 % 64) ∷ (0x80 + c / 64 % 64) ∷ (0x80 + c % 64) ∷ []

-- The single-byte encoder (9.2).
abbrev pub single_bytes : Index → ℕ → Option (List ℕ)
single_bytes index c = if nat_lt c 0x80 then Some (c ∷ []) else mapped (pointer index c) (λ p. (p + 0x80) ∷ [])

-- U+2212 becomes U+FF0D.
abbrev pub minus : ℕ → ℕ
minus c = if c == 0x2212 then 0xFF0D else c

-- The two bytes of a pointer in Shift_JIS.
abbrev pub shift_jis_pointer : ℕ → List ℕ
shift_jis_pointer p =
    let lead = p / 188 in
    let trail = p % 188 in
    (lead + (if nat_lt lead 0x1F then 0x81 else 0xC1)) ∷ (trail + (if nat_lt trail 0x3F then 0x40 else 0x41)) ∷ []

-- The Shift_JIS encoder (12.3.2).
unfoldable pub shift_jis_encoder : Index → Encoder
shift_jis_encoder jis0208 s c =
    if nat_lt c 0x81 then Wrote (c ∷ []) s
    else if c == 0xA5 then Wrote (0x5C ∷ []) s
    else if c == 0x203E then Wrote (0x7E ∷ []) s
    else if within 0xFF61 0xFF9F c then Wrote ((c - 0xFF61 + 0xA1) ∷ []) s
    else known s (minus c) (mapped (pointer_sjis jis0208 (minus c)) shift_jis_pointer)

-- Pointers from 8836 on have no two bytes: those reach 94 rows of 94.
abbrev pub below_8836 : Option ℕ → Option ℕ
below_8836 (Some p) = if nat_lt p 8836 then Some p else None
below_8836 None = None

-- The EUC-JP encoder (12.1.2).
unfoldable pub euc_jp_encoder : Index → Encoder
euc_jp_encoder jis0208 s c =
    if nat_lt c 0x80 then Wrote (c ∷ []) s
    else if c == 0xA5 then Wrote (0x5C ∷ []) s
    else if c == 0x203E then Wrote (0x7E ∷ []) s
    else if within 0xFF61 0xFF9F c then Wrote (0x8E ∷ (c - 0xFF61 + 0xA1) ∷ []) s
    else known s (minus c) (mapped (below_8836 (pointer jis0208 (minus c)))
    (λ p. (p / 94 + 0xA1) ∷ (p % 94 + 0xA1) ∷ []))

-- The escape sequence back to ASCII.
abbrev pub to_ascii : List ℕ
to_ascii = 0x1B ∷ 0x28 ∷ 0x42 ∷ []

-- The state is ASCII.
abbrev pub is_ascii : Shift → Bool
is_ascii InAscii = true
is_ascii _ = false

-- The state is Roman.
abbrev pub is_roman : Shift → Bool
is_roman InRoman = true
is_roman _ = false

-- The state is jis0208.
abbrev pub is_jis : Shift → Bool
is_jis InJis = true
is_jis _ = false

-- The answer to a code point with this pointer, or without one.
abbrev pub iso2022_pointer : Shift → ℕ → Option ℕ → Written
iso2022_pointer s c (Some p) =
    let bytes = (p / 94 + 0x21) ∷ (p % 94 + 0x21) ∷ [] in
    Wrote (if is_jis s then bytes else 0x1B ∷ 0x24 ∷ 0x42 ∷ bytes) InJis
iso2022_pointer s c None = if is_jis s then Unmappable to_ascii InAscii c else Unmappable [] s c

-- Half-width katakana become full-width, by the katakana index.
abbrev pub widened : Index → ℕ → Option ℕ
widened katakana c = if within 0xFF61 0xFF9F c then code katakana (c - 0xFF61) else Some c

-- The answer to a code point that may have been widened.
abbrev pub iso2022_wide : Index → Shift → ℕ → Option ℕ → Written
iso2022_wide jis0208 s c (Some d) = iso2022_pointer s d (below_8836 (pointer jis0208 d))
iso2022_wide jis0208 s c None = iso2022_pointer s c None

-- The ISO-2022-JP encoder (12.2.2).
unfoldable pub iso2022_encoder : Index → Index → Encoder
iso2022_encoder jis0208 katakana s c =
    if not (is_jis s) && ((c == 0x0E) || (c == 0x0F) || (c == 0x1B)) then Unmappable [] s 0xFFFD
    else if is_ascii s && nat_lt c 0x80 then Wrote (c ∷ []) s
    else if is_roman s && nat_lt c 0x80 && not ((c == 0x5C) || (c == 0x7E)) then Wrote (c ∷ []) s
    else if is_roman s && (c == 0xA5) then Wrote (0x5C ∷ []) s
    else if is_roman s && (c == 0x203E) then Wrote (0x7E ∷ []) s
    else if nat_lt c 0x80 && not (is_ascii s) then Restore to_ascii InAscii
    else if ((c == 0xA5) || (c == 0x203E)) && not (is_roman s) then Restore (0x1B ∷ 0x28 ∷ 0x4A ∷ []) InRoman
    else iso2022_wide jis0208 s (minus c) (widened katakana (minus c))

-- The bytes at the end: ISO-2022-JP returns to ASCII.
abbrev pub encoder_end : Shift → List ℕ
encoder_end InAscii = []
encoder_end _ = to_ascii

-- The encoder of a single-byte encoding.
unfoldable pub single_encoder : Index → Encoder
single_encoder index s c = known s c (single_bytes index c)

-- The encoder of UTF-8.
abbrev pub utf8_encoder : Encoder
utf8_encoder s c = Wrote (utf8_bytes c) s

-- The encoder of an output encoding. UTF-16 isn't one; it gets UTF-8's.
abbrev pub encoder : Tables → Encoding → Encoder
encoder t encodings.Utf8 = utf8_encoder
encoder t encodings.Utf16Be = utf8_encoder
encoder t encodings.Utf16Le = utf8_encoder
encoder t encodings.ShiftJis = shift_jis_encoder t.jis0208
encoder t encodings.EucJp = euc_jp_encoder t.jis0208
encoder t encodings.Iso2022Jp = iso2022_encoder t.jis0208 t.katakana
encoder t e = single_encoder (t.single e)

-- The decimal reference of a code point: `&#`, its number, `;`.
abbrev pub reference : ℕ → List ℕ
reference c = 0x26 ∷ 0x23 ∷ (decimal c ++ 0x3B ∷ [])

-- The encoded text: its bytes, the state, and the first code point that fatal mode refuses.
pub record Coded : Type 0 where
  pub bytes : List ℕ
  pub state : Shift
  pub fault : Option ℕ

-- The same after these bytes.
abbrev pub led_by : List ℕ → Coded → Coded
led_by bytes coded = record { bytes = bytes ++ coded.bytes; state = coded.state; fault = coded.fault }

-- The run goes on after an encoder's answer to c, before cs.
abbrev pub went : Mode → (Shift → List ℕ → Coded) → ℕ → List ℕ → Written → Coded
went mode go c cs (Wrote bytes s) = led_by bytes (go s cs)
went mode go c cs (Restore bytes s) = led_by bytes (go s (c ∷ cs))
went Html go c cs (Unmappable bytes s d) = led_by bytes (go s (reference d ++ cs))
went Fatal go c cs (Unmappable bytes s d) = record { bytes = bytes; state = s; fault = Some d }

-- The run over a whole list, in at most n calls. The characters of a reference are put first.
unfoldable pub coded_within : ℕ → Encoder → Mode → Shift → List ℕ → Coded
coded_within zero f mode s cs = record { bytes = []; state = s; fault = None }
coded_within (suc n) f mode s [] = record { bytes = []; state = s; fault = None }
coded_within (suc n) f mode s (c ∷ cs) = went mode (coded_within n f mode) c cs (f s c)

-- The run over a whole list. A code point takes at most two calls, and so does each of the at most 67 characters of its
-- reference, which makes 136.
unfoldable pub coded : Encoder → Mode → Shift → List ℕ → Coded
coded f mode s cs = coded_within (136 * length cs) f mode s cs

-- The same, code point by code point.

-- The code of one code point, and then of the others unless it is a fault.
abbrev pub joined_code : Coded → (Shift → Coded) → Coded
joined_code r more = elim r.fault as (λ _. Coded) [ None ↦ led_by r.bytes (more r.state) | Some d ↦ r ]

-- The codes of all code points, one after the other.
abbrev pub all_codes : (Shift → ℕ → Coded) → Shift → List ℕ → Coded
all_codes g s [] = record { bytes = []; state = s; fault = None }
all_codes g s (c ∷ cs) = joined_code (g s c) (λ next. all_codes g next cs)

-- The answer after these bytes.
abbrev pub after_written : List ℕ → Written → Written
after_written prefix (Wrote bytes s) = Wrote (prefix ++ bytes) s
after_written prefix (Restore bytes s) = Restore (prefix ++ bytes) s
after_written prefix (Unmappable bytes s d) = Unmappable (prefix ++ bytes) s d

-- The answer of an encoder that reads the code point again at most once.
abbrev pub settled : Encoder → ℕ → Written → Written
settled f c (Restore bytes s) = after_written bytes (f s c)
settled f c (Wrote bytes s) = Wrote bytes s
settled f c (Unmappable bytes s d) = Unmappable bytes s d

-- The code of one code point.
abbrev pub code_within : Mode → (Shift → List ℕ → Coded) → Written → Coded
code_within mode go (Wrote bytes s) = record { bytes = bytes; state = s; fault = None }
code_within mode go (Restore bytes s) = record { bytes = bytes; state = s; fault = None }
code_within Html go (Unmappable bytes s d) = led_by bytes (go s (reference d))
code_within Fatal go (Unmappable bytes s d) = record { bytes = bytes; state = s; fault = Some d }

-- The code of a character of a reference, which is never an error.
abbrev pub plain_code : Encoder → Shift → ℕ → Coded
plain_code f s c = code_within Html (λ next cs. record { bytes = []; state = next; fault = None }) (settled f c (f s c))

-- The code of a code point.
abbrev pub code_of : Encoder → Mode → Shift → ℕ → Coded
code_of f mode s c = code_within mode (all_codes (plain_code f)) (settled f c (f s c))

-- The answer is bytes.
abbrev pub IsWrote : Written → Type 0
IsWrote (Wrote bytes s) = Unit {0}
IsWrote _ = ⊥

-- The code point isn't read again.
abbrev pub IsNoRestore : Written → Type 0
IsNoRestore (Restore bytes s) = ⊥
IsNoRestore _ = Unit {0}

-- A steady encoder reads a code point again at most once, and encodes all that a reference consists of.
pub record IsSteadyEncoder (f : Encoder) : Type 0 where
  pub once : (s : Shift) (c : ℕ) → IsNoRestore (settled f c (f s c))
  pub ascii : (s : Shift) (c : ℕ) → 0x20 ≤ c → c < 0x5C → IsWrote (settled f c (f s c))

-- The bytes of the end are appended, unless there was a fault.
abbrev pub ended_coded : Coded → Coded
ended_coded r = elim r.fault [
  | None ↦ record {
    bytes = r.bytes ++ encoder_end r.state;
    state = InAscii;
    fault = None;
  }
  | Some c ↦ r
]

-- The encoded text of these code points.
unfoldable pub encode : Tables → Encoding → Mode → List ℕ → Bool → Coded
encode t to mode cs ended =
    let r = coded (encoder t to) mode InAscii cs in
    if ended then ended_coded r else r
