-- The model of uploads and their texts.
use Rattle.std.specs.Prelude.{ℕ, ◌≡◌, ◌+◌, Bool, true, false, List, [], ◌∷◌, ◌++◌, length, ◌==◌, if◌then◌else◌, Option}
use Rattle.std.specs.Prelude.{Some, None}
use Rattle.enc_model.specs.declared.Encoding.{Encoding}
use Rattle.enc_model.specs.declared.Mode.{Mode}
use Rattle.enc_model.specs.Encode.{Tables, Shift, Coded, led_by, coded, encoder, ended_coded}
use Rattle.enc_model.specs.Indexes.{IndexSet, tables}
use Rattle.enc_model.specs.Decode.{text}
use Rattle.enc_model.specs.Transcode.{Phase, fed_text, fed_end}
use Rattle.upload_rules.specs.Lengths.{is_length, known_or}

-- The fields of a new upload.
pub record New : Type 0 where
  pub declared : Option ℕ
  pub from : Encoding
  pub to : Encoding
  pub mode : Mode
  pub metadata : List ℕ

-- The origin of an upload of which an opening found only the result of the bytes until then: their count, their text,
-- and the states of decoding and encoding after them.
pub record Origin : Type 0 where
  pub count : ℕ
  pub text : List ℕ
  pub phase : Phase
  pub shift : Shift

-- An upload, with all bytes that were accepted, or those since its origin. Its length may be unknown.
pub record Upload : Type 0 where
  pub from : Encoding
  pub to : Encoding
  pub mode : Mode
  pub declared : Option ℕ
  pub metadata : List ℕ
  pub origin : Option Origin
  pub accepted : List ℕ

-- The uploads by ascending numbers, the next number, and the index set.
pub record Store : Type 0 where
  pub uploads : List (ℕ × Upload)
  pub next : ℕ
  pub indexes : IndexSet

-- A store without uploads.
abbrev pub no_uploads : IndexSet → Store
no_uploads x = record { uploads = []; next = 1; indexes = x }

-- The entry of number n.
abbrev pub find : {A : Type 0} → ℕ → List (ℕ × A) → Option A
find n [] = None
find n (entry ∷ entries) = if entry.0 == n then Some entry.1 else find n entries

-- The upload of number n.
abbrev pub upload_of : Store → ℕ → Option Upload
upload_of m n = find n m.uploads

-- Of each upload all bytes are there: none has an origin.
abbrev pub HasAllBytes : Store → Type 0
HasAllBytes m = (n : ℕ) (u : Upload) → upload_of m n ≡ Some u → u.origin ≡ None

-- The list with another value at a number that it has.
abbrev pub replaced : {A : Type 0} → ℕ → A → List (ℕ × A) → List (ℕ × A)
replaced n x [] = []
replaced n x (entry ∷ entries) = if entry.0 == n then (n, x) ∷ entries else entry ∷ replaced n x entries

-- The list without its first entry of number n.
abbrev pub without : {A : Type 0} → ℕ → List (ℕ × A) → List (ℕ × A)
without n [] = []
without n (entry ∷ entries) = if entry.0 == n then entries else entry ∷ without n entries

-- The entries of other numbers.
abbrev pub others : {A : Type 0} → ℕ → List (ℕ × A) → List (ℕ × A)
others n [] = []
others n (entry ∷ entries) = if entry.0 == n then others n entries else entry ∷ others n entries

-- The count of an origin's bytes.
abbrev pub origin_count : Option Origin → ℕ
origin_count None = 0
origin_count (Some p) = p.count

-- How many bytes were accepted.
abbrev pub accepted_count : Upload → ℕ
accepted_count u = origin_count u.origin + length u.accepted

-- The upload is complete: as many bytes were accepted as declared.
abbrev pub is_complete : Upload → Bool
is_complete u = is_length u.declared (accepted_count u)

-- The upload with the length that a patch declares, if none was known.
abbrev pub with_length : Upload → Option ℕ → Upload
with_length u declare = record u { declared = known_or u.declared declare }

-- The upload with the length and the bytes that a patch brings.
abbrev pub patched : Upload → Option ℕ → List ℕ → Upload
patched u declare bytes = record (with_length u declare) { accepted = u.accepted ++ bytes }

-- The code points of bytes after an origin, and of the end if it is there.
abbrev pub decoded_since : Tables → Encoding → Origin → List ℕ → Bool → List ℕ
decoded_since t from p bytes false = (fed_text t from p.phase bytes).text
decoded_since t from p bytes true = let r = fed_text t from p.phase bytes in r.text ++ fed_end t from r.phase

-- The text of an origin and of bytes after it.
abbrev pub text_since : Tables → Encoding → Encoding → Mode → Origin → List ℕ → Bool → Coded
text_since t from to mode p bytes done =
    let r = coded (encoder t to) mode p.shift (decoded_since t from p bytes done) in
    led_by p.text (if done then ended_coded r else r)

-- The text of bytes: the encoding of their decoding, after an origin if there is one.
abbrev pub text_from : Tables → Option Origin → Encoding → Encoding → Mode → List ℕ → Bool → Coded
text_from t None from to mode bytes done = text t from to mode bytes done
text_from t (Some p) from to mode bytes done = text_since t from to mode p bytes done

-- The text of the accepted bytes and these, which may be the last: its bytes, and the first unmappable code point.
abbrev pub text_with : IndexSet → Upload → List ℕ → Bool → Coded
text_with x u bytes done = text_from (tables x) u.origin u.from u.to u.mode (u.accepted ++ bytes) done

-- The text of an upload.
unfoldable pub text_of : IndexSet → Upload → List ℕ
text_of x u = (text_with x u [] (is_complete u)).bytes

-- Changes.

abbrev pub new_upload : New → Upload
new_upload new = record {
  from = new.from;
  to = new.to;
  mode = new.mode;
  declared = new.declared;
  metadata = new.metadata;
  origin = None;
  accepted = [];
}

-- `create` appends an upload of the next number, without bytes.
abbrev pub created_store : Store → New → Store
created_store m new = record m { uploads = m.uploads ++ (m.next, new_upload new) ∷ []; next = m.next + 1 }

-- `terminate` leaves the uploads of other numbers. The next number stays, so no upload gets that number again.
abbrev pub deleted_store : Store → ℕ → Store
deleted_store m n = record m { uploads = others n m.uploads }

-- The store with a longer upload, if that is there.
abbrev pub patched_at : Store → ℕ → Option ℕ → List ℕ → Option Upload → Store
patched_at m n declare bytes None = m
patched_at m n declare bytes (Some u) = record m { uploads = replaced n (patched u declare bytes) m.uploads }

-- `commit` gives an upload of unknown length the one that the patch declares, and appends the patch's bytes.
abbrev pub patched_store : Store → ℕ → Option ℕ → List ℕ → Store
patched_store m n declare bytes = patched_at m n declare bytes (upload_of m n)
