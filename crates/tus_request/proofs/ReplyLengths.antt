-- No reply is longer than 2,048 bytes without its body.
use Rattle.std.proofs.Common.{ℕ, ◌≤◌, ◌<◌, ◌+◌, ◌^◌, Bool, true, false, List, [], ◌∷◌, ◌++◌, length, Option, Some, None}
use Rattle.std.proofs.Common.{IfSome, OnErr, OnOk, Result, Ok, Err, arith, codes, ◌≡◌, refl, subst, sym, ap, ◌∙◌}
use Rattle.std.proofs.lemmas.List.{length-append, append-nil}
use Rattle.std.proofs.lemmas.Fmt.{length-decimal-le}
use Rattle.std.specs.Fmt.{decimal, digits}
use Rattle.common.specs.declared.limits.TheConstants.{MOST_LENGTH, MOST_METADATA}
use Rattle.enc_model.specs.declared.Encoding.{Encoding}
use Rattle.enc_labels.specs.Labels.{name_of}
use Rattle.tus_request.specs.Faults.{fault_number}
use Rattle.tus_request.specs.declared.faults.Fault.{Fault}
use Rattle.tus_request.specs.Replies.{close_line, declared_line, header, length_line, metadata_line, refusal_lead}
use Rattle.tus_request.specs.Replies.{refusal_line, refusal_lines, reply, reply_created, reply_head}
use Rattle.tus_request.specs.Replies.{longest_reply, GrowsBy}
use Rattle.tus_request.proofs.ReplyTexts.{one_line, two_lines, three_lines}
use Rattle.tus_request.specs.Replies.{reply_options, reply_patched, reply_refused, reply_text, status_of, unless_bare}

-- a number has at most 20 digits
few_digits : (n : ℕ) → n < 2 ^ 64 → length (decimal n) ≤ 20
few_digits n small = length-decimal-le 20 n (omega arith) (omega (arith, small)) small

-- a header's length
header_length : (name value : List ℕ) → length (header name value) ≡ length name + 4 + length value
header_length name value =
    omega (arith, length-append {A = ℕ})

length_short : (n : Option ℕ) → IfSome n (λ k. k < 2 ^ 64) → length (length_line n) ≤ 38
length_short None small = omega arith
length_short (Some n) small = omega (arith, header_length (codes "Content-Length") (decimal n), few_digits n small)

close_short : (closes : Bool) → length (close_line closes) ≤ 19
close_short closes = grind arith

-- what goes around a reply's own lines
around : (status lines : List ℕ) (n : Option ℕ) (closes : Bool) → length status ≤ 40 → IfSome n (λ k. k < 2 ^ 64)
    → length (reply status lines n closes) ≤ length lines + 200
around status lines n closes few small =
    omega (arith, length_short n small, close_short closes, length-append {A = ℕ})

-- it is a reply in other words, and short
pub record IsReply (text reply_bytes : List ℕ) : Type 0 where
  pub same : text ≡ reply_bytes
  pub short : length text ≤ 2048
  pub fits : length text < 2 ^ 64

is_reply : (text reply_bytes : List ℕ) → text ≡ reply_bytes → length reply_bytes ≤ 2048 → IsReply text reply_bytes
is_reply text reply_bytes same short =
    record { same = same; short = rw same short; fits = rw same (omega (arith, short)) }

pub unless_small : (bare : Bool) (n : ℕ) → n < 2 ^ 64 → IfSome (unless_bare bare n) (λ k. k < 2 ^ 64)
unless_small true n small = tt
unless_small false n small = small

most_length_is : decimal MOST_LENGTH ≡ codes "1073741824"
unfolding digits
most_length_is = refl

-- the lines of the reply to OPTIONS, with this for the greatest length
abbrev pub lines_with : List ℕ → List ℕ
lines_with most =
    header (codes "Tus-Version") (codes "1.0.0")
    ++ (header (codes "Tus-Extension") (codes "creation,creation-defer-length,termination")
    ++ header (codes "Tus-Max-Size") most)

pub options_reply : (closes : Bool) (own : List ℕ) → own ≡ lines_with (codes "1073741824")
    → IsReply (reply (codes "204 No Content") (own ++ []) None closes) (reply_options closes)
options_reply closes own is =
    is_reply _ _ (ap (λ t. reply (codes "204 No Content") t None closes)
    (append-nil own ∙ is ∙ ap lines_with (sym most_length_is)))
    (rw most_length_is (grind arith))

pub created : (number : ℕ) (bare closes : Bool) (location size : List ℕ) (n : Option ℕ) → number < 2 ^ 64
    → location ≡ header (codes "Location") (codes "/files/" ++ decimal number) → size ≡ length_line n
    → n ≡ unless_bare bare 0
    → IsReply (reply (codes "201 Created") (location ++ (size ++ [])) None closes) (reply_created number bare closes)
created number bare closes location size n small place is none =
    is_reply _ _ (one_line (codes "201 Created") location _ size (unless_bare bare 0) closes place
    (is ∙ ap length_line none)) (omega (
      arith,
      around (codes "201 Created") (header (codes "Location") (codes "/files/" ++ decimal number))
          (unless_bare bare 0) closes (omega arith) (unless_small bare 0 (omega arith)),
      header_length (codes "Location") (codes "/files/" ++ decimal number),
      length-append {A = ℕ},
      few_digits number small,
    ))

pub patched : (offset : ℕ) (closes : Bool) (own : List ℕ) → offset < 2 ^ 64
    → own ≡ header (codes "Upload-Offset") (decimal offset)
    → IsReply (reply (codes "204 No Content") (own ++ []) None closes) (reply_patched offset closes)
patched offset closes own small is =
    is_reply _ _ (ap (λ t. reply (codes "204 No Content") t None closes) (append-nil own ∙ is)) (omega (
      arith,
      around (codes "204 No Content") (header (codes "Upload-Offset") (decimal offset)) None closes (omega arith) tt,
      header_length (codes "Upload-Offset") (decimal offset),
      few_digits offset small,
    ))

declared_short : (declared : Option ℕ) → IfSome declared (λ k. k < 2 ^ 64) → length (declared_line declared) ≤ 60
declared_short None small = omega arith
declared_short (Some n) small = omega (arith, header_length (codes "Upload-Length") (decimal n), few_digits n small)

metadata_around : (metadata : List ℕ) → length (metadata_line metadata) ≤ length metadata + 24
metadata_around [] = omega arith
metadata_around (b ∷ bytes) = omega (arith, header_length (codes "Upload-Metadata") (b ∷ bytes))

-- whatever the metadata, it can be counted
pub long_head : (offset declared size metadata : List ℕ) (closes : Bool)
    → length offset + length declared + length size ≤ 200 → length metadata < 2 ^ 63
    → length (reply (codes "200 OK") (offset ++ (declared ++ (metadata_line metadata ++ (size ++ [])))) None closes)
    < 2 ^ 64
long_head offset declared size metadata closes few long = omega (
  arith,
  few,
  long,
  around (codes "200 OK") (offset ++ (declared ++ (metadata_line metadata ++ (size ++ [])))) None closes
      (omega arith) tt,
  length-append offset (declared ++ (metadata_line metadata ++ (size ++ []))),
  length-append declared (metadata_line metadata ++ (size ++ [])),
  length-append (metadata_line metadata) (size ++ []),
  length-append {A = ℕ} size [],
  metadata_around metadata,
)

-- a reply to HEAD has at most so many bytes beside the metadata
head_around : (offset : ℕ) (declared : Option ℕ) (metadata : List ℕ) (bare closes : Bool) → offset < 2 ^ 64
    → IfSome declared (λ k. k < 2 ^ 64)
    → length (reply_head offset declared metadata bare closes) ≤ length metadata + 400
head_around offset declared metadata bare closes small known =
    let first = header (codes "Upload-Offset") (decimal offset) in omega (
      arith,
      around (codes "200 OK") (first ++ (declared_line declared ++ metadata_line metadata)) (unless_bare bare 0) closes
          (omega arith) (unless_small bare 0 (omega arith)),
      length-append first (declared_line declared ++ metadata_line metadata),
      length-append (declared_line declared) (metadata_line metadata),
      header_length (codes "Upload-Offset") (decimal offset),
      few_digits offset small,
      declared_short declared known,
      metadata_around metadata,
    )

-- the lines beside the metadata are short
pub lines_short : (offset : ℕ) (declared : Option ℕ) (first known size : List ℕ) (n : Option ℕ) → offset < 2 ^ 64
    → IfSome declared (λ k. k < 2 ^ 64) → IfSome n (λ k. k < 2 ^ 64)
    → first ≡ header (codes "Upload-Offset") (decimal offset) → known ≡ declared_line declared → size ≡ length_line n
    → length first + length known + length size ≤ 200
lines_short offset declared first known size n small fits few offsets declares is =
    rw (offsets, declares, is) (omega (
      arith,
      header_length (codes "Upload-Offset") (decimal offset),
      few_digits offset small,
      declared_short declared fits,
      length_short n few,
    ))

-- it is that reply, of which the metadata may have any length
pub record IsHead (text reply_bytes metadata : List ℕ) : Type 0 where
  pub same : text ≡ reply_bytes
  pub around : length text ≤ length metadata + 400

pub head : (offset : ℕ) (declared : Option ℕ) (metadata : List ℕ) (bare closes : Bool) (first known size : List ℕ)
    (n : Option ℕ) → offset < 2 ^ 64 → IfSome declared (λ k. k < 2 ^ 64)
    → first ≡ header (codes "Upload-Offset") (decimal offset) → known ≡ declared_line declared → size ≡ length_line n
    → n ≡ unless_bare bare 0
    → IsHead (reply (codes "200 OK") (first ++ (known ++ (metadata_line metadata ++ (size ++ [])))) None closes)
    (reply_head offset declared metadata bare closes) metadata
head offset declared metadata bare closes a b size n small known offsets declares is none =
    let first = header (codes "Upload-Offset") (decimal offset) in
    let same : reply (codes "200 OK") (a ++ (b ++ (metadata_line metadata ++ (size ++ [])))) None closes
    ≡ reply_head offset declared metadata bare closes =
    rw (offsets, declares) (three_lines (codes "200 OK") first (declared_line declared)
    (metadata_line metadata) size (unless_bare bare 0) closes (is ∙ ap length_line none)) in
    record {
      same = same;
      around = subst (λ x. length x ≤ length metadata + 400) (sym same)
          (head_around offset declared metadata bare closes small known);
    }

pub short_head : (text reply_bytes metadata : List ℕ) → IsHead text reply_bytes metadata
    → length metadata ≤ MOST_METADATA → IsReply text reply_bytes
short_head text reply_bytes metadata is few =
    let around = is.around in record {
      same = is.same;
      short = omega (arith, around, few);
      fits = omega (arith, around, few);
    }

name_short : (to : Encoding) → length (name_of to) ≤ 20
name_short to = grind arith

pub text : (to : Encoding) (count : ℕ) (bare closes : Bool) (kind size : List ℕ) (n : Option ℕ) → count < 2 ^ 64
    → kind ≡ header (codes "Content-Type") (codes "text/plain; charset=" ++ name_of to) → size ≡ length_line n
    → n ≡ unless_bare bare count
    → IsReply (reply (codes "200 OK") (kind ++ (size ++ [])) None closes) (reply_text to count bare closes)
text to count bare closes kind size n small names is none =
    is_reply _ _ (one_line (codes "200 OK") kind _ size (unless_bare bare count) closes names
    (is ∙ ap length_line none)) (omega (
      arith,
      around (codes "200 OK") (header (codes "Content-Type") (codes "text/plain; charset=" ++ name_of to))
          (unless_bare bare count) closes (omega arith) (unless_small bare count small),
      header_length (codes "Content-Type") (codes "text/plain; charset=" ++ name_of to),
      length-append {A = ℕ},
      name_short to,
    ))

number_small : (fault : Fault) → fault_number fault < 2 ^ 64
number_small fault = grind arith

status_short : (fault : Fault) → length (status_of fault) ≤ 40
status_short fault = grind arith

lead_short : (fault : Fault) (on_files : Bool) → length (refusal_lead fault on_files) ≤ 60
lead_short fault on_files = grind arith

pub refused : (fault : Fault) (on_files bare closes : Bool) (status first number size : List ℕ) (n : Option ℕ)
    → status ≡ status_of fault → first ≡ refusal_lead fault on_files → number ≡ refusal_line fault
    → size ≡ length_line n → n ≡ unless_bare bare 0
    → IsReply (reply status (first ++ (number ++ (size ++ []))) None closes) (reply_refused fault on_files bare closes)
refused fault on_files bare closes status first number size n starts_as leads line is none =
    is_reply _ _ (rw (starts_as, leads, line) (two_lines (status_of fault) (refusal_lead fault on_files)
    (refusal_line fault) size (unless_bare bare 0) closes (is ∙ ap length_line none))) (omega (
      arith,
      around (status_of fault) (refusal_lines fault on_files) (unless_bare bare 0) closes (status_short fault)
          (unless_small bare 0 (omega arith)),
      length-append (refusal_lead fault on_files) (refusal_line fault),
      lead_short fault on_files,
      header_length (codes "X-Refusal") (decimal (fault_number fault)),
      few_digits (fault_number fault) (number_small fault),
    ))

-- one is appended, or nothing is
pub appended : {X E : Type 0} (r : Result X E) (old new : List ℕ) {text reply_bytes : List ℕ} → IsReply text reply_bytes
    → OnOk r (new ≡ old ++ text) → OnErr r (new ≡ old)
    → OnOk r (new ≡ old ++ reply_bytes) × GrowsBy longest_reply old new
appended (Ok x) old new is ok err =
    (rw (← is.same) ok, rw ok (omega (arith, is.short, length-append {A = ℕ})))
appended (Err e) old new is ok err = (tt, rw err (omega arith))
