-- Every request that passed its checks is valid.
use Rattle.std.specs.Prelude.{All, take, map, codes}
use Rattle.std.specs.List.{list_all}
use Rattle.std.specs.Char.{is_ascii_digit}
use Rattle.std.specs.Str.Parse.{digits_value, AllDigits}
use Rattle.std.proofs.Common.{◌≡◌, ◌<◌, ◌≤◌, ◌^◌, ℕ, Bool, true, ◌&&◌, nat_le, nat_lt}
use Rattle.std.proofs.Common.{List, [], ◌∷◌, length, Option, Some, None, refl, subst, arith, inl, inr}
use Rattle.std.proofs.lemmas.Bool.{leb-true, cases_Bool, and_parts}
use Rattle.std.proofs.lemmas.List.Elements.{All-cons}
use Rattle.std.proofs.lemmas.Str.{digit_value_digit}
use Rattle.std.proofs.lemmas.Int.Digits.{digits_value-lt}
use Rattle.std.proofs.Math.Nat.{pow-le-pow_right}
use Rattle.tus_request.specs.declared.heads.TheConstants.{MOST_HEAD}
use Rattle.common.specs.declared.limits.TheConstants.{MOST_METADATA}
use Rattle.httparse.specs.Grammar.{RequestHead}
use Rattle.httparse.specs.Spans.{name_and_value}
use Rattle.tus_request.specs.Fields.{values_in}
use Rattle.enc_model.specs.declared.Encoding.{Encoding}
use Rattle.enc_model.specs.declared.Encoding.TheVariants as e
use Rattle.enc_model.specs.declared.Mode.{Mode}
use Rattle.common.specs.Numbers.{is_number, number_of}
use Rattle.tus_request.specs.Metadata.{KeyValue, is_plain, is_metadata, metadata_of, Choice, choice_with, choice_of}
use Rattle.tus_request.specs.Checks as checks
use Rattle.tus_request.specs.declared.methods.Verb.{Verb}
use Rattle.tus_request.specs.declared.methods.Verb.TheVariants as verb
use Rattle.tus_request.specs.declared.places.Place.{Place}
use Rattle.tus_request.specs.declared.places.Place.TheVariants as place
use Rattle.tus_request.specs.Lines.{Extent, head_extent}
use Rattle.tus_request.specs.Reading.{request_of}
use Rattle.tus_request.specs.Requests.{Action, Options, Head, Get, Delete, Request, Asks}
use Rattle.tus_request.specs.Answers.{Judged, answer_with, answer_of}
use Rattle.tus_request.specs.Valid.{IsValidAction, IsValidRequest, IsValidVerdict, IsValidAnswer}

-- NUMBERS
all_digits : (text : List ℕ) → list_all is_ascii_digit text ≡ true → AllDigits 10 text
all_digits [] p = tt {0}
all_digits (c ∷ text) p =
    let q = and_parts (is_ascii_digit c) (list_all is_ascii_digit text) p in
    let r = and_parts (nat_le 48 c) (nat_le c 57) q.0 in
    let high = leb-true c 57 r.1 in
    let d = digit_value_digit c (leb-true 48 c r.0, high) in (omega arith, all_digits text q.1)

small_text : (text : List ℕ) → is_number text ≡ true → digits_value 10 text < 10 ^ 18
small_text text p =
    let q = and_parts (nat_le 1 (length text) && nat_le (length text) 18) (list_all is_ascii_digit text) p in
    let short = leb-true (length text) 18 (and_parts (nat_le 1 (length text)) (nat_le (length text) 18) q.0).1 in
    let b = digits_value-lt 10 text (all_digits text q.1) in
    let p = pow-le-pow_right {n = 10} (omega arith) {i = length text} {j = 18} short in
    omega arith

number_small : (text : List ℕ) (n : ℕ) → number_of text ≡ Some n → n < 10 ^ 18
number_small text n q = let small = small_text text in grind arith

when_small : (o : Option (List ℕ)) (n : ℕ) → checks.number_when o ≡ Some n → n < 10 ^ 18
when_small o n q = grind (arith, number_small)

length_small : (values : List (List ℕ)) (n : ℕ) → checks.length_in values ≡ Some n → n < 10 ^ 18
length_small values n q = grind (arith, when_small)

-- METADATA
all_plain : (bytes : List ℕ) → list_all is_plain bytes ≡ true → All (λ b. (0x20 ≤ b) × (b ≤ 0x7E)) bytes
all_plain [] p = λ i d below. absurd (omega (arith, below))
all_plain (b ∷ bytes) p =
    let q = and_parts (is_plain b) (list_all is_plain bytes) p in
    let r = and_parts (nat_le 32 b) (nat_le b 126) q.0 in
    All-cons (λ b. (0x20 ≤ b) × (b ≤ 0x7E)) b bytes (leb-true 32 b r.0, leb-true b 126 r.1) (all_plain bytes q.1)

abbrev IsPlainText : List ℕ → Type 0
IsPlainText m = (length m ≤ MOST_METADATA) × All (λ b. (0x20 ≤ b) × (b ≤ 0x7E)) m

metadata_plain : (m : List ℕ) (pairs : List KeyValue) → metadata_of m ≡ Some pairs → IsPlainText m
metadata_plain [] pairs q = (omega arith, all_plain [] refl)
metadata_plain (b ∷ bytes) pairs q = elim (cases_Bool (is_metadata (b ∷ bytes))) [
  | inl t ↦ let r = and_parts _ _ t in (leb-true (length (b ∷ bytes)) MOST_METADATA r.0, all_plain (b ∷ bytes) r.1)
  | inr f ↦ absurd (cc (rw f at q))
]

-- ENCODINGS
abbrev NoUtf16 : Encoding → Type 0
NoUtf16 c = (c ≡ e.Utf16Be → ⊥) × (c ≡ e.Utf16Le → ⊥)

choice_output : (a b : Option Encoding) (m : Option Mode) (c : Choice) → choice_with a b m ≡ Some c → NoUtf16 c.to
choice_output a b m c q = ((λ e. grind arith), (λ e. grind arith))

-- THE CHECKS
module _ (offers : Encoding → Bool) where
  passed_valid : (x : checks.Asking) (a : Action) → x.length < 10 ^ 18 → IsValidAction offers a
      → IsValidVerdict offers (checks.accepted_request x a)
  passed_valid x a small valid = record { length_is = small; action_is = valid }

  choice_valid : (x : checks.Asking) (declared : Option ℕ) (metadata : List ℕ) (o : Option Choice)
      → x.length < 10 ^ 18 → ((c : Choice) → o ≡ Some c → NoUtf16 c.to) → IsPlainText metadata
      → IsValidVerdict offers (checks.with_choice offers x declared metadata o)
  choice_valid x declared metadata None small to plain = tt {0}
  choice_valid x declared metadata (Some c) small to plain = elim (cases_Bool (offers c.from && offers c.to)) [
    | inl t ↦
        let r = and_parts (offers c.from) (offers c.to) t in
        rw t (record {
          length_is = small;
          action_is = record { from = r.0; to = r.1; no_utf16 = to c refl; short = plain.0; plain = plain.1 };
        })
    | inr f ↦ rw f (tt {0})
  ]

  pairs_valid : (x : checks.Asking) (declared : Option ℕ) (metadata : List ℕ) (o : Option (List KeyValue))
      → x.length < 10 ^ 18 → ((pairs : List KeyValue) → o ≡ Some pairs → IsPlainText metadata)
      → IsValidVerdict offers (checks.with_pairs offers x declared metadata o)
  pairs_valid x declared metadata None small plain = tt {0}
  pairs_valid x declared metadata (Some pairs) small plain =
      choice_valid x declared metadata (choice_of pairs) small (λ c q. choice_output _ _ _ c q) (plain pairs refl)

  metadata_valid : (x : checks.Asking) (declared : Option ℕ) (values : List (List ℕ)) → x.length < 10 ^ 18
      → IsValidVerdict offers (checks.with_metadata offers x declared values)
  metadata_valid x declared [] small = pairs_valid x declared [] (metadata_of []) small (metadata_plain [])
  metadata_valid x declared (value ∷ []) small =
      pairs_valid x declared value (metadata_of value) small (metadata_plain value)
  metadata_valid x declared (value ∷ other ∷ values) small = tt {0}

  declared_valid : (x : checks.Asking) (o : Option (Option ℕ)) → x.length < 10 ^ 18
      → IsValidVerdict offers (checks.with_declared offers x o)
  declared_valid x None small = tt {0}
  declared_valid x (Some declared) small = metadata_valid x declared (x.given (codes "upload-metadata")) small

  declaring_valid : (x : checks.Asking) (n offset : ℕ) (o : Option (Option ℕ)) → x.length < 10 ^ 18
      → offset < 10 ^ 18 → IsValidVerdict offers (checks.declaring x n offset o)
  declaring_valid x n offset None small less = tt {0}
  declaring_valid x n offset (Some declare) small less = record { length_is = small; action_is = less }

  offset_valid : (x : checks.Asking) (n : ℕ) (o : Option ℕ) → x.length < 10 ^ 18
      → ((m : ℕ) → o ≡ Some m → m < 10 ^ 18) → IsValidVerdict offers (checks.at_offset x n o)
  offset_valid x n None small less = tt {0}
  offset_valid x n (Some offset) small less =
      declaring_valid x n offset (checks.optional_number_in (x.given (codes "upload-length"))) small (less offset refl)

  all_valid : (x : checks.Asking) (v : Verb) → x.length < 10 ^ 18 → IsValidVerdict offers (checks.on_all offers x v)
  all_valid x verb.Options small = passed_valid x Options small (tt {0})
  all_valid x verb.Post small = elim (cases_Bool (nat_lt 0 x.length)) [
    | inl t ↦ rw t (tt {0})
    | inr f ↦ rw f (declared_valid x _ small)
  ]
  all_valid x _ small = tt {0}

  upload_valid : (x : checks.Asking) (n : ℕ) (v : Verb) → x.length < 10 ^ 18
      → IsValidVerdict offers (checks.on_upload x n v)
  upload_valid x n verb.Options small = passed_valid x Options small (tt {0})
  upload_valid x n verb.Post small = tt {0}
  upload_valid x n verb.Head small = passed_valid x (Head n) small (tt {0})
  upload_valid x n verb.Patch small =
      elim (cases_Bool (checks.is_patch_media (checks.only (x.given (codes "content-type"))))) [
        | inl t ↦ rw t (offset_valid x n _ small (λ m q.
            when_small (checks.only (x.given (codes "upload-offset"))) m q))
        | inr f ↦ rw f (tt {0})
      ]
  upload_valid x n verb.Get small = passed_valid x (Get n) small (tt {0})
  upload_valid x n verb.Delete small = passed_valid x (Delete n) small (tt {0})
  upload_valid x n verb.Other small = tt {0}

  place_valid : (x : checks.Asking) (p : Option Place) → x.length < 10 ^ 18
      → IsValidVerdict offers (checks.on_place offers x p)
  place_valid x None small = tt {0}
  place_valid x (Some place.Files) small = all_valid x x.verb small
  place_valid x (Some (place.Upload n)) small = upload_valid x n x.verb small

  measured_valid : (line : checks.Line) (given : List ℕ → List (List ℕ)) (o : Option ℕ)
      → ((n : ℕ) → o ≡ Some n → n < 10 ^ 18) → IsValidVerdict offers (checks.measured offers line given o)
  measured_valid line given None less = tt {0}
  measured_valid line given (Some n) less = elim (cases_Bool (checks.lacks_version (checks.asking line given n))) [
    | inl t ↦ rw t (tt {0})
    | inr f ↦ rw f (place_valid (checks.asking line given n) _ (less n refl))
  ]

  judged_valid : (h : Option RequestHead) → IsValidVerdict offers (checks.judged offers h)
  judged_valid None = tt {0}
  judged_valid (Some h) =
      elim (cases_Bool (checks.is_given (values_in (map name_and_value h.fields) (codes "transfer-encoding")))) [
        | inl t ↦ rw t (tt {0})
        | inr f ↦ rw f (measured_valid (checks.line_of h) (values_in (map name_and_value h.fields)) _
            (λ n q. length_small (values_in (map name_and_value h.fields) (codes "content-length")) n q))
      ]

  extent_valid : (bytes : List ℕ) (o : Option Extent) → IsValidAnswer offers (answer_with offers bytes o)
  extent_valid bytes None = elim (cases_Bool (nat_lt (length bytes) MOST_HEAD)) [
    | inl t ↦ rw t (tt {0})
    | inr f ↦ rw f (tt {0})
  ]
  extent_valid bytes (Some x) = elim (cases_Bool (nat_lt 65 x.texts)) [
    | inl t ↦ rw t (tt {0})
    | inr f ↦ rw f (judged_valid (request_of (take x.len bytes)))
  ]

  pub answer_valid : (bytes : List ℕ) → IsValidAnswer offers (answer_of offers bytes)
  unfolding answer_of
  answer_valid bytes = extent_valid bytes (head_extent (take MOST_HEAD bytes))

-- a request that passed its checks is valid
pub request_valid : (offers : Encoding → Bool) (bytes : List ℕ) (n : ℕ) (r : Request)
    → answer_of offers bytes ≡ Judged n (Asks r) → IsValidRequest offers r
request_valid offers bytes n r q = subst (IsValidAnswer offers) q (answer_valid offers bytes)
