-- The search for a head's end finds it where it is.
use Rattle.std.proofs.Common.{◌≡◌, ◌<◌, inl, inr, ℕ, Bool, true, false, List, [], ◌∷◌, ◌++◌, length, take, refl}
use Rattle.std.proofs.Common.{sym, ◌∙◌, ap, arith, Option, Some, None, nat_lt}
use Rattle.std.proofs.Common.{◌==◌, ◌+◌, drop, get_or, zero, suc, add-one}
use Rattle.std.specs.List.{position}
use Rattle.std.proofs.lemmas.List.Quantifiers.{position-Some}
use Rattle.common.proofs.Splits.{none_passes}
use Rattle.std.proofs.lemmas.List.{take_all}
use Rattle.std.proofs.lemmas.Bool.{eqb-true, ltb-true, lt-ltb, leb-false, lt-leb, cases_Bool}
use Rattle.std.proofs.lemmas.Bool.{both_ways, or_parts, or_from}
use Rattle.tus_request.specs.declared.heads.TheConstants.{MOST_HEAD}
use Rattle.enc_model.specs.declared.Encoding.{Encoding}
use Rattle.tus_request.specs.Lines.{lines, onto_first, up_to_empty, head_lines, Extent}
use Rattle.tus_request.specs.Lines.{head_extent}
use Rattle.tus_request.specs.Searches.{after_byte, after_bytes, is_head_found}
use Rattle.tus_request.specs.Buffers.{is_judged}
use Rattle.tus_request.specs.Answers.{More, answer_with, answer_of}
use Rattle.tus_request.specs.declared.search.Search.{Search}
use Rattle.tus_request.specs.declared.search.Search.TheVariants.{Leading, LeadingCr, Text, Start, StartCr, Over}

abbrev Lines : Type 0
Lines = List (List ℕ)

has : {A : Type 0} → Option A → Bool
has None = false
has (Some x) = true

-- whether the end of the head is in the lines that are left
sees : Search → Lines → Bool
sees Leading ls = has (head_lines ls)
sees LeadingCr ls = has (head_lines (onto_first 13 ls))
sees Text [] = false
sees Text (line ∷ ls) = has (up_to_empty ls)
sees Start ls = has (up_to_empty ls)
sees StartCr ls = has (up_to_empty (onto_first 13 ls))
sees Over ls = true

-- A LF
sees_lf : (s : Search) (ls : Lines) → sees s ((10 ∷ []) ∷ ls) ≡ sees (after_byte s 10) ls
unfolding sees has
sees_lf s ls = grind arith

-- A CR
sees_cr : (s : Search) (ls : Lines) → sees s (onto_first 13 ls) ≡ sees (after_byte s 13) ls
unfolding sees has
sees_cr s ls = grind arith

-- ANOTHER BYTE
sees_text : (s : Search) (b : ℕ) (ls : Lines) → (b == 10) ≡ false → (b == 13) ≡ false
    → sees s (onto_first b ls) ≡ sees (after_byte s b) ls
unfolding sees has
sees_text s b ls e f = grind arith

-- ANY BYTE
step_case : (s : Search) (b : ℕ) (bytes : List ℕ) → sees s (lines (b ∷ bytes)) ≡ sees (after_byte s b) (lines bytes)
step_case s b bytes = elim (cases_Bool (b == 10)) [
  | inl lf ↦ rw (eqb-true b 10 lf) (sees_lf s (lines bytes))
  | inr no_lf ↦ elim (cases_Bool (b == 13)) [
    | inl cr ↦ rw (eqb-true b 13 cr) (sees_cr s (lines bytes))
    | inr no_cr ↦ rw no_lf (rw no_lf at (sees_text s b (lines bytes) no_lf no_cr))
  ]
]

sees_none : (s : Search) → sees s [] ≡ is_head_found s
unfolding sees has
sees_none s = grind arith

sees_all : (s : Search) (bytes : List ℕ) → sees s (lines bytes) ≡ is_head_found (after_bytes s bytes)
sees_all s [] = sees_none s
sees_all s (b ∷ bytes) = step_case s b bytes ∙ sees_all (after_byte s b) bytes

-- THE HEAD'S END
no_end : (bytes : List ℕ) → is_head_found (after_bytes Leading bytes) ≡ false → head_extent bytes ≡ None
unfolding sees has
no_end bytes e = let s = sees_all Leading bytes in grind arith

an_end : (bytes : List ℕ) → head_extent bytes ≡ None → is_head_found (after_bytes Leading bytes) ≡ false
unfolding sees has
an_end bytes e = let s = sees_all Leading bytes in grind arith

module _ (offers : Encoding → Bool) where
  -- a head that isn't whole, and may become so
  pub unended : (bytes : List ℕ) → length bytes < MOST_HEAD → is_head_found (after_bytes Leading bytes) ≡ false
      → answer_of offers bytes ≡ More
  unfolding answer_of
  unended bytes short e =
      let all : take MOST_HEAD bytes ≡ bytes = take_all MOST_HEAD bytes (omega arith) in
      rw (all, no_end bytes e, lt-ltb (length bytes) MOST_HEAD short)

  open_case : (bytes : List ℕ) (o : Option Extent) → answer_with offers bytes o ≡ More
      → (length bytes < MOST_HEAD) × (o ≡ None)
  open_case bytes None is = elim (cases_Bool (nat_lt (length bytes) MOST_HEAD)) [
    | inl t ↦ (ltb-true (length bytes) MOST_HEAD t, refl)
    | inr t ↦ absurd (cc (rw t at is))
  ]
  open_case bytes (Some e) is = elim (cases_Bool (nat_lt 65 e.texts)) [
    | inl t ↦ absurd (cc (rw t at is))
    | inr t ↦ absurd (cc (rw t at is))
  ]

  -- only such a head isn't judged
  pub open_head : (bytes : List ℕ) → answer_of offers bytes ≡ More
      → (length bytes < MOST_HEAD) × (is_head_found (after_bytes Leading bytes) ≡ false)
  unfolding answer_of
  open_head bytes is =
      let o = open_case bytes (head_extent (take MOST_HEAD bytes)) is in
      (o.0, an_end bytes (rw (take_all MOST_HEAD bytes (omega (arith, o.0))) at o.1))

  pub unjudged : (bytes : List ℕ) → is_judged bytes ≡ false → answer_of offers bytes ≡ More
  unjudged bytes e =
      let n = or_parts _ _ e in unended bytes (leb-false MOST_HEAD (length bytes) n.1) n.0

  pub judged : (bytes : List ℕ) → is_judged bytes ≡ true → answer_of offers bytes ≡ More → ⊥
  judged bytes e is =
      let o = open_head bytes is in
      both_ways (is_judged bytes) (or_from _ _ o.1 (lt-leb MOST_HEAD (length bytes) o.0)) e

-- THE SEARCH IN PIECES
over_byte : (b : ℕ) → after_byte Over b ≡ Over
over_byte b = grind arith

pub over_stays : (bytes : List ℕ) → after_bytes Over bytes ≡ Over
over_stays [] = refl
over_stays (b ∷ bytes) = ap (λ s. after_bytes s bytes) (over_byte b) ∙ over_stays bytes

pub search_on : (s : Search) (xs ys : List ℕ) → after_bytes s (xs ++ ys) ≡ after_bytes (after_bytes s xs) ys
search_on s [] ys = refl
search_on s (b ∷ xs) ys = search_on (after_byte s b) xs ys

-- A LINE THAT ISN'T EMPTY
text_byte : (b : ℕ) → (b == 10) ≡ false → after_byte Text b ≡ Text
text_byte b e = grind arith

-- without a LF it goes on
pub line_goes_on : (bytes : List ℕ) → ((k : ℕ) → k < length bytes → (get_or bytes k 0 == 10) ≡ false)
    → after_bytes Text bytes ≡ Text
line_goes_on [] none = refl
line_goes_on (b ∷ bytes) none =
    ap (λ s. after_bytes s bytes) (text_byte b (none 0 (omega arith)))
    ∙ line_goes_on bytes (λ k h. none (suc k) (omega arith))

-- its LF ends it
pub line_ends : (bytes : List ℕ) (i : ℕ) → i < length bytes → (get_or bytes i 0 == 10) ≡ true
    → ((k : ℕ) → k < i → (get_or bytes k 0 == 10) ≡ false)
    → after_bytes Start (drop (suc i) bytes) ≡ after_bytes Text bytes
line_ends [] i inside feed none = absurd (omega arith)
line_ends (b ∷ bytes) zero inside feed none = rw feed refl
line_ends (b ∷ bytes) (suc i) inside feed none =
    line_ends bytes i (omega arith) feed (λ k h. none (suc k) (omega arith))
    ∙ ap (λ s. after_bytes s bytes) (sym (text_byte b (none 0 (omega arith))))

pub after_none : (bytes : List ℕ) → position (λ b. b == 10) bytes ≡ None → after_bytes Text bytes ≡ Text
after_none bytes e = line_goes_on bytes (none_passes (λ b. b == 10) bytes e)

pub after_some : (bytes : List ℕ) (i : ℕ) → position (λ b. b == 10) bytes ≡ Some i
    → (i < length bytes) × (after_bytes Start (drop (i + 1) bytes) ≡ after_bytes Text bytes)
after_some bytes i e =
    let p = position-Some (λ b. b == 10) bytes i 0 e in
    (p.0, rw add-one (line_ends bytes i p.0 p.1 p.2))
