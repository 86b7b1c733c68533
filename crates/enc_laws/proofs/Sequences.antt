-- Well-formed sequences and scalar values.
use Rattle.std.proofs.Common.{ℕ, ◌<◌, ◌≤◌, ◌≡◌, Bool, true, false, ◌&&◌, ◌||◌, ◌⊎◌, inl, inr, List, []}
use Rattle.std.proofs.Common.{◌∷◌, refl, arith}
use Rattle.std.proofs.lemmas.Bool.{cases_lt}
use Rattle.std.proofs.Math.Bool.{and-false, and-true, or-false}
use Rattle.std.proofs.lemmas.Bool.Decides.{nat_tests}
use Rattle.enc_model.specs.Index.{within}
use Rattle.enc_model.specs.Encode.{utf8_bytes}
use Rattle.enc_index.specs.Scalars.{is_scalar}
use Rattle.enc_laws.specs.Subparts.{is_sequence, scalar_of}

-- A SEQUENCE is one of a scalar value.

-- the bytes after the second are trails
third_within : (a b c : ℕ) (x : Bool) → within 0x80 0xBF c ≡ x → is_sequence (a ∷ b ∷ c ∷ []) ≡ true → x ≡ true
third_within a b c true h e = refl
third_within a b c false h e = let f = simp (h, and-false) at e in absurd cc

later_within : (a b c d : ℕ) (x y : Bool) → within 0x80 0xBF c ≡ x → within 0x80 0xBF d ≡ y
    → is_sequence (a ∷ b ∷ c ∷ d ∷ []) ≡ true → (x ≡ true) × (y ≡ true)
later_within a b c d true true h k e = (refl, refl)
later_within a b c d false y h k e = let f = simp (h, and-false) at e in absurd cc
later_within a b c d true false h k e = let f = simp (k, and-false) at e in absurd cc

three_scalar : (a b c : ℕ) → 0xE0 ≤ a → a ≤ 0xEF → 0x80 ≤ b → b ≤ 0xBF → within 0x80 0xBF c ≡ true
    → (a ≡ 0xED → b ≤ 0x9F) → is_scalar (scalar_of (a ∷ b ∷ c ∷ [])) ≡ true
three_scalar a b c l h k m n d = grind (arith, nat_tests, n)

four_scalar : (a b c d : ℕ) → within 0x80 0xBF c ≡ true → within 0x80 0xBF d ≡ true →
    ((within 0xF0 0xF0 a && within 0x90 0xBF b)
    || ((within 0xF1 0xF3 a && within 0x80 0xBF b) || (within 0xF4 0xF4 a && within 0x80 0x8F b))) ≡ true
    → is_scalar (scalar_of (a ∷ b ∷ c ∷ d ∷ [])) ≡ true
four_scalar a b c d h k e = grind (arith, nat_tests, h, k, e)

pub sequence_scalar : (here : List ℕ) → is_sequence here ≡ true → is_scalar (scalar_of here) ≡ true
sequence_scalar [] e = absurd cc
sequence_scalar (a ∷ []) e = grind (arith, nat_tests, e)
sequence_scalar (a ∷ b ∷ []) e = grind (arith, nat_tests, e)
sequence_scalar (a ∷ b ∷ c ∷ []) e =
    three_scalar a b c (grind (arith, nat_tests, e)) (grind (arith, nat_tests, e)) (grind (arith, nat_tests, e))
    (grind (arith, nat_tests, e)) (third_within a b c _ refl e) (λ z. grind (arith, nat_tests, e, z))
sequence_scalar (a ∷ b ∷ c ∷ d ∷ []) e =
    let w = later_within a b c d _ _ refl refl e in
    four_scalar a b c d w.0 w.1 (simp (w.0, w.1, and-false, and-true, or-false) at e)
sequence_scalar (a ∷ b ∷ c ∷ d ∷ g ∷ here) e = let f = simp and-false at e in absurd cc

-- WHAT THE ENCODER WRITES

scalar_apart : (c : ℕ) → is_scalar c ≡ true → (c < 0xD800) ⊎ (0xE000 ≤ c)
scalar_apart c s = elim (cases_lt c 0xD800) [ inl l ↦ inl l | inr g ↦ inr (grind (arith, nat_tests, s)) ]

scalar_most : (c : ℕ) → is_scalar c ≡ true → c ≤ 0x10FFFF
scalar_most c s = grind (arith, nat_tests, s)

sequence_low : (c : ℕ) → c < 0x80 → is_sequence (utf8_bytes c) ≡ true
sequence_low c l = grind (arith, nat_tests)

sequence_two : (c : ℕ) → 0x80 ≤ c → c < 0x800 → is_sequence (utf8_bytes c) ≡ true
sequence_two c l h = grind (arith, nat_tests)

sequence_three : (c : ℕ) → 0x800 ≤ c → c < 0x10000 → is_scalar c ≡ true → is_sequence (utf8_bytes c) ≡ true
sequence_three c l h s = grind (arith, nat_tests, s)

sequence_four : (c : ℕ) → 0x10000 ≤ c → c ≤ 0x10FFFF → is_sequence (utf8_bytes c) ≡ true
sequence_four c l h = grind (arith, nat_tests)

pub written_sequence : (c : ℕ) → is_scalar c ≡ true → is_sequence (utf8_bytes c) ≡ true
written_sequence c s = elim (cases_lt c 0x80) [
  | inl l ↦ sequence_low c l
  | inr l ↦ elim (cases_lt c 0x800) [
    | inl h ↦ sequence_two c l h
    | inr h ↦ elim (cases_lt c 0x10000) [
      | inl k ↦ sequence_three c h k s
      | inr k ↦ sequence_four c k (scalar_most c s)
    ]
  ]
]
