-- What a lead byte leads to, in the table and in the decoder.
use Rattle.std.proofs.Common.{ℕ, suc, ◌-◌, ◌<◌, ◌≤◌, ◌≡◌, ◌⊎◌, inl, inr, false, List, [], ◌∷◌, Some}
use Rattle.std.proofs.Common.{length, refl, arith, lit≤}
use Rattle.std.proofs.lemmas.Bool.{cases_lt, cases_order}
use Rattle.std.proofs.lemmas.Bool.Decides.{nat_tests}
use Rattle.enc_model.specs.declared.Answer.TheVariants.{Point, Error, Nothing}
use Rattle.enc_model.specs.Utf8.{Utf8, utf8, utf8_start, lead_step}
use Rattle.enc_laws.specs.Subparts.{Ranges, fills, begins_to_fill, is_sequence, is_prefix}

-- the table's rows for a lead byte: their other ranges
pub record Leads (b : ℕ) (ranges : Ranges) : Type 0 where
  pub few : length ranges ≤ 3
  pub sequence : (t : List ℕ) → is_sequence (b ∷ t) ≡ fills ranges t
  pub prefix : (t : List ℕ) → is_prefix (b ∷ t) ≡ begins_to_fill ranges t

-- ranges of which each is 80..BF
abbrev pub ArePlain : Ranges → Type 0
ArePlain [] = Unit {0}
ArePlain (r ∷ ranges) = (r.0 ≡ 0x80) × (r.1 ≡ 0xBF) × ArePlain ranges

-- the decoder waits for bytes in these ranges
abbrev pub Waits : Ranges → Utf8 → Type 0
Waits [] s = ⊥
Waits (r ∷ ranges) s = (s.needed ≡ suc (length ranges)) × (s.lower ≡ r.0) × (s.upper ≡ r.1) × ArePlain ranges

-- what the lead takes away from the first byte's bits
abbrev pub mark_of : Ranges → ℕ
mark_of [] = 0
mark_of (r ∷ []) = 0xC0
mark_of (r ∷ s ∷ []) = 0xE0
mark_of (r ∷ s ∷ t ∷ ranges) = 0xF0

-- the decoder's state after a lead
pub record Leading (b : ℕ) (ranges : Ranges) (s : Utf8) : Type 0 where
  pub leads : Leads b ranges
  pub read : utf8 utf8_start (Some b) ≡ record { state = s; answer = Nothing; restored = [] }
  pub waits : Waits ranges s
  pub point : s.point ≡ b - mark_of ranges

abbrev pub lead_state : ℕ → ℕ → ℕ → ℕ → ℕ → Utf8
lead_state b needed lower upper point = (lead_step b needed lower upper point).state

pub ascii : (b : ℕ) → b < 0x80 → Leads b []
ascii b l = record { few = lit≤ tt; sequence = λ t. grind (arith, nat_tests); prefix = λ t. grind (arith, nat_tests) }

pub ascii_read : (b : ℕ) → b < 0x80 → utf8 utf8_start (Some b) ≡ record {
  state = utf8_start;
  answer = Point b;
  restored = [];
}
unfolding utf8
ascii_read b l = grind (arith, nat_tests)

-- a byte that begins no sequence
pub record LeadsNowhere (b : ℕ) : Type 0 where
  pub sequence : (t : List ℕ) → is_sequence (b ∷ t) ≡ false
  pub prefix : (t : List ℕ) → is_prefix (b ∷ t) ≡ false
  pub read : utf8 utf8_start (Some b) ≡ record { state = utf8_start; answer = Error; restored = [] }

pub nowhere : (b : ℕ) → 0x80 ≤ b → (0xC2 ≤ b → 0xF5 ≤ b) → LeadsNowhere b
unfolding utf8
nowhere b l n = record {
  sequence = λ t. grind (arith, nat_tests);
  prefix = λ t. grind (arith, nat_tests);
  read = grind (arith, nat_tests);
}

-- WHICHEVER BYTE IT IS

abbrev pub Kind : ℕ → Type 0
Kind b = (b < 0x80) ⊎ (((ranges : Ranges) × (s : Utf8) × Leading b ranges s) ⊎ LeadsNowhere b)

-- a lead that waits for this many bytes, of which the first is in a range of its own
leading : (b : ℕ) (ranges : Ranges) (needed lower upper : ℕ) → length ranges ≤ 3
    → ((t : List ℕ) → is_sequence (b ∷ t) ≡ fills ranges t) →
    ((t : List ℕ) → is_prefix (b ∷ t) ≡ begins_to_fill ranges t)
    → utf8 utf8_start (Some b) ≡ lead_step b needed lower upper (b - mark_of ranges)
    → Waits ranges (lead_state b needed lower upper (b - mark_of ranges)) → Kind b
leading b ranges needed lower upper few sequence prefix read waits = inr (inl (
  ranges,
  _,
  record {
    leads = record { few = few; sequence = sequence; prefix = prefix };
    read = read;
    waits = waits;
    point = refl;
  },
))

kind_from_f1 : (b : ℕ) → 0xF1 ≤ b → Kind b
unfolding utf8
kind_from_f1 b l = elim (cases_order b 0xF4) [
  | inl e ↦ leading b ((0x80, 0x8F) ∷ (0x80, 0xBF) ∷ (0x80, 0xBF) ∷ []) 3 0x80 0x8F (lit≤ tt)
      (λ t. grind (arith, nat_tests)) (λ t. grind (arith, nat_tests)) (grind (arith, nat_tests))
      (refl, refl, refl, (refl, refl, (refl, refl, tt)))
  | inr (inl below) ↦ leading b ((0x80, 0xBF) ∷ (0x80, 0xBF) ∷ (0x80, 0xBF) ∷ []) 3 0x80 0xBF (lit≤ tt)
      (λ t. grind (arith, nat_tests)) (λ t. grind (arith, nat_tests)) (grind (arith, nat_tests))
      (refl, refl, refl, (refl, refl, (refl, refl, tt)))
  | inr (inr above) ↦ inr (inr (nowhere b (omega arith) (λ _. omega arith)))
]

-- E1 to EC, EE and EF
three : (b : ℕ) → 0xE1 ≤ b → b ≤ 0xEF → (b ≡ 0xED → ⊥) → Kind b
unfolding utf8
three b l h n =
    leading b ((0x80, 0xBF) ∷ (0x80, 0xBF) ∷ []) 2 0x80 0xBF (lit≤ tt) (λ t. grind (arith, nat_tests))
    (λ t. grind (arith, nat_tests)) (grind (arith, nat_tests)) (refl, refl, refl, (refl, refl, tt))

kind_from_e1 : (b : ℕ) → 0xE1 ≤ b → Kind b
unfolding utf8
kind_from_e1 b l = elim (cases_order b 0xF0) [
  | inl e ↦ leading b ((0x90, 0xBF) ∷ (0x80, 0xBF) ∷ (0x80, 0xBF) ∷ []) 3 0x90 0xBF (lit≤ tt)
      (λ t. grind (arith, nat_tests)) (λ t. grind (arith, nat_tests)) (grind (arith, nat_tests))
      (refl, refl, refl, (refl, refl, (refl, refl, tt)))
  | inr (inl below) ↦ elim (cases_order b 0xED) [
    | inl e ↦ leading b ((0x80, 0x9F) ∷ (0x80, 0xBF) ∷ []) 2 0x80 0x9F (lit≤ tt) (λ t. grind (arith, nat_tests))
        (λ t. grind (arith, nat_tests)) (grind (arith, nat_tests)) (refl, refl, refl, (refl, refl, tt))
    | inr apart ↦ three b l (omega arith) (λ e. elim apart [ inl x ↦ omega arith | inr y ↦ omega arith ])
  ]
  | inr (inr above) ↦ kind_from_f1 b above
]

kind_from_c2 : (b : ℕ) → 0xC2 ≤ b → Kind b
unfolding utf8
kind_from_c2 b l = elim (cases_order b 0xE0) [
  | inl e ↦ leading b ((0xA0, 0xBF) ∷ (0x80, 0xBF) ∷ []) 2 0xA0 0xBF (lit≤ tt) (λ t. grind (arith, nat_tests))
      (λ t. grind (arith, nat_tests)) (grind (arith, nat_tests)) (refl, refl, refl, (refl, refl, tt))
  | inr (inl below) ↦ leading b ((0x80, 0xBF) ∷ []) 1 0x80 0xBF (lit≤ tt) (λ t. grind (arith, nat_tests))
      (λ t. grind (arith, nat_tests)) (grind (arith, nat_tests)) (refl, refl, refl, tt)
  | inr (inr above) ↦ kind_from_e1 b above
]

pub kind_of : (b : ℕ) → Kind b
kind_of b = elim (cases_lt b 0x80) [
  | inl low ↦ inl low
  | inr high ↦ elim (cases_lt b 0xC2)
      [ inl below ↦ inr (inr (nowhere b high (λ h. absurd (omega arith)))) | inr lead ↦ kind_from_c2 b lead ]
]
