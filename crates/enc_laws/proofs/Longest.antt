-- The segment is the sequence that begins there, and no longer prefix of one begins there.
use Rattle.std.proofs.Common.{ℕ, ◌≤◌, ◌≡◌, inl, inr, true, false, List, [], ◌∷◌, ◌++◌, length, sym, ◌∙◌, ap, arith}
use Rattle.enc_laws.specs.Subparts.{is_sequence, is_prefix, segment}
use Rattle.enc_laws.proofs.Leads.{Leads, ascii, kind_of}
use Rattle.enc_laws.proofs.Segments.{taken, segment_is, taken_begins, taken_whole, taken_longest}
use Rattle.enc_laws.proofs.Cutting.{nowhere_segment}

module _ (b : ℕ) (t rest : List ℕ) where
  whole_at : (ranges : _) → Leads b ranges → is_sequence (b ∷ t) ≡ true → segment (b ∷ t ++ rest) ≡ b ∷ t
  whole_at ranges l s = segment_is b ranges (t ++ rest) l ∙ ap (λ z. b ∷ z)
      (taken_whole ranges t rest (sym (l.sequence t) ∙ s))

  longest_at : (ranges : _) → Leads b ranges → is_prefix (b ∷ t) ≡ true
      → length (b ∷ t) ≤ length (segment (b ∷ t ++ rest))
  longest_at ranges l p =
      let least = taken_longest ranges t rest (sym (l.prefix t) ∙ p) in
      rw (segment_is b ranges (t ++ rest) l) (omega (arith, least))

pub sequence_first : (prefix rest : List ℕ) → is_sequence prefix ≡ true → segment (prefix ++ rest) ≡ prefix
sequence_first [] rest s = absurd cc
sequence_first (b ∷ t) rest s = elim (kind_of b) [
  | inl low ↦ whole_at b t rest [] (ascii b low) s
  | inr (inl lead) ↦ whole_at b t rest lead.0 lead.2.leads s
  | inr (inr none) ↦ (let no = none.sequence t in absurd cc)
]

pub prefix_longest : (prefix rest : List ℕ) → is_prefix prefix ≡ true
    → length prefix ≤ length (segment (prefix ++ rest))
prefix_longest [] rest p = omega arith
prefix_longest (b ∷ t) rest p = elim (kind_of b) [
  | inl low ↦ longest_at b t rest [] (ascii b low) p
  | inr (inl lead) ↦ longest_at b t rest lead.0 lead.2.leads p
  | inr (inr none) ↦ (let no = none.prefix t in absurd cc)
]

-- WHERE NO SEQUENCE BEGINS

prefix_at : (b : ℕ) (bytes : List ℕ) (ranges : _) → Leads b ranges → is_prefix (segment (b ∷ bytes)) ≡ true
prefix_at b bytes ranges l =
    ap is_prefix (segment_is b ranges bytes l) ∙ l.prefix (taken ranges bytes) ∙ taken_begins ranges bytes

pub prefix_here : (b : ℕ) (bytes : List ℕ) → is_prefix (b ∷ []) ≡ true → is_prefix (segment (b ∷ bytes)) ≡ true
prefix_here b bytes p = elim (kind_of b) [
  | inl low ↦ prefix_at b bytes [] (ascii b low)
  | inr (inl lead) ↦ prefix_at b bytes lead.0 lead.2.leads
  | inr (inr none) ↦ (let no = none.prefix [] in absurd cc)
]

pub single_byte : (b : ℕ) (bytes : List ℕ) → is_prefix (b ∷ []) ≡ false → segment (b ∷ bytes) ≡ b ∷ []
single_byte b bytes p = elim (kind_of b) [
  | inl low ↦ (let some = (ascii b low).prefix [] in absurd cc)
  | inr (inl lead) ↦ (let some = lead.2.leads.prefix [] in absurd cc)
  | inr (inr none) ↦ nowhere_segment b bytes none
]

-- what the first segment is
pub ruleset by_segments = (sequence_first, prefix_longest, prefix_here, single_byte)
