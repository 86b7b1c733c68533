-- Each handler gives scalars alone.
use Rattle.std.proofs.Common.{ℕ, ◌+◌, ◌-◌, ◌*◌, ◌<◌, ◌≤◌, ◌≡◌, ◌==◌, Bool, true, false, ◌&&◌, ◌||◌, List, [], ◌∷◌}
use Rattle.std.proofs.Common.{Option, Some, None, refl, arith, if◌then◌else◌, nat_lt, lit≤, lit<}
use Rattle.std.proofs.lemmas.Bool.{and_parts}
use Rattle.std.proofs.lemmas.Bool.Decides.{nat_tests}
use Rattle.enc_model.specs.declared.Answer.{Answer}
use Rattle.enc_model.specs.declared.Answer.TheVariants.{Point, Error, Nothing, Finished}
use Rattle.enc_model.specs.Index.{Index, code, within}
use Rattle.enc_model.specs.Utf16.{Utf16, utf16, utf16_unit, utf16_byte, utf16_end, unit_of}
use Rattle.enc_model.specs.declared.Charset.{Charset}
use Rattle.enc_model.specs.declared.Charset.TheVariants.{Ascii, Roman, Katakana, Lead}
use Rattle.enc_model.specs.declared.Introducer.{Introducer}
use Rattle.enc_model.specs.declared.Introducer.TheVariants.{Dollar, Paren}
use Rattle.enc_model.specs.declared.Place.{Place}
use Rattle.enc_model.specs.declared.Place.TheVariants.{In, Trail, EscapeStart, Escape}
use Rattle.enc_model.specs.Japanese.{Single, single, point_or_error, shift_jis, shift_jis_at, shift_jis_pair, pair_step}
use Rattle.enc_model.specs.Japanese.{EucJp, euc_jp, euc_jp_start, euc_jp_pair, Iso2022, iso2022, plain, introducer_byte}
use Rattle.enc_model.specs.Japanese.{escape_of, iso2022_answer, iso2022_to, iso2022_plain, iso2022_escape, iso2022_byte}
use Rattle.enc_model.specs.Japanese.{iso2022_end}
use Rattle.enc_index.specs.Scalars.{is_scalar}
use Rattle.enc_laws.proofs.Scalars.{low_scalar, high_scalar, IsScalarOption, HasScalars, IsScalarAnswer, FewBytes}
use Rattle.enc_laws.proofs.Scalars.{IsValid}

abbrev pub Always : {S : Type 0} → S → Type 0
Always s = Unit {0}

answer_scalar : (o : Option ℕ) → IsScalarOption o → IsScalarAnswer (point_or_error o)
answer_scalar None s = tt
answer_scalar (Some c) s = s

pub branch : {A : Type 0} (P : A → Type 0) (x : Bool) (a b : A) → (x ≡ true → P a) → (x ≡ false → P b)
    → P (if x then a else b)
branch P true a b f g = f refl
branch P false a b f g = g refl

-- SINGLE BYTES

pub single_reads : (i : Index) → HasScalars i → (s : Single) (b : ℕ) → Always s → b < 0x100
    → IsValid Always (single i s (Some b))
unfolding single
single_reads i has s b g l = record {
  state = tt;
  answer = branch IsScalarAnswer (nat_lt b 0x80) _ _ (λ e. low_scalar b (omega arith))
      (λ e. answer_scalar (code i (b - 0x80)) (has (b - 0x80)));
  restored = tt;
}

pub single_ends : (i : Index) (s : Single) → Always s → IsValid Always (single i s None)
unfolding single
single_ends i s g = record { state = tt; answer = tt; restored = tt }

-- UTF-16: the state has a byte and a lead

abbrev IsByteOption : Option ℕ → Type 0
IsByteOption None = Unit {0}
IsByteOption (Some b) = b < 0x100

abbrev IsLeadOption : Option ℕ → Type 0
IsLeadOption None = Unit {0}
IsLeadOption (Some u) = (0xD800 ≤ u) × (u ≤ 0xDBFF)

pub record IsUtf16State (s : Utf16) : Type 0 where
  pub byte : IsByteOption s.byte
  pub lead : IsLeadOption s.lead

unit_valid : (lead : Option ℕ) (u a b : ℕ) → IsLeadOption lead → u < 0x10000 → a < 0x100 → b < 0x100
    → IsValid IsUtf16State (utf16_unit lead u a b)
unit_valid (Some lead) u a b k l p q =
    branch (IsValid IsUtf16State) (within 0xDC00 0xDFFF u) _ _
    (λ e. record {
      state = record { byte = tt; lead = tt };
      answer =
          high_scalar (0x10000 + (lead - 0xD800) * 0x400 + (u - 0xDC00)) (omega arith) (grind (arith, nat_tests, e));
      restored = tt;
    })
    (λ e. record { state = record { byte = tt; lead = tt }; answer = tt; restored = (p, (q, tt)) })
unit_valid None u a b k l p q =
    branch (IsValid IsUtf16State) (within 0xD800 0xDBFF u) _ _
    (λ e. record {
      state = record { byte = tt; lead = (grind (arith, nat_tests, e), grind (arith, nat_tests, e)) };
      answer = tt;
      restored = tt;
    })
    (λ e. branch (IsValid IsUtf16State) (within 0xDC00 0xDFFF u) _ _
    (λ f. record { state = record { byte = tt; lead = tt }; answer = tt; restored = tt })
    (λ f. record { state = record { byte = tt; lead = tt }; answer = grind (arith, nat_tests, e, f); restored = tt }))

unit_below : (big : Bool) (a b : ℕ) → a < 0x100 → b < 0x100 → unit_of big a b < 0x10000
unit_below true a b p q = omega arith
unit_below false a b p q = omega arith

byte_valid : (big : Bool) (byte lead : Option ℕ) (b : ℕ) → IsByteOption byte → IsLeadOption lead → b < 0x100
    → IsValid IsUtf16State (utf16_byte big byte lead b)
byte_valid big None lead b k m l = record { state = record { byte = l; lead = m }; answer = tt; restored = tt }
byte_valid big (Some a) lead b k m l = unit_valid lead (unit_of big a b) a b m (unit_below big a b k l) k l

end_valid : (byte lead : Option ℕ) → IsValid IsUtf16State (utf16_end byte lead)
end_valid None None = record { state = record { byte = tt; lead = tt }; answer = tt; restored = tt }
end_valid None (Some u) = record { state = record { byte = tt; lead = tt }; answer = tt; restored = tt }
end_valid (Some a) lead = record { state = record { byte = tt; lead = tt }; answer = tt; restored = tt }

pub utf16_reads : (big : Bool) (s : Utf16) (b : ℕ) → IsUtf16State s → b < 0x100
    → IsValid IsUtf16State (utf16 big s (Some b))
unfolding utf16
utf16_reads big s b g l = byte_valid big s.byte s.lead b g.byte g.lead l

pub utf16_ends : (big : Bool) (s : Utf16) → IsUtf16State s → IsValid IsUtf16State (utf16 big s None)
unfolding utf16
utf16_ends big s g = end_valid s.byte s.lead

-- PAIRS

pair_valid : {S : Type 0} (s : S) (o : Option ℕ) (b : ℕ) → IsScalarOption o → b < 0x100
    → IsValid Always (pair_step s o b)
pair_valid s (Some c) b k l = record { state = tt; answer = k; restored = tt }
pair_valid s None b k l = record {
  state = tt;
  answer = tt;
  restored = branch FewBytes (nat_lt b 0x80) _ _ (λ e. (l, tt)) (λ e. tt);
}

-- a half-width katakana
half_width : (b low high : ℕ) → within low high b ≡ true → high ≤ 0xFF → is_scalar (0xFF61 + (b - low)) ≡ true
half_width b low high e l = high_scalar (0xFF61 + (b - low)) (omega arith) (grind (arith, nat_tests, e))

-- SHIFT_JIS

shift_jis_scalar : (i : Index) → HasScalars i → (lead b : ℕ) → IsScalarOption (shift_jis_pair i lead b)
shift_jis_scalar i has lead b =
    branch IsScalarOption (within 0x40 0x7E b || within 0x80 0xFC b) _ _
    (λ e. let p = shift_jis_at lead b in
    branch IsScalarOption (within 8836 10715 p) _ _
    (λ f. high_scalar (0xE000 + (p - 8836)) (omega arith) (grind (arith, nat_tests, f))) (λ f. has p))
    (λ e. tt)

pub shift_jis_reads : (i : Index) → HasScalars i → (lead b : ℕ) → Always lead → b < 0x100
    → IsValid Always (shift_jis i lead (Some b))
unfolding shift_jis
shift_jis_reads i has lead b g l =
    branch (IsValid Always) (lead == 0) _ _
    (λ e. branch (IsValid Always) (nat_lt b 0x81) _ _
    (λ f. record { state = tt; answer = low_scalar b (omega arith); restored = tt })
    (λ f. branch (IsValid Always) (within 0xA1 0xDF b) _ _
    (λ h. record { state = tt; answer = half_width b 0xA1 0xDF h (lit≤ tt); restored = tt })
    (λ h. branch (IsValid Always) (within 0x81 0x9F b || within 0xE0 0xFC b) _ _
    (λ k. record { state = tt; answer = tt; restored = tt })
    (λ k. record { state = tt; answer = tt; restored = tt }))))
    (λ e. pair_valid 0 (shift_jis_pair i lead b) b (shift_jis_scalar i has lead b) l)

end_answer : (x : Bool) → IsScalarAnswer (if x then Finished else Error)
end_answer true = tt
end_answer false = tt

pub shift_jis_ends : (i : Index) (lead : ℕ) → Always lead → IsValid Always (shift_jis i lead None)
unfolding shift_jis
shift_jis_ends i lead g = record { state = tt; answer = end_answer (lead == 0); restored = tt }

-- EUC-JP

either : (x : Bool) (i j : Index) → HasScalars i → HasScalars j → HasScalars (if x then i else j)
either true i j p q = p
either false i j p q = q

euc_jp_scalar : (i j : Index) → HasScalars i → HasScalars j → (flag : Bool) (lead b : ℕ)
    → IsScalarOption (euc_jp_pair i j flag lead b)
euc_jp_scalar i j p q flag lead b =
    branch IsScalarOption (within 0xA1 0xFE lead && within 0xA1 0xFE b) _ _
    (λ e. either flag j i q p ((lead - 0xA1) * 94 + (b - 0xA1))) (λ e. tt)

pub euc_jp_reads : (i j : Index) → HasScalars i → HasScalars j → (s : EucJp) (b : ℕ) → Always s → b < 0x100
    → IsValid Always (euc_jp i j s (Some b))
unfolding euc_jp
euc_jp_reads i j p q s b g l =
    branch (IsValid Always) (s.lead == 0) _ _
    (λ e. branch (IsValid Always) (nat_lt b 0x80) _ _
    (λ f. record { state = tt; answer = low_scalar b (omega arith); restored = tt })
    (λ f. branch (IsValid Always) ((b == 0x8E) || (b == 0x8F) || within 0xA1 0xFE b) _ _
    (λ h. record { state = tt; answer = tt; restored = tt })
    (λ h. record { state = tt; answer = tt; restored = tt })))
    (λ e. branch (IsValid Always) ((s.lead == 0x8E) && within 0xA1 0xDF b) _ _
    (λ f. record {
      state = tt;
      answer = half_width b 0xA1 0xDF (and_parts (s.lead == 0x8E) (within 0xA1 0xDF b) f).1 (lit≤ tt);
      restored = tt;
    })
    (λ f. branch (IsValid Always) ((s.lead == 0x8F) && within 0xA1 0xFE b) _ _
    (λ h. record { state = tt; answer = tt; restored = tt })
    (λ h. pair_valid euc_jp_start (euc_jp_pair i j s.flag s.lead b) b (euc_jp_scalar i j p q s.flag s.lead b) l)))

pub euc_jp_ends : (i j : Index) (s : EucJp) → Always s → IsValid Always (euc_jp i j s None)
unfolding euc_jp
euc_jp_ends i j s g = record { state = tt; answer = end_answer (s.lead == 0); restored = tt }

-- ISO-2022-JP

plain_scalar : (b : ℕ) → b < 0x100 → IsScalarAnswer (if plain b then Point b else Error)
plain_scalar b l = branch IsScalarAnswer (plain b) _ _ (λ e. low_scalar b (omega arith)) (λ e. tt)

answer_valid : (set : Charset) (b : ℕ) → b < 0x100 → IsScalarAnswer (iso2022_answer set b)
answer_valid Ascii b l = plain_scalar b l
answer_valid Roman b l =
    branch IsScalarAnswer (b == 0x5C) _ _ (λ e. refl)
    (λ e. branch IsScalarAnswer (b == 0x7E) _ _ (λ f. refl) (λ f. plain_scalar b l))
answer_valid Katakana b l =
    branch IsScalarAnswer (within 0x21 0x5F b) _ _ (λ e. half_width b 0x21 0x5F e (lit≤ tt)) (λ e. tt)
answer_valid Lead b l = branch IsScalarAnswer (within 0x21 0x7E b) _ _ (λ e. tt) (λ e. tt)

to_valid : (place : Place) (output : Charset) (flag : Bool) (answer : Answer) (restored : List ℕ)
    → IsScalarAnswer answer → FewBytes restored →
    IsValid Always (iso2022_to place output flag answer restored)
to_valid place output flag answer restored s f = record { state = tt; answer = s; restored = f }

plain_valid : (set output : Charset) (b : ℕ) → b < 0x100 → IsValid Always (iso2022_plain set output b)
plain_valid Lead output b l =
    branch (IsValid Always) (within 0x21 0x7E b) _ _ (λ e. to_valid (Trail b) output false Nothing [] tt tt)
    (λ e. to_valid (In Lead) output false Error [] tt tt)
plain_valid Ascii output b l = to_valid (In Ascii) output false _ [] (answer_valid Ascii b l) tt
plain_valid Roman output b l = to_valid (In Roman) output false _ [] (answer_valid Roman b l) tt
plain_valid Katakana output b l = to_valid (In Katakana) output false _ [] (answer_valid Katakana b l) tt

escape_answer : (flag : Bool) → IsScalarAnswer (if flag then Error else Nothing)
escape_answer true = tt
escape_answer false = tt

escape_valid : (output : Charset) (flag : Bool) (set : Option Charset) (again : List ℕ) → FewBytes again
    → IsValid Always (iso2022_escape output flag set again)
escape_valid output flag (Some set) again f = to_valid (In set) set true _ [] (escape_answer flag) tt
escape_valid output flag None again f = to_valid (In output) output false Error again tt f

introducer_below : (i : Introducer) → introducer_byte i < 0x100
introducer_below Dollar = lit< tt
introducer_below Paren = lit< tt

place_valid : (i : Index) → HasScalars i → (place : Place) (output : Charset) (flag : Bool) (b : ℕ) → b < 0x100
    → IsValid Always (iso2022_byte i place output flag b)
place_valid i has (In set) output flag b l =
    branch (IsValid Always) (b == 0x1B) _ _ (λ e. to_valid EscapeStart output flag Nothing [] tt tt)
    (λ e. plain_valid set output b l)
place_valid i has (Trail lead) output flag b l =
    branch (IsValid Always) (b == 0x1B) _ _ (λ e. to_valid EscapeStart output flag Error [] tt tt)
    (λ e. branch (IsValid Always) (within 0x21 0x7E b) _ _
    (λ f. let p = (lead - 0x21) * 94 + (b - 0x21) in to_valid (In Lead) output flag (point_or_error (code i p)) []
    (answer_scalar (code i p) (has p)) tt)
    (λ f. to_valid (In Lead) output flag Error [] tt tt))
place_valid i has EscapeStart output flag b l =
    branch (IsValid Always) (b == 0x24) _ _ (λ e. to_valid (Escape Dollar) output flag Nothing [] tt tt)
    (λ e. branch (IsValid Always) (b == 0x28) _ _ (λ f. to_valid (Escape Paren) output flag Nothing [] tt tt)
    (λ f. to_valid (In output) output false Error (b ∷ []) tt (l, tt)))
place_valid i has (Escape lead) output flag b l =
    escape_valid output flag (escape_of lead b) (introducer_byte lead ∷ b ∷ []) (introducer_below lead, (l, tt))

place_ends : (place : Place) (output : Charset) (flag : Bool) → IsValid Always (iso2022_end place output flag)
place_ends (In set) output flag = to_valid (In set) output flag Finished [] tt tt
place_ends (Trail lead) output flag = to_valid (In Lead) output flag Error [] tt tt
place_ends EscapeStart output flag = to_valid (In output) output false Error [] tt tt
place_ends (Escape lead) output flag =
    to_valid (In output) output false Error (introducer_byte lead ∷ []) tt (introducer_below lead, tt)

pub iso2022_reads : (i : Index) → HasScalars i → (s : Iso2022) (b : ℕ) → Always s → b < 0x100
    → IsValid Always (iso2022 i s (Some b))
unfolding iso2022
iso2022_reads i has s b g l = place_valid i has s.place s.output s.flag b l

pub iso2022_ends : (i : Index) (s : Iso2022) → Always s → IsValid Always (iso2022 i s None)
unfolding iso2022
iso2022_ends i s g = place_ends s.place s.output s.flag
