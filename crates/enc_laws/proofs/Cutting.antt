-- The decoder of UTF-8 gives what the cut into maximal subparts gives.
use Rattle.std.proofs.Common.{ℕ, zero, suc, ◌<◌, ◌≤◌, ◌≡◌, ◌⊎◌, inl, inr, Bool, true, false, not, ◌&&◌, List, [], ◌∷◌}
use Rattle.std.proofs.Common.{◌++◌, length, drop, refl, sym, ◌∙◌, ap, subst, arith, if◌then◌else◌, length-drop}
use Rattle.std.specs.List.{concat}
use Rattle.enc_model.specs.Stream.{text_then, steps}
use Rattle.enc_model.specs.Utf8.{Utf8, utf8, utf8_start}
use Rattle.enc_laws.specs.Subparts.{Ranges, fills, is_sequence, is_prefix, is_open, segment, segments_within, segments}
use Rattle.enc_laws.specs.Subparts.{scalar_of, segment_scalar, segments_text}
use Rattle.enc_laws.proofs.Leads.{Leading, LeadsNowhere, ascii, ascii_read, kind_of}
use Rattle.enc_laws.proofs.Segments.{taken, taken_begins, taken_parts, segment_is}
use Rattle.enc_laws.proofs.Reading.{read_is, value, beyond, tail_whole, tail_stopped, tail_open, open_text, scalar_is}
use Rattle.enc_laws.proofs.Reading.{end_start}

-- A SEGMENT, and what the decoder gives for it

pub record Given (ended : Bool) (bytes here rest : List ℕ) : Type 0 where
  pub run : steps utf8 ended utf8_start bytes ≡ text_then (segment_scalar here ∷ []) (steps utf8 ended utf8_start rest)
  pub closed : rest ≡ [] → is_open here ≡ false

pub record Open (ended : Bool) (bytes here rest : List ℕ) : Type 0 where
  pub last : rest ≡ []
  pub prefix : is_prefix here ≡ true
  pub sequence : is_sequence here ≡ false
  pub text : (steps utf8 ended utf8_start bytes).text ≡ open_text ended

pub record Outcome (ended : Bool) (bytes here rest : List ℕ) : Type 0 where
  pub some : 0 < length here
  pub parts : here ++ rest ≡ bytes
  pub outcome : Given ended bytes here rest ⊎ Open ended bytes here rest

pub scalar_whole : (here : List ℕ) → is_sequence here ≡ true → segment_scalar here ≡ scalar_of here
scalar_whole here e = ap (λ x. if x then scalar_of here else 0xFFFD) e

scalar_part : (here : List ℕ) → is_sequence here ≡ false → segment_scalar here ≡ 0xFFFD
scalar_part here e = ap (λ x. if x then scalar_of here else 0xFFFD) e

pub not_open : (x y : Bool) → y ≡ true → (x && not y) ≡ false
not_open true y e = ap not e
not_open false y e = refl

module _ (b : ℕ) (ranges : Ranges) (s : Utf8) (l : Leading b ranges s) (ended : Bool) (bytes : List ℕ) where
  lead_read : steps utf8 ended utf8_start (b ∷ bytes) ≡ steps utf8 ended s bytes
  lead_read = read_is ended utf8_start b bytes _ l.read

  lead_whole : fills ranges (taken ranges bytes) ≡ true → Given ended (b ∷ bytes) (b ∷ taken ranges bytes)
      (beyond ranges bytes)
  lead_whole e =
      let t = taken ranges bytes in
      let sequence : is_sequence (b ∷ t) ≡ true = l.leads.sequence t ∙ e in
      let scalar : value s.point t ≡ segment_scalar (b ∷ t) =
      ap (λ p. value p t) l.point ∙ sym (scalar_is b ranges t l.leads.few e) ∙ sym (scalar_whole (b ∷ t) sequence) in
      record {
        run = lead_read ∙ tail_whole ranges s ended bytes l.waits e ∙ ap
            (λ c. text_then (c ∷ []) (steps utf8 ended utf8_start (beyond ranges bytes))) scalar;
        closed = λ r. not_open (is_prefix (b ∷ t)) (is_sequence (b ∷ t)) sequence;
      }

  lead_stopped : (d : ℕ) (rest : List ℕ) → fills ranges (taken ranges bytes) ≡ false → beyond ranges bytes ≡ d ∷ rest →
      Given ended (b ∷ bytes) (b ∷ taken ranges bytes) (beyond ranges bytes)
  lead_stopped d rest e more =
      let t = taken ranges bytes in
      let sequence : is_sequence (b ∷ t) ≡ false = l.leads.sequence t ∙ e in
      record {
        run = lead_read ∙ tail_stopped ranges s ended bytes d rest l.waits e more
            ∙ ap (λ c. text_then (c ∷ []) (steps utf8 ended utf8_start (beyond ranges bytes)))
            (sym (scalar_part (b ∷ t) sequence));
        closed = λ r. absurd cc;
      }

  lead_open : fills ranges (taken ranges bytes) ≡ false → beyond ranges bytes ≡ [] →
      Open ended (b ∷ bytes) (b ∷ taken ranges bytes) (beyond ranges bytes)
  lead_open e none =
      let t = taken ranges bytes in
      record {
        last = none;
        prefix = l.leads.prefix t ∙ taken_begins ranges bytes;
        sequence = l.leads.sequence t ∙ e;
        text = ap (λ run. run.text) lead_read ∙ tail_open ranges s ended bytes l.waits e none;
      }

  lead_case : Given ended (b ∷ bytes) (b ∷ taken ranges bytes) (beyond ranges bytes) ⊎ Open ended (b ∷ bytes)
      (b ∷ taken ranges bytes) (beyond ranges bytes)
  lead_case = go (fills ranges (taken ranges bytes)) refl (beyond ranges bytes) refl
    where
      go : (x : Bool) → fills ranges (taken ranges bytes) ≡ x → (rest : List ℕ) → beyond ranges bytes ≡ rest →
          Given ended (b ∷ bytes) (b ∷ taken ranges bytes) (beyond ranges bytes) ⊎ Open ended (b ∷ bytes)
          (b ∷ taken ranges bytes) (beyond ranges bytes)
      go true e rest r = inl (lead_whole e)
      go false e [] r = inr (lead_open e r)
      go false e (d ∷ rest) r = inl (lead_stopped d rest e r)

  pub lead_outcome : Outcome ended (b ∷ bytes) (segment (b ∷ bytes)) (drop (length (segment (b ∷ bytes))) (b ∷ bytes))
  lead_outcome =
      let at : Outcome ended (b ∷ bytes) (b ∷ taken ranges bytes) (beyond ranges bytes) =
      record { some = omega arith; parts = ap (λ t. b ∷ t) (taken_parts ranges bytes); outcome = lead_case } in
      subst (λ z. Outcome ended (b ∷ bytes) z (drop (length z) (b ∷ bytes))) (sym (segment_is b ranges bytes l.leads))
      at

-- a byte alone
alone : (b : ℕ) (ended : Bool) (bytes : List ℕ) → segment (b ∷ bytes) ≡ b ∷ [] → Given ended (b ∷ bytes) (b ∷ []) bytes
    →
    Outcome ended (b ∷ bytes) (segment (b ∷ bytes)) (drop (length (segment (b ∷ bytes))) (b ∷ bytes))
alone b ended bytes e given =
    let at : Outcome ended (b ∷ bytes) (b ∷ []) bytes = record {
      some = omega arith;
      parts = refl;
      outcome = inl given;
    } in
    subst (λ z. Outcome ended (b ∷ bytes) z (drop (length z) (b ∷ bytes))) (sym e) at

ascii_given : (b : ℕ) (ended : Bool) (bytes : List ℕ) → b < 0x80 → Given ended (b ∷ bytes) (b ∷ []) bytes
ascii_given b ended bytes l =
    let sequence : is_sequence (b ∷ []) ≡ true = (ascii b l).sequence [] in
    record {
      run = read_is ended utf8_start b bytes _ (ascii_read b l) ∙ ap
          (λ c. text_then (c ∷ []) (steps utf8 ended utf8_start bytes)) (sym (scalar_whole (b ∷ []) sequence));
      closed = λ r. not_open (is_prefix (b ∷ [])) (is_sequence (b ∷ [])) sequence;
    }

nowhere_given : (b : ℕ) (ended : Bool) (bytes : List ℕ) → LeadsNowhere b → Given ended (b ∷ bytes) (b ∷ []) bytes
nowhere_given b ended bytes n = record {
  run = read_is ended utf8_start b bytes _ n.read ∙ ap (λ c. text_then (c ∷ []) (steps utf8 ended utf8_start bytes))
      (sym (scalar_part (b ∷ []) (n.sequence [])));
  closed = λ r. ap (λ x. x && not (is_sequence (b ∷ []))) (n.prefix []);
}

pub nowhere_segment : (b : ℕ) (bytes : List ℕ) → LeadsNowhere b → segment (b ∷ bytes) ≡ b ∷ []
nowhere_segment b [] n = simp (n.sequence, n.prefix)
nowhere_segment b (c ∷ []) n = simp (n.sequence, n.prefix)
nowhere_segment b (c ∷ d ∷ []) n = simp (n.sequence, n.prefix)
nowhere_segment b (c ∷ d ∷ e ∷ bytes) n = simp (n.sequence, n.prefix)

-- WHICHEVER BYTE IT IS

pub outcome_of : (b : ℕ) (ended : Bool) (bytes : List ℕ) → Outcome ended (b ∷ bytes) (segment (b ∷ bytes))
    (drop (length (segment (b ∷ bytes))) (b ∷ bytes))
outcome_of b ended bytes = elim (kind_of b) [
  | inl low ↦ alone b ended bytes (segment_is b [] bytes (ascii b low)) (ascii_given b ended bytes low)
  | inr (inl lead) ↦ lead_outcome b lead.0 lead.1 lead.2 ended bytes
  | inr (inr none) ↦ alone b ended bytes (nowhere_segment b bytes none) (nowhere_given b ended bytes none)
]

-- THE LAW

pub none_within : (n : ℕ) → segments_within n [] ≡ []
none_within zero = refl
none_within (suc n) = refl

pub text_on : (n : ℕ) (ended : Bool) (here rest : List ℕ) → length rest ≤ n → (rest ≡ [] → is_open here ≡ false) →
    segments_text ended (here ∷ segments_within n rest) ≡ segment_scalar here ∷ segments_text ended
    (segments_within n rest)
text_on n true here [] l closed = rw (none_within n) refl
text_on n false here [] l closed =
    rw (none_within n) (ap (λ x. if x then [] else segment_scalar here ∷ []) (closed refl))
text_on zero ended here (c ∷ rest) l closed = absurd (omega arith)
text_on (suc n) ended here (c ∷ rest) l closed = refl

text_open : (n : ℕ) (ended : Bool) (here : List ℕ) → is_prefix here ≡ true → is_sequence here ≡ false →
    segments_text ended (here ∷ segments_within n []) ≡ open_text ended
text_open n true here p s = rw (none_within n) (ap (λ c. c ∷ []) (scalar_part here s))
text_open n false here p s =
    rw (none_within n) (ap (λ x. if x then [] else segment_scalar here ∷ [])
    (ap (λ x. x && not (is_sequence here)) p ∙ ap not s))

text_within : (n : ℕ) (ended : Bool) (bytes : List ℕ) → length bytes ≤ n
    → (steps utf8 ended utf8_start bytes).text ≡ segments_text ended (segments_within n bytes)
text_within zero ended [] l = end_start ended
text_within zero ended (b ∷ bytes) l = absurd (omega arith)
text_within (suc n) ended [] l = end_start ended
text_within (suc n) ended (b ∷ bytes) l =
    let here = segment (b ∷ bytes) in
    let rest = drop (length here) (b ∷ bytes) in
    let at = outcome_of b ended bytes in
    let some = at.some in
    let fewer : length rest ≤ n = simp (length-drop) (omega arith) in
    let ih = text_within n ended rest fewer in
    elim at.outcome [
      | inl given ↦ ap (λ run. run.text) given.run ∙ ap (λ t. segment_scalar here ∷ t) ih
          ∙ sym (text_on n ended here rest fewer given.closed)
      | inr cut ↦ cut.text ∙ sym (text_open n ended here cut.prefix cut.sequence)
          ∙ ap (λ r. segments_text ended (here ∷ segments_within n r)) (sym cut.last)
    ]

pub text_is : (ended : Bool) (bytes : List ℕ) → (steps utf8 ended utf8_start bytes).text ≡ segments_text ended
    (segments bytes)
unfolding segments
text_is ended bytes = text_within (length bytes) ended bytes (omega arith)

whole_within : (n : ℕ) (bytes : List ℕ) → length bytes ≤ n → concat (segments_within n bytes) ≡ bytes
whole_within zero [] l = refl
whole_within zero (b ∷ bytes) l = absurd (omega arith)
whole_within (suc n) [] l = refl
whole_within (suc n) (b ∷ bytes) l =
    let here = segment (b ∷ bytes) in
    let rest = drop (length here) (b ∷ bytes) in
    let at = outcome_of b false bytes in
    let some = at.some in
    let fewer : length rest ≤ n = simp (length-drop) (omega arith) in
    ap (λ t. here ++ t) (whole_within n rest fewer) ∙ at.parts

pub whole_is : (bytes : List ℕ) → concat (segments bytes) ≡ bytes
unfolding segments
whole_is bytes = whole_within (length bytes) bytes (omega arith)
