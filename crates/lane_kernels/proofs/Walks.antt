-- The steps of UTF-16 over bytes, unit by unit.
use Rattle.std.proofs.Common.{◌≡◌, ℕ, suc, ◌+◌, ◌-◌, ◌<◌, Bool, false, not, List, [], ◌∷◌, ◌++◌, Option, Some, None}
use Rattle.std.proofs.Common.{length, get_or, refl, ap, ap₂, sym, ◌∙◌, arith}
use Rattle.std.proofs.lemmas.Grind.{common_steps}
use Rattle.std.specs.Option.{is_some}
use Rattle.enc_model.specs.Stream.{DecoderRun, text_then, steps}
use Rattle.enc_model.specs.Utf16.{Utf16, utf16, unit_of}
use Rattle.enc_model.proofs.Calm.{utf16_calm}
use Rattle.enc_model.proofs.Steps.{steps_none, steps_append}
use Rattle.lane_kernels.specs.Units.{is_lead, is_trail, lead_of, last_lead, units_of, left_over, with_carried}
use Rattle.lane_kernels.specs.Units.{ArePaired}
use Rattle.lane_kernels.specs.Steps.{fault_text, scalar_text, unit_fault, unit_scalar, scalars_of}
use Rattle.lane_kernels.proofs.Tails.{first_byte, second_byte}

-- faults and scalars of units, and the lead after them
abbrev units_text : Option ℕ → List ℕ → List ℕ
units_text carried [] = []
units_text carried (unit ∷ units) =
    (fault_text (unit_fault carried unit) ++ scalar_text (unit_scalar carried unit)) ++ units_text (lead_of unit) units

abbrev lead_after : Option ℕ → List ℕ → Option ℕ
lead_after carried [] = carried
lead_after carried (unit ∷ units) = lead_after (lead_of unit) units

abbrev walked : Bool → Option ℕ → List ℕ → DecoderRun Utf16
walked big lead bytes = record {
  text = units_text lead (units_of big bytes);
  state = record {
    byte = left_over bytes;
    lead = lead_after lead (units_of big bytes);
  };
}

abbrev at : Option ℕ → Option ℕ → Utf16
at byte lead = record { byte = byte; lead = lead }

one_on : (big : Bool) (lead : Option ℕ) (a : ℕ) (bytes : List ℕ) → steps (utf16 big) false (at None lead)
    (a ∷ bytes) ≡ steps (utf16 big) false (at (Some a) lead) bytes
one_on big lead a bytes =
    steps_append (utf16 big) (utf16_calm big) false (at None lead) (a ∷ []) bytes
    ∙ ap (λ r. text_then r.text (steps (utf16 big) false r.state bytes)) (first_byte big lead a)

walk : (big : Bool) (lead : Option ℕ) (bytes : List ℕ) → steps (utf16 big) false (at None lead) bytes ≡ walked big lead
    bytes
walk big lead [] = steps_none (utf16 big) (at None lead)
walk big lead (a ∷ []) = first_byte big lead a
walk big lead (a ∷ b ∷ bytes) =
    let unit = unit_of big a b in
    one_on big lead a (b ∷ bytes)
    ∙ steps_append (utf16 big) (utf16_calm big) false (at (Some a) lead) (b ∷ []) bytes
    ∙ ap (λ r. text_then r.text (steps (utf16 big) false r.state bytes)) (second_byte big lead a b)
    ∙ ap (text_then (fault_text (unit_fault lead unit) ++ scalar_text (unit_scalar lead unit)))
    (walk big (lead_of unit) bytes)

walk_on : (big : Bool) (byte lead : Option ℕ) (bytes : List ℕ) → steps (utf16 big) false (at byte lead) bytes ≡ walked
    big lead (with_carried byte bytes)
walk_on big None lead bytes = walk big lead bytes
walk_on big (Some a) lead bytes = sym (one_on big lead a bytes) ∙ walk big lead (a ∷ bytes)

some_lead : (unit : ℕ) → is_some (lead_of unit) ≡ is_lead unit
some_lead unit = grind (arith, common_steps)

no_fault : (carried : Option ℕ) (unit : ℕ) → is_trail unit ≡ is_some carried → unit_fault carried unit ≡ false
no_fault None unit same = same
no_fault (Some lead) unit same = ap not same

next_paired : (carried : Option ℕ) (unit : ℕ) (units : List ℕ) → ArePaired carried (unit ∷ units)
    → ArePaired (lead_of unit) units
next_paired carried unit units paired = record {
  first = λ some. paired.next 0 (omega (arith, some)) ∙ sym (some_lead unit);
  next = λ k inside.
      let up : k + 1 + 1 ≡ suc (k + 1) = omega arith in
      let here : k + 1 ≡ suc k = omega arith in
      ap (λ i. is_trail (get_or (unit ∷ units) i 0)) (sym up) ∙ paired.next (k + 1) (omega (arith, inside))
      ∙ ap (λ i. is_lead (get_or (unit ∷ units) i 0)) here;
}

only_scalars : (carried : Option ℕ) (units : List ℕ) → ArePaired carried units
    → units_text carried units ≡ scalars_of carried units
only_scalars carried [] paired = refl
only_scalars carried (unit ∷ units) paired =
    ap₂ (λ fault rest. (fault_text fault ++ scalar_text (unit_scalar carried unit)) ++ rest)
    (no_fault carried unit (paired.first (omega arith)))
    (only_scalars (lead_of unit) units (next_paired carried unit units paired))

last_after : (carried : Option ℕ) (units : List ℕ) → 0 < length units → lead_after carried units ≡ last_lead units
last_after carried [] some = absurd (omega (arith, some))
last_after carried (unit ∷ []) some = refl
last_after carried (unit ∷ next ∷ units) some =
    let up : suc (length units) ≡ suc (suc (length units)) - 1 = omega arith in
    let down : suc (length units) - 1 ≡ length units = omega arith in
    last_after (lead_of unit) (next ∷ units) (omega arith)
    ∙ ap (λ i. lead_of (get_or (next ∷ units) i 0)) down
    ∙ ap (λ i. lead_of (get_or (unit ∷ next ∷ units) i 0)) up

pub paired_decode : (big : Bool) (s : Utf16) (bytes : List ℕ) → ArePaired s.lead
    (units_of big (with_carried s.byte bytes)) → 0 < length (units_of big (with_carried s.byte bytes)) →
    steps (utf16 big) false s bytes
    ≡ record {
      text = scalars_of s.lead (units_of big (with_carried s.byte bytes));
      state = record {
        byte = left_over (with_carried s.byte bytes);
        lead = last_lead (units_of big (with_carried s.byte bytes));
      };
    }
paired_decode big s bytes paired some =
    let units = units_of big (with_carried s.byte bytes) in
    walk_on big s.byte s.lead bytes
    ∙ ap₂ (λ text lead. record {
      text = text;
      state = record {
        byte = left_over (with_carried s.byte bytes);
        lead = lead;
      };
    }) (only_scalars s.lead units paired) (last_after s.lead units some)
