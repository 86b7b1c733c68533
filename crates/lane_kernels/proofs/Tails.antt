-- The handler of UTF-16 on one byte, restored bytes read again.
use Rattle.std.proofs.Common.{◌≡◌, ◌↔◌, ℕ, Bool, false, [], ◌∷◌, ◌++◌, Option, Some, None, IsTrue, ◌∙◌, arith}
use Rattle.std.proofs.lemmas.Grind.{common_steps}
use Rattle.enc_model.specs.Stream.{steps, byte_run}
use Rattle.enc_model.specs.declared.Answer.TheVariants.{Error}
use Rattle.enc_model.specs.Utf16.{utf16, unit_of}
use Rattle.enc_model.proofs.Calm.{utf16_calm}
use Rattle.enc_model.proofs.Steps.{steps_one}
use Rattle.lane_kernels.specs.Units.{lead_of}
use Rattle.lane_kernels.specs.Steps.{fault_text, scalar_text, unit_fault, unit_scalar}

-- the first byte of a unit
pub first_byte : (big : Bool) (lead : Option ℕ) (byte : ℕ) →
    steps (utf16 big) false (record { byte = None; lead = lead }) (byte ∷ []) ≡ record
    { text = []; state = record { byte = Some byte; lead = lead } }
unfolding utf16
first_byte big lead byte = steps_one (utf16 big) (utf16_calm big) (record { byte = None; lead = lead }) byte

second_run : (big : Bool) (lead : Option ℕ) (first second : ℕ) →
    byte_run (utf16 big) (record { byte = Some first; lead = lead }) second
    ≡ (let unit = unit_of big first second in
    record {
      text = fault_text (unit_fault lead unit) ++ scalar_text (unit_scalar lead unit);
      state =
          record { byte = None; lead = lead_of unit };
    })
unfolding utf16
second_run big None first second = grind (arith, common_steps)
second_run big (Some lead) first second = grind (arith, common_steps)

-- the second byte of a unit
pub second_byte : (big : Bool) (lead : Option ℕ) (first second : ℕ) →
    steps (utf16 big) false (record { byte = Some first; lead = lead }) (second ∷ [])
    ≡ (let unit = unit_of big first second in
    record {
      text = fault_text (unit_fault lead unit) ++ scalar_text (unit_scalar lead unit);
      state =
          record { byte = None; lead = lead_of unit };
    })
second_byte big lead first second =
    steps_one (utf16 big) (utf16_calm big) (record {
      byte = Some first;
      lead = lead;
    }) second ∙ second_run big lead first second

pub second_fault : (big : Bool) (lead : Option ℕ) (first second : ℕ) →
    IsTrue (unit_fault lead (unit_of big first second)) ↔
    ((utf16 big (record { byte = Some first; lead = lead }) (Some second)).answer ≡ Error)
unfolding utf16
second_fault big None first second = (λ h. grind (arith, common_steps, h), λ h. grind (arith, common_steps, h))
second_fault big (Some lead) first second = (λ h. grind (arith, common_steps, h), λ h. grind (arith, common_steps, h))

pub first_fault : (big : Bool) (lead : Option ℕ) (byte : ℕ)
    → (utf16 big (record { byte = None; lead = lead }) (Some byte)).answer ≡ Error → IsTrue false
unfolding utf16
first_fault big lead byte h = cc
