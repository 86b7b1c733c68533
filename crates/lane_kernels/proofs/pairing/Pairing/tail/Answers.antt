use Rattle.std.proofs.Common.{◌≡◌, Bool, [], ◌∷◌, ◌++◌, false, Option, Some, None, ℕ, ap, ap₂, sym, ◌∙◌}
use Rattle.std.proofs.lemmas.Bool.{true≢false}
use Rattle.enc_model.specs.Stream.{DecoderRun, steps}
use Rattle.enc_model.specs.Utf16.{Utf16, utf16}
use Rattle.lane_kernels.specs.Orders.{is_big}
use Rattle.lane_kernels.specs.Units.{lead_of}
use Rattle.lane_kernels.specs.Steps.{fault_text, scalar_text, unit_fault, unit_scalar}
use Rattle.lane_kernels.proofs.Tails.{first_byte, first_fault, second_byte, second_fault}
use Rattle.lane_kernels.proofs.pairing.Pairing.tail.Goals as goal

-- what is carried, as the handler's state
carried : (odd lead : Option ℕ) (byte : Option ℕ) (state : Utf16) → odd ≡ byte → ◌≡◌ {A = Utf16} (record {
  byte = odd;
  lead = lead;
}) state →
    ◌≡◌ {A = Utf16} (record { byte = byte; lead = lead }) state
carried odd lead byte state same is = ap (λ b. record { byte = b; lead = lead }) (sym same) ∙ is

stepped : (big : Bool) (odd lead byte : Option ℕ) (state : Utf16) (next : ℕ) (r : DecoderRun Utf16) → odd ≡ byte
    → ◌≡◌ {A = Utf16} (record { byte = odd; lead = lead }) state
    → steps (utf16 big) false (record { byte = byte; lead = lead }) (next ∷ []) ≡ r
    → r ≡ steps (utf16 big) false state (next ∷ [])
stepped big odd lead byte state next r same is e =
    sym e ∙ ap (λ z. steps (utf16 big) false z (next ∷ [])) (carried odd lead byte state same is)

pub returns-in_default-clause-fault : goal.returns-in_default-clause-fault
returns-in_default-clause-fault c =
    let lead = c.self.inside.lead in
    let before = carried c.self.inside.odd lead None c.args.self.now c.in_default.is c.self.view_is in (
      λ never. absurd (true≢false (sym never)),
      λ fault. first_fault (is_big c.args.order) lead c.args.byte
          (ap (λ s. (utf16 (is_big c.args.order) s (Some c.args.byte)).answer) before ∙ fault),
    )

pub returns-in_default-clause-text : goal.returns-in_default-clause-text
returns-in_default-clause-text c =
    ap (λ r. r.text) (stepped (is_big c.args.order) _ _ None _ c.args.byte _ c.in_default.is c.self.view_is
    (first_byte (is_big c.args.order) c.self.inside.lead c.args.byte))

pub returns-in_default-clause-state : goal.returns-in_default-clause-state
returns-in_default-clause-state c =
    ap (λ r. r.state) (stepped (is_big c.args.order) _ _ None _ c.args.byte _ c.in_default.is c.self.view_is
    (first_byte (is_big c.args.order) c.self.inside.lead c.args.byte))

pub returns-clause-fault : goal.returns-clause-fault
returns-clause-fault c =
    let lead = c.self.inside.lead in
    let first = c.in-Some.first in
    let before = carried c.self.inside.odd lead (Some first) c.args.self.now c.in-Some.is c.self.view_is in
    let same = c.unit.ensures.fault ∙ ap (unit_fault lead) c.unit_in.ensures in
    let rule = second_fault (is_big c.args.order) lead first c.args.byte in
    let answer = ap (λ s. (utf16 (is_big c.args.order) s (Some c.args.byte)).answer) before in (
      λ fault. sym answer ∙ rule.0 (sym same ∙ fault),
      λ error. same ∙ rule.1 (answer ∙ error),
    )

pub returns-clause-text : goal.returns-clause-text
returns-clause-text c =
    let lead = c.self.inside.lead in
    ap₂ (λ fault scalar. fault_text fault ++ scalar_text scalar)
    (c.unit.ensures.fault ∙ ap (unit_fault lead) c.unit_in.ensures)
    (c.unit.ensures.scalar ∙ ap (unit_scalar lead) c.unit_in.ensures)
    ∙ ap (λ r. r.text) (stepped (is_big c.args.order) _ _ (Some c.in-Some.first) _ c.args.byte _ c.in-Some.is
    c.self.view_is (second_byte (is_big c.args.order) lead c.in-Some.first c.args.byte))

pub returns-clause-state : goal.returns-clause-state
returns-clause-state c =
    c.unit.ensures.state
    ∙ ap (λ unit. record { byte = None; lead = lead_of unit }) c.unit_in.ensures
    ∙ ap (λ r. r.state) (stepped (is_big c.args.order) _ _ (Some c.in-Some.first) _ c.args.byte _ c.in-Some.is
    c.self.view_is (second_byte (is_big c.args.order) c.self.inside.lead c.in-Some.first c.args.byte))
