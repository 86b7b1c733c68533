use Rattle.std.proofs.Common.{◌≡◌, ℕ, Bool, List, Option, take, length, get_or, ap, ap₂, sym, refl, subst, ◌∙◌, ◌-◌}
use Rattle.std.proofs.lemmas.Bool.{true≢false}
use Rattle.enc_model.specs.Utf16.{Utf16}
use Rattle.lane_kernels.specs.Orders.{is_big}
use Rattle.lane_kernels.specs.Units.{ArePaired, units_of, with_carried, left_over, last_lead, lead_of}
use Rattle.lane_kernels.proofs.Made.{joined_units, joined_long, length-units_of}
use Rattle.lane_kernels.proofs.pairing.Pairing.block.Goals as goal

-- the lanes are the units
made : (bytes : List ℕ) (big : Bool) (odd : Option ℕ) (state : Utf16) (lanes : List ℕ) → length bytes ≡ 64
    → odd ≡ state.byte →
    lanes ≡ units_of big (take 64 (with_carried odd bytes)) → lanes ≡ units_of big (with_carried state.byte bytes)
made bytes big odd state lanes long same is =
    is ∙ joined_units bytes long big odd ∙ ap (λ byte. units_of big (with_carried byte bytes)) same

last_of : (units : List ℕ) → length units ≡ 32 → lead_of (get_or units 31 0) ≡ last_lead units
last_of units long = ap (λ n. lead_of (get_or units (n - 1) 0)) (sym long)

pub returns-then-not-are_paired-clause-units : goal.returns-then-not-are_paired-clause-units
returns-then-not-are_paired-clause-units c =
    made c.args.bytes.now (is_big c.args.order) c.self.inside.odd c.args.self.now _ c.told-bytes
    (ap (λ s. s.byte) c.self.view_is) c.units_after-lanes.ensures

pub returns-then-not-are_paired-clause-paired : goal.returns-then-not-are_paired-clause-paired
returns-then-not-are_paired-clause-paired c =
    let units = made c.args.bytes.now (is_big c.args.order) c.self.inside.odd c.args.self.now _ c.told-bytes
    (ap (λ s. s.byte) c.self.view_is) c.units_after-lanes.ensures in (
      λ never. absurd (true≢false (sym never)),
      λ paired. sym c.if-not-are_paired.true ∙ c.are_paired.ensures.1
          (subst (λ lead. ArePaired lead c.units_after-lanes.result) (sym (ap (λ s. s.lead) c.self.view_is))
          (subst (ArePaired c.args.self.now.lead) (sym units) paired)),
    )

pub returns-clause-units : goal.returns-clause-units
returns-clause-units c =
    made c.args.bytes.now (is_big c.args.order) c.self.inside.odd c.args.self.now _ c.told-bytes
    (ap (λ s. s.byte) c.self.view_is) c.units_after-lanes.ensures

pub returns-clause-paired : goal.returns-clause-paired
returns-clause-paired c =
    let units = made c.args.bytes.now (is_big c.args.order) c.self.inside.odd c.args.self.now _ c.told-bytes
    (ap (λ s. s.byte) c.self.view_is) c.units_after-lanes.ensures in (
      λ yes. subst (ArePaired c.args.self.now.lead) units
          (subst (λ lead. ArePaired lead c.units_after-lanes.result) (ap (λ s. s.lead) c.self.view_is)
          (c.are_paired.ensures.0 c.if-not-are_paired.false)),
      λ paired. refl,
    )

pub returns-clause-carried : goal.returns-clause-carried
returns-clause-carried c =
    let big = is_big c.args.order in
    let bytes = c.args.bytes.now in
    let units = made bytes big c.self.inside.odd c.args.self.now _ c.told-bytes (ap (λ s. s.byte) c.self.view_is)
    c.units_after-lanes.ensures in
    let long = ap length c.units_after-lanes.ensures ∙ length-units_of big 32 _
    (joined_long bytes c.told-bytes c.self.inside.odd) in
    ap₂ (λ byte lead. record { byte = byte; lead = lead })
    (c.left_after-self-inside.ensures ∙ ap (λ byte. left_over (with_carried byte bytes))
    (ap (λ s. s.byte) c.self.view_is))
    (c.lead_in-self-inside.ensures.value ∙ last_of c.units_after-lanes.result long ∙ ap last_lead units)
