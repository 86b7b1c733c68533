-- The places right after leads, as a mask: the leads' mask a place further, and the carried lead at the first place.
use Rattle.std.proofs.Common.{◌≡◌, ℕ, zero, suc, ◌+◌, ◌*◌, ◌%◌, ◌^◌, ◌<◌, ◌≤◌, Bool, true, false, not, List, [], ◌∷◌}
use Rattle.std.proofs.Common.{map, length, take, get_or, refl, ap, subst, sym, ◌∙◌, arith, bit_or, Option, lit<}
use Rattle.std.proofs.lemmas.List.{length-map, length-take-le, get_or-map, get_or-take, get_or_default, same_lists}
use Rattle.std.proofs.lemmas.Nat.{or_shifted}
use Rattle.std.proofs.Math.Nat.{pow-succ', mul_assoc, mul-zero, add-mul-mod_self_left}
use Rattle.std.proofs.lemmas.Simd.{mask_l-lt, mask_l-mod, first_set_mask_l}
use Rattle.std.proofs.lemmas.Bool.Decides.{nat_tests}
use Rattle.std.proofs.lemmas.List.Sums.{prefix_len_passes}
use Rattle.std.specs.List.{prefix_len}
use Rattle.enc_model.specs.Index.{within}
use Rattle.lane_kernels.specs.Classes.{first_set}
use Rattle.std.specs.Option.{is_some}
use mir.Val.{bool_byte}
use lib.Lanes.{mask_l}
use Rattle.lane_kernels.specs.Units.{is_lead, is_trail, ArePaired}

-- masks of as many lanes that are equal are of the same lanes
pub same_masks : (a b : List Bool) → length a ≡ length b → mask_l a ≡ mask_l b → a ≡ b
same_masks [] [] long same = refl
same_masks [] (y ∷ b) long same = absurd (omega (arith, long))
same_masks (x ∷ a) [] long same = absurd (omega (arith, long))
same_masks (true ∷ a) (true ∷ b) long same =
    ap (λ rest. true ∷ rest) (same_masks a b (omega (arith, long)) (omega (arith, same)))
same_masks (false ∷ a) (false ∷ b) long same =
    ap (λ rest. false ∷ rest) (same_masks a b (omega (arith, long)) (omega (arith, same)))
same_masks (true ∷ a) (false ∷ b) long same = absurd (omega (arith, same))
same_masks (false ∷ a) (true ∷ b) long same = absurd (omega (arith, same))

-- a mask is that of its lowest lanes, and a multiple of the next power
split_mask : (n : ℕ) (a : List Bool) → (m : ℕ) × (mask_l a ≡ mask_l (take n a) + 2 ^ n * m)
split_mask zero a = (mask_l a, omega arith)
split_mask (suc n) [] = (0, omega (arith, mul-zero (2 ^ suc n)))
split_mask (suc n) (x ∷ a) =
    let rest = split_mask n a in
    let up : 2 ^ suc n * rest.0 ≡ 2 * (2 ^ n * rest.0) =
    ap (λ p. p * rest.0) (pow-succ' 2 n) ∙ mul_assoc 2 (2 ^ n) rest.0 in
    (rest.0, omega (arith, rest.1, up))

low_mask : (n : ℕ) (a : List Bool) → n ≤ length a → mask_l a % 2 ^ n ≡ mask_l (take n a)
low_mask n a long =
    let whole = split_mask n a in
    ap (λ m. m % 2 ^ n) whole.1 ∙ add-mul-mod_self_left (mask_l (take n a)) (2 ^ n) whole.0
    ∙ mask_l-mod (take n a) n (omega (arith, length-take-le n a long))

-- the places right after leads
abbrev pub after_leads : Option ℕ → List ℕ → List Bool
after_leads carried units = take 32 (is_some carried ∷ map is_lead units)

bit_small : (b : Bool) → bool_byte b < 2 ^ 1
bit_small true = lit< tt
bit_small false = lit< tt

added_prefix : (b : Bool) (leads : List Bool) → mask_l leads * 2 ^ 1 + bool_byte b ≡ mask_l (b ∷ leads)
added_prefix true leads = omega arith
added_prefix false leads = omega arith

pub mask_after : (carried : Option ℕ) (units : List ℕ) → length units ≡ 32 →
    bit_or (mask_l (map is_lead units) * 2 % 2 ^ 64) (bool_byte (is_some carried)) % 2 ^ 32 ≡ mask_l
    (after_leads carried units)
mask_after carried units long =
    let leads = map is_lead units in
    let many : length leads ≡ 32 = length-map units is_lead ∙ long in
    let small = mask_l-lt leads in
    let bound : mask_l leads < 2 ^ 32 = subst (λ n. mask_l leads < 2 ^ n) many small in
    let bit : bool_byte (is_some carried) < 2 ^ 1 = bit_small (is_some carried) in
    let shifted : mask_l leads * 2 % 2 ^ 64 ≡ mask_l leads * 2 ^ 1 = omega (arith, bound) in
    ap (λ m. m % 2 ^ 32) (ap (λ m. bit_or m (bool_byte (is_some carried))) shifted
    ∙ or_shifted (mask_l leads) 1 (bool_byte (is_some carried)) bit ∙ added_prefix (is_some carried) leads)
    ∙ low_mask 32 (is_some carried ∷ leads) (omega (arith, many))

-- by place
module _ (carried : Option ℕ) (units : List ℕ) (long : length units ≡ 32) where
  trail_at : (k : ℕ) → k < 32 → get_or (map is_trail units) k false ≡ is_trail (get_or units k 0)
  trail_at k inside = get_or-map is_trail units k 0 false (omega (arith, inside, long))

  lead_before : (k : ℕ) → suc k < 32 → get_or (after_leads carried units) (suc k) false ≡ is_lead (get_or units k 0)
  lead_before k inside = get_or-take 32 (is_some carried ∷ map is_lead units) (suc k) false inside
      ∙ get_or-map is_lead units k 0 false (omega (arith, inside, long))

  pub paired_from_lanes : map is_trail units ≡ after_leads carried units → ArePaired carried units
  paired_from_lanes same = record {
    first = λ some. sym (trail_at 0 (lit< tt)) ∙ ap (λ l. get_or l 0 false) same;
    next = λ k inside.
        let up : k + 1 ≡ suc k = omega arith in
        let within : suc k < 32 = omega (arith, inside, long) in
        ap (λ i. is_trail (get_or units i 0)) up ∙ sym (trail_at (suc k) within) ∙ ap (λ l. get_or l (suc k) false) same
        ∙ lead_before k within;
  }

  lanes_at : ArePaired carried units → (k : ℕ) → k < 32 → get_or (map is_trail units) k false ≡ get_or
      (after_leads carried units) k false
  lanes_at paired zero inside = trail_at 0 inside ∙ paired.first (omega (arith, long))
  lanes_at paired (suc k) inside =
      let up : suc k ≡ k + 1 = omega arith in
      trail_at (suc k) inside ∙ ap (λ i. is_trail (get_or units i 0)) up ∙ paired.next k (omega (arith, inside, long))
      ∙ sym (lead_before k inside)

  pub after_long : length (after_leads carried units) ≡ 32
  after_long = length-take-le 32 (is_some carried ∷ map is_lead units) (omega (arith, length-map units is_lead, long))

  at_place : ArePaired carried units → (k : ℕ) (d : Bool) → k < 32 → get_or (map is_trail units) k d ≡ get_or
      (after_leads carried units) k d
  at_place paired k d inside =
      get_or_default (map is_trail units) k d false (omega (arith, length-map units is_trail, long, inside))
      ∙ lanes_at paired k inside
      ∙ get_or_default (after_leads carried units) k false d (omega (arith, after_long, inside))

  pub lanes_from_paired : ArePaired carried units → map is_trail units ≡ after_leads carried units
  lanes_from_paired paired =
      same_lists _ _ (length-map units is_trail ∙ long ∙ sym after_long)
      (λ k d inside. at_place paired k d (omega (arith, length-map units is_trail, long, inside)))

-- units without surrogates are paired where no lead is carried
no_trail : (unit : ℕ) → not (within 0xD800 0xDFFF unit) ≡ true → is_trail unit ≡ false
no_trail unit e = grind (arith, nat_tests, e)

no_lead : (unit : ℕ) → not (within 0xD800 0xDFFF unit) ≡ true → is_lead unit ≡ false
no_lead unit e = grind (arith, nat_tests, e)

pub scalars_paired : (carried : Option ℕ) (units : List ℕ) → length units ≡ 32 → is_some carried ≡ false
    → mask_l (map (within 0xD800 0xDFFF) units) ≡ 0 →
    ArePaired carried units
scalars_paired carried units long none mask =
    let scalar : ℕ → Bool = λ unit. not (within 0xD800 0xDFFF unit) in
    let all : prefix_len scalar units ≡ 32 =
    sym (first_set_mask_l (within 0xD800 0xDFFF) units 32 long (omega arith)) ∙ ap (λ m. first_set m 32) mask in
    record {
      first = λ some. no_trail (get_or units 0 0) (prefix_len_passes scalar units 0 0 (omega (arith, all))) ∙ sym none;
      next = λ k inside.
          no_trail (get_or units (k + 1) 0)
          (prefix_len_passes scalar units (k + 1) 0 (omega (arith, all, inside, long)))
          ∙ sym (no_lead (get_or units k 0) (prefix_len_passes scalar units k 0 (omega (arith, all, inside, long))));
    }
