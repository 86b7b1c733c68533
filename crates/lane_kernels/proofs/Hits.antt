-- The bitmask of a test, and the lanes that passed it.
use Rattle.std.proofs.Common.{◌≡◌, ℕ, ◌-◌, ◌%◌, ◌^◌, ◌≤◌, Bool, true, false, not, ◌||◌, cond, List, [], ◌∷◌, map}
use Rattle.std.proofs.Common.{length, replicate, refl, ap, ap₂, sym, ◌∙◌, ◌&&◌, arith, bit_or, bit_and}
use Rattle.std.proofs.lemmas.Simd.{mask_l-mod, first_set_mask_l, zip2_splat, zip2_splat_left, zip2_of_maps}
use Rattle.std.proofs.lemmas.List.{length-map}
use Rattle.std.specs.List.{prefix_len}
use Rattle.std.specs.Int.{Width, w8, w16, w32, w64, w128}
use lib.Lanes.{zip2, mask_l, top}
use mir.Val.{bits, hbits}
use Rattle.lane_kernels.specs.Classes.{first_set}

-- a lane of a comparison: all ones, or zero
abbrev pub hit : Width → Bool → ℕ
hit w b = cond b (2 ^ bits w - 1) 0

top_hit : (w : Width) (b : Bool) → top (hbits w) (hit w b) ≡ b
top_hit w8 true = refl
top_hit w16 true = refl
top_hit w32 true = refl
top_hit w64 true = refl
top_hit w128 true = refl
top_hit w8 false = refl
top_hit w16 false = refl
top_hit w32 false = refl
top_hit w64 false = refl
top_hit w128 false = refl

tops_hit : (w : Width) (t : ℕ → Bool) (v : List ℕ) → map (top (hbits w)) (map (λ x. hit w (t x)) v) ≡ map t v
tops_hit w t [] = refl
tops_hit w t (x ∷ v) = ap₂ (λ b bs. b ∷ bs) (top_hit w (t x)) (tops_hit w t v)

-- the mask of lanes that were tested
pub mask_of_hits : (w : Width) (t : ℕ → Bool) (v : List ℕ) {z : List ℕ} → length v ≤ 64 → z ≡ map (λ x. hit w (t x)) v →
    mask_l (map (top (hbits w)) z) % 2 ^ 64 ≡ mask_l (map t v)
mask_of_hits w t v few is =
    ap (λ l. mask_l l % 2 ^ 64) (ap (map (top (hbits w))) is ∙ tops_hit w t v)
    ∙ mask_l-mod (map t v) 64 (omega (arith, few, length-map v t))

-- the first lane that was hit, where all are at most 64
pub first_hit : (w : Width) (t : ℕ → Bool) (v : List ℕ) {z : List ℕ} (n : ℕ) → length v ≡ n → n ≤ 64
    → z ≡ map (λ x. hit w (t x)) v →
    first_set (mask_l (map (top (hbits w)) z) % 2 ^ 64) n ≡ prefix_len (λ x. not (t x)) v
first_hit w t v n long few is =
    ap (λ m. first_set m n) (mask_of_hits w t v (omega (arith, long, few)) is) ∙ first_set_mask_l t v n long few

or_hit : (a b : Bool) → bit_or (hit w8 a) (hit w8 b) ≡ hit w8 (a || b)
or_hit true true = refl
or_hit true false = refl
or_hit false true = refl
or_hit false false = refl

or_hits : (t u : ℕ → Bool) (v : List ℕ) → map (λ x. bit_or (hit w8 (t x)) (hit w8 (u x))) v ≡ map
    (λ x. hit w8 (t x || u x)) v
or_hits t u [] = refl
or_hits t u (x ∷ v) = ap₂ (λ y ys. y ∷ ys) (or_hit (t x) (u x)) (or_hits t u v)

-- two tests joined
pub either_hit : (t u : ℕ → Bool) (v : List ℕ) {a b : List ℕ} → a ≡ map (λ x. hit w8 (t x)) v
    → b ≡ map (λ x. hit w8 (u x)) v →
    zip2 bit_or a b ≡ map (λ x. hit w8 (t x || u x)) v
either_hit t u v p q = zip2_of_maps bit_or (λ x. hit w8 (t x)) (λ x. hit w8 (u x)) v p q ∙ or_hits t u v

-- each lane compared with one number
pub compared : (w : Width) (t : ℕ → ℕ → Bool) (v : List ℕ) (n y : ℕ) → length v ≡ n →
    zip2 (λ a b. hit w (t a b)) v (replicate n y) ≡ map (λ x. hit w (t x y)) v
compared w t v n y long = zip2_splat (λ a b. hit w (t a b)) v n y long

-- the same with its sides changed
pub compared_with : (w : Width) (t : ℕ → ℕ → Bool) (v : List ℕ) (n y : ℕ) → length v ≡ n →
    zip2 (λ a b. hit w (t a b)) (replicate n y) v ≡ map (λ x. hit w (t y x)) v
compared_with w t v n y long = zip2_splat_left (λ a b. hit w (t a b)) y n v long

and_hit : (a b : Bool) → bit_and (hit w16 a) (hit w16 b) ≡ hit w16 (a && b)
and_hit true true = refl
and_hit true false = refl
and_hit false true = refl
and_hit false false = refl

and_hits : (t u : ℕ → Bool) (v : List ℕ) → map (λ x. bit_and (hit w16 (t x)) (hit w16 (u x))) v ≡ map
    (λ x. hit w16 (t x && u x)) v
and_hits t u [] = refl
and_hits t u (x ∷ v) = ap₂ (λ y ys. y ∷ ys) (and_hit (t x) (u x)) (and_hits t u v)

-- the same of units, where both tests are to hold
pub both_hit : (t u : ℕ → Bool) (v : List ℕ) {a b : List ℕ} → a ≡ map (λ x. hit w16 (t x)) v
    → b ≡ map (λ x. hit w16 (u x)) v →
    zip2 bit_and a b ≡ map (λ x. hit w16 (t x && u x)) v
both_hit t u v p q = zip2_of_maps bit_and (λ x. hit w16 (t x)) (λ x. hit w16 (u x)) v p q ∙ and_hits t u v

tops_of : (w : Width) (ms : List Bool) → map (top (hbits w)) (map (hit w) ms) ≡ ms
tops_of w [] = refl
tops_of w (m ∷ ms) = ap₂ (λ b bs. b ∷ bs) (top_hit w m) (tops_of w ms)

pub hits_of : (t : ℕ → Bool) (v : List ℕ) → map (λ x. hit w8 (t x)) v ≡ map (hit w8) (map t v)
hits_of t [] = refl
hits_of t (x ∷ v) = ap (λ ys. hit w8 (t x) ∷ ys) (hits_of t v)

-- lanes that were hit in the one or the other
abbrev pub joined : List Bool → List Bool → List Bool
joined ms ns = zip2 (λ a b. a || b) ms ns

joined_each : (ms ns : List Bool) → zip2 bit_or (map (hit w8) ms) (map (hit w8) ns) ≡ map (hit w8) (joined ms ns)
joined_each [] ns = refl
joined_each (m ∷ ms) [] = refl
joined_each (m ∷ ms) (n ∷ ns) = ap₂ (λ x xs. x ∷ xs) (or_hit m n) (joined_each ms ns)

pub joined_hits : (ms ns : List Bool) {y z : List ℕ} → y ≡ map (hit w8) ms → z ≡ map (hit w8) ns
    → zip2 bit_or y z ≡ map (hit w8) (joined ms ns)
joined_hits ms ns p q = ap₂ (zip2 bit_or) p q ∙ joined_each ms ns

pub joined_long : (ms ns : List Bool) (k : ℕ) → length ms ≡ k → length ns ≡ k → length (joined ms ns) ≡ k
joined_long [] ns k p q = p
joined_long (m ∷ ms) [] k p q = absurd (omega (arith, p, q))
joined_long (m ∷ ms) (n ∷ ns) k p q =
    let rest = joined_long ms ns (k - 1) (omega (arith, p)) (omega (arith, q)) in
    omega (arith, rest, p)

-- where none of both was hit, none of either was
pub none_joined : (ms ns : List Bool) → length ms ≡ length ns → mask_l (joined ms ns) ≡ 0
    → (mask_l ms ≡ 0) × (mask_l ns ≡ 0)
none_joined [] [] same e = (refl, refl)
none_joined [] (n ∷ ns) same e = absurd (omega (arith, same))
none_joined (m ∷ ms) [] same e = absurd (omega (arith, same))
none_joined (true ∷ ms) (n ∷ ns) same e = absurd (omega (arith, e))
none_joined (false ∷ ms) (true ∷ ns) same e = absurd (omega (arith, e))
none_joined (false ∷ ms) (false ∷ ns) same e =
    let p = none_joined ms ns (omega (arith, same)) (omega (arith, e)) in
    (omega (arith, p.0), omega (arith, p.1))

-- an empty bitmask of lanes
pub none_hit : (ms : List Bool) {z : List ℕ} → length ms ≤ 64 → z ≡ map (hit w8) ms
    → mask_l (map (top (hbits w8)) z) % 2 ^ 64 ≡ 0 → mask_l ms ≡ 0
none_hit ms few is e =
    sym (mask_l-mod ms 64 few) ∙ sym (ap (λ l. mask_l l % 2 ^ 64) (ap (map (top (hbits w8))) is ∙ tops_of w8 ms)) ∙ e
