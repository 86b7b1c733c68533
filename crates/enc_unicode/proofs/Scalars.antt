-- The scalars of units in a batch, unit by unit.
use Rattle.std.proofs.Common.{ℕ, suc, ◌+◌, ◌*◌, ◌<◌, ◌≤◌, ◌≡◌, Bool, true, false, cond, List, [], ◌∷◌, ◌++◌}
use Rattle.std.proofs.Common.{Option, Some, None, refl, sym, ◌∙◌, ap, arith, length, length-append, drop}
use Rattle.std.proofs.Common.{get_or, append_assoc, append-nil}
use Rattle.std.proofs.Math.Seq.{drop-cons}
use Rattle.std.specs.List.{prefix_len}
use Rattle.std.specs.Bool.{OnTrue}
use Rattle.std.proofs.lemmas.Bool.{true≢false}
use Rattle.std.proofs.lemmas.Bool.Decides.{nat_tests}
use Rattle.std.specs.Str.{chars}
use Rattle.enc_feed.specs.Batches.{BatchTook}
use Rattle.lane_kernels.specs.Units.{is_lead, is_scalar_unit, is_trail, lead_of}
use Rattle.lane_kernels.specs.Steps.{scalar_text, scalars_of, unit_scalar}

-- of all that a batch is to take so much is there, and the rest remains
pub record Remains (old all now rest : List ℕ) : Type 0 where
  pub text : chars now ++ rest ≡ chars old ++ all
  pub size : length now + 4 * length rest ≤ length old + 4 * length all

pub remains_all : (old all : List ℕ) → Remains old all old all
remains_all old all = record { text = refl; size = omega arith }

pub remains_more : (old all now x rest new : List ℕ) → Remains old all now (x ++ rest) → BatchTook now x new
    → Remains old all new rest
remains_more old all now x rest new r t =
    let l = length-append x rest in
    let m = r.size in
    let n = t.size in
    record {
      text = ap (λ z. z ++ rest) t.text ∙ append_assoc (chars now) x rest ∙ r.text;
      size = omega (arith, l, m, n);
    }

pub remains_none : (old all new : List ℕ) → Remains old all new [] → BatchTook old all new
remains_none old all new r = let m = r.size in record {
  text = sym (append-nil (chars new)) ∙ r.text;
  size = omega (arith, m);
}

pub scalars_more : (lead : Option ℕ) (units : List ℕ) (i : ℕ) → i < length units →
    scalars_of lead (drop i units) ≡ scalar_text (unit_scalar lead (get_or units i 0)) ++ scalars_of
    (lead_of (get_or units i 0)) (drop (i + 1) units)
scalars_more lead units i l =
    let unit = get_or units i 0 in
    let next : suc i ≡ i + 1 = omega arith in
    ap (scalars_of lead) (drop-cons units i 0 l) ∙ ap
    (λ k. scalar_text (unit_scalar lead unit) ++ scalars_of (lead_of unit) (drop k units)) next

pub few : (x : Option ℕ) → length (scalar_text x) ≤ 1
few None = omega arith
few (Some c) = omega arith

-- units without surrogates are scalars of their own
whole_unit : (lead : Option ℕ) (unit : ℕ) → is_scalar_unit unit ≡ true
    → (unit_scalar lead unit ≡ Some unit) × (lead_of unit ≡ None)
whole_unit lead unit e =
    let x : is_lead unit ≡ false = grind (arith, nat_tests, e) in
    let y : is_trail unit ≡ false = grind (arith, nat_tests, e) in
    (rw (x, y) refl, rw x refl)

pub whole_prefix : (b : Bool) (n k : ℕ) → cond b (1 + n) 0 ≡ suc k → (b ≡ true) × (n ≡ k)
whole_prefix true n k e = (refl, omega (arith, e))
whole_prefix false n k e = absurd (omega (arith, e))

pub whole_scalars : (lead : Option ℕ) (units : List ℕ) → prefix_len is_scalar_unit units ≡ length units
    → scalars_of lead units ≡ units
whole_scalars lead [] whole = refl
whole_scalars lead (unit ∷ units) whole =
    let f = whole_prefix (is_scalar_unit unit) (prefix_len is_scalar_unit units) (length units) whole in
    let s = whole_unit lead unit f.0 in
    rw (s.0, s.1) (ap (λ z. unit ∷ z) (whole_scalars None units f.1))

pub on_true : (b : Bool) (P : Type 0) → P → OnTrue b P
on_true true P p = p
on_true false P p = tt

pub on_true_from : (b : Bool) (P : Type 0) → (b ≡ true → P) → OnTrue b P
on_true_from true P f = f refl
on_true_from false P f = tt

pub on_true_at : (b : Bool) (P : Type 0) → b ≡ true → OnTrue b P → P
on_true_at true P e p = p
on_true_at false P e p = absurd (true≢false (sym e))
