-- What a crash may leave, over one call after another.
use Rattle.std.proofs.Common.{◌≡◌, ℕ, List, Option, subst, arith}
use Rattle.upload_rules.specs.Store.{Store}
use Rattle.upload_rules.specs.Answers.{Limits, Quiet}

module _ {m0 m1 m2 : ℕ} {l0 l1 l2 : Option ℕ → ℕ → List Store → Type 0} where
  pub quiet_then : {a b : Store} → Quiet m0 m1 l0 l1 → Limits m1 m2 l1 l2 a b → Limits m0 m2 l0 l2 a b
  quiet_then q l = record {
    later = omega (arith, q.later, l.later);
    limits = λ n t ms le left x y. l.limits n t ms (omega (arith, q.later)) (q.limits n t ms le left) x y;
  }

  pub first_then : {a b : Store} → Limits m0 m1 l0 l1 a a → Limits m1 m2 l1 l2 a b → Limits m0 m2 l0 l2 a b
  first_then f l = record {
    later = omega (arith, f.later, l.later);
    limits = λ n t ms le left x y. l.limits n t ms (omega (arith, f.later)) (f.limits n t ms le left x x) x y;
  }

pub quiet_limits : {m0 m1 : ℕ} {l0 l1 : Option ℕ → ℕ → List Store → Type 0} (a b : Store) → Quiet m0 m1 l0 l1
    → Limits m0 m1 l0 l1 a b
quiet_limits a b q = record { later = q.later; limits = λ n t ms le left x y. q.limits n t ms le left }

pub still_limits : {m0 m1 : ℕ} {l0 l1 : Option ℕ → ℕ → List Store → Type 0} {a : Store} (b : Store)
    → Limits m0 m1 l0 l1 a a → Limits m0 m1 l0 l1 a b
still_limits b l = record { later = l.later; limits = λ n t ms le left x y. l.limits n t ms le left x x }

pub limits_from : {m0 m1 : ℕ} {l0 l1 : Option ℕ → ℕ → List Store → Type 0} {a b c : Store} → a ≡ b
    → Limits m0 m1 l0 l1 a c → Limits m0 m1 l0 l1 b c
limits_from {m0} {m1} {l0} {l1} {a} {b} {c} e h = subst (λ z. Limits m0 m1 l0 l1 z c) e h

pub limits_both : {m0 m1 : ℕ} {l0 l1 : Option ℕ → ℕ → List Store → Type 0} {a b : Store} → a ≡ b
    → Limits m0 m1 l0 l1 a a → Limits m0 m1 l0 l1 b b
limits_both {m0} {m1} {l0} {l1} {a} {b} e h = subst (λ z. Limits m0 m1 l0 l1 z z) e h

pub limits_same : (moment : ℕ) (left_only : Option ℕ → ℕ → List Store → Type 0) (m m' : Store)
    → Limits moment moment left_only left_only m m'
limits_same moment left_only m m' = record { later = omega arith; limits = λ n t ms le left a b. left }

pub limits_to : {moment moment' : ℕ} {left_only left_only' : Option ℕ → ℕ → List Store → Type 0} {m x y : Store} → x ≡ y
    → Limits moment moment' left_only left_only' m x → Limits moment moment' left_only left_only' m y
limits_to {moment} {moment'} {left_only} {left_only'} {m} e h =
    subst (λ z. Limits moment moment' left_only left_only' m z) e h
