-- What the writer and the folder of an export refused, counted.
use Rattle.std.proofs.Common.{◌≡◌, ◌∙◌, ◌⊎◌, ap, arith, inl, inr, refl, subst, sym, ℕ, ◌+◌, ◌<◌, ◌≤◌, ◌^◌}
use Rattle.std.proofs.Common.{Bool, true, false, ◌||◌, Result, Ok, Err}
use Rattle.std.specs.Prelude.{IsErr, IsErrAnd, IsErrOf}
use Rattle.std.proofs.lemmas.Bool.{cases_lt}
use Rattle.common.specs.Counts.{Counts}
use Rattle.common.specs.declared.stop.Stop.TheVariants.{NoMemory, DiskFault}
use Rattle.gateway_outside.specs.Bools.{true_or_false}
use Rattle.gateway_outside.specs.Changing.{IsChangeFault}
use Rattle.gateway_outside.specs.Counted.{counts_as}
use Rattle.gateway_outside.specs.declared.faults.Fault.{Fault}
use Rattle.gateway_outside.specs.declared.faults.Fault.TheVariants.{Io, Stop}
use Rattle.gateway_export.specs.Folders.{folder_fault}
use Rattle.gateway_export.specs.Refused.{IsStop, RefusedAs, Rises}
use Rattle.gateway_export.specs.declared.folders.FolderError.{FolderError}
use Rattle.gateway_export.specs.declared.folders.FolderError.TheVariants as errors

-- a folder's refusal, as it is answered
pub told_io : {T U : Type 0} (error : FolderError) (fault : Fault) (a b : ℕ) → fault ≡ folder_fault error
    → Counts (IsErrOf {T = T} (Err error) errors.Refused) a b → Counts (IsErrOf {T = U} (Err fault) Io) a b
told_io errors.NoMemory fault a b is c = counts_as _ _ a b (λ q. absurd (cc)) (λ p. absurd (cc)) c
told_io errors.Refused fault a b is c = counts_as _ _ a b (λ q. refl) (λ p. ap (λ f. Err f) is) c

-- a fault that is handed on
pub handed_on : {T : Type 0} (r : Result T Fault) (fault : Fault) → IsErrAnd r (λ x. x ≡ fault) → r ≡ Err fault
handed_on (Ok t) fault is = absurd is
handed_on (Err x) fault is = ap (λ y. Err y) is

same_io : {T U : Type 0} (r : Result U Fault) (fault : Fault) → r ≡ Err fault
    → (IsErrOf {T = T} (Err fault) Io → r ≡ Err Io) × (r ≡ Err Io → IsErrOf {T = T} (Err fault) Io)
same_io r fault is = (
  λ e. let same : fault ≡ Io = cc in is ∙ ap (λ x. Err x) same,
  λ e. let both : Err fault ≡ Err Io = sym is ∙ e in let same : fault ≡ Io = cc in ap (λ x. Err x) same,
)

pub counts_on : {T U : Type 0} (r : Result U Fault) (fault : Fault) (a b : ℕ) → r ≡ Err fault
    → Counts (IsErrOf {T = T} (Err fault) Io) a b → Counts (IsErrOf r Io) a b
counts_on r fault a b is c = let both = same_io r fault is in counts_as _ _ a b both.1 both.0 c

pub refused_on : {T U : Type 0} (r : Result U Fault) (fault : Fault) (w w' f f' : ℕ) → r ≡ Err fault
    → RefusedAs (IsErrOf {T = T} (Err fault) Io) (IsErrAnd {T = T} (Err fault) IsStop) w w' f f'
    → RefusedAs (IsErrOf r Io) (IsErrAnd r IsStop) w w' f f'
refused_on r fault w w' f f' is c =
    let both = same_io r fault is in
    record {
      later = c.later;
      counted = λ io. c.counted (both.1 io);
      by_writer = λ less. elim (c.by_writer less) [
        | inl io ↦ inl (both.0 io)
        | inr stop ↦ inr (subst (λ x. IsErrAnd x IsStop) (sym is) stop)
      ];
      by_folder = λ less. both.0 (c.by_folder less);
    }

-- nothing was counted before, or after
pub counts_after : (P : Type 0) (a b c : ℕ) → b ≡ a → Counts P b c → Counts P a c
counts_after P a b c same is = subst (λ n. Counts P n c) same is

pub counts_before : (P : Type 0) (a b c : ℕ) → Counts P a b → c ≡ b → Counts P a c
counts_before P a b c is same = subst (λ n. Counts P a n) (sym same) is

-- at neither of two
pub counts_both : (p q r : Bool) (a b c : ℕ) → r ≡ (p || q) → Counts (p ≡ true) a b → Counts (q ≡ true) b c
    → Counts (r ≡ true) a c
counts_both p q r a b c is first next = record {
  later = let le = first.later in let le' = next.later in omega (arith, le, le');
  counted = λ told. elim (true_or_false p) [
    | inl so ↦ elim (first.counted so) [
      | inl less ↦ let le' = next.later in inl (omega (arith, less, le'))
      | inr most ↦ inr most
    ]
    | inr other ↦
        let so : q ≡ true = sym (sym told ∙ (is ∙ ap (λ x. x || q) other)) in
        let le = first.later in
        elim (next.counted so) [
          | inl less ↦ inl (omega (arith, less, le))
          | inr most ↦ elim (cases_lt a b) [
            | inl less ↦ let le' = next.later in inl (omega (arith, less, le'))
            | inr same ↦ inr (omega (arith, most, same))
          ]
        ]
  ];
  nothing_else = λ less. elim (cases_lt a b) [
    | inl first_less ↦ is ∙ ap (λ x. x || q) (first.nothing_else first_less)
    | inr most ↦ is ∙ or_true p q (next.nothing_else (omega (arith, less, most)))
  ];
}
  where
    or_true : (x y : Bool) → y ≡ true → (x || y) ≡ true
    or_true true y e = refl
    or_true false y e = e

module _ {T : Type 0} (w w' f f' : ℕ) where
  -- the writer refused a line
  pub by_writer : {U E : Type 0} (r : Result T Fault) (s : Result U E) → IsErr s → r ≡ Err Io
      → Counts (IsErr s) w w' → f' ≡ f → RefusedAs (IsErrOf r Io) (IsErrAnd r IsStop) w w' f f'
  by_writer r s failed is c same = record {
    later = (c.later, omega (arith, same));
    counted = λ _. inl (c.counted failed);
    by_writer = λ _. inl is;
    by_folder = λ less. absurd (omega (arith, less, same));
  }

  -- neither refused, and that isn't told
  pub by_none : (r : Result T Fault) → (r ≡ Err Io → ⊥) → w' ≡ w → f' ≡ f
      → RefusedAs (IsErrOf r Io) (IsErrAnd r IsStop) w w' f f'
  by_none r never same same' = record {
    later = (omega (arith, same), omega (arith, same'));
    counted = λ is. absurd (never is);
    by_writer = λ less. absurd (omega (arith, less, same));
    by_folder = λ less. absurd (omega (arith, less, same'));
  }

  either : (r : Result T Fault) (fault : Fault) → r ≡ Err fault → IsChangeFault fault
      → (r ≡ Err Io) ⊎ IsErrAnd r IsStop
  either r fault is (inl stop) = inr (rw is (NoMemory, stop))
  either r fault is (inr (inl io)) = inl (is ∙ ap (λ x. Err x) io)
  either r fault is (inr (inr stop)) = inr (rw is (DiskFault, stop))

  -- the folder refused, or memory or the disk stopped it; then a line may be lost
  pub by_folder : (r : Result T Fault) (fault : Fault) → r ≡ Err fault → IsChangeFault fault
      → Counts (IsErrOf r Io) f f' → w ≤ w' → RefusedAs (IsErrOf r Io) (IsErrAnd r IsStop) w w' f f'
  by_folder r fault is change c le = record {
    later = (le, c.later);
    counted = λ io. inr (c.counted io);
    by_writer = λ _. either r fault is change;
    by_folder = λ less. c.nothing_else less;
  }

-- neither refused so far
pub refused_after : (P Q : Type 0) (w v w' f e f' : ℕ) → v ≡ w → e ≡ f → RefusedAs P Q v w' e f'
    → RefusedAs P Q w w' f f'
refused_after P Q w v w' f e f' same same' is =
    subst (λ n. RefusedAs P Q w w' n f') same' (subst (λ n. RefusedAs P Q n w' e f') same is)

-- nor at all
pub unrefused : (P Q : Type 0) (w w' f f' : ℕ) → (P → ⊥) → (Q → ⊥) → RefusedAs P Q w w' f f'
    → (w' ≡ w) × (f' ≡ f)
unrefused P Q w w' f f' not_so nor is = (
  elim (cases_lt w w') [
    | inl less ↦ elim (is.by_writer less) [ inl p ↦ absurd (not_so p) | inr q ↦ absurd (nor q) ]
    | inr most ↦ let le = is.later.0 in omega (arith, most, le)
  ],
  elim (cases_lt f f') [
    | inl less ↦ absurd (not_so (is.by_folder less))
    | inr most ↦ let le = is.later.1 in omega (arith, most, le)
  ],
)
