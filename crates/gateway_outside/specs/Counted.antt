-- Counts of what failed.
use Rattle.std.proofs.Common.{◌≡◌, ◌∙◌, inl, inr, ap, arith, sym, ℕ, Result, Ok, Err, IfErr}
use Rattle.std.specs.Prelude.{IsErrAnd, IsErrOf}
use Rattle.std.proofs.lemmas.Bool.{cases_lt}
use Rattle.common.specs.Counts.{Counts}
use Rattle.gateway_outside.specs.Failures.{fault_in}
use Rattle.gateway_outside.specs.declared.failures.Failure.{Failure}
use Rattle.gateway_outside.specs.declared.faults.Fault.{Fault}
use Rattle.gateway_outside.specs.declared.faults.Fault.TheVariants.{Io}

-- no failure was counted
pub unfailed : (P : Type 0) (a b : ℕ) → (P → ⊥) → Counts P a b → b ≡ a
unfailed P a b valid c =
    elim (cases_lt a b) [ inl less ↦ absurd (valid (c.nothing_else less)) | inr most ↦ omega (arith, most, c.later) ]

-- what is counted by another name
pub counts_as : (P Q : Type 0) (a b : ℕ) → (Q → P) → (P → Q) → Counts P a b → Counts Q a b
counts_as P Q a b into back c = record {
  later = c.later;
  counted = λ q. c.counted (into q);
  nothing_else = λ less. back (c.nothing_else less);
}

-- and nothing at all
pub counts_none : (P : Type 0) (a : ℕ) → (P → ⊥) → Counts P a a
counts_none P a never = record {
  later = omega arith;
  counted = λ p. absurd (never p);
  nothing_else = λ less. absurd (omega (arith, less));
}

-- what is told of an answer: the same fault, or, of what is done, none of a stream
module _ {T U : Type 0} where
  abbrev pub TellsAs : Result T Fault → Result U Failure → Type 0
  TellsAs (Ok t) (Ok u) = Unit {0}
  TellsAs (Ok t) (Err failure) = fault_in failure ≡ Io → ⊥
  TellsAs (Err fault) (Ok u) = ⊥
  TellsAs (Err fault) (Err failure) = fault_in failure ≡ fault

  pub tells_done : (t : T) (s : Result U Failure) → IfErr s (λ failure. fault_in failure ≡ Io → ⊥)
      → TellsAs (Ok t) s
  tells_done t (Ok u) never = tt
  tells_done t (Err failure) never = never

  pub counts_told : (r : Result T Fault) (s : Result U Failure) (a b : ℕ) → TellsAs r s → Counts (IsErrOf r Io) a b
      → Counts (IsErrAnd s (λ failure. fault_in failure ≡ Io)) a b
  counts_told (Ok t) (Ok u) a b tells c = counts_as _ _ a b (λ q. absurd q) (λ e. absurd (cc)) c
  counts_told (Ok t) (Err failure) a b tells c = counts_as _ _ a b (λ q. absurd (tells q)) (λ e. absurd (cc)) c
  counts_told (Err fault) (Ok u) a b tells c = absurd tells
  counts_told (Err fault) (Err failure) a b tells c =
      counts_as _ _ a b (λ q. ap (λ f. Err f) (sym tells ∙ q)) (λ e. let same : fault ≡ Io = cc in tells ∙ same) c
