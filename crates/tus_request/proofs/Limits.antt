-- What a stream comes to, by the first 8,192 bytes of it alone.
use Rattle.std.proofs.Common.{◌≡◌, ◌-◌, ◌≤◌, min, ℕ, Bool, List, [], ◌++◌, length, take, refl}
use Rattle.std.proofs.Common.{◌∙◌, ap, arith, Option, Some, None, nat_lt, if◌then◌else◌}
use Rattle.std.proofs.lemmas.List.{take_all, take-take, length-take, take_min}
use Rattle.std.proofs.lemmas.Bool.Decides.{nat_tests}
use Rattle.std.proofs.Math.Nat.{min_comm}
use Rattle.tus_request.specs.declared.heads.TheConstants.{MOST_HEAD}
use Rattle.enc_model.specs.declared.Encoding.{Encoding}
use Rattle.tus_request.specs.Lines.{Extent, head_extent}
use Rattle.tus_request.specs.declared.faults.Fault.TheVariants.{HeadTooLong}
use Rattle.tus_request.specs.Checks.{no_head}
use Rattle.tus_request.specs.Answers.{More, Judged, answer_with, whole_answer, answer_of}
use Rattle.tus_request.specs.Shown.{answer_shown}
use Rattle.tus_request.specs.Buffers.{unfinished}
use Rattle.tus_request.specs.declared.requests.Parsed.{Parsed}
use Rattle.tus_request.specs.declared.requests.Parsed.TheVariants as parsed
use Rattle.tus_request.proofs.Prefixes.{has_head, take_onto}
use Rattle.tus_request.proofs.SearchLemmas.{open_head}

pub filled : (n : ℕ) (a b : List ℕ) (m : ℕ) → length a ≤ n → m ≡ min (length b) (n - length a)
    → a ++ take m b ≡ take n (a ++ b)
filled n a b m within e =
    rw (e, min_comm, take_min (n - length a) b, take_onto n a b within)

is_short : (s : List ℕ) → nat_lt (length (take MOST_HEAD s)) MOST_HEAD ≡ nat_lt (length s) MOST_HEAD
is_short s = rw length-take (grind (arith, nat_tests))

module _ (offers : Encoding → Bool) where
  limited_case : (s : List ℕ) (o : Option Extent) → ((e : Extent) → o ≡ Some e → e.len ≤ MOST_HEAD)
      → answer_with offers (take MOST_HEAD s) o ≡ answer_with offers s o
  limited_case s None within = ap (λ b. if b then More else Judged MOST_HEAD (no_head HeadTooLong)) (is_short s)
  limited_case s (Some e) within =
      ap (λ x. if nat_lt 65 e.texts then Judged e.len (no_head HeadTooLong) else whole_answer offers x)
      (take-take e.len MOST_HEAD s (within e refl))

  -- THE LIMIT
  pub limited : (s : List ℕ) → answer_of offers (take MOST_HEAD s) ≡ answer_of offers s
  unfolding answer_of
  limited s =
      ap (λ x. answer_with offers (take MOST_HEAD s) (head_extent x)) (take-take MOST_HEAD MOST_HEAD s (omega arith))
      ∙ limited_case s (head_extent (take MOST_HEAD s)) (λ e is.
      omega (arith, (has_head (take MOST_HEAD s) e is).bound, length-take MOST_HEAD s))

  -- an unfinished head is shorter
  pub more_short : (s : List ℕ) → answer_of offers s ≡ More → take MOST_HEAD s ≡ s
  more_short s is = take_all MOST_HEAD s (omega (arith, (open_head offers s is).0))

-- a verdict leaves nothing
pub nothing_left : (p : Parsed) (s : List ℕ) → (p ≡ parsed.More → ⊥) → unfinished (answer_shown p) s ≡ []
nothing_left parsed.More s judged = absurd (judged refl)
nothing_left (parsed.Head taken request) s judged = refl
nothing_left (parsed.Refused taken length fault on_files bare closes) s judged = refl
