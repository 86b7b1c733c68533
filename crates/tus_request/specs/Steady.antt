-- The answer to a stream's start doesn't depend on what follows.
use Rattle.std.specs.Prelude.{◌≡◌, ℕ, ◌<◌, ◌≤◌, List, ◌++◌, length, take}
use Rattle.tus_request.specs.Requests.{Verdict}
use Rattle.tus_request.specs.Answers.{Answer, Judged}

-- A head has at least one byte, lies in the stream, and is the same whatever follows.
pub record IsSteady (answer : List ℕ → Answer) : Type 0 where
  pub some : (s : List ℕ) (n : ℕ) (v : Verdict) → answer s ≡ Judged n v → 0 < n
  pub within : (s : List ℕ) (n : ℕ) (v : Verdict) → answer s ≡ Judged n v → n ≤ length s
  pub unchanged : (s more : List ℕ) (n : ℕ) (v : Verdict) → answer s ≡ Judged n v → answer (s ++ more) ≡ Judged n v
  -- Its own bytes have the same answer.
  pub own : (s : List ℕ) (n : ℕ) (v : Verdict) → answer s ≡ Judged n v → answer (take n s) ≡ Judged n v
