-- The answer to a stream's start, by the grammar of request heads.
use Rattle.std.specs.Prelude.{◌≡◌, ℕ, Bool, ◌≤◌, ◌⊎◌, List, [], ◌++◌, length, take, nat_lt, if◌then◌else◌, Option, Some}
use Rattle.std.specs.Prelude.{None}
use Rattle.tus_request.specs.declared.heads.TheConstants.{MOST_HEAD}
use Rattle.httparse.specs.Grammar.{RequestHead, ReadsRequest, HasNoRequest}
use Rattle.enc_model.specs.declared.Encoding.{Encoding}
use Rattle.tus_request.specs.Lines.{Extent, head_extent}
use Rattle.tus_request.specs.Checks.{verdict_on, no_head}
use Rattle.tus_request.specs.declared.faults.Fault.TheVariants.{HeadTooLong, Malformed}
use Rattle.tus_request.specs.Answers.{Answer, More, Judged}

-- The start of a stream: an unfinished head, too many bytes or lines for a head, or a finished head.
pub data HeadPrefix : Type 0 where
  unfinished : HeadPrefix
  too_long : ℕ → HeadPrefix
  whole : List ℕ → HeadPrefix

-- The start of a stream, by the extent of the head in its first 8,192 bytes.
abbrev pub prefix_with : List ℕ → Option Extent → HeadPrefix
prefix_with bytes None = if nat_lt (length bytes) MOST_HEAD then unfinished else too_long MOST_HEAD
prefix_with bytes (Some e) = if nat_lt 65 e.texts then too_long e.len else whole (take e.len bytes)

-- The start of a stream.
abbrev pub prefix : List ℕ → HeadPrefix
prefix bytes = prefix_with bytes (head_extent (take MOST_HEAD bytes))

-- It is a finished head within the limits.
abbrev pub IsWholeHead : HeadPrefix → Type 0
IsWholeHead unfinished = ⊥
IsWholeHead (too_long taken) = ⊥
IsWholeHead (whole head) = Unit {0}

-- The answer to a finished head: it is a request head by the grammar, or no prefix of it is one.
abbrev pub IsHeadAnswer : (Encoding → Bool) → List ℕ → Answer → Type 0
IsHeadAnswer offers head answer =
    (HasNoRequest head × (answer ≡ Judged (length head) (no_head Malformed)))
    ⊎ ((h : RequestHead) × ReadsRequest head h [] × (answer ≡ Judged (length head) (verdict_on offers h)))

-- The answer to such a start.
abbrev pub IsPrefixAnswer : (Encoding → Bool) → HeadPrefix → Answer → Type 0
IsPrefixAnswer offers unfinished answer = answer ≡ More
IsPrefixAnswer offers (too_long taken) answer = answer ≡ Judged taken (no_head HeadTooLong)
IsPrefixAnswer offers (whole head) answer = IsHeadAnswer offers head answer

-- The answer to a stream.
abbrev pub IsAnswer : (Encoding → Bool) → List ℕ → Answer → Type 0
IsAnswer offers bytes answer = IsPrefixAnswer offers (prefix bytes) answer

-- The bytes are a finished head within the limits; `more` follows them.
pub record IsShortHeadOf (head more : List ℕ) (e : Extent) : Type 0 where
  pub short : length head ≤ MOST_HEAD
  pub extent : head_extent (head ++ more) ≡ Some e
  pub all : e.len ≡ length head
  pub few : e.texts ≤ 65

-- The bytes are a finished head within the limits.
abbrev pub IsShortHead : List ℕ → Type 0
IsShortHead head = (more : List ℕ) × (e : Extent) × IsShortHeadOf head more e
