-- The answer to the start of a stream.
use Rattle.std.specs.Prelude.{ℕ, Bool, List, length, take, nat_lt, if◌then◌else◌, Option, Some, None}
use Rattle.tus_request.specs.declared.heads.TheConstants.{MOST_HEAD}
use Rattle.enc_model.specs.declared.Encoding.{Encoding}
use Rattle.tus_request.specs.Lines.{Extent, head_extent}
use Rattle.tus_request.specs.Reading.{request_of}
use Rattle.tus_request.specs.declared.faults.Fault.TheVariants.{HeadTooLong}
use Rattle.tus_request.specs.Requests.{Verdict}
use Rattle.tus_request.specs.Checks.{judged, no_head}

-- More: the head is unfinished. Judged: the head has this many bytes and this verdict.
pub data Answer : Type 0 where
  More : Answer
  Judged : ℕ → Verdict → Answer

-- The answer to a finished head.
abbrev pub whole_answer : (Encoding → Bool) → List ℕ → Answer
whole_answer offers head = Judged (length head) (judged offers (request_of head))

-- The answer by the extent of the head in the first 8,192 bytes: it is finished, unfinished, or too long.
abbrev pub answer_with : (Encoding → Bool) → List ℕ → Option Extent → Answer
answer_with offers bytes None = if nat_lt (length bytes) MOST_HEAD then More else Judged MOST_HEAD (no_head HeadTooLong)
answer_with offers bytes (Some e) =
    if nat_lt 65 e.texts then Judged e.len (no_head HeadTooLong) else whole_answer offers (take e.len bytes)

-- The answer to the start of a stream.
unfoldable pub answer_of : (Encoding → Bool) → List ℕ → Answer
answer_of offers bytes = answer_with offers bytes (head_extent (take MOST_HEAD bytes))
