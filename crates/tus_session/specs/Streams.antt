-- How a stream is cut into requests, and which moments an event has.
use Rattle.std.specs.Prelude.{ℕ, zero, suc, ◌+◌, ◌-◌, Bool, true, false, List, [], ◌∷◌, ◌++◌, length, take, drop}
use Rattle.std.specs.Prelude.{slice_get, nat_lt, Option, Some, None}
use Rattle.tus_request.specs.Requests.{Verdict, body_length}
use Rattle.tus_request.specs.Answers.{Answer, More, Judged}

-- A request of a stream: its head, the head's verdict, and the bytes of its body so far.
pub record Asked : Type 0 where
  pub head : List ℕ
  pub verdict : Verdict
  pub body : List ℕ

-- The unfinished request at the end of a stream: part of a head, or a head with part of its body.
pub data Rest : Type 0 where
  InHead : List ℕ → Rest
  InBody : Asked → Rest

-- The finished requests of a stream, and the unfinished one.
pub record Cut : Type 0 where
  pub whole : List Asked
  pub rest : Rest

-- A reader gives the answer to the start of a stream.
abbrev pub Reader : Type 0
Reader = List ℕ → Answer

-- The cut with another request before it.
abbrev pub onto_cut : Asked → Cut → Cut
onto_cut r c = record { whole = r ∷ c.whole; rest = c.rest }

-- After a head the stream has part of its body, or all of it and further requests.
abbrev pub after_head : (List ℕ → Cut) → List ℕ → Verdict → List ℕ → Bool → Cut
after_head go head v rest true = record {
  whole = [];
  rest = InBody (record { head = head; verdict = v; body = rest });
}
after_head go head v rest false =
    onto_cut (record { head = head; verdict = v; body = take (body_length v) rest }) (go (drop (body_length v) rest))

-- The cut of a stream whose start has this answer.
abbrev pub by_answer : (List ℕ → Cut) → List ℕ → Answer → Cut
by_answer go s More = record { whole = []; rest = InHead s }
by_answer go s (Judged n v) = after_head go (take n s) v (drop n s) (nat_lt (length (drop n s)) (body_length v))

-- The cut into at most n requests.
abbrev pub cut_within : Reader → ℕ → List ℕ → Cut
cut_within answer zero s = record { whole = []; rest = InHead s }
cut_within answer (suc n) s = by_answer (cut_within answer n) s (answer s)

-- The cut of a stream. Its length bounds the number of requests, since each has at least one byte.
unfoldable pub cut : Reader → List ℕ → Cut
cut answer s = cut_within answer (suc (length s)) s

-- The bytes of the unfinished request.
abbrev pub rest_bytes : Rest → List ℕ
rest_bytes (InHead s) = s
rest_bytes (InBody r) = r.head ++ r.body

-- The length of a request in bytes.
abbrev pub request_size : Asked → ℕ
request_size r = length r.head + length r.body

-- The length of these requests in bytes.
abbrev pub request_sizes : List Asked → ℕ
request_sizes [] = 0
request_sizes (r ∷ rs) = request_size r + request_sizes rs

-- The unfinished request if its head is finished.
abbrev pub headed : Rest → List Asked
headed (InHead s) = []
headed (InBody r) = r ∷ []

-- All requests whose heads are finished.
abbrev pub heads_of : Cut → List Asked
heads_of c = c.whole ++ headed c.rest

-- The head moment: the request whose head the event finishes.
abbrev pub head_between : Cut → Cut → Option Asked
head_between before after = slice_get (heads_of after) (length (heads_of before))

-- The body moment: the request whose body the event finishes.
abbrev pub body_between : Cut → Cut → Option Asked
body_between before after = slice_get after.whole (length before.whole)

-- The body of a request, or nothing.
abbrev pub body_of : Option Asked → List ℕ
body_of None = []
body_of (Some r) = r.body

-- The body bytes of the unfinished request.
abbrev pub rest_body : Rest → List ℕ
rest_body (InHead s) = []
rest_body (InBody r) = r.body

-- The body bytes that the event adds to the current request.
abbrev pub came_between : Cut → Cut → List ℕ
came_between before after =
    drop (length (rest_body before.rest)) (body_of (slice_get (heads_of after) (length before.whole)))

-- The moments of an event: the request whose head it finishes, the one whose body it finishes, and the body bytes that
-- came.
pub record Moments : Type 0 where
  pub head : Option Asked
  pub body : Option Asked
  pub came : List ℕ

-- The moments between two cuts.
abbrev pub moments_of : Cut → Cut → Moments
moments_of before after = record {
  head = head_between before after;
  body = body_between before after;
  came = came_between before after;
}

-- The moments of bytes that follow a stream.
unfoldable pub moments : Reader → List ℕ → List ℕ → Moments
moments answer s more = moments_of (cut answer s) (cut answer (s ++ more))

-- How many bytes a call takes: up to the end of the current request, or all of them if it doesn't end there.
abbrev pub taken_to : List ℕ → List ℕ → Cut → ℕ → Option Asked → ℕ
taken_to s piece after k None = length piece
taken_to s piece after k (Some r) = request_sizes (take k after.whole) + request_size r - length s

-- The same between two cuts.
abbrev pub taken_of : List ℕ → List ℕ → Cut → Cut → ℕ
taken_of s piece before after = taken_to s piece after (length before.whole) (body_between before after)

-- How many bytes of a piece a call takes.
unfoldable pub taken : Reader → List ℕ → List ℕ → ℕ
taken answer s piece = taken_of s piece (cut answer s) (cut answer (s ++ piece))
