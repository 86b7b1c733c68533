-- The head in a buffer.
use Rattle.std.specs.Prelude.{ℕ, Bool, ◌||◌, List, [], length, nat_le}
use Rattle.tus_request.specs.declared.heads.TheConstants.{MOST_HEAD}
use Rattle.tus_request.specs.Answers.{Answer, More, Judged}
use Rattle.tus_request.specs.Searches.{after_bytes, is_head_found}
use Rattle.tus_request.specs.declared.search.Search.TheVariants.{Leading}
use Rattle.tus_request.specs.declared.buffer.HeadBuffer.{HeadBuffer}

abbrev pub head_bytes : HeadBuffer → List ℕ
head_bytes b = b.bytes.items

-- What a buffer stores of a stream's start: all of it if the head is unfinished, nothing otherwise.
abbrev pub unfinished : Answer → List ℕ → List ℕ
unfinished More s = s
unfinished (Judged n v) s = []

-- The head's end has arrived, or as many bytes as a head may have.
abbrev pub is_judged : List ℕ → Bool
is_judged bytes = is_head_found (after_bytes Leading bytes) || nat_le MOST_HEAD (length bytes)
