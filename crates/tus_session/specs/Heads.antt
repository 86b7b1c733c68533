-- Heads: unfinished ones, and the event that completes one.
use Rattle.std.specs.Prelude.{◌≡◌, ◌-◌, ◌+◌, ◌<◌, ◌^◌, ℕ, List, ◌++◌, length, None}
use Rattle.upload_rules.specs.World.{World}
use Rattle.tus_request.specs.Requests.{Request, Action, Options, Create, Head, Get, Patch, Delete, Verdict}
use Rattle.tus_request.specs.Answers.{Judged}
use Rattle.tus_session.specs.Streams.{InHead, cut}
use Rattle.tus_session.specs.Turns.{Conn, reader}

-- The stream ends in an unfinished head, and nothing is open.
pub record InsideHead (w : World) (conn : Conn) (h : List ℕ) : Type 0 where
  pub rest : (cut (reader w) conn.stream).rest ≡ InHead h
  pub draft : conn.draft ≡ None
  pub pending : conn.pending ≡ None

-- These bytes complete the head: it has n bytes and this verdict. The first `before` of the bytes belong to it.
pub record CompletesHead (w : World) (conn : Conn) (h bytes : List ℕ) (n before : ℕ) (v : Verdict) : Type 0 where
  pub inside : InsideHead w conn h
  pub judged : reader w (h ++ bytes) ≡ Judged n v
  pub before_is : before ≡ n - length h

-- The offset of a PATCH is below 10^18, so sums with it fit 64 bits.
abbrev pub OffsetFits : Action → Type 0
OffsetFits Options = Unit {0}
OffsetFits (Create c) = Unit {0}
OffsetFits (Head number) = Unit {0}
OffsetFits (Get number) = Unit {0}
OffsetFits (Patch number offset declare) = offset < 10 ^ 18
OffsetFits (Delete number) = Unit {0}

-- The numbers of a request are below 10^18.
pub record IsSmall (r : Request) : Type 0 where
  pub count : r.length < 10 ^ 18
  pub offset : OffsetFits r.action

-- The offset after the body of a PATCH.
abbrev pub ReachedIs : Action → ℕ → ℕ → Type 0
ReachedIs Options count reached = Unit {0}
ReachedIs (Create c) count reached = Unit {0}
ReachedIs (Head number) count reached = Unit {0}
ReachedIs (Get number) count reached = Unit {0}
ReachedIs (Patch number offset declare) count reached = reached ≡ offset + count
ReachedIs (Delete number) count reached = Unit {0}
