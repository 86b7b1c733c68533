-- What is seen of sockets.
use Rattle.std.specs.Prelude.{◌≡◌, ◌≢◌, ◌⊎◌, ◌≤◌, ◌==◌, ℕ, length, false, List, [], ◌∷◌, ◌++◌, if◌then◌else◌}
use Rattle.std.specs.Prelude.{Option, Some, None}
use Rattle.tus_session.specs.declared.at.At as session
use Rattle.tus_session.specs.declared.at.At.TheVariants as said
use Rattle.gateway_serve.specs.Conversations.{Conversation}
use Rattle.gateway_serve.specs.Waiting.{most_waiting}
use Rattle.gateway_serve.specs.declared.buffers.TheConstants.{PIECE}
use Rattle.gateway_serve.specs.declared.stays.At.{At}
use Rattle.gateway_serve.specs.declared.stays.At.TheVariants.{Between, Head, Body, Reply}
use Rattle.gateway_serve.specs.declared.reasons.Gone.{Gone}
use Rattle.gateway_serve.specs.declared.reasons.Gone.TheVariants as Why
use Rattle.gateway_serve.specs.declared.reasons.Reason.{Reason}
use Rattle.gateway_serve.specs.declared.reasons.Reason.TheVariants.{Closed, Lost, Over}
use Rattle.gateway_serve.specs.declared.sockets.Seen.{Seen}

-- those of one connection
abbrev pub current_of : ℕ → List Seen → List Seen
current_of n [] = []
current_of n (s ∷ current) = if n == s.conn then s ∷ current_of n current else current_of n current

abbrev pub IsAllBut : ℕ → List ℕ → List ℕ → Type 0
IsAllBut most prefix all = (rest : List ℕ) × (all ≡ prefix ++ rest) × (length rest ≤ most)

-- THE REASONS for which a socket ends only once all is written: the session closed its connection, or that was late
-- between requests or in one
abbrev pub IsBeforeReply : At → Type 0
IsBeforeReply Between = Unit {0}
IsBeforeReply Head = Unit {0}
IsBeforeReply Body = Unit {0}
IsBeforeReply Reply = ⊥

abbrev pub IsQuietly : Gone → Type 0
IsQuietly Why.Ended = ⊥
IsQuietly (Why.Failed kind) = ⊥
IsQuietly Why.Stuck = ⊥
IsQuietly (Why.Late stay) = IsBeforeReply stay.at

abbrev pub IsWholeReply : Reason → Type 0
IsWholeReply Closed = Unit {0}
IsWholeReply (Lost gone) = IsQuietly gone
IsWholeReply Over = ⊥

-- WHAT A CONNECTION IS AT, as the session says it is after its latest call, once all is written. It is in a reply while
-- a text is still to be given, or once it is closed
abbrev pub IsAt : At → Option session.At → Type 0
IsAt Between at = at ≡ Some said.Between
IsAt Head at = at ≡ Some said.Head
IsAt Body at = at ≡ Some said.Body
IsAt Reply at = (at ≡ Some said.Text) ⊎ (at ≡ None)

-- one that was late was at that, or in a reply of which not all went
abbrev pub IsGoneAt : Gone → List ℕ → Conversation → Type 0
IsGoneAt Why.Ended went c = Unit {0}
IsGoneAt (Why.Failed kind) went c = Unit {0}
IsGoneAt Why.Stuck went c = Unit {0}
IsGoneAt (Why.Late stay) went c = IsAt stay.at c.at ⊎ ((stay.at ≡ Reply) × (went ≢ c.gave))

abbrev pub IsLateAt : Reason → List ℕ → Conversation → Type 0
IsLateAt Closed went c = Unit {0}
IsLateAt (Lost gone) went c = IsGoneAt gone went c
IsLateAt Over went c = Unit {0}

-- The session took all bytes that came, but for at most 4,096 at the end. The bytes that went are the first ones that
-- it gave, all but at most 135,167 at the end, and all for the reasons of `IsWholeReply`. If the session closed the
-- connection, it wasn't reported to the session that the client is gone. If it was late, it was at what it is said to
pub record Fits (s : Seen) (c : Conversation) : Type 0 where
  pub taken : IsAllBut PIECE c.took s.came.items
  pub written : IsAllBut most_waiting s.went.items c.gave
  pub emptied : IsWholeReply s.reason → s.went.items ≡ c.gave
  pub connected : s.reason ≡ Closed → c.disconnected ≡ false
  pub late : IsLateAt s.reason s.went.items c

-- and all that it gave went, unless it was reported to the session that the client is gone
pub record Served (s : Seen) (c : Conversation) : Type 0 where
  pub fits : Fits s c
  pub whole : c.disconnected ≡ false → s.went.items ≡ c.gave

-- one for each
abbrev pub Pairs : (Seen → Conversation → Type 0) → List Seen → List Conversation → Type 0
Pairs P [] [] = Unit {0}
Pairs P [] (c ∷ cs) = ⊥
Pairs P (s ∷ current) [] = ⊥
Pairs P (s ∷ current) (c ∷ cs) = P s c × Pairs P current cs
