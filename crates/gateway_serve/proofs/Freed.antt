-- Places that are freed, and sockets that are let go.
use Rattle.std.proofs.Common.{arith}
use Rattle.std.proofs.Common.{◌≡◌, ◌⊎◌, ℕ, Bool, false, List, [], ◌∷◌, ◌++◌, None, Result, Err, refl, sym}
use Rattle.std.proofs.Common.{◌∙◌, ap, inl, inr, length, Option}
use Rattle.std.proofs.Common.{append-nil, length-append}
use Rattle.tus_session.specs.declared.at.At as session
use Rattle.tus_session.specs.History.{State, Ended, Mark, Marked, history, step}
use Rattle.tus_session.specs.declared.errors.SessionError.{SessionError}
use Rattle.tus_session.specs.declared.errors.SessionError.TheVariants.{Stop}
use Rattle.common.specs.declared.stop.Stop.TheVariants.{DiskFault}
use Rattle.tus_session.specs.Connections.{mark_of}
use Rattle.gateway_serve.specs.Conversations.{Conversation, AreTalks, hung_up}
use Rattle.gateway_serve.specs.Sockets as sockets
use Rattle.gateway_serve.specs.Sockets.{IsAt, IsBeforeReply, IsGoneAt, IsLateAt, IsQuietly, IsWholeReply, Pairs}
use Rattle.gateway_serve.specs.Sockets.{current_of}
use Rattle.gateway_serve.specs.declared.reasons.Gone.{Gone}
use Rattle.gateway_serve.specs.declared.reasons.Gone.TheVariants as lost
use Rattle.gateway_serve.specs.declared.stays.At.{At}
use Rattle.gateway_serve.specs.declared.stays.At.TheVariants.{Between, Head, Body, Reply}
use Rattle.common.specs.Traces.{trace_of}
use Rattle.gateway_serve.specs.declared.sockets.Seen.{Seen}
use Rattle.gateway_serve.specs.Joined.{Joint, Joins, PlaceJoins, PlaceFell, OthersStay, IsLateIn, MayEnd, joint_of}
use Rattle.gateway_serve.specs.Joined.{PlaceWaits, at_while, with_place}
use Rattle.gateway_serve.specs.Waiting.{FewWait}
use Rattle.gateway_serve.specs.Bytes.{current}
use Rattle.gateway_serve.specs.declared.reasons.Reason.{Reason}
use Rattle.gateway_serve.specs.declared.reasons.Reason.TheVariants as Why
use Rattle.gateway_serve.specs.declared.sockets.Latest.{Latest}
use Rattle.gateway_serve.specs.declared.sockets.Spell.{Spell}
use Rattle.gateway_serve.specs.declared.links.Link.{Link}
use Rattle.gateway_serve.specs.declared.places.Place.{Place}
use Rattle.gateway_serve.specs.declared.places.Place.TheVariants.{Free, Open}
use Rattle.gateway_serve.proofs.Steps.{same_number, other_number, ended_shuts, ended_lost}
use Rattle.gateway_serve.proofs.Talks.{talks_here, gave_ended}

-- its socket is the first of those of the connection
abbrev current_at : ℕ → Joint → Latest → Spell → Reason → Seen
current_at n j latest spell reason = record {
  conn = n;
  came = trace_of j.came;
  went = trace_of j.went;
  latest = latest;
  spell = spell;
  reason = reason;
}

first_current : (n : ℕ) (s : Seen) (ended : List Seen) → s.conn ≡ n → current_of n (s ∷ ended) ≡ s ∷ current_of n ended
first_current n s ended e = rw (e, same_number n) refl

others_current : (n : ℕ) (s : Seen) (ended : List Seen) → s.conn ≡ n → OthersStay n ended (s ∷ ended)
others_current n s ended e = λ k ne. rw (e, other_number k n ne) refl

pub others_stay : {S : Type 0} (n : ℕ) (reason : Reason) (p : Place S) (ended : List Seen)
    → OthersStay n ended (with_place n reason p ended)
others_stay n reason Free ended = λ k ne. refl
others_stay n reason (Open l) ended = others_current n (current n l.socket reason) ended refl

-- what is quietly ended has written all, and what was late was at what it is said to
abbrev IfWhole : Reason → Joint → Type 0
IfWhole reason j = IsWholeReply reason → j.output ≡ []

abbrev IfLate : Reason → Joint → Type 0
IfLate Why.Closed j = Unit {0}
IfLate (Why.Lost gone) j = IsLateIn gone j
IfLate Why.Over j = Unit {0}

before_reply : (at next : At) (output : List ℕ) → at ≡ at_while output next → IsBeforeReply at → output ≡ []
before_reply at next [] is before = refl
before_reply at next (b ∷ output) is before = absurd (rw is at before)

all_written : (gone : Gone) (j : Joint) → IsLateIn gone j → IsQuietly gone → j.output ≡ []
all_written lost.Ended j late quiet = absurd quiet
all_written (lost.Failed kind) j late quiet = absurd quiet
all_written lost.Stuck j late quiet = absurd quiet
all_written (lost.Late stay) j late quiet = before_reply stay.at j.at j.output late quiet

if_whole : {S : Type 0} (reason : Reason) (l : Link S) → MayEnd reason (Open l) → IfWhole reason (joint_of l)
if_whole Why.Closed l may = absurd may
if_whole (Why.Lost gone) l may = all_written gone (joint_of l) may
if_whole Why.Over l may = λ whole. absurd whole

if_late : {S : Type 0} (reason : Reason) (l : Link S) → MayEnd reason (Open l) → IfLate reason (joint_of l)
if_late Why.Closed l may = tt
if_late (Why.Lost gone) l may = may
if_late Why.Over l may = tt

-- what it was at, by the bytes that still waited
at_held : (at next : At) (said : Option session.At) (went output gave : List ℕ) → at ≡ at_while output next
    → IsAt next said → went ++ output ≡ gave → IsAt at said ⊎ ((at ≡ Reply) × (went ≡ gave → ⊥))
at_held at next said went [] gave is held given = inl (rw is held)
at_held at next said went (b ∷ output) gave is held given = inr (
  is,
  λ all. absurd (omega (arith, ap length given, ap length all, length-append went (b ∷ output))),
)

not_closed : {S : Type 0} (reason : Reason) (p : Place S) → MayEnd reason p → reason ≡ Why.Closed → ⊥
not_closed reason p may e = grind arith

pub loosely : (current : List Seen) (cs : List Conversation) → Pairs sockets.Served current cs
    → Pairs sockets.Fits current cs
loosely [] [] p = tt {0}
loosely [] (c ∷ cs) p = p
loosely (s ∷ current) [] p = p
loosely (s ∷ current) (c ∷ cs) p = (p.0.fits, loosely current cs p.1)

gone_at : (gone : Gone) (j : Joint) (c : Conversation) → IsAt j.at c.at → j.went ++ j.output ≡ c.gave
    → IsLateIn gone j → IsGoneAt gone j.went c
gone_at lost.Ended j c is given late = tt
gone_at (lost.Failed kind) j c is given late = tt
gone_at lost.Stuck j c is given late = tt
gone_at (lost.Late stay) j c is given late = at_held stay.at j.at c.at j.went j.output c.gave late is given

late_at : (reason : Reason) (j : Joint) (c : Conversation) → IsAt j.at c.at → j.went ++ j.output ≡ c.gave
    → IfLate reason j → IsLateAt reason j.went c
late_at Why.Closed j c is given late = tt
late_at (Why.Lost gone) j c is given late = gone_at gone j c is given late
late_at Why.Over j c is given late = tt

module _ (sure : Bool) (ended : List Seen) (st : State) (past : List Marked) (n : ℕ) where
  all_went : (j : Joint) (is : Joins sure j (current_of n ended) st past n) → j.output ≡ [] → j.went ≡ is.latest.gave
  all_went j is none = sym (append-nil j.went) ∙ (ap (λ l. j.went ++ l) (sym none) ∙ is.given)

  fits : (latest : Latest) (spell : Spell) (reason : Reason) (j : Joint)
      (is : Joins sure j (current_of n ended) st past n)
      (c : Conversation) → c.took ≡ is.latest.took → c.gave ≡ is.latest.gave → c.at ≡ is.latest.at
      → (reason ≡ Why.Closed → c.disconnected ≡ false) → IfWhole reason j → IfLate reason j → FewWait j.output
      → sockets.Fits (current_at n j latest spell reason) c
  fits latest spell reason j is c took gave at connected whole late few = record {
    taken = (j.input, rw took is.taken, is.few);
    written = (j.output, rw gave (sym is.given), few);
    emptied = λ w. rw gave (all_went j is (whole w));
    connected = connected;
    late = late_at reason j c (rw at is.at) (rw gave is.given) late;
  }

  -- it was reported to the session that its client is gone
  reported_pairs : (latest : Latest) (spell : Spell) (reason : Reason) (m : Mark) (j : Joint) → IfWhole reason j
      → IfLate reason j → (reason ≡ Why.Closed → ⊥) → FewWait j.output → Joins sure j (current_of n ended) st past n
      → (cs : List Conversation) × AreTalks sure st ((Ended n, m) ∷ past) n cs
      × Pairs sockets.Served (current_of n (current_at n j latest spell reason ∷ ended)) cs
  reported_pairs latest spell reason m j whole late unclosed few is =
      let s = current_at n j latest spell reason in
      let served : sockets.Served s (hung_up is.latest) =
      record {
        fits = fits latest spell reason j is (hung_up is.latest) refl refl refl (λ e. absurd (unclosed e)) whole late
            few;
        whole = λ e. absurd (cc);
      } in (
        hung_up is.latest ∷ is.others,
        talks_here sure st past (Ended n) m (is.latest ∷ is.others) (step (history st past) (Ended n) m).outcome
            is.talks (gave_ended sure (history st past) n m),
        rw (first_current n s ended refl) (served, is.pairs),
      )

  reported_none : (answer : Result (Unit {0}) SessionError) → (answer ≡ Err (Stop DiskFault) → ⊥)
      → (history st ((Ended n, mark_of answer) ∷ past)).conns n ≡ None
  reported_none answer ok = grind (arith, ended_shuts, ended_lost)

  -- THE PLACE AFTER, as it is then
  pub reported_place : {S : Type 0} (reason : Reason) (p p' : Place S) (ended' : List Seen)
      (answer : Result (Unit {0}) SessionError)
      → p' ≡ Free → ended' ≡ with_place n reason p ended → MayEnd reason p → PlaceWaits p → (p ≡ Free → ⊥)
      → (answer ≡ Err (Stop DiskFault) → ⊥) → PlaceJoins sure p (current_of n ended) st past n
      → PlaceJoins sure p' (current_of n ended') st ((Ended n, mark_of answer) ∷ past) n
  reported_place reason Free p' ended' answer free with may few used ok is = absurd (used refl)
  reported_place reason (Open l) p' ended' answer free with may few used ok is =
      let all = reported_pairs l.socket.latest l.socket.spell reason (mark_of answer) (joint_of l)
      (if_whole reason l may) (if_late reason l may) (not_closed reason (Open l) may) few is in
      rw (free, with) (all.0, all.1, all.2, reported_none answer ok ∙ sym is.apart)

  pub fallen_place : {S : Type 0} (reason : Reason) (p p' : Place S) (ended' : List Seen) (m : Mark) → p' ≡ Free
      → ended' ≡ with_place n reason p ended → MayEnd reason p → PlaceWaits p → (p ≡ Free → ⊥)
      → PlaceJoins sure p (current_of n ended) st past n
      → PlaceFell sure p' (current_of n ended') st ((Ended n, m) ∷ past) n
  fallen_place reason Free p' ended' m free with may few used is = absurd (used refl)
  fallen_place reason (Open l) p' ended' m free with may few used is =
      rw (free, with) (reported_pairs l.socket.latest l.socket.spell reason m (joint_of l) (if_whole reason l may)
      (if_late reason l may) (not_closed reason (Open l) may) few is)

  -- WITHOUT A WORD to the session
  pub unreported_place : {S : Type 0} (p : Place S) → PlaceWaits p → PlaceFell sure p (current_of n ended) st past n
      → (cs : List Conversation) × AreTalks sure st past n cs
      × Pairs sockets.Fits (current_of n (with_place n Why.Over p ended)) cs
  unreported_place Free few is = (is.0, is.1, loosely (current_of n ended) is.0 is.2)
  unreported_place (Open l) few is = (
    is.latest ∷ is.others,
    is.talks,
    rw (first_current n (current n l.socket Why.Over) ended refl) (
      fits l.socket.latest l.socket.spell Why.Over (joint_of l) is is.latest refl refl refl (λ e. is.disconnected)
          (λ w. absurd w) tt few,
      loosely (current_of n ended) is.others is.pairs,
    ),
  )
