-- A socket and its connection stay joined.
use Rattle.std.proofs.Common.{◌≡◌, ◌≤◌, ℕ, length, arith, Bool, true, false, List, [], ◌∷◌, ◌++◌, take, drop, None}
use Rattle.std.proofs.Common.{Result, Ok, Err, inl, inr, refl, sym, ◌∙◌, ap, append_assoc}
use Rattle.std.proofs.Common.{if◌then◌else◌, Option}
use Rattle.std.proofs.lemmas.List.{take-append-drop, length-append}
use Rattle.tus_session.specs.History.{State, Event, Came, More, Mark, Marked, Served, OutOfMemory, Failed, Outcome}
use Rattle.tus_session.specs.History.{Gave, Refused, history, step}
use Rattle.tus_session.specs.declared.answers.Answer.{Answer}
use Rattle.tus_session.specs.declared.errors.SessionError.{SessionError}
use Rattle.tus_session.specs.declared.errors.SessionError.TheVariants.{Stop, TooMany, Closed, Down}
use Rattle.common.specs.declared.stop.Stop.TheVariants.{NoMemory, DiskFault}
use Rattle.tus_action.specs.Serves.{Appends}
use Rattle.tus_session.specs.Connections.{mark_of, outcome_of, Adds}
use Rattle.tus_session.specs.At.{at_in}
use Rattle.tus_session.specs.declared.at.At as session
use Rattle.gateway_serve.specs.Conversations.{Conversation, AreTalks, GaveAs, longer_conversation, refused_on}
use Rattle.gateway_serve.specs.declared.buffers.TheConstants.{PIECE}
use Rattle.gateway_serve.specs.declared.sockets.Seen.{Seen}
use Rattle.gateway_serve.specs.Joined.{Joint, Joins, MayWrite, at_next, is_last, stage_by, stage_after, wrote}
use Rattle.gateway_serve.specs.Joined.{taken_after}
use Rattle.gateway_serve.specs.Requests.{request_by}
use Rattle.gateway_serve.specs.Sockets.{IsAt}
use Rattle.gateway_serve.specs.declared.requests.Request.{Request}
use Rattle.gateway_serve.specs.declared.stays.At.{At}
use Rattle.gateway_serve.specs.declared.stays.At.TheVariants.{Reply}
use Rattle.std.specs.declared.time.Duration.{Duration}
use Rattle.gateway_serve.specs.declared.stages.Stage.{Stage}
use Rattle.gateway_serve.specs.declared.stages.Stage.TheVariants as stages
use Rattle.gateway_serve.proofs.Steps.{Shuts, came_shuts, came_lost, came_failed, more_shuts, more_lost, more_failed}
use Rattle.gateway_serve.proofs.Talks.{talks_here, gave_refused, given_of}
use Rattle.gateway_serve.proofs.Parts.{came_is_at, more_is_at}

shorter : (prefix rest all : List ℕ) → all ≡ prefix ++ rest → length all ≤ PIECE → length rest ≤ PIECE
shorter prefix rest all e few = omega (arith, ap length e, length-append prefix rest, few)

closing : (closes more : Bool)
    → is_last (if closes then stages.Closed else if more then stages.Giving else stages.Taking) ≡ true → closes ≡ true
closing closes more e = grind arith

-- an answer gave these bytes, as the history has them
gave_as : (sure : Bool) (a : Answer) (bytes given : List ℕ) (o : Outcome) (text : List ℕ)
    → o ≡ Gave bytes a.taken a.closes a.more → Appends sure [] given bytes text
    → GaveAs sure o text (Gave given a.taken a.closes a.more)
gave_as sure a bytes given o text is appends = rw is (given, appends, refl)

-- a refusal takes and gives nothing, and closes the connection unless the disk failed
kept_by : (f : SessionError) (c : Conversation) → ((refused_on f c).took ≡ c.took)
    × ((refused_on f c).gave ≡ c.gave) × ((refused_on f c).disconnected ≡ c.disconnected)
kept_by (Stop NoMemory) c = (refl, refl, refl)
kept_by (Stop DiskFault) c = (refl, refl, refl)
kept_by TooMany c = (refl, refl, refl)
kept_by Closed c = (refl, refl, refl)
kept_by Down c = (refl, refl, refl)

closed_by : (f : SessionError) (c : Conversation) → (f ≡ Stop DiskFault → ⊥) → IsAt Reply (refused_on f c).at
closed_by (Stop NoMemory) c ok = inr refl
closed_by (Stop DiskFault) c ok = absurd (ok refl)
closed_by TooMany c ok = inr refl
closed_by Closed c ok = inr refl
closed_by Down c ok = inr refl

module _ (sure : Bool) (ended : List Seen) (st : State) (past : List Marked) (n : ℕ) where
  -- the latest conversation went on, and those before are as they were
  pub moved : (j j' : Joint) (past' : List Marked) (latest : Conversation) (is : Joins sure j ended st past n)
      → AreTalks sure st past' n (latest ∷ is.others) → latest.disconnected ≡ false → j'.came ≡ latest.took ++ j'.input
      → length j'.input ≤ PIECE → j'.went ++ j'.output ≡ latest.gave → IsAt j'.at latest.at
      → (j'.closed ≡ true → (history st past').conns n ≡ None) → Joins sure j' ended st past' n
  moved j j' past' latest is talks disconnected taken few given at shut = record {
    latest = latest;
    others = is.others;
    talks = talks;
    disconnected = disconnected;
    taken = taken;
    few = few;
    given = given;
    at = at;
    pairs = is.pairs;
    shut = shut;
    apart = is.apart;
  }

  -- WRITING AND READING
  pub same_joins : (old new : Joint) → new ≡ old → Joins sure old ended st past n → Joins sure new ended st past n
  same_joins old new same is = rw same is

  pub written_joins : (old new : Joint) → MayWrite old new → Joins sure old ended st past n
      → Joins sure new ended st past n
  written_joins old new writes is = elim writes [
    | inl same ↦ same_joins old new same is
    | inr part ↦ rw part.1 (moved old (wrote part.0 old) past is.latest is is.talks is.disconnected is.taken is.few
        (append_assoc old.went (take part.0 old.output) (drop part.0 old.output)
        ∙ (ap (λ l. old.went ++ l) (take-append-drop part.0 old.output) ∙ is.given)) is.at is.shut)
  ]

  -- AN ANSWER. The bytes that it gave are put after the output, and those that were taken are taken from the input
  abbrev with_input : Joint → List ℕ → List ℕ → At → Bool → Joint
  with_input j input output at closed =
      record { came = j.came; went = j.went; input = input; output = output; at = at; closed = closed }

  -- the conversation goes on by so many bytes
  longer_joins : (e : Event) (m : Mark) (j : Joint) (took gave input output : List ℕ) (at : At)
      (said : Option session.At) (closed : Bool) (is : Joins sure j ended st past n)
      → AreTalks sure st ((e, m) ∷ past) n (longer_conversation is.latest took gave said ∷ is.others)
      → j.input ≡ took ++ input → output ≡ j.output ++ gave → IsAt at said
      → (closed ≡ true → (history st ((e, m) ∷ past)).conns n ≡ None)
      → Joins sure (with_input j input output at closed) ended st ((e, m) ∷ past) n
  longer_joins e m j took gave input output at said closed is talks taken given is_at shut =
      moved j (with_input j input output at closed) ((e, m) ∷ past) (longer_conversation is.latest took gave said) is
      talks is.disconnected
      (is.taken ∙ (ap (λ l. is.latest.took ++ l) taken ∙ sym (append_assoc is.latest.took took input)))
      (shorter took input j.input taken is.few)
      (ap (λ l. j.went ++ l) given ∙ (sym (append_assoc j.went j.output gave) ∙ ap (λ l. l ++ gave) is.given)) is_at
      shut

  -- a refusal leaves it as it is
  refused_joins : (e : Event) (m : Mark) (f : SessionError) (j : Joint) (output : List ℕ) (at : At) (closed : Bool)
      (is : Joins sure j ended st past n)
      → (GaveAs sure (step (history st past) e m).outcome (step (history st past) e m).text (Refused f)
      → AreTalks sure st ((e, m) ∷ past) n (refused_on f is.latest ∷ is.others))
      → (step (history st past) e m).outcome ≡ Refused f → output ≡ j.output → IsAt at (refused_on f is.latest).at
      → (closed ≡ true → (history st ((e, m) ∷ past)).conns n ≡ None)
      → Joins sure (with_input j j.input output at closed) ended st ((e, m) ∷ past) n
  refused_joins e m f j output at closed is talks same adds is_at shut =
      let kept = kept_by f is.latest in
      moved j (with_input j j.input output at closed) ((e, m) ∷ past) (refused_on f is.latest) is
      (talks (gave_refused sure _ _ f same)) (kept.2 ∙ is.disconnected)
      (is.taken ∙ ap (λ l. l ++ j.input) (sym kept.0)) is.few
      (ap (λ l. j.went ++ l) adds ∙ (is.given ∙ sym kept.1)) is_at shut

  -- what the session says after a call that it is at
  abbrev pub said_after : Event → Result Answer SessionError → Option session.At
  said_after e answer = at_in (step (history st past) e (mark_of answer)).state n

  -- the connection is closed after a refusal
  shut_after : (e : Event) (f : SessionError) → (f ≡ Stop DiskFault → ⊥)
      → (Shuts (step (history st past) e Served).outcome → (step (history st past) e Served).state.conns n ≡ None)
      → (step (history st past) e OutOfMemory).state.conns n ≡ None
      → (step (history st past) e (mark_of {T = Answer} (Err f))).outcome ≡ Refused f
      → (step (history st past) e (mark_of {T = Answer} (Err f))).state.conns n ≡ None
  shut_after e (Stop NoMemory) ok shuts lost same = lost
  shut_after e TooMany ok shuts lost same = shuts (rw same (tt {0}))
  shut_after e Closed ok shuts lost same = shuts (rw same (tt {0}))
  shut_after e Down ok shuts lost same = shuts (rw same (tt {0}))
  shut_after e (Stop DiskFault) ok shuts lost same = absurd (ok refl)

  -- bytes came, or the next piece of a text was asked for. The session is asked what the connection is at then
  module _ (was : Option Request) (k : ℕ) (now : Duration) where
    abbrev AskedAfter : Event → Result Answer SessionError → Option Request → Type 0
    AskedAfter e answer request = request ≡ request_by was (said_after e answer) k now

    came_joins : (answer : Result Answer SessionError) (bytes : List ℕ) (j : Joint) (output : List ℕ)
        (request : Option Request) → (answer ≡ Err (Stop DiskFault) → ⊥)
        → (step (history st past) (Came n j.input) (mark_of answer)).outcome ≡ outcome_of bytes answer
        → Adds sure answer bytes (step (history st past) (Came n j.input) (mark_of answer)).text j.output output
        → AskedAfter (Came n j.input) answer request → Joins sure j ended st past n
        → Joins sure (with_input j (drop (taken_after answer) j.input) output (at_next (stage_after answer) request)
        (is_last (stage_after answer))) ended st ((Came n j.input, mark_of answer) ∷ past) n
    came_joins (Ok a) bytes j output request ok same adds asked is =
        let given = given_of sure j.output output bytes _ adds in
        longer_joins (Came n j.input) Served j (take a.taken j.input) given.0 (drop a.taken j.input) output
        (at_next (stage_by a) request) (said_after (Came n j.input) (Ok a)) (is_last (stage_by a)) is
        (talks_here sure st past (Came n j.input) Served (is.latest ∷ is.others)
        (Gave given.0 a.taken a.closes a.more) is.talks (gave_as sure a bytes given.0 _ _ same given.1))
        (sym (take-append-drop a.taken j.input)) given.2
        (rw asked (came_is_at was k now (history st past) n a bytes j.input same))
        (λ e. came_shuts (history st past) n j.input (rw same (closing a.closes a.more e)))
    came_joins (Err f) bytes j output request ok same adds asked is =
        refused_joins (Came n j.input) (mark_of {T = Answer} (Err f)) f j output Reply true is (talks_here sure st past
        (Came n j.input) (mark_of {T = Answer} (Err f)) (is.latest ∷ is.others) (Refused f) is.talks) same adds
        (closed_by f is.latest (λ d. ok (ap Err d)))
        (λ e. shut_after (Came n j.input) f (λ d. ok (ap Err d)) (came_shuts (history st past) n j.input)
        (came_lost (history st past) n j.input) same)

    more_joins : (answer : Result Answer SessionError) (bytes : List ℕ) (j : Joint) (output : List ℕ)
        (request : Option Request) → (answer ≡ Err (Stop DiskFault) → ⊥)
        → (step (history st past) (More n) (mark_of answer)).outcome ≡ outcome_of bytes answer
        → Adds sure answer bytes (step (history st past) (More n) (mark_of answer)).text j.output output
        → AskedAfter (More n) answer request → Joins sure j ended st past n
        → Joins sure (with_input j j.input output (at_next (stage_after answer) request)
        (is_last (stage_after answer))) ended st ((More n, mark_of answer) ∷ past) n
    more_joins (Ok a) bytes j output request ok same adds asked is =
        let given = given_of sure j.output output bytes _ adds in
        longer_joins (More n) Served j [] given.0 j.input output (at_next (stage_by a) request)
        (said_after (More n) (Ok a)) (is_last (stage_by a)) is (talks_here sure st past
        (More n) Served (is.latest ∷ is.others) (Gave given.0 a.taken a.closes a.more) is.talks
        (gave_as sure a bytes given.0 _ _ same given.1)) refl given.2
        (rw asked (more_is_at was k now (history st past) n a bytes same))
        (λ e. more_shuts (history st past) n (rw same (closing a.closes a.more e)))
    more_joins (Err f) bytes j output request ok same adds asked is =
        refused_joins (More n) (mark_of {T = Answer} (Err f)) f j output Reply true is (talks_here sure st past (More n)
        (mark_of {T = Answer} (Err f)) (is.latest ∷ is.others) (Refused f) is.talks) same adds
        (closed_by f is.latest (λ d. ok (ap Err d)))
        (λ e. shut_after (More n) f (λ d. ok (ap Err d)) (more_shuts (history st past) n)
        (more_lost (history st past) n) same)

  -- THE LINK AFTER AN ANSWER, at the stage that follows it. What was given is what waits
  pub came_link : (was : Option Request) (now : Duration) (answer : Result Answer SessionError) (bytes : List ℕ)
      (j : Joint) (piece input output : List ℕ) (stage : Stage) (taken : ℕ) (said : Option session.At)
      (request : Option Request) → (answer ≡ Err (Stop DiskFault) → ⊥)
      → piece ≡ j.input → (step (history st past) (Came n piece) (mark_of answer)).outcome ≡ outcome_of bytes answer
      → Adds sure answer bytes (step (history st past) (Came n piece) (mark_of answer)).text j.output output
      → stage ≡ stage_after answer → taken ≡ taken_after answer → input ≡ drop taken j.input
      → said ≡ said_after (Came n piece) answer → request ≡ request_by was said taken now
      → Joins sure j ended st past n
      → Joins sure (with_input j input output (at_next stage request) (is_last stage)) ended st
      ((Came n piece, mark_of answer) ∷ past) n
  came_link was now answer bytes j piece input output stage taken said request ok whole same adds s k i hears asked is =
      rw (whole, s, i, k) (came_joins was taken now answer bytes j output request ok (rw whole at same)
      (rw whole at adds) (rw whole at (rw hears at asked)) is)

  -- the disk failed
  pub came_down : (answer : Result Answer SessionError) (bytes : List ℕ) (j : Joint) (piece output : List ℕ)
      → answer ≡ Err (Stop DiskFault) → piece ≡ j.input
      → (step (history st past) (Came n piece) (mark_of answer)).outcome ≡ outcome_of bytes answer
      → Adds sure answer bytes (step (history st past) (Came n piece) (mark_of answer)).text j.output output
      → Joins sure j ended st past n
      → Joins sure (with_input j j.input output j.at j.closed) ended st ((Came n piece, mark_of answer) ∷ past) n
  came_down answer bytes j piece output fails whole same adds is =
      rw (whole, fails) (refused_joins (Came n j.input) Failed (Stop DiskFault) j output j.at j.closed is
      (talks_here sure st past (Came n j.input) Failed (is.latest ∷ is.others) (Refused (Stop DiskFault)) is.talks)
      (rw (whole, fails) at same) (rw (whole, fails) at adds) is.at
      (λ e. came_failed (history st past) n j.input ∙ is.shut e))

  pub more_link : (was : Option Request) (now : Duration) (answer : Result Answer SessionError) (bytes : List ℕ)
      (j : Joint) (output : List ℕ) (stage : Stage) (taken : ℕ) (said : Option session.At) (request : Option Request)
      → (answer ≡ Err (Stop DiskFault) → ⊥)
      → (step (history st past) (More n) (mark_of answer)).outcome ≡ outcome_of bytes answer
      → Adds sure answer bytes (step (history st past) (More n) (mark_of answer)).text j.output output
      → stage ≡ stage_after answer → said ≡ said_after (More n) answer → request ≡ request_by was said taken now
      → Joins sure j ended st past n
      → Joins sure (with_input j j.input output (at_next stage request) (is_last stage)) ended st
      ((More n, mark_of answer) ∷ past) n
  more_link was now answer bytes j output stage taken said request ok same adds s hears asked is =
      rw s (more_joins was taken now answer bytes j output request ok same adds (rw hears at asked) is)

  pub more_fell : (answer : Result Answer SessionError) (bytes : List ℕ) (j : Joint) (output : List ℕ)
      → answer ≡ Err (Stop DiskFault)
      → (step (history st past) (More n) (mark_of answer)).outcome ≡ outcome_of bytes answer
      → Adds sure answer bytes (step (history st past) (More n) (mark_of answer)).text j.output output
      → Joins sure j ended st past n
      → Joins sure (with_input j j.input output j.at j.closed) ended st ((More n, mark_of answer) ∷ past) n
  more_fell answer bytes j output fails same adds is =
      rw fails (refused_joins (More n) Failed (Stop DiskFault) j output j.at j.closed is (talks_here sure st past
      (More n) Failed (is.latest ∷ is.others) (Refused (Stop DiskFault)) is.talks) (rw fails at same)
      (rw fails at adds) is.at (λ e. more_failed (history st past) n ∙ is.shut e))
