-- The conversations after one event more.
use Rattle.std.proofs.Common.{◌≡◌, ◌+◌, ℕ, Bool, List, [], ◌∷◌, ◌++◌, refl}
use Rattle.std.proofs.Common.{◌∙◌, ap, arith}
use Rattle.tus_action.specs.Serves.{Appends}
use Rattle.tus_session.specs.At.{at_in}
use Rattle.tus_session.specs.History.{State, Event, Ended, Mark, Marked, conn_in, step}
use Rattle.tus_session.specs.History.{history, Outcome, Done, Refused}
use Rattle.tus_session.specs.declared.errors.SessionError.{SessionError}
use Rattle.gateway_serve.specs.Conversations.{Conversation, GaveAs, AreTalks, goes_on, one_if_refused}
use Rattle.gateway_serve.specs.Conversations.{count_refused}
use Rattle.gateway_serve.specs.Joined.{Alone}
use Rattle.gateway_serve.proofs.Steps.{same_number, other_number, step_else}

module _ (sure : Bool) (st : State) (past : List Marked) (e : Event) (m : Mark) where
  -- what its call gave goes on with what was there
  pub talks_here : (before : List Conversation) (o : Outcome) → AreTalks sure st past (conn_in e) before
      → GaveAs sure (step (history st past) e m).outcome (step (history st past) e m).text o
      → AreTalks sure st ((e, m) ∷ past) (conn_in e)
      (goes_on e o (at_in (step (history st past) e m).state (conn_in e)) before)
  talks_here before o talks gave = rw (same_number (conn_in e)) (before, o, talks, gave, refl)

  pub talks_else : (k : ℕ) → (k ≡ conn_in e → ⊥) → (cs : List Conversation) → AreTalks sure st past k cs
      → AreTalks sure st ((e, m) ∷ past) k cs
  talks_else k ne cs talks = rw (other_number k (conn_in e) ne) talks

  pub alone_step : one_if_refused e (step (history st past) e m).outcome ≡ 0
      → Alone sure st (conn_in e) past ((e, m) ∷ past)
  alone_step none = record {
    talks = talks_else;
    conns = λ k ne. step_else (history st past) k e m ne;
    refused = ap (λ n. n + count_refused st past) none ∙ omega arith;
  }

pub alone_then : {sure : Bool} {st : State} {n : ℕ} {a b c : List Marked} → Alone sure st n a b → Alone sure st n b c
    → Alone sure st n a c
alone_then x y = record {
  talks = λ k ne cs talks. y.talks k ne cs (x.talks k ne cs talks);
  conns = λ k ne. y.conns k ne ∙ x.conns k ne;
  refused = y.refused ∙ x.refused;
}

-- WHAT A CALL GAVE, where that is no bytes
pub gave_refused : (sure : Bool) (o : Outcome) (text : List ℕ) (f : SessionError) → o ≡ Refused f
    → GaveAs sure o text (Refused f)
gave_refused sure o text f is = rw is refl

pub gave_done : (sure : Bool) (o : Outcome) (text : List ℕ) → o ≡ Done → GaveAs sure o text Done
gave_done sure o text is = rw is refl

pub gave_ended : (sure : Bool) (st : State) (n : ℕ) (m : Mark) → GaveAs sure (step st (Ended n) m).outcome
    (step st (Ended n) m).text (step st (Ended n) m).outcome
unfolding step
gave_ended sure st n m = grind arith

-- the bytes that a call gave are put after what was there
pub given_of : (sure : Bool) (old new bytes text : List ℕ) → Appends sure old new bytes text
    → (given : List ℕ) × Appends sure [] given bytes text × (new ≡ old ++ given)
given_of sure old new bytes [] is = (bytes, refl, is)
given_of sure old new bytes (b ∷ text) is = (
  is.reply ++ is.piece,
  record { reply = is.reply; piece = is.piece; parts = is.parts; appended = refl; are = is.are },
  is.appended,
)
