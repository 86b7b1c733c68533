-- Where the disk is known to be honest, the conversations are the history's own.
use Rattle.std.proofs.Common.{◌≡◌, ◌==◌, ℕ, Bool, true, false, List, [], ◌∷◌, ap, ◌∙◌, if◌then◌else◌}
use Rattle.tus_action.proofs.Pieces.{all_appended}
use Rattle.tus_session.specs.At.{at_in}
use Rattle.tus_session.specs.History.{State, Marked, Outcome, Gave, Done, Refused, step, history, conn_in}
use Rattle.gateway_serve.specs.Conversations.{Conversation, Either, GaveAs, AreTalks, goes_on, conversations}

known_gave : (outcome : Outcome) (text : List ℕ) (o : Outcome) → GaveAs true outcome text o → o ≡ outcome
known_gave (Gave bytes taken closes more) text o gave =
    gave.2 ∙ ap (λ b. Gave b taken closes more) (all_appended [] gave.0 bytes text gave.1)
known_gave Done text o gave = gave
known_gave (Refused f) text o gave = gave

module _ (st : State) (past : List Marked) (e : Marked) (n : ℕ) (cs : List Conversation)
    (before : (cs : List Conversation) → AreTalks true st past n cs → cs ≡ conversations st past n) where
  known_on : (b : Bool)
      → Either b ((earlier : List Conversation) × (o : Outcome) × AreTalks true st past n earlier
      × GaveAs true (step (history st past) e.0 e.1).outcome (step (history st past) e.0 e.1).text o
      × (cs ≡ goes_on e.0 o (at_in (step (history st past) e.0 e.1).state n) earlier)) (AreTalks true st past n cs)
      → cs ≡ (if b then goes_on e.0 (step (history st past) e.0 e.1).outcome
      (at_in (step (history st past) e.0 e.1).state n) (conversations st past n) else conversations st past n)
  known_on true is =
      let t = step (history st past) e.0 e.1 in
      is.4 ∙ (ap (goes_on e.0 is.1 (at_in t.state n)) (before is.0 is.2)
      ∙ ap (λ o. goes_on e.0 o (at_in t.state n) (conversations st past n))
      (known_gave t.outcome t.text is.1 is.3))
  known_on false is = before cs is

pub known : (st : State) (past : List Marked) (n : ℕ) (cs : List Conversation) → AreTalks true st past n cs
    → cs ≡ conversations st past n
unfolding conversations
known st [] n cs is = is
known st (e ∷ past) n cs is = known_on st past e n cs (known st past n) (n == conn_in e.0) is
