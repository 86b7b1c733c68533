-- What a connection is at, as the session says.
use Rattle.std.proofs.Common.{◌≡◌, ℕ, Bool, true, false, List, [], ◌∷◌, Option, Some, None, inl, inr, refl, sym, subst}
use Rattle.std.proofs.Common.{ap, if◌then◌else◌}
use Rattle.std.specs.declared.time.Duration.{Duration}
use Rattle.upload_rules.specs.World.{World}
use Rattle.tus_action.specs.Acts.{Giving, is_pending}
use Rattle.tus_session.specs.At.{at_end, at_in, at_text_or, at_unless_closed}
use Rattle.tus_session.specs.History.{State, Came, More, Served, Gave, has_text, is_closed, step, turned}
use Rattle.tus_session.specs.History as history
use Rattle.tus_session.specs.Streams.{Rest, InHead, InBody, cut}
use Rattle.tus_session.specs.Turns.{Conn, Turn, came_turn, more_turn, reader}
use Rattle.tus_session.specs.declared.answers.Answer.{Answer}
use Rattle.tus_session.specs.declared.at.At.TheVariants as said
use Rattle.gateway_serve.specs.Joined.{at_next, stage_by}
use Rattle.gateway_serve.specs.Requests as requests
use Rattle.gateway_serve.specs.Requests.{is_same, measured_anew, request_by, request_from, request_or, with_turn}
use Rattle.gateway_serve.specs.Sockets.{IsAt}
use Rattle.gateway_serve.specs.declared.requests.Part.{Part}
use Rattle.gateway_serve.specs.declared.requests.Part.TheVariants.{Head, Body}
use Rattle.gateway_serve.specs.declared.requests.Request.{Request}
use Rattle.gateway_serve.specs.declared.stages.Stage.{Stage}
use Rattle.gateway_serve.specs.declared.stages.Stage.TheVariants as stages
use Rattle.gateway_serve.proofs.Steps.{same_number}

-- THE PART that comes is that of which the session says that it comes
same_part : (p : Part) (r : Request) (part : Part) (now : Duration) → r.part ≡ p
    → (if is_same p part then r else request_from part now).part ≡ part
same_part Head r Head now e = e
same_part Head r Body now e = refl
same_part Body r Head now e = refl
same_part Body r Body now e = e

or_part : (request : Option Request) (part : Part) (now : Duration) → (request_or request part now).part ≡ part
or_part None part now = refl
or_part (Some r) part now = same_part r.part r part now refl

module _ (request : Option Request) (k : ℕ) (now : Duration) where
  ends_at : (rest : Rest)
      → IsAt (at_next stages.Taking (request_by request (Some (at_end rest)) k now)) (Some (at_end rest))
  ends_at (InHead []) = refl
  ends_at (InHead (b ∷ bs)) =
      subst (λ (p : Part). IsAt (requests.at_in p) (Some said.Head)) (sym (or_part request Head now)) refl
  ends_at (InBody asked) =
      subst (λ (p : Part). IsAt (requests.at_in p) (Some said.Body)) (sym (or_part request Body now)) refl

  -- or a text comes first
  pending_at : (rest : Rest) (pending : Option Giving) (closes more : Bool) → closes ≡ false
      → more ≡ is_pending pending
      → IsAt (at_next (if closes then stages.Closed else if more then stages.Giving else stages.Taking)
      (request_by request (Some (at_text_or (at_end rest) pending)) k now)) (Some (at_text_or (at_end rest) pending))
  pending_at rest None closes more e f = rw (e, f) (ends_at rest)
  pending_at rest (Some g) closes more e f = rw (e, f) (inl refl)

  -- or it is closed
  conn_at : (w : World) (conn : Option Conn) (closes more : Bool) → closes ≡ is_closed conn → more ≡ has_text conn
      → IsAt (at_next (if closes then stages.Closed else if more then stages.Giving else stages.Taking)
      (request_by request (at_unless_closed w conn) k now)) (at_unless_closed w conn)
  conn_at w None closes more e f = rw e (inr refl)
  conn_at w (Some c) closes more e f = pending_at (cut (reader w) c.stream).rest c.pending closes more e f

  -- AFTER AN ANSWER
  module _ (st : State) (n : ℕ) (a : Answer) (bytes : List ℕ) where
    turned_at : (t : Turn) → at_in (turned st n t).state n ≡ at_unless_closed t.world t.conn
    turned_at t = rw (same_number n) refl

    turned_is : (t : Turn) → (turned st n t).outcome ≡ Gave bytes a.taken a.closes a.more
        → IsAt (at_next (stage_by a) (request_by request (at_in (turned st n t).state n) k now))
        (at_in (turned st n t).state n)
    turned_is t same =
        let closes : a.closes ≡ is_closed t.conn = cc in
        let more : a.more ≡ has_text t.conn = cc in
        rw (turned_at t) (conn_at t.world t.conn a.closes a.more closes more)

    came_on_at : (conn : Option Conn) (piece : List ℕ)
        → (history.came_at st n piece conn).outcome ≡ Gave bytes a.taken a.closes a.more
        → IsAt (at_next (stage_by a) (request_by request (at_in (history.came_at st n piece conn).state n) k now))
        (at_in (history.came_at st n piece conn).state n)
    came_on_at None piece same = absurd (cc)
    came_on_at (Some c) piece same = turned_is (came_turn st.world c piece) same

    pub came_is_at : (piece : List ℕ) → (step st (Came n piece) Served).outcome ≡ Gave bytes a.taken a.closes a.more
        → IsAt (at_next (stage_by a) (request_by request (at_in (step st (Came n piece) Served).state n) k now))
        (at_in (step st (Came n piece) Served).state n)
    unfolding step
    came_is_at piece same = came_on_at (st.conns n) piece same

    more_on_at : (conn : Option Conn)
        → (history.more_at st n conn).outcome ≡ Gave bytes a.taken a.closes a.more
        → IsAt (at_next (stage_by a) (request_by request (at_in (history.more_at st n conn).state n) k now))
        (at_in (history.more_at st n conn).state n)
    more_on_at None same = absurd (cc)
    more_on_at (Some c) same = turned_is (more_turn st.world c) same

    pub more_is_at : (step st (More n) Served).outcome ≡ Gave bytes a.taken a.closes a.more
        → IsAt (at_next (stage_by a) (request_by request (at_in (step st (More n) Served).state n) k now))
        (at_in (step st (More n) Served).state n)
    unfolding step
    more_is_at same = more_on_at (st.conns n) same

-- a measured request still is of its part
either_part : (b : Bool) (r r' : Request) (part : Part) → r.part ≡ part → r'.part ≡ part
    → (if b then r else r').part ≡ part
either_part true r r' part e f = e
either_part false r r' part e f = f

pub measured_at : (stage : Stage) (r : Request) (now : Duration)
    → at_next stage (Some (measured_anew (with_turn r) now)) ≡ at_next stage (Some r)
measured_at stages.Taking r now =
    let same : (measured_anew (with_turn r) now).part ≡ r.part = either_part _ _ _ r.part refl refl in
    ap requests.at_in same
measured_at stages.Giving r now = refl
measured_at stages.Closed r now = refl
