-- What serving did, after one call of the session more.
use Rattle.std.proofs.Common.{◌≡◌, ◌↔◌, ℕ, Bool, false, true, List, ◌∷◌, Result, Ok, Err, inr, refl, subst}
use Rattle.std.specs.Prelude.{IsErr, IsErrOf}
use Rattle.common.specs.declared.stop.DiskFault.{DiskFault}
use Rattle.upload_rules.specs.Answers.{Among, Limits}
use Rattle.upload_rules.specs.Store.{Store}
use Rattle.tus_session.specs.History.{State, Event, Marked, Failed, step, history}
use Rattle.tus_session.specs.declared.errors.SessionError.{SessionError}
use Rattle.tus_session.specs.declared.errors.SessionError.TheVariants as errors
use Rattle.common.specs.declared.stop.Stop.TheVariants as stops
use Rattle.tus_session.specs.Connections.{Falls, mark_of, UnlessFailed}
use Rattle.tus_session.specs.Images.{shown_by}
use Rattle.tus_session.specs.declared.connections.Connections.{Ghosts}
use Rattle.tus_session.proofs.Images.{limits_step, last_step}
use Rattle.gateway_serve.specs.Served.{WentOn, ServesPart}
use Rattle.gateway_serve.specs.Joined.{Alone}
use Rattle.gateway_serve.proofs.Talks.{alone_then}

-- of connections that are known to be over an honest disk
pub surely : {C : Type 0} {c : Ghosts C} {sure : Bool} {before now : C} {st : State} {past : List Marked}
    → WentOn c sure before now st past → sure ≡ true → c.represents now true (history st past)
surely {c = c} {now = now} {st = st} {past = past} went known =
    subst (λ b. c.represents now b (history st past)) known went.represents

-- serving goes on after every answer but the disk fault
abbrev pub GoesOn : {T U : Type 0} → Result T SessionError → Result U DiskFault → Type 0
GoesOn answer reported = IsErr reported ↔ IsErrOf answer (errors.Stop stops.DiskFault)

abbrev pub Faults : {T : Type 0} → Result T SessionError → Type 0
Faults answer = IsErrOf answer (errors.Stop stops.DiskFault)

module _ {C : Type 0} (c : Ghosts C) (sure : Bool) (before old now : C) (st : State) (past : List Marked) (e : Event)
    (w : WentOn c sure before old st past)
    (durable : sure ≡ true → (ms : List Store) → Among (history st past).world.store ms
    → c.left_only old (history st past).world.blocks (c.moment old) ms) where
  -- what images may show after a call that answered so
  abbrev pub Leaves : {T : Type 0} → Result T SessionError → Type 0
  Leaves answer = sure ≡ true → Limits (c.moment old) (c.moment now) (c.left_only old) (c.left_only now)
      (history st past).world.store
      (shown_by (history st past) e (mark_of answer))

  -- where the connections are after it
  abbrev pub IsAfterCall : {T : Type 0} → Result T SessionError → Type 0
  IsAfterCall answer = UnlessFailed answer (c.represents now sure (step (history st past) e (mark_of answer)).state)

  pub represents_still : {T : Type 0} (answer : Result T SessionError) → (Faults answer → ⊥) → IsAfterCall answer
      → c.represents now sure (step (history st past) e (mark_of answer)).state
  represents_still (Ok x) ok after_is = after_is
  represents_still (Err (errors.Stop stops.NoMemory)) ok after_is = after_is
  represents_still (Err errors.TooMany) ok after_is = after_is
  represents_still (Err errors.Closed) ok after_is = after_is
  represents_still (Err errors.Down) ok after_is = after_is
  represents_still (Err (errors.Stop stops.DiskFault)) ok after_is = absurd (ok refl)

  module _ (On Down : List Marked → Type 0) where
    pub served : {T U : Type 0} (answer : Result T SessionError) (reported : Result U DiskFault)
        → GoesOn answer reported
        → IsAfterCall answer → Leaves answer
        → Falls (c.down old) (c.down now) answer → ((Faults answer → ⊥) → On ((e, mark_of answer) ∷ past))
        → (Faults answer → Down ((e, mark_of answer) ∷ past)) → ServesPart c sure before now st reported On Down
    served answer (Ok y) same after_is leaves falls on down =
        let ok : Faults answer → ⊥ = λ f. let x : false ≡ true = same.1 f in absurd (cc) in (
          (e, mark_of answer) ∷ past,
          record {
            represents = represents_still answer ok after_is;
            images = λ known. limits_step st past e (mark_of answer) (w.images known) (leaves known);
          },
          on ok,
        )
    served answer (Err y) same after_is leaves falls on down =
        let f : answer ≡ Err (errors.Stop stops.DiskFault) = same.0 refl in
        let left = rw f at leaves in (
          past,
          e,
          record {
            images = λ known. limits_step st past e Failed (w.images known) (left known);
            last = λ known. last_step st past e Failed (durable known) (left known);
            down = falls.falls.1 (inr f);
          },
          rw f at (down f),
        )

-- what holds of the events after a part of serving, by what is promised of them
pub followed : {C T : Type 0} (c : Ghosts C) (sure : Bool) (before now : C) (st : State)
    (On Down On' Down' : List Marked → Type 0) (reported : Result T DiskFault)
    → ServesPart c sure before now st reported On Down
    → ((past : List Marked) → On past → On' past) → ((past : List Marked) → Down past → Down' past)
    → ServesPart c sure before now st reported On' Down'
followed c sure before now st On Down On' Down' (Ok x) s on down = (s.0, s.1, on s.0 s.2)
followed c sure before now st On Down On' Down' (Err y) s on down = (s.0, s.1, s.2, down _ s.3)

-- of one connection alone, after others of its events
pub alone_after : {C T : Type 0} (c : Ghosts C) (sure : Bool) (before now : C) (st : State) (n : ℕ)
    (past mid : List Marked)
    (On Down : List Marked → Type 0) (reported : Result T DiskFault) → Alone sure st n past mid
    → ServesPart c sure before now st reported (λ p. Alone sure st n mid p × On p) (λ p. Alone sure st n mid p × Down p)
    → ServesPart c sure before now st reported (λ p. Alone sure st n past p × On p) (λ p. Alone sure st n past p
    × Down p)
alone_after c sure before now st n past mid On Down reported first s =
    followed c sure before now st (λ p. Alone sure st n mid p × On p) (λ p. Alone sure st n mid p × Down p)
    (λ p. Alone sure st n past p × On p) (λ p. Alone sure st n past p × Down p) reported s
    (λ p x. (alone_then first x.0, x.1)) (λ p x. (alone_then first x.0, x.1))
