-- What images may show after one event more.
use Rattle.std.proofs.Common.{ℕ, List, [], ◌∷◌, Option, inl, inr, refl, sym, subst, arith}
use Rattle.upload_rules.specs.Store.{Store}
use Rattle.upload_rules.specs.Answers.{Among, Limits}
use Rattle.tus_session.specs.History.{State, Event, Mark, Marked, Served, OutOfMemory, Failed, history}
use Rattle.tus_session.specs.Images.{shown_by, stores_of, last_stores, last_blocks, ShowsLast, AllAmong, LimitsTo}
use Rattle.tus_session.proofs.Unmade.{fault_same}

-- the uploads of the history are among those
among_last : (st : State) (past : List Marked) (ms : List Store) → AllAmong (stores_of st past) ms
    → Among (history st past).world.store ms
among_last st [] ms (here, others) = here
among_last st ((e, Served) ∷ past) ms (here, others) = here
among_last st ((e, OutOfMemory) ∷ past) ms (here, others) = here
among_last st ((e, Failed) ∷ past) ms (here, others) =
    subst (λ m. Among m ms) (sym (fault_same (history st past) e)) (among_last st past ms others)

module _ {m0 m1 m2 : ℕ} {l0 l1 l2 : Option ℕ → ℕ → List Store → Type 0} (st : State) (past : List Marked) where
  pub limits_step : (e : Event) (m : Mark) → LimitsTo m0 m1 l0 l1 (stores_of st past)
      → Limits m1 m2 l1 l2 (history st past).world.store (shown_by (history st past) e m)
      → LimitsTo m0 m2 l0 l2 (stores_of st ((e, m) ∷ past))
  limits_step e m a b = record {
    later = omega (arith, a.later, b.later);
    limits = λ n t ms le left among.
        b.limits n t ms (omega (arith, a.later)) (a.limits n t ms le left among.1) (among_last st past ms among.1)
        among.0;
  }

  pub limits_still : LimitsTo m0 m1 l0 l1 (stores_of st past) → Limits m1 m2 l1 l2 (history st past).world.store
      (history st past).world.store
      → LimitsTo m0 m2 l0 l2 (stores_of st past)
  limits_still a b = record {
    later = omega (arith, a.later, b.later);
    limits = λ n t ms le left among.
        let last = among_last st past ms among in
        b.limits n t ms (omega (arith, a.later)) (a.limits n t ms le left among) last last;
  }

-- after a call the latest uploads are those after it and those before it
pub last_step : {m1 m2 : ℕ} {l1 l2 : Option ℕ → ℕ → List Store → Type 0} (st : State) (past : List Marked) (e : Event)
    (m : Mark)
    → ((ms : List Store) → Among (history st past).world.store ms → l1 (history st past).world.blocks m1 ms)
    → Limits m1 m2 l1 l2 (history st past).world.store (shown_by (history st past) e m)
    → ShowsLast m2 l2 st ((e, m) ∷ past)
last_step {m1} {m2} {l1} {l2} st past e m durable leaves =
    let two : List Store = last_stores st ((e, m) ∷ past) in
    let n : Option ℕ = last_blocks st ((e, m) ∷ past) in
    record {
      since = m1;
      reached = leaves.later;
      left = leaves.limits n m1 two (omega arith) (durable two (inr (inl refl))) (inr (inl refl)) (inl refl);
    }

-- THE UPLOADS OF A HISTORY
more_among : (m : Store) (stores ms : List Store) → AllAmong stores ms → AllAmong stores (m ∷ ms)
more_among m [] ms all = tt {0}
more_among m (x ∷ stores) ms (here, others) = (inr here, more_among m stores ms others)

pub all_themselves : (stores : List Store) → AllAmong stores stores
all_themselves [] = tt {0}
all_themselves (m ∷ stores) = (inl refl, more_among m stores stores (all_themselves stores))

pub first_store : (st : State) (past : List Marked) → Among st.world.store (stores_of st past)
first_store st [] = inl refl
first_store st (e ∷ past) = inr (first_store st past)
