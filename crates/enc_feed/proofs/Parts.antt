-- A piece that is read part by part.
use Rattle.std.proofs.Common.{ℕ, ◌+◌, ◌-◌, ◌≡◌, ◌≤◌, List, Result, Ok, Err, false, sym}
use Rattle.std.proofs.Common.{◌∙◌, ap, subst, take, drop, length}
use Rattle.std.proofs.Common.{take-append-drop, IfErr, OnOk, IsErrAnd, length-drop, arith}
use Rattle.std.proofs.lemmas.List.{take_rest}
use Rattle.std.proofs.Math.Seq.{take-add}
use Rattle.enc_model.specs.Stream.{Handler, IsCalm, steps}
use Rattle.enc_model.specs.Sink.{Given, IsSink}
use Rattle.enc_feed.proofs.Feeding.{feed_begins, feed_more, state_more}
use Rattle.enc_model.proofs.Steps.{steps_none}

pub if_err : {X E : Type 0} (r : Result X E) (e : E) (P : E → Type 0) → IsErrAnd r (λ y. y ≡ e) → P e → IfErr r P
if_err (Ok v) e P i p = tt
if_err (Err v) e P i p = rw i p

module _ {S : Type 0} (h : Handler S) (calm : IsCalm h) where
  -- a part more of what is left after a place, taken or refused
  pub part_taken : {A E : Type 0} (takes : A → List ℕ → A → Type 0) (refuses : A → List ℕ → E → A → Type 0)
      (sink : IsSink takes refuses)
      (s next : S) (piece rest : List ℕ) (i n : ℕ) (a m c : A) → rest ≡ take (length piece - i) (drop i piece) →
      next ≡ (steps h false s (take i piece)).state → takes a (steps h false s (take i piece)).text m →
      takes m (steps h false next (take n rest)).text c → takes a (steps h false s (take (i + n) piece)).text c
  part_taken {A} {E} takes refuses sink s next piece rest i n a m c is e t g =
      let taken : Result ℕ E = Ok 0 in
      subst (λ p. takes a (steps h false s p).text c) (sym (take-add i n piece))
      (feed_more takes refuses sink h calm s next (take i piece) (take n (drop i piece)) a m c taken e t
      (subst (λ z. takes m (steps h false next (take n z)).text c) (is ∙ take_rest piece i) g))

  -- the rest after a place
  pub rest_given : {A X E : Type 0} (takes : A → List ℕ → A → Type 0) (refuses : A → List ℕ → E → A → Type 0)
      (sink : IsSink takes refuses)
      (s next : S) (piece rest : List ℕ) (i : ℕ) (a m c : A) (res : Result X E)
      → rest ≡ take (length piece - i) (drop i piece) →
      next ≡ (steps h false s (take i piece)).state → takes a (steps h false s (take i piece)).text m →
      Given takes refuses m (steps h false next rest).text c res → Given takes refuses a (steps h false s piece).text c
      res
  rest_given takes refuses sink s next piece rest i a m c res is e t g =
      subst (λ p. Given takes refuses a (steps h false s p).text c res) (take-append-drop i piece)
      (feed_more takes refuses sink h calm s next (take i piece) (drop i piece) a m c res e t
      (subst (λ z. Given takes refuses m (steps h false next z).text c res) (is ∙ take_rest piece i) g))

  pub part_refused : {A E : Type 0} (takes : A → List ℕ → A → Type 0) (refuses : A → List ℕ → E → A → Type 0)
      (sink : IsSink takes refuses)
      (s next : S) (piece rest : List ℕ) (i : ℕ) (a m c : A) (why : E) → rest ≡ take (length piece - i) (drop i piece) →
      next ≡ (steps h false s (take i piece)).state → takes a (steps h false s (take i piece)).text m →
      refuses m (steps h false next rest).text why c → refuses a (steps h false s piece).text why c
  part_refused {A} {E} takes refuses sink s next piece rest i a m c why is e t g =
      let refused : Result ℕ E = Err why in
      rest_given takes refuses sink s next piece rest i a m c refused is e t g

  pub rest_state : {X E : Type 0} (s next end : S) (piece rest : List ℕ) (i : ℕ) (res : Result X E)
      → rest ≡ take (length piece - i) (drop i piece) →
      next ≡ (steps h false s (take i piece)).state → OnOk res (end ≡ (steps h false next rest).state)
      → OnOk res (end ≡ (steps h false s piece).state)
  rest_state s next end piece rest i (Ok v) is e f =
      state_more h calm s next end (take i piece) (drop i piece) e
      (f ∙ ap (λ z. (steps h false next z).state) (is ∙ take_rest piece i))
      ∙ ap (λ p. (steps h false s p).state) (take-append-drop i piece)
  rest_state s next end piece rest i (Err v) is e f = tt

  pub part_state : (s next end : S) (piece rest : List ℕ) (i n : ℕ) → rest ≡ take (length piece - i) (drop i piece) →
      next ≡ (steps h false s (take i piece)).state → end ≡ (steps h false next (take n rest)).state →
      end ≡ (steps h false s (take (i + n) piece)).state
  part_state s next end piece rest i n is e f =
      state_more h calm s next end (take i piece) (take n (drop i piece)) e
      (f ∙ ap (λ z. (steps h false next (take n z)).state) (is ∙ take_rest piece i))
      ∙ ap (λ p. (steps h false s p).state) (sym (take-add i n piece))

-- how far a piece was read: what was taken of it, and the state there
pub record ReadTo {A S : Type 0} (takes : A → List ℕ → A → Type 0) (h : Handler S) (piece : List ℕ) (a : A) (s : S)
    (i : ℕ) (m : A) (next : S) : Type 0 where
  pub taken : takes a (steps h false s (take i piece)).text m
  pub state : next ≡ (steps h false s (take i piece)).state
  pub at : i ≤ length piece

module _ {A E S : Type 0} (takes : A → List ℕ → A → Type 0) (refuses : A → List ℕ → E → A → Type 0)
    (sink : IsSink takes refuses) (h : Handler S) (calm : IsCalm h) where
  pub read_begins : (piece : List ℕ) (a : A) (s : S) → ReadTo takes h piece a s 0 a s
  read_begins piece a s = record {
    taken = feed_begins takes refuses sink h calm s a;
    state = ap (λ run. run.state) (sym (steps_none h s));
    at = omega arith;
  }

  -- a part more
  pub read_more : (piece rest : List ℕ) (a m c : A) (s next end : S) (i n : ℕ)
      → rest ≡ take (length piece - i) (drop i piece) → ReadTo takes h piece a s i m next → n ≤ length rest
      → takes m (steps h false next (take n rest)).text c → end ≡ (steps h false next (take n rest)).state
      → ReadTo takes h piece a s (i + n) c end
  read_more piece rest a m c s next end i n is to few t e = record {
    taken = part_taken h calm takes refuses sink s next piece rest i n a m c is to.state to.taken t;
    state = part_state h calm s next end piece rest i n is to.state e;
    at = let long = ap length (is ∙ take_rest piece i) in let left = length-drop i piece in let before = to.at in
        omega (arith, few, long, left, before);
  }

  -- or the rest is refused
  pub read_refused : (piece rest : List ℕ) (a m c : A) (s next : S) (i : ℕ) (why : E)
      → rest ≡ take (length piece - i) (drop i piece) → ReadTo takes h piece a s i m next
      → refuses m (steps h false next rest).text why c → refuses a (steps h false s piece).text why c
  read_refused piece rest a m c s next i why is to r =
      part_refused h calm takes refuses sink s next piece rest i a m c why is to.state to.taken r
