-- What a sink is given by the steps of a calm handler, part by part.
use Rattle.std.proofs.Common.{ℕ, suc, ◌≡◌, true, false, List, [], ◌∷◌, ◌++◌, Result, Ok, Err, Some, None, refl, sym}
use Rattle.std.proofs.Common.{◌∙◌, ap, subst, take, length, ◌+◌, ◌<◌, get_or, IsErr, IsErrAnd, OnOk, drop}
use Rattle.std.proofs.Common.{take-append-drop}
use Rattle.std.proofs.lemmas.List.{take_more}
use Rattle.enc_model.specs.declared.Answer.{Answer}
use Rattle.enc_model.specs.declared.Answer.TheVariants.{Finished}
use Rattle.enc_model.specs.Stream.{HandlerStep, Handler, DecoderRun, points_of, text_then, steps, all_bytes, quick}
use Rattle.enc_model.specs.Stream.{end_to, run_to_end, IsCalm}
use Rattle.enc_model.specs.Sink.{Given, IsSink}
use Rattle.enc_model.proofs.Steps.{steps_none, steps_one, steps_append, steps_end}

module _ {A E : Type 0} (takes : A → List ℕ → A → Type 0) (refuses : A → List ℕ → E → A → Type 0)
    (sink : IsSink takes refuses) where
  pub given_then : {X : Type 0} (a b c : A) (x y : List ℕ) (res : Result X E) → takes a x b
      → Given takes refuses b y c res → Given takes refuses a (x ++ y) c res
  given_then a b c x y (Ok r) t g = sink.both a b c x y t g
  given_then a b c x y (Err e) t g = sink.later a b c x y e t g

module _ {S : Type 0} (h : Handler S) where
  end_case : (k : ℕ) (t : HandlerStep S) (a : Answer) → (a ≡ Finished → ⊥) →
      (elim a as (λ _. DecoderRun S) [
        | Finished ↦ record { text = []; state = t.state }
        | _ ↦ let r = all_bytes (quick h) t.state t.restored in text_then (points_of t.answer ++ r.text)
            (end_to k h r.state)
      ])
      ≡ (let r = all_bytes (quick h) t.state t.restored in text_then (points_of t.answer ++ r.text)
      (end_to k h r.state))
  end_case k t Finished n = absurd (n refl)
  end_case k t _ n = refl

  -- an answer at the end that isn't the last
  end_is : (d k : ℕ) (s : S) (answer : Answer) (r : List ℕ) (next : S) → d ≡ suc k → (answer ≡ Finished → ⊥) →
      answer ≡ (h s None).answer → r ≡ (h s None).restored → next ≡ (h s None).state →
      end_to d h s ≡ (let run = all_bytes (quick h) next r in text_then (points_of answer ++ run.text)
      (end_to k h run.state))
  end_is d k s answer r next ed n ea er en =
      let t = h s None in
      ap (λ z. end_to z h s) ed
      ∙ end_case k t t.answer (λ f. n (ea ∙ f))
      ∙ ap (λ z. let run = all_bytes (quick h) t.state z in text_then (points_of t.answer ++ run.text)
      (end_to k h run.state))
      (sym er)
      ∙ ap (λ z. let run = all_bytes (quick h) z r in text_then (points_of t.answer ++ run.text)
      (end_to k h run.state)) (sym en)
      ∙ ap (λ z. let run = all_bytes (quick h) next r in text_then (points_of z ++ run.text) (end_to k h run.state))
      (sym ea)

  -- what was given up to there, and what comes then
  pub end_given : {A X E : Type 0} (takes : A → List ℕ → A → Type 0) (refuses : A → List ℕ → E → A → Type 0)
      (sink : IsSink takes refuses)
      (d k : ℕ) (s : S) (answer : Answer) (r : List ℕ) (next mid : S) (a b m c : A) (res : Result X E) →
      d ≡ suc k → (answer ≡ Finished → ⊥) → answer ≡ (h s None).answer → r ≡ (h s None).restored
      → next ≡ (h s None).state →
      mid ≡ (all_bytes (quick h) next r).state →
      takes a (points_of answer) b → takes b (all_bytes (quick h) next r).text m
      → Given takes refuses m (end_to k h mid).text c res →
      Given takes refuses a (end_to d h s).text c res
  end_given takes refuses sink d k s answer r next mid a b m c res ed n ea er en em t u g =
      let run = all_bytes (quick h) next r in
      subst (λ z. Given takes refuses a z.text c res) (sym (end_is d k s answer r next ed n ea er en))
      (given_then takes refuses sink a m c (points_of answer ++ run.text) (end_to k h run.state).text res
      (sink.both a b m (points_of answer) run.text t u)
      (subst (λ z. Given takes refuses m (end_to k h z).text c res) em g))

  -- a refusal up to there
  pub end_refused : {A E : Type 0} (takes : A → List ℕ → A → Type 0) (refuses : A → List ℕ → E → A → Type 0)
      (sink : IsSink takes refuses)
      (d k : ℕ) (s : S) (answer : Answer) (r : List ℕ) (next : S) (a c : A) (e : E) →
      d ≡ suc k → (answer ≡ Finished → ⊥) → answer ≡ (h s None).answer → r ≡ (h s None).restored
      → next ≡ (h s None).state →
      refuses a (points_of answer ++ (all_bytes (quick h) next r).text) e c →
      refuses a (end_to d h s).text e c
  end_refused takes refuses sink d k s answer r next a c e ed n ea er en g =
      let run = all_bytes (quick h) next r in
      subst (λ z. refuses a z.text e c) (sym (end_is d k s answer r next ed n ea er en))
      (sink.more a c (points_of answer ++ run.text) (end_to k h run.state).text e g)

  pub end_state : {X E : Type 0} (d k : ℕ) (s : S) (answer : Answer) (r : List ℕ) (next mid end : S) (res : Result X E)
      →
      d ≡ suc k → (answer ≡ Finished → ⊥) → answer ≡ (h s None).answer → r ≡ (h s None).restored
      → next ≡ (h s None).state →
      mid ≡ (all_bytes (quick h) next r).state → OnOk res (end ≡ (end_to k h mid).state)
      → OnOk res (end ≡ (end_to d h s).state)
  end_state d k s answer r next mid end (Ok v) ed n ea er en em e =
      e ∙ ap (λ z. (end_to k h z).state) em ∙ ap (λ run. run.state) (sym (end_is d k s answer r next ed n ea er en))
  end_state d k s answer r next mid end (Err v) ed n ea er en em e = tt

module _ {A E : Type 0} (takes : A → List ℕ → A → Type 0) (refuses : A → List ℕ → E → A → Type 0)
    (sink : IsSink takes refuses) where
  module _ {S : Type 0} (h : Handler S) (calm : IsCalm h) where
    -- the answer was refused
    pub step_refused : (s : S) (b : ℕ) (answer : Answer) (a c : A) (e : E) → answer ≡ (h s (Some b)).answer
        → refuses a (points_of answer) e c →
        refuses a (steps h false s (b ∷ [])).text e c
    step_refused s b answer a c e i r =
        let t = h s (Some b) in
        let n = sink.more a c (points_of t.answer) (all_bytes (quick h) t.state t.restored).text e
        (subst (λ z. refuses a (points_of z) e c) i r) in
        subst (λ run. refuses a run.text e c) (sym (steps_one h calm s b)) n

    -- the answer was taken, and then what the restored bytes give
    pub step_rest : {X : Type 0} (s : S) (b : ℕ) (answer : Answer) (r : List ℕ) (next : S) (a m c : A)
        (res : Result X E) →
        answer ≡ (h s (Some b)).answer → r ≡ (h s (Some b)).restored → next ≡ (h s (Some b)).state →
        takes a (points_of answer) m → Given takes refuses m (all_bytes (quick h) next r).text c res →
        Given takes refuses a (steps h false s (b ∷ [])).text c res
    step_rest s b answer r next a m c res ea er en t g =
        let u = h s (Some b) in
        let g2 = subst (λ z. Given takes refuses m (all_bytes (quick h) z r).text c res) en g in
        let g3 = subst (λ z. Given takes refuses m (all_bytes (quick h) u.state z).text c res) er g2 in
        let n = given_then takes refuses sink a m c (points_of u.answer) (all_bytes (quick h) u.state u.restored).text
        res
        (subst (λ z. takes a (points_of z) m) ea t) g3 in
        subst (λ run. Given takes refuses a run.text c res) (sym (steps_one h calm s b)) n

    -- one piece more
    pub feed_more : {X : Type 0} (s next : S) (p q : List ℕ) (a m c : A) (res : Result X E)
        → next ≡ (steps h false s p).state →
        takes a (steps h false s p).text m → Given takes refuses m (steps h false next q).text c res →
        Given takes refuses a (steps h false s (p ++ q)).text c res
    feed_more s next p q a m c res e t g =
        let first = steps h false s p in
        let n = given_then takes refuses sink a m c first.text (steps h false first.state q).text res t
        (subst (λ z. Given takes refuses m (steps h false z q).text c res) e g) in
        subst (λ run. Given takes refuses a run.text c res) (sym (steps_append h calm false s p q)) n

    -- the loop over a piece begins
    pub feed_begins : (s : S) (a : A) → takes a (steps h false s []).text a
    feed_begins s a = subst (λ run. takes a run.text a) (sym (steps_none h s)) (sink.none a)

    -- one byte more
    pub feed_byte : {X : Type 0} (s next : S) (piece : List ℕ) (i : ℕ) (a m c : A) (res : Result X E) → i < length piece
        →
        next ≡ (steps h false s (take i piece)).state → takes a (steps h false s (take i piece)).text m →
        Given takes refuses m (steps h false next (get_or piece i 0 ∷ [])).text c res →
        Given takes refuses a (steps h false s (take (i + 1) piece)).text c res
    feed_byte s next piece i a m c res l e t g =
        subst (λ p. Given takes refuses a (steps h false s p).text c res) (sym (take_more piece i 0 l))
        (feed_more s next (take i piece) (get_or piece i 0 ∷ []) a m c res e t g)

    -- a refusal within a piece
    pub feed_refused : (s : S) (piece : List ℕ) (i : ℕ) (a c : A) (e : E)
        → refuses a (steps h false s (take i piece)).text e c →
        refuses a (steps h false s piece).text e c
    feed_refused s piece i a c e r =
        let first = steps h false s (take i piece) in
        let n = sink.more a c first.text (steps h false first.state (drop i piece)).text e r in
        let n2 = subst (λ run. refuses a run.text e c) (sym (steps_append h calm false s (take i piece) (drop i piece)))
        n in
        subst (λ p. refuses a (steps h false s p).text e c) (take-append-drop i piece) n2

module _ {S : Type 0} (h : Handler S) (calm : IsCalm h) where
  pub state_more : (s next end : S) (p q : List ℕ) → next ≡ (steps h false s p).state
      → end ≡ (steps h false next q).state →
      end ≡ (steps h false s (p ++ q)).state
  state_more s next end p q e f =
      f ∙ ap (λ z. (steps h false z q).state) e ∙ ap (λ run. run.state) (sym (steps_append h calm false s p q))

  pub step_over : {X E : Type 0} (s : S) (b : ℕ) (r : List ℕ) (next end : S) (res : Result X E) →
      r ≡ (h s (Some b)).restored → next ≡ (h s (Some b)).state →
      OnOk res (end ≡ (all_bytes (quick h) next r).state) → OnOk res (end ≡ (steps h false s (b ∷ [])).state)
  step_over s b r next end (Ok v) er en e =
      let u = h s (Some b) in
      e ∙ ap (λ z. (all_bytes (quick h) z r).state) en ∙ ap (λ z. (all_bytes (quick h) u.state z).state) er
      ∙ ap (λ run. run.state) (sym (steps_one h calm s b))
  step_over s b r next end (Err v) er en e = tt

  pub state_byte : (s next end : S) (piece : List ℕ) (i : ℕ) → i < length piece
      → next ≡ (steps h false s (take i piece)).state →
      end ≡ (steps h false next (get_or piece i 0 ∷ [])).state → end ≡ (steps h false s (take (i + 1) piece)).state
  state_byte s next end piece i l e f =
      state_more s next end (take i piece) (get_or piece i 0 ∷ []) e f ∙ ap (λ p. (steps h false s p).state)
      (sym (take_more piece i 0 l))

  pub end_over : {X E : Type 0} (s end : S) (res : Result X E) → OnOk res (end ≡ (run_to_end h s).state)
      → OnOk res (end ≡ (steps h true s []).state)
  end_over s end (Ok v) e = e ∙ ap (λ run. run.state) (sym (steps_end h calm s))
  end_over s end (Err v) e = tt

pub on_ok_err : {X E : Type 0} (r : Result X E) (P : Type 0) → IsErr r → OnOk r P
on_ok_err (Ok v) P e = cc
on_ok_err (Err v) P e = tt
