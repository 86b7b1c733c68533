-- What a sink is given of two pieces.
use Rattle.std.proofs.Common.{ℕ, ◌≡◌, Bool, false, List, ◌++◌, Result, sym, subst, ◌∙◌, ap, IsErrAnd}
use Rattle.enc_model.specs.Decode.{Decoding, decoding}
use Rattle.enc_model.specs.Encode.{Tables}
use Rattle.enc_model.specs.Sink.{Given, IsSink}
use Rattle.enc_model.proofs.Pieces.{decoding_append}
use Rattle.enc_feed.proofs.Feeding.{given_then}
use Rattle.enc_model.proofs.Sinks.{given_err}

module _ {A E : Type 0} (takes : A → List ℕ → A → Type 0) (refuses : A → List ℕ → E → A → Type 0)
    (sink : IsSink takes refuses) (t : Tables) (ended : Bool) (s : Decoding) (prefix b piece : List ℕ) where
  -- the text of both
  text_both : prefix ≡ b →
      (decoding t false s prefix).text ++ (decoding t ended (decoding t false s prefix).state piece).text ≡ (decoding t
      ended s (b ++ piece)).text
  text_both eb = ap (λ z. z.text) (sym (decoding_append t ended s prefix piece))
      ∙ ap (λ z. (decoding t ended s (z ++ piece)).text) eb

  -- it took the first, and then what came
  pub given_both : {Y : Type 0} (d : Decoding) (a m c : A) (r : Result Y E) → prefix ≡ b
      → takes a (decoding t false s prefix).text m → d ≡ (decoding t false s prefix).state →
      Given takes refuses m (decoding t ended d piece).text c r → Given takes refuses a
      (decoding t ended s (b ++ piece)).text c r
  given_both d a m c r eb p ed q =
      let first = decoding t false s prefix in
      let q2 = subst (λ z. Given takes refuses m (decoding t ended z piece).text c r) ed q in
      subst (λ z. Given takes refuses a z c r) (text_both eb)
      (given_then takes refuses sink a m c first.text (decoding t ended first.state piece).text r p q2)

  -- it refused some of the first
  pub given_refused : {Y : Type 0} (a m : A) (e : E) (r : Result Y E) → IsErrAnd r (λ z. z ≡ e) → prefix ≡ b
      → refuses a (decoding t false s prefix).text e m →
      Given takes refuses a (decoding t ended s (b ++ piece)).text m r
  given_refused a m e r i eb p =
      let first = decoding t false s prefix in
      let y = (decoding t ended first.state piece).text in
      subst (λ z. Given takes refuses a z m r) (text_both eb)
      (given_err takes refuses a m (first.text ++ y) r e i (sink.more a m first.text y e p))

pub state_both : (t : Tables) (s d end : Decoding) (prefix b piece : List ℕ) → prefix ≡ b →
    d ≡ (decoding t false s prefix).state → end ≡ (decoding t false d piece).state
    → end ≡ (decoding t false s (b ++ piece)).state
state_both t s d end prefix b piece eb ed e =
    e ∙ ap (λ z. (decoding t false z piece).state) ed ∙ ap (λ z. z.state) (sym (decoding_append t false s prefix piece))
    ∙ ap (λ z. (decoding t false s (z ++ piece)).state) eb
