-- What is read at the start of a piece: a text, or a byte.
use Rattle.std.proofs.Common.{ℕ, ◌≤◌, ◌≡◌, List, false, refl, sym, ◌∙◌, ap, subst}
use Rattle.std.proofs.Common.{take, length, arith}
use Rattle.std.proofs.lemmas.List.{length-take}
use Rattle.std.specs.Str.{IsUtf8, chars}
use Rattle.enc_feed.specs.Batches.{BatchTook}
use Rattle.enc_model.specs.Stream.{DecoderRun, steps}
use Rattle.enc_model.specs.Sink.{IsSink}
use Rattle.enc_model.specs.Utf8.{Utf8, utf8, utf8_start}
use Rattle.enc_model.proofs.Texts.{utf8_text}
use Rattle.enc_unicode.specs.Utf8State.{IsUtf8State}

-- where no byte is needed it is at a character's start
pub at_start : (needed lower upper point current : ℕ) (partial : List ℕ) (s : Utf8) → ◌≡◌ {A = Utf8} (record {
  needed = needed;
  lower = lower;
  upper = upper;
  point = point;
  partial = take current partial;
}) s → IsUtf8State needed lower upper point current → needed ≡ 0 → s ≡ utf8_start
at_start needed lower upper point current partial s view is none =
    let p = is.none none in sym view ∙ (rw (none, p.0, p.1, p.2, p.3) refl)

-- the steps over a text that a piece begins with
pub text_steps : (s : Utf8) (rest text : List ℕ) → s ≡ utf8_start → IsUtf8 text → text ≡ take (length text) rest →
    steps utf8 false s (take (length text) rest) ≡ record { text = chars text; state = utf8_start }
text_steps s rest text e u is =
    ap (λ z. steps utf8 false z (take (length text) rest)) e ∙ ap (steps utf8 false utf8_start) (sym is)
    ∙ utf8_text text u

pub text_refused : {A E : Type 0} (refuses : A → List ℕ → E → A → Type 0) (s : Utf8) (rest text : List ℕ) (a b : A)
    (why : E) → s ≡ utf8_start → IsUtf8 text → text ≡ take (length text) rest →
    refuses a (chars text) why b → refuses a (steps utf8 false s (take (length text) rest)).text why b
text_refused refuses s rest text a b why e u is t =
    subst (λ run. refuses a run.text why b) (sym (text_steps s rest text e u is)) t

module _ {A E : Type 0} (takes : A → List ℕ → A → Type 0) (refuses : A → List ℕ → E → A → Type 0)
    (sink : IsSink takes refuses) where
  pub text_taken : (s : Utf8) (rest text : List ℕ) (a b : A) → s ≡ utf8_start → IsUtf8 text
      → text ≡ take (length text) rest →
      takes a (chars text) b → takes a (steps utf8 false s (take (length text) rest)).text b
  text_taken s rest text a b e u is t = subst (λ run. takes a run.text b) (sym (text_steps s rest text e u is)) t

-- a batch that took a text
pub text_gathered : (s : Utf8) (rest text old new : List ℕ) → s ≡ utf8_start → IsUtf8 text
    → text ≡ take (length text) rest →
    BatchTook old (chars text) new → BatchTook old (steps utf8 false s (take (length text) rest)).text new
text_gathered s rest text old new e u is t =
    subst (λ run. BatchTook old run.text new) (sym (text_steps s rest text e u is)) t

pub text_state : (s : Utf8) (rest text : List ℕ) → s ≡ utf8_start → IsUtf8 text → text ≡ take (length text) rest →
    s ≡ (steps utf8 false s (take (length text) rest)).state
text_state s rest text e u is = e ∙ sym (ap (λ (z : DecoderRun Utf8). z.state) (text_steps s rest text e u is))

-- a text at the start of what is left is within it
pub text_within_rest : (rest text : List ℕ) → text ≡ take (length text) rest → length text ≤ length rest
text_within_rest rest text is =
    let short = ap length is ∙ length-take (length text) rest in omega (arith, short)
