-- A transcoder that takes more bytes still does after a piece.
use Rattle.std.proofs.Common.{◌≡◌, ◌||◌, ◌++◌, Bool, true, false, List, ℕ, refl, subst, sym, ◌∙◌, ap}
use Rattle.enc_model.specs.declared.Encoding.{Encoding}
use Rattle.enc_model.specs.Decode.{Decoded, Held, Reading, decoded}
use Rattle.enc_model.specs.Encode.{Tables}
use Rattle.enc_model.specs.Transcode.{Phase, Before, During, Over, fed_text, phase_of}
use Rattle.enc_stream.specs.TranscoderState.{TranscoderState, is_done, is_phase_over, stepped_on}

phase_open : (d : Decoded) → is_phase_over (phase_of d) ≡ false
phase_open (Held b) = refl
phase_open (Reading r) = refl

still_open : (t : Tables) (e : Encoding) (p : Phase) (piece : List ℕ) → is_phase_over p ≡ false
    → is_phase_over (fed_text t e p piece).phase ≡ false
unfolding fed_text
still_open t e (Before b) piece more = phase_open (decoded t e (b ++ piece) false)
still_open t e (During s) piece more = refl
still_open t e Over piece more = absurd cc

not_over : (spent over : Bool) → (spent || over) ≡ false → over ≡ false
not_over true over more = absurd cc
not_over false over more = more

pub steps_on : (t : Tables) (s next : TranscoderState) (piece : List ℕ) → is_done s ≡ false
    → next ≡ stepped_on t s piece → is_done next ≡ false
steps_on t s next piece more is = ap is_done is ∙ still_open t s.transcoder.from s.transcoder.phase piece
    (not_over s.spent (is_phase_over s.transcoder.phase) more)
