-- What held bytes and a piece are decoded to.
use Rattle.std.proofs.Common.{ℕ, ◌≡◌, true, false, List, [], ◌++◌, refl, ◌∙◌, ap}
use Rattle.enc_model.specs.declared.Encoding.{Encoding}
use Rattle.enc_model.specs.Encode.{Tables}
use Rattle.enc_model.specs.Decode.{Decoding, Reading, decoding, decoding_start, sniffed, undecided, decoded}
use Rattle.enc_model.specs.Transcode.{Before, During, fed_text, fed_of, fed_end}
use Rattle.enc_stream.specs.Sniff.{held_bytes}
use Rattle.enc_stream.specs.declared.sniff.Held.{Held}
use Rattle.enc_stream.specs.declared.sniff.Held.TheVariants.{Nothing, Ef, EfBb, Fe, Ff}
use Rattle.enc_model.proofs.Pieces.{decoded_held, decoded_reading}

-- while a BOM may still come, nothing
pub fed_held : (t : Tables) (e : Encoding) (held piece : List ℕ) → undecided (held ++ piece) ≡ true →
    fed_text t e (Before held) piece ≡ record { text = []; phase = Before (held ++ piece) }
unfolding fed_text
fed_held t e held piece h = ap fed_of (decoded_held t e (held ++ piece) h)

-- then what was sniffed
pub fed_sniffed : (t : Tables) (e in_effect : Encoding) (held piece rest : List ℕ) → undecided (held ++ piece) ≡ false
    → sniffed e (held ++ piece) ≡ (in_effect, rest) →
    fed_text t e (Before held) piece ≡ (let r = decoding t false (decoding_start in_effect) rest in record {
      text = r.text;
      phase = During r.state;
    })
unfolding fed_text
fed_sniffed t e in_effect held piece rest h s =
    ap fed_of (decoded_reading t e (held ++ piece) h ∙ ap (λ z. Reading (decoding t false (decoding_start z.0) z.1)) s)

pub fed_during : (t : Tables) (e : Encoding) (s : Decoding) (piece : List ℕ) → fed_text t e (During s) piece
    ≡ (let r = decoding t false s piece in record {
      text = r.text;
      phase = During r.state;
    })
unfolding fed_text
fed_during t e s piece = refl

-- at the end held bytes are no BOM
pub fed_end_held : (t : Tables) (e : Encoding) (held : Held) → fed_end t e
    (Before (held_bytes held)) ≡ (decoding t true (decoding_start e) (held_bytes held)).text
unfolding fed_end decoded
fed_end_held t e Nothing = refl
fed_end_held t e Ef = refl
fed_end_held t e EfBb = refl
fed_end_held t e Fe = refl
fed_end_held t e Ff = refl
