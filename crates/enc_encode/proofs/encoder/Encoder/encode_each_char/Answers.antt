use Rattle.std.proofs.Common.{IfSome, ap, subst}
use Rattle.enc_model.specs.Encode.{encoder}
use Rattle.enc_model.specs.Indexes.{tables}
use Rattle.enc_encode.specs.Singles.{AreSingles}
use Rattle.enc_encode.specs.State.{EncoderState}
use Rattle.enc_encode.proofs.Singles.{single_is, singles_found}
use Rattle.enc_encode.proofs.encoder.Encoder.encode_each_char.Goals as goal

pub returns-in-Utf8 : goal.returns-in-Utf8
returns-in-Utf8 c = c.encode_utf8.ensures (tables c.args.set.now)

pub encode_chars-requires-in_default : goal.encode_chars-requires-in_default
encode_chars-requires-in_default c =
    let t = tables c.args.set.now in
    let to = c.self.inside.to in
    let other = c.in_default in
    let is = single_is t to other.not-Utf8 other.not-Utf16Be other.not-Utf16Le other.not-ShiftJis other.not-EucJp
    other.not-Iso2022Jp in
    let found = c.pointers-singles.ensures in
    let same = ap (λ (e : EncoderState). e.to) c.self.view_is in record {
      own = record {
        shift_jis = λ e. absurd cc;
        euc_jp = λ e. absurd cc;
        iso_2022_jp = λ e. absurd cc;
      };
      singles = subst (λ z. IfSome c.pointers-singles.result (λ p. AreSingles (encoder t z) p.now)) same
          (singles_found t to c.pointers-singles.result is found.value);
      few = found.bounded;
    }
