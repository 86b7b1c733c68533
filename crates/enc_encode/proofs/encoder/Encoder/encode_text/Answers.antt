use Rattle.std.proofs.Common.{subst, sym, ◌∙◌}
use Rattle.enc_model.proofs.Utf8Bytes.{ascii_chars}
use Rattle.enc_encode.specs.Reasons.{Gave}
use Rattle.enc_model.specs.Indexes.{tables}
use Rattle.enc_encode.specs.State.{code_from}
use Rattle.enc_encode.proofs.encoder.Encoder.encode_text.Goals as goal

pub returns-in-Utf8 : goal.returns-in-Utf8
returns-in-Utf8 c = c.encode_utf8.ensures (tables c.args.set.now)

pub returns-then-are_ascii : goal.returns-then-are_ascii
returns-then-are_ascii c =
    let run = c.args.run.now in
    let ascii = rw c.as_bytes.ensures.value at c.if-are_ascii.ensures in
    subst (λ z. Gave (code_from (tables c.args.set.now) c.args.self.now z) c.args.out.now c.encode_ascii.new.out
    c.encode_ascii.result)
    (c.as_bytes-then-are_ascii.ensures.value ∙ sym (ascii_chars run ascii))
    (c.encode_ascii.ensures (tables c.args.set.now))
