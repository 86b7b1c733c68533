use Rattle.std.proofs.Common.{ℕ, ◌-◌, List, ◌++◌, refl, sym, ◌∙◌, ap, take, drop, length}
use Rattle.std.proofs.lemmas.List.{take_rest}
use Rattle.enc_model.specs.Indexes.{tables}
use Rattle.enc_model.specs.Transcode.{FedText, During, Before}
use Rattle.enc_model.proofs.Sinks.{given_err}
use Rattle.enc_stream.specs.Sniff.{held_bytes}
use Rattle.enc_stream.proofs.Fed.{fed_held, fed_sniffed}
use Rattle.enc_stream.proofs.stage.decide.Goals as goal

pub returns-in-Still-clause-given : goal.returns-in-Still-clause-given
returns-in-Still-clause-given g c =
    rw (fed_held (tables c.args.set.now) c.args.from (held_bytes c.args.held) c.args.piece.now c.in-Still.ensures.0)
    (g.met.S.Sink.is_sink.none c.args.sink.now)

pub returns-in-Still-clause-phase : goal.returns-in-Still-clause-phase
returns-in-Still-clause-phase g c = (
  ap Before c.in-Still.ensures.1
      ∙ sym (ap (λ (z : FedText). z.phase)
      (fed_held (tables c.args.set.now) c.args.from (held_bytes c.args.held) c.args.piece.now
      c.in-Still.ensures.0)),
  refl,
)

pub returns-in_err-decoder-in-Bom-clause-given : goal.returns-in_err-decoder-in-Bom-clause-given
returns-in_err-decoder-in-Bom-clause-given g c =
    let piece = c.args.piece.now in
    let skip = c.in-Bom.skip in
    rw (fed_sniffed (tables c.args.set.now) c.args.from c.in-Bom.encoding (held_bytes c.args.held) piece
    (take (length piece - skip) (drop skip piece)) c.in-Bom.ensures.0
    (c.in-Bom.ensures.2 c.args.from ∙ ap (λ (z : List ℕ). (c.in-Bom.encoding, z)) (sym (take_rest piece skip))))
    (given_err g.S.Sink.takes g.S.Sink.refuses c.args.sink.now c.begin.new.sink _ c.from_residual.result
    c.in_err-decoder-in-Bom.field-0.0 c.from_residual.ensures.1 c.in_err-decoder-in-Bom.ensures.given)

pub returns-in_err-decoder-in-Plain-clause-given : goal.returns-in_err-decoder-in-Plain-clause-given
returns-in_err-decoder-in-Plain-clause-given g c =
    let r = c.from_residual-in_err-decoder-in-Plain in
    rw (fed_sniffed (tables c.args.set.now) c.args.from c.args.from (held_bytes c.args.held) c.args.piece.now
    (held_bytes c.args.held ++ c.args.piece.now) c.in-Plain.ensures.0 (c.in-Plain.ensures.1 c.args.from))
    (given_err g.S.Sink.takes g.S.Sink.refuses c.args.sink.now c.begin_plain.new.sink _ r.result
    c.in_err-decoder-in-Plain.field-0.0 r.ensures.1 c.in_err-decoder-in-Plain.ensures.given)

pub returns-in_ok-decoder-in-Bom-clause-given : goal.returns-in_ok-decoder-in-Bom-clause-given
returns-in_ok-decoder-in-Bom-clause-given g c =
    let piece = c.args.piece.now in
    let skip = c.in-Bom.skip in
    rw (fed_sniffed (tables c.args.set.now) c.args.from c.in-Bom.encoding (held_bytes c.args.held) piece
    (take (length piece - skip) (drop skip piece)) c.in-Bom.ensures.0
    (c.in-Bom.ensures.2 c.args.from ∙ ap (λ (z : List ℕ). (c.in-Bom.encoding, z)) (sym (take_rest piece skip))))
    c.in_ok-decoder-in-Bom.ensures.given

pub returns-in_ok-decoder-in-Bom-clause-phase : goal.returns-in_ok-decoder-in-Bom-clause-phase
returns-in_ok-decoder-in-Bom-clause-phase g c =
    let piece = c.args.piece.now in
    let skip = c.in-Bom.skip in (
      ap During c.in_ok-decoder-in-Bom.ensures.state
          ∙ sym (ap (λ (z : FedText). z.phase)
          (fed_sniffed (tables c.args.set.now) c.args.from c.in-Bom.encoding (held_bytes c.args.held) piece
          (take (length piece - skip) (drop skip piece)) c.in-Bom.ensures.0
          (c.in-Bom.ensures.2 c.args.from ∙ ap (λ (z : List ℕ). (c.in-Bom.encoding, z)) (sym (take_rest piece skip))))),
      refl,
    )

pub returns-in_ok-decoder-in-Plain-clause-given : goal.returns-in_ok-decoder-in-Plain-clause-given
returns-in_ok-decoder-in-Plain-clause-given g c =
    rw (fed_sniffed (tables c.args.set.now) c.args.from c.args.from (held_bytes c.args.held) c.args.piece.now
    (held_bytes c.args.held ++ c.args.piece.now) c.in-Plain.ensures.0 (c.in-Plain.ensures.1 c.args.from))
    c.in_ok-decoder-in-Plain.ensures.given

pub returns-in_ok-decoder-in-Plain-clause-phase : goal.returns-in_ok-decoder-in-Plain-clause-phase
returns-in_ok-decoder-in-Plain-clause-phase g c = (
  ap During c.in_ok-decoder-in-Plain.ensures.state
      ∙ sym (ap (λ (z : FedText). z.phase)
      (fed_sniffed (tables c.args.set.now) c.args.from c.args.from (held_bytes c.args.held) c.args.piece.now
      (held_bytes c.args.held ++ c.args.piece.now) c.in-Plain.ensures.0 (c.in-Plain.ensures.1 c.args.from))),
  refl,
)
