use Rattle.std.proofs.Common.{ℕ, ◌≡◌, List, refl, ap, sym, subst, arith, take, false}
use Rattle.std.proofs.lemmas.List.{take_all}
use Rattle.std.specs.Char.{is_ascii}
use Rattle.std.specs.List.{prefix_len}
use Rattle.enc_model.specs.declared.Encoding.{Encoding}
use Rattle.enc_model.specs.Encode.{Tables}
use Rattle.enc_model.specs.Indexes.{tables}
use Rattle.enc_model.specs.Stream.{steps}
use Rattle.enc_feed.proofs.Feeding.{feed_refused}
use Rattle.enc_model.proofs.Sinks.{given_err}
use Rattle.enc_feed.proofs.Parts.{rest_given}
use Rattle.enc_legacy.specs.Singles.{single_in}
use Rattle.enc_legacy.specs.SinglesCalm.{single_in_calm}
use Rattle.enc_legacy.proofs.Prefixes.{single_prefix}
use Rattle.enc_legacy.proofs.SinglesSteps.{single_state}
use Rattle.enc_legacy.proofs.single.SingleState.feed_ready.Goals as goal

pub ascii-requires : goal.ascii-requires
ascii-requires g c =
    (single_prefix (tables c.args.indexes.now) c.args.self.now c.args.piece.now c.ascii_front-prefix.result
    c.ascii_front-prefix.ensures).ascii

-- the prefix that the sink was given
taken : (t : Tables) (s : Encoding) (piece : List ℕ) (n : ℕ) → n ≡ prefix_len is_ascii piece
    → take n piece ≡ (steps (single_in t) false s (take n piece)).text
taken t s piece n is = ap (λ run. run.text) (sym (single_prefix t s piece n is).own)

pub returns-in_err-ascii : goal.returns-in_err-ascii
returns-in_err-ascii g c =
    let t = tables c.args.indexes.now in
    let r = g.S.Sink.refuses in
    let why = c.in_err-ascii.field-0.0 in
    given_err g.S.Sink.takes r c.args.sink.now c.ascii.new.self _ c.from_residual.result why c.from_residual.ensures.1
    (feed_refused g.S.Sink.takes r g.met.S.Sink.is_sink (single_in t) (single_in_calm t) c.args.self.now
    c.args.piece.now c.ascii_front-prefix.result c.args.sink.now c.ascii.new.self why
    (subst (λ z. r c.args.sink.now z why c.ascii.new.self)
    (taken t c.args.self.now c.args.piece.now _ c.ascii_front-prefix.ensures) c.in_err-ascii.ensures))

pub returns-then-prefix-piece : goal.returns-then-prefix-piece
returns-then-prefix-piece g c =
    let s = c.args.self.now in
    let piece = c.args.piece.now in
    let all = c.if-prefix-piece.true in
    subst (λ p. g.S.Sink.takes c.args.sink.now (steps (single_in (tables c.args.indexes.now)) false s p).text
    c.ascii.new.self) (take_all _ piece (omega (arith, all)))
    (subst (λ z. g.S.Sink.takes c.args.sink.now z c.ascii.new.self)
    (taken (tables c.args.indexes.now) s piece _ c.ascii_front-prefix.ensures) c.in_ok-ascii.ensures)

pub returns : goal.returns
returns g c =
    let t = tables c.args.indexes.now in
    let s = c.args.self.now in
    let piece = c.args.piece.now in
    let n = c.ascii_front-prefix.result in
    rest_given (single_in t) (single_in_calm t) g.S.Sink.takes g.S.Sink.refuses g.met.S.Sink.is_sink s s piece _ n
    c.args.sink.now c.ascii.new.self c.feed_blocks.new.sink c.feed_blocks.result refl (single_state t s (take n piece))
    (subst (λ z. g.S.Sink.takes c.args.sink.now z c.ascii.new.self) (taken t s piece n c.ascii_front-prefix.ensures)
    c.in_ok-ascii.ensures) c.feed_blocks.ensures
