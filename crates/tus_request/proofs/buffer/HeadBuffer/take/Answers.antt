use Rattle.std.proofs.Common.{◌≡◌, ◌++◌, List, ℕ, sym, ◌∙◌, ap}
use Rattle.enc_model.specs.Indexes.{offers}
use Rattle.tus_request.specs.Answers.{More, answer_of}
use Rattle.tus_request.specs.Shown.{answer_shown}
use Rattle.tus_request.specs.Buffers.{head_bytes}
use Rattle.tus_request.proofs.Limits.{limited, more_short, nothing_left}
use Rattle.tus_request.proofs.SearchLemmas.{unjudged, judged}
use Rattle.tus_request.proofs.buffer.HeadBuffer.take.Goals as goal

pub returns-then-not-is_judged : goal.returns-then-not-is_judged
returns-then-not-is_judged c =
    let all : List ℕ = head_bytes c.args.self.now ++ c.args.piece.now in
    let set = offers c.args.set.now in
    let asks : answer_of set (head_bytes c.fill.new.self) ≡ More =
    unjudged set (head_bytes c.fill.new.self) (sym c.is_judged.ensures ∙ c.if-not-is_judged.true) in
    let more : answer_of set all ≡ More = sym (ap (answer_of set) c.in_ok-fill.ensures ∙ limited set all) ∙ asks in
    record { function = sym more; rest = c.in_ok-fill.ensures ∙ more_short set all more }

pub returns-clause-function : goal.returns-clause-function
returns-clause-function c =
    let all : List ℕ = head_bytes c.args.self.now ++ c.args.piece.now in
    let set = offers c.args.set.now in
    c.in_ok-parsed.ensures.function
    ∙ (ap (answer_of set) (c.deref.ensures.value ∙ c.in_ok-fill.ensures) ∙ limited set all)

pub returns-clause-rest : goal.returns-clause-rest
returns-clause-rest c =
    let all : List ℕ = head_bytes c.args.self.now ++ c.args.piece.now in
    let set = offers c.args.set.now in
    let bytes : List ℕ = head_bytes c.fill.new.self in
    c.clear.ensures
    ∙ sym (nothing_left c.in_ok-parsed.parsed all (λ more.
    judged set bytes (sym c.is_judged.ensures ∙ c.if-not-is_judged.false)
    (sym (ap (answer_of set) c.deref.ensures.value) ∙ (sym c.in_ok-parsed.ensures.function ∙ ap answer_shown more))))
