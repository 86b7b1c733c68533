use Rattle.std.proofs.Common.{rules, ◌≡◌, ◌≤◌, length, take, arith, sym, Some, None, subst}
use Rattle.tus_request.specs.Lines.{head_extent}
use Rattle.tus_request.specs.Extents.{shown}
use Rattle.enc_model.specs.Indexes.{offers}
use Rattle.tus_request.specs.Shown.{answer_shown}
use Rattle.tus_request.specs.Grammar.{IsAnswer}
use Rattle.tus_request.proofs.ParseLemmas.{start_is, start_short, no_extent_answer, too_many_answer, whole_answer}
use Rattle.tus_request.proofs.ParseLemmas.{short_head, if_ok_more, on_err, whole_prefix}
use Rattle.tus_request.proofs.heads.parse_head.Goals as goal

pub returns-in_default-clause-grammar : goal.returns-in_default-clause-grammar
returns-in_default-clause-grammar c =
    let s = start_is c.args.bytes.now c.min.result (search rules) in
    let n = start_short c.args.bytes.now c.min.result (search rules) in
    let e : head_extent (take c.min.result c.args.bytes.now) ≡ None =
    sym (rw c.in_default.is at c.measure.ensures.extent) in
    no_extent_answer (offers c.args.set.now) c.args.bytes.now (length (take c.min.result c.args.bytes.now))
    (answer_shown c.unmeasured.result) (rw s at e) n.1 c.unmeasured.ensures

pub returns-then-extent-clause-grammar : goal.returns-then-extent-clause-grammar
returns-then-extent-clause-grammar c =
    let s = start_is c.args.bytes.now c.min.result (search rules) in
    let e : head_extent (take c.min.result c.args.bytes.now) ≡ Some (shown c.in-Some.extent) =
    sym (rw c.in-Some.is at c.measure.ensures.extent) in
    subst (λ a. IsAnswer (offers c.args.set.now) c.args.bytes.now a) (sym c.no_head.ensures)
    (too_many_answer (offers c.args.set.now) c.args.bytes.now (shown c.in-Some.extent) (rw s at e) (omega arith))

pub read_whole-requires : goal.read_whole-requires
read_whole-requires c =
    let n = start_short c.args.bytes.now c.min.result (search rules) in
    let e : head_extent (take c.min.result c.args.bytes.now) ≡ Some (shown c.in-Some.extent) =
    sym (rw c.in-Some.is at c.measure.ensures.extent) in
    short_head (take c.min.result c.args.bytes.now) (shown c.in-Some.extent) n.0 e c.in-Some.ensures.within
    (omega arith)

pub returns-clause-grammar : goal.returns-clause-grammar
returns-clause-grammar c =
    let s = start_is c.args.bytes.now c.min.result (search rules) in
    let e : head_extent (take c.min.result c.args.bytes.now) ≡ Some (shown c.in-Some.extent) =
    sym (rw c.in-Some.is at c.measure.ensures.extent) in
    let w : (shown c.in-Some.extent).len ≤ length (take c.min.result c.args.bytes.now) = c.in-Some.ensures.within in
    if_ok_more c.read_whole.result c.read_whole.ensures (λ a is.
    whole_answer (offers c.args.set.now) c.args.bytes.now (shown c.in-Some.extent) (answer_shown a) (rw s at e)
    (rw s at w) (omega arith) (rw s at is))

pub returns-clause-memory : goal.returns-clause-memory
returns-clause-memory c =
    let s = start_is c.args.bytes.now c.min.result (search rules) in
    let e : head_extent (take c.min.result c.args.bytes.now) ≡ Some (shown c.in-Some.extent) =
    sym (rw c.in-Some.is at c.measure.ensures.extent) in
    on_err c.read_whole.result (whole_prefix c.args.bytes.now (shown c.in-Some.extent) (rw s at e) (omega arith))
