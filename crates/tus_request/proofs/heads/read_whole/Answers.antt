use Rattle.std.proofs.Common.{rules, ◌≡◌, length, inl, inr, Some, ap, sym, ◌∙◌}
use Rattle.httparse.specs.Borrowed.{HoldsSomeRequest}
use Rattle.httparse.specs.Spans.{RequestOverflows}
use Rattle.enc_model.specs.Indexes.{offers}
use Rattle.tus_request.specs.declared.heads.TheConstants.{MOST_LINES}
use Rattle.tus_request.specs.CheckParts.{verdict_shown}
use Rattle.tus_request.proofs.ParseLemmas.{fills, none_where_failed, shown_by, same_line, same_verdict}
use Rattle.tus_request.specs.Answers.{Judged}
use Rattle.tus_request.proofs.heads.read_whole.Goals as goal

pub returns-in-Err : goal.returns-in-Err
returns-in-Err c =
    let n : length c.new-request.result.headers.now ≡ MOST_LINES = ap length c.new-request.ensures.room in
    let over : RequestOverflows (length c.new-request.result.headers.now) c.args.head.now = c.in-Err.ensures.no_room in
    inl (none_where_failed c.args.head.now c.requires (rw n at over), c.no_head-in-Err.ensures)

pub returns : goal.returns
returns c =
    let holds : HoldsSomeRequest c.args.head.now c.parse.new.self c.in-Ok-Complete.field-0-0 =
    rw c.in-Ok-Complete.field-0-is at c.in-Ok-Complete.ensures.complete in
    let q = c.requires in
    let f = fills c.args.head.now q.0 q.1 holds.0 _ q.2 holds.1.reads in
    let all = rw f.2 at holds.1.reads in
    let m = shown_by c.parse.new.self.method c.unwrap.result holds.0.method (search rules) holds.1.method in
    let t = shown_by c.parse.new.self.path c.unwrap-2.result holds.0.target (search rules) holds.1.path in
    let s : Some c.unwrap-3.result ≡ Some holds.0.minor = sym c.unwrap-3.ensures ∙ holds.1.version in
    let v : c.unwrap-3.result ≡ holds.0.minor = cc in
    let line = same_line holds.0 (record {
      method = c.unwrap.result.now;
      target = c.unwrap-2.result.now;
      minor = c.unwrap-3.result;
    }) m t v in
    inr (
      holds.0,
      all,
      c.answer.ensures ∙ ap (λ x. Judged (length c.args.head.now) x)
          (same_verdict (offers c.args.set.now) holds.0
          (record {
            method = c.unwrap.result.now;
            target = c.unwrap-2.result.now;
            minor = c.unwrap-3.result;
          }) c.parse.new.self.headers.now (verdict_shown c.in_ok-verdict.verdict) line holds.1.fields
          c.in_ok-verdict.ensures),
    )
