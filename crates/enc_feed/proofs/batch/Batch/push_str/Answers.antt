use Rattle.std.proofs.Common.{◌++◌, ◌∙◌, ap, subst}
use Rattle.std.specs.Str.{chars, is_utf8}
use Rattle.enc_feed.specs.Batches.{BatchTook}
use Rattle.enc_feed.proofs.Gathered.{text_more, took_text}
use Rattle.enc_feed.proofs.batch.Batch.push_str.Goals as goal

pub invariant_of-self : goal.invariant_of-self
invariant_of-self c =
    let old = c.self.inside.room in
    ap is_utf8 (c.append.ensures ∙ ap (λ z. old ++ z) c.as_bytes.ensures.value)
    ∙ text_more old c.args.run.now c.self.invariant c.utf8.run

pub returns : goal.returns
returns c =
    let old = c.self.inside.room in
    let run = c.args.run.now in
    subst (λ z. BatchTook z (chars run) c.append.new.self) c.self.view_is
    (took_text old c.append.new.self run c.self.invariant c.utf8.run
    (c.append.ensures ∙ ap (λ z. old ++ z) c.as_bytes.ensures.value))
