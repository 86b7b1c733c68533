use Rattle.std.proofs.Common.{◌∷◌, [], subst}
use Rattle.enc_feed.specs.Batches.{BatchTook}
use Rattle.enc_feed.proofs.Gathered.{still_text, took_char}
use Rattle.enc_feed.proofs.batch.Batch.push_code.Goals as goal

pub invariant_of-self : goal.invariant_of-self
invariant_of-self c =
    let e = c.store.ensures in
    still_text c.self.inside.room c.store.new.self c.args.code.now c.self.invariant e.scalar e.code

pub returns : goal.returns
returns c =
    let e = c.store.ensures in
    subst (λ z. BatchTook z (c.args.code.now ∷ []) c.store.new.self) c.self.view_is
    (took_char c.self.inside.room c.store.new.self c.args.code.now c.self.invariant e.scalar e.code)
