-- A batch is a sink.
use Rattle.std.proofs.Common.{ℕ, List, ◌++◌, sym, ◌∙◌, ap, append_assoc, append-nil, arith, length-append}
use Rattle.std.specs.Str.{chars}
use Rattle.enc_model.specs.Sink.{IsSink}
use Rattle.enc_feed.specs.Batches.{BatchTook, BatchRefused}

-- The laws of a sink hold of a batch.
pub batch_sink : {E : Type 0} → IsSink {A = List ℕ} {E = E} BatchTook BatchRefused
batch_sink = record {
  none = λ a. record { text = sym (append-nil (chars a)); size = omega arith };
  both = λ a b c x y p q. record {
    text = q.text ∙ ap (λ z. z ++ y) p.text ∙ append_assoc (chars a) x y;
    size = let l = length-append x y in let s = p.size in let t = q.size in omega (arith, l, s, t);
  };
  later = λ a b c x y e p q. let l = length-append x y in let s = p.size in omega (arith, l, s, q);
  more = λ a b x y e p. let l = length-append x y in omega (arith, l, p);
}
