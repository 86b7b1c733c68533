use Rattle.std.proofs.Common.{ℕ, ◌+◌, ◌++◌, ◌∷◌, [], ◌∙◌, ap, arith, take, map, get_or}
use Rattle.std.proofs.Common.{slice_index}
use Rattle.enc_feed.specs.BatchLaws.{batch_sink}
use Rattle.enc_feed.proofs.Gathered.{still_text, took_char}
use Rattle.enc_feed.proofs.Stored.{char_read, map_more, took_on}
use Rattle.enc_feed.proofs.room.store_each.Goals as goal

pub store_code-len-requires : goal.store_code-len-requires
store_code-len-requires c =
    let few = c.loop-byte.invariant.few in let room = c.requires.room in let more =
    c.loop-byte-test.true in omega (arith, few, room, more)

pub loop-byte-init : goal.loop-byte-init
loop-byte-init c = record {
  took = (batch_sink {E = ℕ}).none (take c.args.from c.args.room.now);
  text = c.requires.text;
  few = omega arith;
}

pub loop-byte-preserved : goal.loop-byte-preserved
loop-byte-preserved c =
    let bytes = c.args.bytes.now in
    let i = c.loop-byte.byte-index in
    let char : ℕ → ℕ = λ b. slice_index c.args.chars.now b in
    let code = c.index-chars-byte.result in
    let is = char_read c.args.chars.now (get_or bytes i 0) code c.requires.long (c.type_inv.bytes i)
    c.index-chars-byte.is in
    let old = take c.loop-byte.len c.loop-byte.room in
    let new = take c.store_code-len.result c.store_code-len.new.bytes in
    let e = c.store_code-len.ensures in
    let v = c.loop-byte.invariant in
    record {
      took = took_on (take c.args.from c.args.room.now) old new (map char (take i bytes)) (code ∷ [])
          (map char (take (i + 1) bytes)) v.took (took_char old new code v.text e.scalar e.code)
          (ap (λ z. map char (take i bytes) ++ z ∷ []) is ∙ map_more char bytes i c.loop-byte-test.true);
      text = still_text old new code v.text e.scalar e.code;
      few = let f = v.few in let n = e.few in omega (arith, f, n);
    }
