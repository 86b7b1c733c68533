use Rattle.std.proofs.Common.{◌≤◌, ◌+◌, ◌++◌, ◌∷◌, [], refl, subst, arith, length, take, get_or}
use Rattle.enc_feed.specs.Batches.{ArePairs}
use Rattle.enc_feed.proofs.Gathered.{still_text, took_char}
use Rattle.enc_feed.proofs.Stored.{pairs_more, took_on, two_more}
use Rattle.enc_feed.proofs.room.Room.store_pairs.Goals as goal

pub loop-at-preserved : goal.loop-at-preserved
loop-at-preserved g c =
    let bytes = c.args.bytes.now in
    let at = c.loop-at.at in
    let code = c.in-Some.code.now in
    let represent = g.P.PairReader.represent c.args.ready.now in
    let old = take c.loop-at.len c.loop-at.self-inside.bytes in
    let new = take c.store_code-len.result c.store_code-len.new.bytes in
    let e = c.store_code-len.ensures in
    let v = c.loop-at.invariant in
    let given = v.took.0 in
    let inside : at + 2 ≤ length bytes = let more = c.loop-at-test.true in let a = v.at in omega (arith, more, a) in
    let pairs = pairs_more represent (take at bytes) given (get_or bytes at 0) (get_or bytes (at + 1) 0) code v.took.1
    c.in-Some.ensures in
    record {
      took = (
        given ++ code ∷ [],
        subst (λ z. ArePairs represent z (given ++ code ∷ [])) (two_more bytes at inside) pairs,
        took_on c.args.self.now old new given (code ∷ []) (given ++ code ∷ []) v.took.2
            (took_char old new code v.text e.scalar e.code) refl,
      );
      text = still_text old new code v.text e.scalar e.code;
      few = let f = v.few in let n = e.few in omega (arith, f, n);
      at = inside;
    }
