use Rattle.std.proofs.Common.{◌≡◌, ◌<◌, ◌+◌, ◌++◌, All, arith, take, subst}
use Rattle.enc_encode.proofs.Puts.{ascii_more, put_more}
use Rattle.enc_encode.proofs.single_runs.put_lanes.Goals as goal

pub returns-then-count-lt-LANES-clause-ascii : goal.returns-then-count-lt-LANES-clause-ascii
returns-then-count-lt-LANES-clause-ascii c =
    ascii_more c.args.bytes.now c.lanes_at-lanes.result c.loop-at.at c.ascii_in-count.result c.loop-at.invariant.3
    c.lanes_at-lanes.ensures c.ascii_in-count.ensures.within c.ascii_in-count.ensures.ascii

pub returns-then-count-lt-LANES-clause-put : goal.returns-then-count-lt-LANES-clause-put
returns-then-count-lt-LANES-clause-put c =
    put_more c.args.held.now c.loop-at.held c.store_prefix.new.held c.args.bytes.now c.lanes_at-lanes.result c.args.from
    c.loop-at.at c.ascii_in-count.result c.loop-at.invariant.4 c.lanes_at-lanes.ensures c.ascii_in-count.ensures.within
    c.store_prefix.ensures

pub loop-at-preserved : goal.loop-at-preserved
loop-at-preserved c =
    let v = c.loop-at.invariant in
    let bytes = c.args.bytes.now in
    let at = c.loop-at.at in
    let n = c.ascii_in-count.result in
    let few = c.ascii_in-count.ensures.within in
    let full : n ≡ 32 = let all = c.if-count-lt-LANES.false in omega (arith, few, all) in (
      omega (arith, c.loop-at-test.true, c.min-most.ensures),
      omega (arith, c.loop-at-test.true, c.min-most.ensures),
      c.store_prefix.array_long,
      subst (λ k. All (λ b. b < 128) (take (at + k) bytes)) full
          (ascii_more bytes c.lanes_at-lanes.result at n v.3 c.lanes_at-lanes.ensures few
          c.ascii_in-count.ensures.ascii),
      subst (λ k. take (c.args.from + (at + k)) c.store_prefix.new.held ≡ take c.args.from c.args.held.now
          ++ take (at + k) bytes) full
          (put_more c.args.held.now c.loop-at.held c.store_prefix.new.held bytes c.lanes_at-lanes.result c.args.from at
          n v.4 c.lanes_at-lanes.ensures few c.store_prefix.ensures),
    )
