use Rattle.std.proofs.Common.{true, false, [], ◌∷◌, Some, Ok, Err, inl, refl, sym, subst}
use Rattle.spool_image.specs.Spool.{disk_of, block_count_of}
use Rattle.spool_image.specs.contracts.spool.SpoolUploads.TheImpl.Laws.{durable-law}
use Rattle.upload_rules.specs.World.{at_rest}
use Rattle.tus_session.specs.History.{beginning}
use Rattle.gateway_engine.specs.RanOn.{HasRunOn}
use Rattle.gateway_engine.proofs.OnDisk.{all_show, broke_on, ran_on, writes_all, writes_most}
use Rattle.gateway_engine.proofs.spools.run_opened.Goals as goal

pub returns-in-Ok-clause-runs : goal.returns-in-Ok-clause-runs
returns-in-Ok-clause-runs g c m n represents =
    let before = c.args.spool in
    let now = c.in-Ok.spool in
    let held = g.W.CountedWrite.contents c.run_over.new.writer in
    let prefix = g.W.CountedWrite.contents c.args.writer.now in
    let has = c.in-Ok.ensures.output true m (Some n) represents in (
      has.0,
      has.1,
      subst (λ d. HasRunOn g.D.Disk (disk_of before) (Ok d) held prefix n (beginning m (Some n)) has.0)
          (sym c.into_disk.ensures.same)
          (ran_on g.D.Disk disk_of block_count_of _ _ _ before now n m
          (durable-law g.row.D g.D.Disk g.D.Disk-dict
          (record { counts_now = g.met.D.Disk.counts_now; only_now = g.met.D.Disk.only_now }) before
          (at_rest m (Some n)) (m ∷ []) represents (inl refl)).0
          (g.met.D.Disk.counts_now (disk_of now))
          (λ st rests. all_show g.D.Disk (disk_of now) (block_count_of now) st.world.store
          (g.met.D.Disk.counts_now (disk_of now))
          (durable-law g.row.D g.D.Disk g.D.Disk-dict
          (record { counts_now = g.met.D.Disk.counts_now; only_now = g.met.D.Disk.only_now }) now
          (at_rest st.world.store st.world.blocks) (st.world.store ∷ []) rests (inl refl)).1)
          held prefix has.0 has.2),
    )

pub returns-in-Err-clause-runs : goal.returns-in-Err-clause-runs
returns-in-Err-clause-runs g c m n represents =
    let before = c.args.spool in
    let now = c.in-Err.spool in
    let fault = c.in-Err.fault in
    let held = g.W.CountedWrite.contents c.run_over.new.writer in
    let prefix = g.W.CountedWrite.contents c.args.writer.now in
    let has = c.in-Err.ensures.output true m (Some n) represents in (
      has.0,
      has.1,
      subst (λ d. HasRunOn g.D.Disk (disk_of before) (Err (d, fault)) held prefix n (beginning m (Some n)) has.0)
          (sym c.into_disk-in-Err.ensures.same)
          (broke_on g.D.Disk disk_of block_count_of _ _ _ before now n m
          (durable-law g.row.D g.D.Disk g.D.Disk-dict
          (record { counts_now = g.met.D.Disk.counts_now; only_now = g.met.D.Disk.only_now }) before
          (at_rest m (Some n)) (m ∷ []) represents (inl refl)).0
          (g.met.D.Disk.counts_now (disk_of now))
          (λ st rests. all_show g.D.Disk (disk_of now) (block_count_of now) st.world.store
          (g.met.D.Disk.counts_now (disk_of now))
          (durable-law g.row.D g.D.Disk g.D.Disk-dict
          (record { counts_now = g.met.D.Disk.counts_now; only_now = g.met.D.Disk.only_now }) now
          (at_rest st.world.store st.world.blocks) (st.world.store ∷ []) rests (inl refl)).1)
          held prefix has.0 fault has.2),
    )

pub returns-in-Ok-clause-writes : goal.returns-in-Ok-clause-writes
returns-in-Ok-clause-writes g c m blocks represents =
    let has = c.in-Ok.ensures.output false m blocks represents in
    (has.0, has.1, writes_all _ _ _ c.into_disk.result _ _ _ has.0 has.2)

pub returns-in-Err-clause-writes : goal.returns-in-Err-clause-writes
returns-in-Err-clause-writes g c m blocks represents =
    let has = c.in-Err.ensures.output false m blocks represents in
    (has.0, has.1, writes_most _ _ _ c.into_disk-in-Err.result _ _ _ has.0 c.in-Err.fault has.2)
