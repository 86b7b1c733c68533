use Rattle.std.proofs.Common.{◌≡◌, ◌∙◌, ℕ, true, inl, refl, [], ◌∷◌, sym, subst}
use Rattle.upload_rules.specs.Answers.{Quiet}
use Rattle.upload_rules.specs.World.{at_rest}
use Rattle.spool_image.specs.LeftOnly.{AllShow, SpoolLeft}
use Rattle.spool_image.specs.Spool.{disk_of, block_count_of}
use Rattle.spool_image.specs.contracts.spool.SpoolUploads.TheImpl.Laws.{durable-law}
use Rattle.gateway_engine.specs.Gateways.{disk_in, size_in}
use Rattle.gateway_engine.proofs.OnDisk.{all_show, same_size}
use Rattle.gateway_engine.proofs.spools.Gateway+Spool+D.into_disk.Goals as goal

pub returns-clause-shows : goal.returns-clause-shows
returns-clause-shows g c st n represents answer_is =
    let s = c.close.result in
    let m = st.world.store in
    let left = durable-law g.row.D g.D.Disk g.D.Disk-dict
    (record { counts_now = g.met.D.Disk.counts_now; only_now = g.met.D.Disk.only_now }) s
    (at_rest m st.world.blocks) (m ∷ []) (c.close.ensures.represents true st represents) (inl refl) in
    let size : block_count_of s ≡ n = same_size n (block_count_of s) (sym answer_is ∙ left.0) in
    subst (λ d. AllShow g.D.Disk d n m) (sym c.into_disk.ensures.same)
    (subst (λ (k : ℕ). AllShow g.D.Disk (disk_of s) k m) size
    (all_show g.D.Disk (disk_of s) (block_count_of s) m (g.met.D.Disk.counts_now (disk_of s)) left.1))

pub returns-clause-crash : goal.returns-clause-crash
returns-clause-crash g c =
    let before = disk_in c.args.self in
    let n = size_in c.args.self in
    let s = c.close.result in
    let quiet = c.close.ensures.crash in
    subst (λ d. Quiet (g.D.Disk.moment before) (g.D.Disk.moment d) (SpoolLeft g.D.Disk before n)
    (SpoolLeft g.D.Disk d n)) (sym c.into_disk.ensures.same)
    (record {
      later = quiet.later;
      limits = λ blocks t ms le left.
          let after = quiet.limits blocks t ms le left in
          let size : block_count_of s ≡ n = same_size n (block_count_of s) (sym left.0 ∙ after.0) in
          subst (λ (k : ℕ). SpoolLeft g.D.Disk (disk_of s) k blocks t ms) size after;
    })
