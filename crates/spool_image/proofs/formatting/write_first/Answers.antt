use Rattle.std.proofs.Common.{rules, arith, inl, inr, ◌∙◌, ap, get_or, ℕ}
use Rattle.spool_disk.proofs.Firm.{lasts_call, lasts_more, lasts_on, on_ok}
use Rattle.spool_pages.specs.View.{first_page}
use Rattle.spool_image.proofs.Formats.{formats_to, fresh_image, fresh_image_synced, prefix_image, prefix_synced}
use Rattle.spool_image.proofs.Fresh.{fresh_all, synced_still}
use Rattle.spool_load.proofs.Opens.{some_pages}
use Rattle.spool_image.proofs.formatting.write_first.Goals as goal

pub write_at-requires : goal.write_at-requires
write_at-requires g c = omega (arith, some_pages c.args.layout.now)

pub returns-clause-fresh : goal.returns-clause-fresh
returns-clause-fresh g c honest =
    let mid = c.sync.ensures.honest.0 honest in
    let late = c.write_at.ensures.honest.0 mid in
    let still = synced_still (c.in_ok-sync.ensures.syncs honest) (search rules) in
    on_ok c.sync-2.result (λ done x was. fresh_all c.args.layout.now x _ still (c.in_ok-write_at.ensures.writes mid)
    (search rules) (synced_still (c.sync-2.ensures.syncs late) done) (search rules)
    (λ i. c.first_page-prefix.ensures.each i ∙ ap (λ (n : ℕ). get_or (first_page n) i 0) c.blocks-2.ensures.same) was)

pub returns-in_err-sync-clause-crash : goal.returns-in_err-sync-clause-crash
returns-in_err-sync-clause-crash g c honest x valid fresh =
    lasts_more (lasts_call (c.sync.ensures.time honest) (prefix_image (prefix_synced (c.sync.ensures.syncs honest))))
    (λ image stays. inl stays)

pub returns-in_err-write_at-clause-crash : goal.returns-in_err-write_at-clause-crash
returns-in_err-write_at-clause-crash g c honest x valid fresh =
    let n = c.args.layout.now in
    let mid = c.sync.ensures.honest.0 honest in
    let syncs = c.in_ok-sync.ensures.syncs honest in
    lasts_on (lasts_more (lasts_call (c.sync.ensures.time honest) (prefix_image (prefix_synced syncs)))
    (λ image stays. inl stays))
    (lasts_call (c.write_at.ensures.time mid) (λ image is.
    inr (formats_to n x image (search rules) (search rules) valid
    (fresh_image fresh (synced_still syncs (search rules)) (c.write_at.ensures.writes mid) (search rules) image is))))

pub returns-clause-crash : goal.returns-clause-crash
returns-clause-crash g c honest x valid fresh =
    let n = c.args.layout.now in
    let mid = c.sync.ensures.honest.0 honest in
    let late = c.write_at.ensures.honest.0 mid in
    let syncs = c.in_ok-sync.ensures.syncs honest in
    let still = synced_still syncs (search rules) in
    let writes = c.write_at.ensures.writes mid in
    lasts_on (lasts_more (lasts_call (c.sync.ensures.time honest) (prefix_image (prefix_synced syncs)))
    (λ image stays. inl stays))
    (lasts_on
    (lasts_call (c.write_at.ensures.time mid) (λ image is.
    inr (formats_to n x image (search rules) (search rules) valid
    (fresh_image fresh still writes (search rules) image is))))
    (lasts_call (c.sync-2.ensures.time late) (λ image is.
    inr (formats_to n x image (search rules) (search rules) valid
    (fresh_image_synced fresh still writes (c.sync-2.ensures.syncs late) (search rules) image is)))))
