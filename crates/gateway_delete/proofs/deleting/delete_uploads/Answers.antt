use Rattle.std.proofs.Common.{subst, ◌≡◌, ◌&&◌, Bool, ℕ, List, drop, get_or, ◌∙◌, ◌+◌, refl, true}
use Rattle.std.proofs.lemmas.List.{drop_all, drop_more}
use Rattle.upload_rules.specs.World.{World}
use Rattle.gateway_outside.specs.Counted.{unfailed}
use Rattle.gateway_delete.proofs.Deletions.{begun, done_all, done_lines, done_represents, further, limits_more}
use Rattle.gateway_delete.proofs.deleting.delete_uploads.Goals as goal
use Rattle.gateway_delete.proofs.deleting.delete_uploads.Goals.{then-all, else-all}

pub loop-number-init : goal.loop-number-init
loop-number-init g c = (
  refl,
  λ sure w represents. begun g.U.Uploads sure w c.args.numbers.now c.args.uploads.now
      (g.W.Output.contents c.args.writer.now) represents,
  refl,
  refl,
)

pub loop-number-preserved : goal.loop-number-preserved
loop-number-preserved g c =
    let numbers : List ℕ = c.args.numbers.now in
    let i : ℕ = c.loop-number.number-index in
    let both : c.if-all.all ≡ c.loop-number.all && c.in_ok-there.there =
    elim c.if-all.branch [
      | then-all w ↦ rw (w.all-is, w.if-all.true) refl
      | else-all w ↦ rw (w.all-is, w.if-all.false) refl
    ] in (
      unfailed _ _ _ (λ f. absurd (cc)) c.in_ok-there.ensures.counts ∙ c.loop-number.invariant.0,
      λ sure w represents.
          let is = rw (drop_more numbers i 0 c.loop-number-test.true) at
          (c.loop-number.invariant.1 sure w represents) in
          let at : World = record w { store = is.store } in
          rw both (further g.U.Uploads sure w numbers c.args.uploads.now c.loop-number.uploads
          c.delete_one.new.uploads (get_or numbers i 0) (drop (i + 1) numbers) _ _ c.loop-number.all is
          (λ e. c.in_ok-there.ensures.crash at
          (subst (λ b. g.U.Uploads.represents c.loop-number.uploads b at) e is.represents))
          (g.W.Output.contents c.delete_one.new.writer)
          c.in_ok-there.there (c.in_ok-there.ensures.represents sure at is.represents)
          (c.in_ok-there.ensures.there sure at is.represents) c.in_ok-there.ensures.line),
      c.in_ok-there.ensures.reads ∙ c.loop-number.invariant.2,
      unfailed _ _ _ (λ f. absurd (cc)) c.in_ok-there.ensures.io ∙ c.loop-number.invariant.3,
    )

pub returns-in_err-there-clause-crash : goal.returns-in_err-there-clause-crash
returns-in_err-there-clause-crash g c w represents =
    let numbers : List ℕ = c.args.numbers.now in
    let i : ℕ = c.loop-number.number-index in
    let is = rw (drop_more numbers i 0 c.loop-number-test.true) at (c.loop-number.invariant.1 true w represents) in
    limits_more g.U.Uploads true w numbers c.args.uploads.now c.loop-number.uploads c.delete_one.new.uploads
    (get_or numbers i 0) (drop (i + 1) numbers) _ _ c.loop-number.all is
    (λ e. c.in_err-there.ensures.crash (record w { store = is.store }) is.represents) refl

pub returns-clause-represents : goal.returns-clause-represents
returns-clause-represents g c sure w represents =
    done_represents _ _ _ _ _ _ _ _ _ (rw (drop_all c.loop-number.number-index c.args.numbers.now
    c.loop-number-test.false)
    at (c.loop-number.invariant.1 sure w represents))

pub returns-clause-lines : goal.returns-clause-lines
returns-clause-lines g c sure w represents =
    done_lines _ _ _ _ _ _ _ _ _ (rw (drop_all c.loop-number.number-index c.args.numbers.now c.loop-number-test.false)
    at (c.loop-number.invariant.1 sure w represents))

pub returns-clause-all : goal.returns-clause-all
returns-clause-all g c sure w represents =
    done_all _ _ _ _ _ _ _ _ _ (rw (drop_all c.loop-number.number-index c.args.numbers.now c.loop-number-test.false)
    at (c.loop-number.invariant.1 sure w represents))

pub returns-clause-crash : goal.returns-clause-crash
returns-clause-crash g c w represents = (c.loop-number.invariant.1 true w represents).limits refl
