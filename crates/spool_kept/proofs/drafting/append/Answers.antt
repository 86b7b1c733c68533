use Rattle.std.proofs.Common.{◌<◌, arith, ◌≡◌, ◌∙◌, ◌++◌, ap, get_or, refl, subst, sym, List, None, Some, true}
use Rattle.enc_model.specs.Indexes.{IndexSet}
use Rattle.spool_journal.specs.Image.{text_page}
use Rattle.upload_rules.specs.Calls.{longer_patch}
use Rattle.upload_rules.proofs.Finds.{replaced_same}
use Rattle.upload_rules.proofs.Growing.{grown_longer}
use Rattle.spool_blocks.specs.Blocks.{Row}
use Rattle.spool_drafts.specs.Drafts.{Holds, Carries, IsLonger, upload_number_of, with_piece, tail_of}
use Rattle.spool_drafts.specs.declared.draft.SpoolDraft.{SpoolDraft}
use Rattle.spool_kept.specs.Drafting.{DraftsFit, IsOfUpload, DraftsRepresent, IsStillOpen, StandsFor}
use Rattle.spool_catalog.specs.Holding.{IsOwnedBy}
use Rattle.spool_kept.proofs.drafts.Drafted.{reserves_only}
use Rattle.spool_kept.proofs.SameView.{shows_still}
use Rattle.spool_catalog.specs.Holding.{Holding}
use Rattle.spool_kept.proofs.drafts.DraftLonger.{answered, fit_longer, longer_carries}
use Rattle.spool_kept.proofs.drafts.DraftLonger.{longer_holds, longer_world}
use Rattle.spool_kept.proofs.drafts.DraftLonger.{moved, ok_more, owned_or_none, represents_longer, went_back}
use Rattle.spool_kept.proofs.drafts.OfUploads.{each_changed, of_longer}
use Rattle.spool_kept.proofs.drafting.append.Goals as goal
use Rattle.std.proofs.lemmas.Option.{same_Some}
use Rattle.spool_kept.proofs.commits.CommitHead.{opened, own_draft}

pub append-answer-requires-clause-placed : goal.append-answer-requires-clause-placed
append-answer-requires-clause-placed g c =
    rw (← c.catalog.view_is) at (c.requires.fits.blocks.placed c.args.number c.in-Some.draft
    (sym c.in-Some.ensures.taken))

pub returns-clause-fits : goal.returns-clause-fits
returns-clause-fits g c =
    let before = c.args.drafts.now.items in
    let new = c.append-answer.new.self in
    let here = sym c.in-Some.ensures.taken in
    let fit = subst (λ (h : Holding). DraftsFit h before) (sym c.catalog.view_is) c.requires.fits in
    let effect = c.append-answer.ensures.effect in
    let same = c.append-answer.ensures.same in
    let on = went_back c.args.number new here c.taken.ensures.after c.put_back.ensures effect.grasp in
    record {
      blocks = fit_longer fit.blocks on c.append-answer.ensures.reserved c.append-answer.ensures.placed;
      below = each_changed (λ (o : SpoolDraft). upload_number_of o < c.catalog.inside.next) before
          c.put_back.new.drafts.items
          c.args.number (Some new) on.changed fit.below
          (λ a e. let below = fit.below c.args.number c.in-Some.draft here in
          omega (arith, ap upload_number_of (same_Some new a e), same.0, below));
      uploads = each_changed (IsOfUpload c.catalog.inside.slots.items) before c.put_back.new.drafts.items c.args.number
          (Some new) on.changed fit.uploads (λ a e. subst (IsOfUpload c.catalog.inside.slots.items) (same_Some new a e)
          (of_longer c.catalog.inside.slots.items c.in-Some.draft new same.0 same.1 c.append-answer.ensures.after
          (fit.uploads c.args.number c.in-Some.draft here)));
    }

pub returns-clause-quiet : goal.returns-clause-quiet
returns-clause-quiet g c w p s there =
    let effect = c.append-answer.ensures.effect in
    let v = s.stored.view in
    let rows = effect.grasp.takes.rows ∙ ap (λ (h : Holding). h.blocks.rows) c.catalog.view_is
    ∙ s.stored.has_view.rows in
    shows_still g.D.Disk c.args.disk.now c.append-answer.new.disk v effect.own _ (effect.writes (s.stored.honest refl))
    s.stored.shows.valid (sym s.stored.has_view.blocks ∙ sym (ap (λ (h : Holding). h.layout) c.catalog.view_is))
    (s.stored.rests refl) (λ i lt. ap (λ (r : List Row). get_or r (get_or effect.own i 0) None) (sym rows)
    ∙ effect.grasp.reserved.no_owner i lt)

pub returns-clause-answer : goal.returns-clause-answer
returns-clause-answer g c sure w p s there fits =
    let before = c.args.drafts.now.items in
    let number = c.args.number in
    let o = c.in-Some.draft in
    let new = c.append-answer.new.self in
    let after = c.put_back.new.drafts.items in
    let effect = c.append-answer.ensures.effect in
    let here = sym c.in-Some.ensures.taken in
    let disk = c.args.disk.now in
    let disk' = c.append-answer.new.disk in
    let s' = subst (λ (h : Holding). StandsFor sure g.D.Disk disk h before w) (sym c.catalog.view_is) s in
    let v = s'.stored.view in
    let shows = s'.stored.shows in
    let records = c.catalog.inside.slots.items in
    let h = c.catalog.inside.blocks in
    let h' = c.append-answer.new.blocks in
    let first = text_page c.catalog.inside.layout in
    let honest = s.stored.honest in
    let current = g.D.Disk.current disk in
    let current' = g.D.Disk.current disk' in
    let ix : c.catalog.inside.indexes ≡ w.store.indexes = s'.stored.has_view.indexes ∙ shows.indexes in
    let fit = rw (← c.catalog.view_is) at c.requires.fits.blocks in
    let fit' = (returns-clause-fits g c).blocks in
    let on = went_back number new here c.taken.ensures.after c.put_back.ensures effect.grasp in
    let is = own_draft (opened number s' there c.in-Some.ensures.taken) in
    let held = subst (λ (x : IndexSet). Holds x p o) (sym ix) is.holds in
    let same = reserves_only c.args.catalog.now _ _ c.catalog.view_is refl c.append-answer.ensures.rows in
    let stored = moved disk' s.stored same c.append-answer.ensures.honest.0 effect.own
    (λ i lt. ap (λ (r : List Row). get_or r (get_or effect.own i 0) None)
    (sym (effect.grasp.takes.rows ∙ ap (λ (k : Holding). k.blocks.rows) c.catalog.view_is ∙ s.stored.has_view.rows))
    ∙ effect.grasp.reserved.no_owner i lt)
    (ap (λ (k : Holding). k.layout) c.catalog.view_is) (λ known. (effect.writes (honest known)).writes) in
    let rows = c.append-answer.ensures.rows in
    let piece = c.args.piece.now in
    let longer_represents = represents_longer current' s'.represents fit on rows
    (λ known. (effect.writes (honest known)).writes.outside) in
    let tail : IsStillOpen w.store p → IsOwnedBy records h'.rows p.number (tail_of new) =
    λ still. owned_or_none o new c.append-answer.ensures.same.4 (rw (← rows) at (is.tail still)) in
    let same_patches = replaced_same number p w.patches there in
    answered _ _ c.append-answer.result
    (ok_more c.append-answer.result (c.append-answer.ensures.answer p held fits)
    (λ (known : (sure ≡ true) × IsStillOpen w.store p). c.append-answer.ensures.content p (honest known.0) held fits
    (subst (λ (x : IndexSet). Carries x current first p o) (sym ix) (is.carries known.0 known.1))) (λ l carries.
    let q = longer_patch w number p piece in
    let is_longer = subst (λ (x : IndexSet). IsLonger x (with_piece p piece) o new h h') ix l in
    longer_world w number piece there stored
    (longer_represents p q there (grown_longer w s'.represents.grown number p (p.body ++ piece) q.short there) record {
      holds = longer_holds s'.represents fit on rows shows s'.stored.has_view.rows c.rows-rows.ensures.reserved fit' p
          piece
          is_longer;
      below = is.below;
      carries = λ known still. longer_carries s'.represents fit on rows shows s'.stored.has_view.rows
          c.rows-rows.ensures.reserved fit' p piece current' (rw ix at (carries (known, still)));
      tail = tail;
    })))
    (λ e. record {
      stored = stored;
      represents = subst (λ ps. DraftsRepresent (sure ≡ true) w.store.indexes current' first records h' (record w {
        patches = ps;
      }) after) same_patches (longer_represents p p there (rw (← same_patches) at s'.represents.grown) record {
        holds = subst (λ (x : IndexSet). Holds x p new) ix (c.append-answer.ensures.holds_on p held e);
        below = is.below;
        carries = λ known still. rw ix at (c.append-answer.ensures.content_on p (honest known) e
            (rw (← ix) at (is.carries known still)));
        tail = tail;
      });
    })
