use Rattle.std.proofs.Common.{◌≡◌, ℕ, List, Option, None, take, replicate, length, length-take, rules, arith, ap, refl}
use Rattle.std.proofs.Common.{sym, subst, ◌∙◌, Err}
use Rattle.std.proofs.lemmas.List.{take-replicate, with_items_is}
use Rattle.std.specs.Vec.{with_items}
use Rattle.std.proofs.lemmas.Result.{err_from_is_err_and}
use Rattle.spool_journal.specs.declared.TheConstants.{PAGE}
use Rattle.spool_journal.specs.Image.{text_page}
use Rattle.spool_disk.proofs.Firm.{counts_as}
use Rattle.spool_texts.specs.Drafts.{Draft, draft_bytes, len_of, tail_on}
use Rattle.spool_texts.specs.contracts.block_text.BlockText.{the_view}
use Rattle.spool_texts.specs.TextOn.{AllBelow}
use Rattle.spool_texts.specs.declared.block_text.Unread.{Unread}
use Rattle.spool_texts.proofs.Befores.{begun_bytes, begun_len}
use Rattle.spool_texts.proofs.Steps.{counts_same}
use Rattle.spool_texts.proofs.block_text.BlockText.open.Goals as goal

pub read_tail-requires-clause-zeros : goal.read_tail-requires-clause-zeros
read_tail-requires-clause-zeros g c =
    let zeros : c.deref_mut.result.now ≡ replicate PAGE 0 = search rules in
    ap (λ (page : List ℕ). take c.in-Some.unread.len page) zeros
    ∙ take-replicate c.in-Some.unread.len PAGE 0 (omega (arith, (c.self.invariant.1 c.in-Some.unread c.in-Some.is).0))

pub returns-in_err-read_tail-clause-counts : goal.returns-in_err-read_tail-clause-counts
returns-in_err-read_tail-clause-counts g c =
    let p = err_from_is_err_and c.from_residual-in_err-read_tail.result c.from_residual-in_err-read_tail.ensures.1 in
    counts_as c.in_err-read_tail.ensures.counts refl (p.1 ∙ ap (λ e. Err e) p.2)

pub returns-clause-counts : goal.returns-clause-counts
returns-clause-counts g c = counts_same c.in_ok-read_tail.ensures.counts (λ f. cc) (λ f. cc)

pub read_tail-requires-clause-below : goal.read_tail-requires-clause-below
read_tail-requires-clause-below g c =
    subst (λ (o : Option Unread). AllBelow c.args.layout.now (tail_on o))
    (sym (ap (λ (d : Draft). d.unread) c.self.view_is) ∙ c.in-Some.is) c.requires.below

pub returns-clause-len : goal.returns-clause-len
returns-clause-len g c =
    let u = c.in-Some.unread in
    let page = (with_items c.in_ok-page.page c.read_tail.new.page).items in
    let blocks = c.self.inside.blocks.items in
    let inv = c.self.invariant.1 u c.in-Some.is in
    let size : length c.read_tail.new.page ≡ PAGE = search rules in
    let page_is = with_items_is c.in_ok-page.page c.read_tail.new.page (search rules) in
    begun_len u (the_view c.self.inside)
    record { unread = None; blocks = blocks; unfinished = take u.len page; room = 0 } c.in-Some.is inv.1
    (omega (arith, length-take c.self.inside.filled c.self.inside.page.items, inv.2)) refl refl
    (omega (arith, length-take u.len page, ap length page_is, size, inv.0))
    ∙ ap len_of c.self.view_is

pub returns-clause-content : goal.returns-clause-content
returns-clause-content g c honest =
    let current = g.D.Disk.current c.args.disk.now in
    let first = text_page c.args.layout.now in
    let u = c.in-Some.unread in
    let page = (with_items c.in_ok-page.page c.read_tail.new.page).items in
    let blocks = c.self.inside.blocks.items in
    let inv = c.self.invariant.1 u c.in-Some.is in
    let page_is = with_items_is c.in_ok-page.page c.read_tail.new.page (search rules) in
    begun_bytes current (g.D.Disk.current c.read_tail.new.disk) first u (the_view c.self.inside)
    record { unread = None; blocks = blocks; unfinished = take u.len page; room = 0 } c.in-Some.is inv.1
    (ap (λ (n : ℕ). take n c.self.inside.page.items) inv.2) refl
    (ap (λ (xs : List ℕ). take u.len xs) page_is ∙ c.in_ok-read_tail.ensures.tail honest)
    ∙ ap (draft_bytes current first) c.self.view_is
