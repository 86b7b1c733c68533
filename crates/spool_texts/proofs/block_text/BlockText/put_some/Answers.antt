use Rattle.std.proofs.Common.{arith, rules, ℕ, List, ◌≡◌, ◌+◌, ◌++◌, [], length, take, ap, refl, ◌∙◌}
use Rattle.spool_journal.specs.declared.TheConstants.{PAGE}
use Rattle.spool_journal.specs.Image.{text_page}
use Rattle.spool_texts.specs.Drafts.{Draft}
use Rattle.spool_texts.proofs.Contents.{full_written, page_filled}
use Rattle.spool_texts.proofs.block_text.BlockText.put_some.Goals as goal

pub returns-clause-content : goal.returns-clause-content
returns-clause-content g c honest =
    let current = g.D.Disk.current c.args.disk.now in
    let current' = g.D.Disk.current c.write_prefix.new.disk in
    let first = text_page c.args.layout.now in
    let bytes = take c.fill-n.result c.args.bytes.now in
    let blocks_is : c.self.inside.blocks.items ≡ c.open_block.new.self.blocks =
    ap (λ (d : Draft). d.blocks) c.self.view_is in
    let unfinished_is : take c.self.inside.filled c.self.inside.page.items ≡ c.args.self.now.unfinished =
    ap (λ (d : Draft). d.unfinished) c.self.view_is ∙ c.open_block.ensures.unfinished in
    let cap : c.self.inside.page.len ≡ PAGE = search rules in
    let new_size : length c.fill-n.new.page ≡ PAGE = search rules in
    let old_size : length c.deref_mut.result.now ≡ PAGE = search rules in
    let full : c.self.inside.filled + c.fill-n.result ≡ PAGE =
    omega (arith, c.fill-n.ensures.count, c.if-self-n-lt-PAGE.false, old_size) in
    let page_size : length c.deref-2.result.now ≡ PAGE = search rules in
    let page_is : c.deref-2.result.now ≡ c.args.self.now.unfinished ++ bytes =
    page_filled c.self.inside.page.len c.self.inside.filled c.fill-n.result c.fill-n.new.page _ c.deref_mut.result.now
    bytes c.deref-2.result.now c.args.self.now.unfinished c.deref-2.ensures.value cap new_size full
    c.fill-n.ensures.filled (ap (λ (xs : List ℕ). take c.self.inside.filled xs) c.deref_mut.ensures.value
    ∙ unfinished_is) in
    let text = rw c.deref.ensures.value at (c.in_ok-write_prefix.ensures.text honest) in
    full_written current current' first c.args.self.now record {
      unread = c.self.inside.unread;
      blocks = c.self.inside.blocks.items;
      unfinished = [];
      room = c.args.self.now.room;
    } c.open_block.ensures.takes.more c.deref-2.result.now bytes refl (blocks_is ∙ c.open_block.ensures.takes.grown)
    (ap length blocks_is ∙ c.in_ok-open_block.ensures.ready) page_size page_is text
