use Rattle.std.proofs.Common.{arith, ◌-◌, ◌++◌, ℕ, List, length, drop, ap, sym, subst, ◌∙◌, length-take}
use Rattle.std.proofs.lemmas.List.{append-nil, take_all}
use Rattle.spool_disk.proofs.Firm.{lasts_on, lasts_more, no_calls, one_call}
use Rattle.spool_journal.proofs.Steps.{no_failure}
use Rattle.spool_journal.specs.Image.{text_page}
use Rattle.spool_texts.specs.Drafts.{Draft, draft_bytes, len_of, IsReserved}
use Rattle.spool_texts.proofs.Asides.{image_aside}
use Rattle.spool_texts.proofs.Contents.{begun_content, begun_held, content_more}
use Rattle.spool_texts.proofs.Prefixes.{writes_preserve, writes_none, writes_on, but_image, but_more, but_on, idle_in}
use Rattle.spool_texts.proofs.Prefixes.{image_in}
use Rattle.spool_texts.proofs.Reserves.{takes_none, takes_on}
use Rattle.spool_texts.proofs.block_text.BlockText.put.Goals as goal

pub returns-then-is_empty-clause-image : goal.returns-then-is_empty-clause-image
returns-then-is_empty-clause-image g c honest image is = image_aside _ _ (image_in (writes_none _ _) is)

pub returns-in_err-make_room-clause-takes : goal.returns-in_err-make_room-clause-takes
returns-in_err-make_room-clause-takes g c = takes_none _ _ _ (ap (λ (d : Draft). d.blocks) c.make_room.ensures.same)

pub returns-in_err-make_room-clause-image : goal.returns-in_err-make_room-clause-image
returns-in_err-make_room-clause-image g c honest image is = image_aside _ _ (image_in (writes_none _ _) is)

pub returns-in_err-open-clause-takes : goal.returns-in_err-open-clause-takes
returns-in_err-open-clause-takes g c =
    takes_none _ _ _ (c.open.ensures.list ∙ ap (λ (d : Draft). d.blocks) c.make_room.ensures.same)

pub returns-in_err-open-clause-writes : goal.returns-in_err-open-clause-writes
returns-in_err-open-clause-writes g c honest = writes_preserve _ _ (c.open.ensures.preserves honest)

pub returns-in_err-open-clause-idle : goal.returns-in_err-open-clause-idle
returns-in_err-open-clause-idle g c honest idle = idle_in idle (returns-in_err-open-clause-writes g c honest)

pub returns-in_err-open-clause-image : goal.returns-in_err-open-clause-image
returns-in_err-open-clause-image g c honest image is =
    image_aside _ _ (image_in (returns-in_err-open-clause-writes g c honest) is)

pub returns-in_err-open-clause-lasts : goal.returns-in_err-open-clause-lasts
returns-in_err-open-clause-lasts g c honest =
    lasts_more (c.open.ensures.lasts honest) (λ image is. image_aside _ _ (but_image is))

pub loop-done-init : goal.loop-done-init
loop-done-init g c =
    let old = c.args.self.now in
    let d = c.open.new.self in
    let first = text_page c.args.layout.now in
    let current = g.D.Disk.current c.args.disk.now in
    let current' = g.D.Disk.current c.open.new.disk in
    let same = c.make_room.ensures.same in
    let blocks = c.open.ensures.list ∙ ap (λ (d : Draft). d.blocks) same in
    let begun = c.in_ok-open.ensures.begun in
    let len = c.open.ensures.len ∙ ap len_of same in
    record {
      calls = one_call no_calls c.open.ensures.size c.open.ensures.honest
          (no_failure c.open.ensures.counts (λ e. let wrong = sym c.in_ok-open.was ∙ e in cc));
      within = omega arith;
      begun = begun;
      space = omega (arith, c.in_ok-make_room.ensures.room, c.open.ensures.space);
      few = c.in_ok-open.ensures.few;
      some = λ lt. absurd (omega (arith, lt));
      held = omega (arith, begun_held d begun, len);
      content = λ honest.
          sym (begun_content current' first d begun) ∙ c.in_ok-open.ensures.content honest
          ∙ ap (draft_bytes current first) same ∙ sym (append-nil (draft_bytes current first old));
      takes = takes_none _ _ _ blocks;
      reserved = subst (IsReserved c.args.blocks.now) (sym blocks) c.requires.reserved;
      writes = λ honest. writes_preserve _ _ (c.open.ensures.preserves honest);
      lasts = λ honest. lasts_more (c.open.ensures.lasts honest) (λ image is. but_image is);
    }

pub returns-in_err-done-clause-takes : goal.returns-in_err-done-clause-takes
returns-in_err-done-clause-takes g c = takes_on c.loop-done.invariant.takes c.put_some.ensures.takes

pub returns-in_err-done-clause-writes : goal.returns-in_err-done-clause-writes
returns-in_err-done-clause-writes g c honest =
    let inv = c.loop-done.invariant in
    let takes = c.put_some.ensures.takes in
    writes_on takes.more takes.grown (inv.writes honest) (c.put_some.ensures.writes (inv.calls.honest honest))

pub returns-in_err-done-clause-image : goal.returns-in_err-done-clause-image
returns-in_err-done-clause-image g c honest image is =
    image_aside _ _ (image_in (returns-in_err-done-clause-writes g c honest) is)

pub returns-in_err-done-clause-lasts : goal.returns-in_err-done-clause-lasts
returns-in_err-done-clause-lasts g c honest =
    let inv = c.loop-done.invariant in
    let takes = c.put_some.ensures.takes in
    lasts_more
    (lasts_on
    (lasts_more (inv.lasts honest) (λ image is. but_more takes.more takes.grown is))
    (lasts_more (c.put_some.ensures.lasts (inv.calls.honest honest))
    (λ image is. but_on takes.more takes.grown (inv.writes honest) is)))
    (λ image is. image_aside _ _ is)

pub loop-done-preserved : goal.loop-done-preserved
loop-done-preserved g c =
    let inv = c.loop-done.invariant in
    let takes = c.put_some.ensures.takes in
    let some = c.in_ok-done.ensures.some in
    let within = c.in_ok-done.ensures.within in
    record {
      calls = one_call inv.calls c.put_some.ensures.size c.put_some.ensures.honest
          (no_failure c.put_some.ensures.counts (λ e. let wrong = sym c.in_ok-done.was ∙ e in cc));
      within = omega (
        arith,
        within,
        length-take (length c.args.bytes.now - c.loop-done.done)
            (drop c.loop-done.done c.args.bytes.now),
        inv.within,
      );
      space = omega (arith, inv.space, c.put_some.ensures.space);
      begun = c.put_some.ensures.begun;
      few = c.put_some.ensures.few;
      some = λ _. c.in_ok-done.ensures.listed;
      held = omega (arith, c.in_ok-done.ensures.held, inv.held);
      content = λ honest.
          content_more _ _ _ c.args.bytes.now c.loop-done.done c.in_ok-done.field-0
          (length c.args.bytes.now - c.loop-done.done)
          (omega (
            arith,
            within,
            length-take (length c.args.bytes.now - c.loop-done.done)
                (drop c.loop-done.done c.args.bytes.now),
          ))
          (c.in_ok-done.ensures.content (inv.calls.honest honest)) (inv.content honest);
      takes = takes_on inv.takes takes;
      reserved = c.put_some.ensures.reserved;
      writes = λ honest. writes_on takes.more takes.grown (inv.writes honest)
          (c.put_some.ensures.writes (inv.calls.honest honest));
      lasts = λ honest. lasts_on
          (lasts_more (inv.lasts honest) (λ image is. but_more takes.more takes.grown is))
          (lasts_more (c.put_some.ensures.lasts (inv.calls.honest honest))
          (λ image is. but_on takes.more takes.grown (inv.writes honest) is));
    }

pub returns-clause-len : goal.returns-clause-len
returns-clause-len g c =
    let inv = c.loop-done.invariant in
    omega (arith, begun_held c.loop-done.self inv.begun, inv.held, inv.within, c.loop-done-test.false)

pub returns-clause-content : goal.returns-clause-content
returns-clause-content g c honest =
    let inv = c.loop-done.invariant in
    let before = draft_bytes (g.D.Disk.current c.args.disk.now) (text_page c.args.layout.now) c.args.self.now in
    begun_content (g.D.Disk.current c.loop-done.disk) (text_page c.args.layout.now) c.loop-done.self inv.begun
    ∙ inv.content honest
    ∙ ap (λ (xs : List ℕ). before ++ xs)
    (take_all c.loop-done.done c.args.bytes.now (omega (arith, c.loop-done-test.false)))

pub returns-clause-image : goal.returns-clause-image
returns-clause-image g c honest image is = image_aside _ _ (image_in (c.loop-done.invariant.writes honest) is)

pub returns-clause-lasts : goal.returns-clause-lasts
returns-clause-lasts g c honest = lasts_more (c.loop-done.invariant.lasts honest) (λ image is. image_aside _ _ is)
