use Rattle.std.proofs.Common.{◌≤◌, ◌+◌, ◌++◌, ℕ, List, false, length, inl, inr, refl, rules, arith, sym, ◌∙◌}
use Rattle.std.proofs.Common.{ap, subst, Err}
use Rattle.std.proofs.lemmas.Bool.{cases_eq}
use Rattle.spool_journal.specs.Image.{text_page}
use Rattle.spool_texts.specs.Drafts.{Draft, draft_bytes, len_of}
use Rattle.spool_drafts.specs.Drafts.{Carries, Holds, IsAfter, IsLonger, IsTailPlaced, committed_len_of, declare_of}
use Rattle.spool_drafts.specs.Drafts.{PreservesTail, list_of, upload_number_of, offset_of, open_text, with_piece}
use Rattle.spool_drafts.specs.Progress.{IsStateOf, HasBytes, IsGrowing}
use Rattle.spool_drafts.specs.declared.draft.SpoolDraft.{SpoolDraft}
use Rattle.spool_drafts.specs.declared.progress.Progress.TheVariants.{Text}
use Rattle.spool_drafts.proofs.Appends.{longer_fault, longer_full, longer_short, longer_text, not_complete, open_longer}
use Rattle.spool_drafts.proofs.Effects.{effect_none, grasp_gives, only_none, takes_in}
use Rattle.spool_texts.proofs.Reserves.{takes_none}
use Rattle.spool_drafts.proofs.draft.SpoolDraft.append.Goals as goal

pub returns-then-is_empty-clause-effect : goal.returns-then-is_empty-clause-effect
returns-then-is_empty-clause-effect g c = effect_none _ c.requires.reserved

pub returns-in-Complete : goal.returns-in-Complete
returns-in-Complete g c =
    record {
      size = refl;
      honest = (λ h. h, λ h. h);
      counts = search rules;
      nothing = search rules;
      same = (refl, refl, refl, refl, inl refl);
      after = λ len state is. record { committed = is.committed; goes_on = is.goes_on; room = is.room };
      placed = record { below = c.requires.placed.below; few = c.requires.placed.few };
      rows = refl;
      reserved = c.requires.reserved;
      effect = effect_none _ c.requires.reserved;
      answer = λ p held fits. absurd (not_complete held c.args.piece.now c.is_empty.result fits c.is_empty.ensures
          c.if-is_empty.false c.in-Complete.is);
      content = λ p honest held fits carries. absurd (not_complete held c.args.piece.now c.is_empty.result fits
          c.is_empty.ensures c.if-is_empty.false c.in-Complete.is);
      memory = λ e. cc;
      holds_on = λ p held e. cc;
      content_on = λ p honest e carries. cc;
    }

pub returns-in_default-fed-clause-effect : goal.returns-in_default-fed-clause-effect
returns-in_default-fed-clause-effect g c = effect_none _ c.requires.reserved

pub returns-in_default-next-clause-effect : goal.returns-in_default-next-clause-effect
returns-in_default-next-clause-effect g c = record {
  own = list_of c.args.self.now;
  grasp = grasp_gives _ (takes_none _ _ _ refl) c.requires.reserved c.leave.ensures.gives
      (ap list_of c.leave.ensures.next);
  writes = λ honest. only_none _ _;
}

pub returns-in_default-next-clause-answer : goal.returns-in_default-next-clause-answer
returns-in_default-next-clause-answer g c p held fits =
    subst (λ (e : SpoolDraft). IsLonger c.args.indexes.now (with_piece p c.args.piece.now) c.args.self.now e
    c.args.blocks.now c.leave.new.blocks)
    (sym c.leave.ensures.next) (inl (longer_fault held fits c.is_empty.ensures c.if-is_empty.false
    (c.in-Ok.ensures.reads p.began p.body) c.in_default-next.is))

pub returns-in_default-progress : goal.returns-in_default-progress
returns-in_default-progress g c =
    let x = c.args.indexes.now in
    let d = c.args.self.now in
    let piece = c.args.piece.now in
    let next = c.leave-in_default-progress.ensures.next in
    let gives = c.leave-in_default-progress.ensures.gives in
    let none = ap list_of next in
    record {
      size = refl;
      honest = (λ h. h, λ h. h);
      counts = search rules;
      nothing = search rules;
      same = (
        ap upload_number_of next,
        ap offset_of next,
        ap declare_of next,
        ap committed_len_of next,
        subst (PreservesTail d) (sym next) (inr (refl, tt)),
      );
      after = λ len state is. subst (IsAfter len state) (sym next) record {
        committed = is.committed;
        goes_on = subst (IsStateOf state) c.in-Some.is (c.in-Ok.ensures.goes_on state is.goes_on);
        room = λ growing. is.room (c.in-Ok.ensures.growing (subst IsGrowing (sym c.in-Some.is) growing));
      };
      placed = subst (IsTailPlaced c.args.layout.now) (sym next) record {
        below = λ i lt. absurd (omega (arith, lt));
        few = c.requires.placed.few;
      };
      rows = gives.rows;
      reserved = search rules;
      effect = record {
        own = list_of d;
        grasp = grasp_gives _ (takes_none _ _ _ refl) c.requires.reserved gives none;
        writes = λ honest. only_none _ _;
      };
      answer = λ p held fits.
          subst (λ (e : SpoolDraft). IsLonger x (with_piece p piece) d e c.args.blocks.now
          c.leave-in_default-progress.new.blocks) (sym next)
          (inl (longer_short held fits c.is_empty.ensures c.if-is_empty.false (c.in-Ok.ensures.reads p.began p.body)
          c.in-Some.next c.in-Some.is c.in_default-progress.not-Text c.in-Ok.ensures.growing));
      content = λ p honest held fits carries. subst (Carries x _ _ (with_piece p piece)) (sym next) tt;
      memory = λ e. cc;
      holds_on = λ p held e. cc;
      content_on = λ p honest e carries. cc;
    }

pub returns-in-Ok-put-clause-after : goal.returns-in-Ok-put-clause-after
returns-in-Ok-put-clause-after g c len state is = record {
  committed = is.committed;
  goes_on = subst (IsStateOf state) c.in-Some.is (c.in-Ok.ensures.goes_on state is.goes_on);
  room = λ growing. is.room (c.in-Ok.ensures.growing (subst IsGrowing (sym c.in-Some.is) growing));
}

pub returns-in-Ok-put-clause-answer : goal.returns-in-Ok-put-clause-answer
returns-in-Ok-put-clause-answer g c p held fits =
    let value = c.deref.ensures.value in
    inl (subst (λ (came : ℕ). Holds c.args.indexes.now (with_piece p c.args.piece.now) (record c.args.self.now {
      progress = Text c.in-Some.next c.put.new.self;
      came = came;
    })) (sym c.saturating_add-self-in-Ok-put.ensures)
    (longer_text held fits c.is_empty.ensures c.if-is_empty.false (c.in-Ok.ensures.reads p.began p.body)
    c.in-Some.next c.in-Some.is c.in-Text.is c.put.new.self
    (λ none. ap (λ (t : Draft). t.blocks) (c.in-Ok-put.ensures.nothing (ap length value ∙ none)).0)
    (λ some. c.in-Ok-put.ensures.listed (omega (arith, some, ap length value)))
    (c.in-Ok-put.ensures.len ∙ ap (λ (xs : List ℕ). len_of c.in-Text.text + length xs) value)))

pub returns-in-Ok-put-clause-content : goal.returns-in-Ok-put-clause-content
returns-in-Ok-put-clause-content g c p honest held fits carries =
    let current = g.D.Disk.current c.args.disk.now in
    let first = text_page c.args.layout.now in
    let before = subst (HasBytes current first (open_text c.args.indexes.now p false)) c.in-Text.is carries in
    c.in-Ok-put.ensures.content honest
    ∙ ap (λ (xs : List ℕ). draft_bytes current first c.in-Text.text ++ xs) c.deref.ensures.value
    ∙ ap (λ (xs : List ℕ). xs ++ c.fed.new.out.items) before
    ∙ sym (open_longer held fits c.is_empty.ensures c.if-is_empty.false (c.in-Ok.ensures.reads p.began p.body)
    c.in-Some.next c.in-Some.is)

pub returns-in-Err-Stop-clause-size : goal.returns-in-Err-Stop-clause-size
returns-in-Err-Stop-clause-size g c = c.put.ensures.size

pub returns-in-Err-Full-clause-after : goal.returns-in-Err-Full-clause-after
returns-in-Err-Full-clause-after g c len state is =
    subst (IsAfter len state) (sym c.leave-in-Err-Full.ensures.next) record {
      committed = is.committed;
      goes_on = subst (IsStateOf state) c.in-Some.is (c.in-Ok.ensures.goes_on state is.goes_on);
      room = λ growing. is.room (c.in-Ok.ensures.growing (subst IsGrowing (sym c.in-Some.is) growing));
    }

pub returns-in-Err-Full-clause-answer : goal.returns-in-Err-Full-clause-answer
returns-in-Err-Full-clause-answer g c p held fits =
    let size = ap length c.deref.ensures.value in
    let some : 1 ≤ length c.fed.new.out.items = elim (cases_eq (length c.fed.new.out.items) 0) [
      | inl none ↦ let ok = (c.put.ensures.nothing (size ∙ none)).3 in
          let wrong = rw c.in-Err-Full.is at ok in cc
      | inr there ↦ omega (arith, there)
    ] in
    let is_full = ap (λ e. Err e) c.in-Err-Full.field-0-is in
    subst (λ (e : SpoolDraft). IsLonger c.args.indexes.now (with_piece p c.args.piece.now) c.args.self.now e
    c.args.blocks.now c.leave-in-Err-Full.new.blocks) (sym c.leave-in-Err-Full.ensures.next)
    (longer_full held fits c.is_empty.ensures c.if-is_empty.false (c.in-Ok.ensures.reads p.began p.body)
    c.in-Some.next c.in-Some.is c.in-Text.is c.args.blocks.now
    c.leave-in-Err-Full.new.blocks some (λ wanted e. record {
      held = c.put.new.blocks;
      own = c.put.new.self.blocks;
      takes = takes_in c.in-Text.is c.put.ensures.takes;
      reserved = c.put.ensures.reserved;
      full = c.in-Err-Full.ensures.full is_full;
      scarce = omega (arith, c.in-Err-Full.ensures.scarce is_full, size, e);
      gives = c.leave-in-Err-Full.ensures.gives;
    }))
