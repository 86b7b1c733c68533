use Rattle.std.proofs.Common.{arith, rules, ◌≤◌, ◌+◌, ◌*◌, ◌/◌, ◌++◌, ℕ, List, length, inl, inr, Err, refl, sym}
use Rattle.std.proofs.Common.{ap, subst, ◌∙◌, false}
use Rattle.std.proofs.lemmas.Result.{err_from_is_err_and}
use Rattle.spool_journal.specs.declared.TheConstants.{PAGE}
use Rattle.spool_journal.specs.Image.{text_page}
use Rattle.spool_texts.specs.Drafts.{draft_bytes, count_with, len_of}
use Rattle.spool_drafts.specs.Drafts.{EndsAs, open_text}
use Rattle.spool_drafts.specs.Progress.{HasBytes, blocks_in}
use Rattle.spool_drafts.proofs.Appends.{short_of}
use Rattle.spool_drafts.proofs.Effects.{effect_none, effect_read, grasp_gives, grasp_takes, takes_in}
use Rattle.spool_drafts.proofs.Ends.{full, lacks, open_ended, refused, whole}
use Rattle.spool_drafts.proofs.draft.SpoolDraft.end.Goals as goal

pub returns-in_err-state-clause-answer : goal.returns-in_err-state-clause-answer
returns-in_err-state-clause-answer g c p held still =
    let x = c.args.indexes.now in
    let d = c.args.self.now in
    let e = err_from_is_err_and c.from_residual.result c.from_residual.ensures.1 in
    subst (EndsAs x p c.args.completes d d c.args.blocks.now c.args.blocks.now) (sym (e.1 ∙ ap Err e.2))
    (refused held still c.args.completes c.args.blocks.now c.args.blocks.now d c.in_err-state.field-0.0
    (c.in_err-state.ensures.finished p.began p.body still held.state_after held.complete))

pub returns-in_default : goal.returns-in_default
returns-in_default g c =
    let x = c.args.indexes.now in
    let d = c.args.self.now in
    record {
      size = refl;
      honest = (λ h. h, λ h. h);
      counts = search rules;
      same = (refl, refl, refl, refl, refl, inl refl);
      rows = refl;
      reserved = c.requires.reserved;
      effect = effect_none _ c.requires.reserved;
      after = λ len state is_state is. tt;
      room = λ len state is e. cc;
      refusal = search rules;
      unread = λ none. refl;
      preserves = search rules;
      lasts = search rules;
      answer = λ p held still.
          let finished = c.in_ok-state.ensures.finished p.began p.body still held.state_after held.complete in
          full held still c.args.completes finished c.args.blocks.now
          c.args.blocks.now d
          (inl (short_of p.short _ _ d.progress c.in_default.not-Text (c.in_ok-state.ensures.growing refl)
          held.stored));
      fits = tt;
      content = λ p honest held still carries. tt;
    }

pub returns-in-Ok-clause-effect : goal.returns-in-Ok-clause-effect
returns-in-Ok-clause-effect g c =
    effect_read (grasp_takes (takes_in c.in-Text.is c.end.ensures.takes) c.end.ensures.reserved)
    c.end.ensures.preserves c.end.ensures.lasts

pub returns-in-Ok-clause-answer : goal.returns-in-Ok-clause-answer
returns-in-Ok-clause-answer g c p held still =
    let x = c.args.indexes.now in
    let d = c.args.self.now in
    let size = ap length c.deref.ensures.value in
    let finished = c.in_ok-state.ensures.finished p.began p.body still held.state_after held.complete in
    whole held still c.args.completes finished c.in-Text.is
    _ _ c.end.new.self.blocks c.in-Ok.last.items refl refl (λ none. (c.in-Ok.ensures.nothing (size ∙ none)).0)
    (λ some. c.in-Ok.ensures.listed (omega (arith, some, size))
    ∙ ap (λ (k : ℕ). (len_of c.in-Text.text + k + 4095) / PAGE) size)
    c.len_with-text_len.ensures.nothing
    (λ there. c.len_with-text_len.ensures.more there
    ∙ ap (λ (last : List ℕ). PAGE * (d.committed_len / PAGE) + count_with c.end.new.self.blocks last)
    c.deref-in-Ok.ensures.value)
    (λ there. c.in-Ok.ensures.len there ∙ ap (λ (k : ℕ). len_of c.in-Text.text + k) size)

pub returns-in-Ok-clause-content : goal.returns-in-Ok-clause-content
returns-in-Ok-clause-content g c p honest held still carries there =
    let x = c.args.indexes.now in
    let d = c.args.self.now in
    let current = g.D.Disk.current c.args.disk.now in
    let first = text_page c.args.layout.now in
    let added = c.in_ok-state.added.items in
    let finished = c.in_ok-state.ensures.finished p.began p.body still held.state_after held.complete in
    c.in-Ok.ensures.content honest there
    ∙ ap (λ (xs : List ℕ). draft_bytes current first c.in-Text.text ++ xs) c.deref.ensures.value
    ∙ ap (λ (xs : List ℕ). xs ++ added) (subst (HasBytes current first (open_text x p false)) c.in-Text.is carries)
    ∙ sym (open_ended held still c.args.completes finished)

pub returns-in-Err-Stop-clause-effect : goal.returns-in-Err-Stop-clause-effect
returns-in-Err-Stop-clause-effect g c =
    effect_read (grasp_takes (takes_in c.in-Text.is c.end.ensures.takes) c.end.ensures.reserved)
    c.end.ensures.preserves c.end.ensures.lasts

pub returns-clause-effect : goal.returns-clause-effect
returns-clause-effect g c =
    effect_read
    (grasp_gives _ (takes_in c.in-Text.is c.end.ensures.takes) c.end.ensures.reserved c.leave.ensures.gives
    (ap blocks_in c.leave.ensures.next)) c.end.ensures.preserves c.end.ensures.lasts

pub returns-clause-answer : goal.returns-clause-answer
returns-clause-answer g c p held still =
    let x = c.args.indexes.now in
    let d = c.args.self.now in
    let added = c.in_ok-state.added.items in
    let size = ap length c.deref.ensures.value in
    let is_full = ap (λ e. Err e) c.in-Err-Full.field-0-is in
    let finished = c.in_ok-state.ensures.finished p.began p.body still held.state_after held.complete in
    let some : 1 ≤ length added = omega (arith, c.in-Err-Full.ensures.some is_full, size) in
    let wanted = lacks held still c.args.completes finished c.in-Text.is some in
    full held still c.args.completes finished c.args.blocks.now c.leave.new.blocks d
    (inr record {
      held = c.end.new.blocks;
      own = c.end.new.self.blocks;
      takes = takes_in c.in-Text.is c.end.ensures.takes;
      reserved = c.end.ensures.reserved;
      full = c.in-Err-Full.ensures.full is_full;
      scarce = omega (arith, c.in-Err-Full.ensures.scarce is_full, size, wanted);
      gives = c.leave.ensures.gives;
    })
