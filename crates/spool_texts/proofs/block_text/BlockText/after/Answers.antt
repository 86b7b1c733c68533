use Rattle.std.proofs.Common.{◌≡◌, ◌*◌, ◌/◌, ◌%◌, ◌++◌, ℕ, List, [], Option, None, arith, rules, ap, refl, subst, sym}
use Rattle.std.proofs.Common.{◌∙◌}
use Rattle.std.proofs.Common.{append-nil, length}
use Rattle.spool_journal.specs.declared.TheConstants.{PAGE}
use Rattle.spool_texts.specs.TextOn.{text_on}
use Rattle.spool_texts.specs.Drafts.{prefix_on}
use Rattle.spool_texts.proofs.Befores.{content_empty, tail_text, no_tail_text}
use Rattle.spool_texts.proofs.block_text.BlockText.after.Goals as goal
use Rattle.spool_texts.proofs.block_text.BlockText.after.Goals.{then-len-eq0, else-len-eq0}

pub returns : goal.returns
returns c =
    let len = c.args.committed_len in
    let list = c.args.list.now in
    let none = c.new.ensures.items in
    record {
      none = none;
      count = omega (arith, ap length none);
      tail = search rules;
      bytes = λ current first.
          ap (λ (xs : List ℕ). text_on current first list (PAGE * (len / PAGE))
          ++ (prefix_on current first c.if-len-eq0.block (len % PAGE) ++ xs))
          (content_empty current first record { unread = None; blocks = c.new.result.items; unfinished = []; room = 0 }
          [] none refl)
          ∙ ap (λ (xs : List ℕ). text_on current first list (PAGE * (len / PAGE)) ++ xs)
          (append-nil (prefix_on current first c.if-len-eq0.block (len % PAGE)))
          ∙ elim c.if-len-eq0.branch [
            | then-len-eq0 w ↦
                subst (λ (tail : Option ℕ). text_on current first list (PAGE * (len / PAGE)) ++ prefix_on current first
                tail (len % PAGE) ≡ text_on current first list len) (sym w.block-is)
                (no_tail_text current first len list w.if-len-eq0.true)
            | else-len-eq0 w ↦
                subst (λ (tail : Option ℕ). text_on current first list (PAGE * (len / PAGE)) ++ prefix_on current first
                tail (len % PAGE) ≡ text_on current first list len) (sym w.block-is)
                (tail_text current first len list c.requires (omega (arith, w.if-len-eq0.false)))
          ];
    }
