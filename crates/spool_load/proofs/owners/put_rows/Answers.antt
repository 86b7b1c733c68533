use Rattle.std.proofs.Common.{◌≡◌, ◌≢◌, ◌≤◌, ◌+◌, ◌∙◌, ℕ, List, Option, None, Result, Ok, Err, length, get_or, rules}
use Rattle.std.proofs.Common.{subst, arith}
use Rattle.std.proofs.Math.ListN.{get_or-eq_default}
use Rattle.spool_journal.specs.Image.{byte_of}
use Rattle.spool_load.specs.Reads.{IsSameTo}
use Rattle.spool_load.proofs.Looks.{put_same, put_at}
use Rattle.spool_load.proofs.owners.put_rows.Goals as goal

same_ok : {T E : Type 0} (r : Result T E) (a b : T) → r ≡ Ok a → r ≡ Ok b → a ≡ b
same_ok r a b e f = cc

no_err : {T E : Type 0} (r : Result T E) (a : T) (e : E) → r ≡ Ok a → r ≡ Err e → ⊥
no_err r a e f h = absurd (cc)

step_on : (first k : ℕ) (all rows : List (Option (ℕ × ℕ))) → IsSameTo (first + k + 1) all rows
    → IsSameTo (first + (k + 1)) all rows
step_on first k all rows same =
    let e : first + k + 1 ≡ first + (k + 1) = omega arith in subst (λ (n : ℕ). IsSameTo n all rows) e same

pub loop-k-preserved : goal.loop-k-preserved
loop-k-preserved c =
    let k = c.loop-k.k in
    let first = c.args.first in
    let inv = c.loop-k.invariant in
    let row = c.in_ok-row_at.field-0 in
    let put = c.in_ok-put_row.ensures.put in
    let others = c.in_ok-put_row.ensures.others in
    record {
      decoded = λ all long fits are_at was.
          let is =
          same_ok _ row _ c.in_ok-row_at.was
          (c.row_at.ensures.encoded (get_or all (first + k) None) (fits (first + k)) (are_at k (search rules))) in
          step_on first k all _
          (put_same c.loop-k.rows c.put_row.new.rows (first + k) row put others all
          (inv.decoded all long fits are_at was)
          is);
      valid =
          put_at c.loop-k.rows c.put_row.new.rows (first + k) row put others (byte_of c.args.page.now) first k
          (omega arith) inv.valid c.in_ok-row_at.ensures.valid;
      before = λ b lt. let ne : b ≢ first + k = omega (arith, lt) in others b ne ∙ inv.before b lt;
      after = λ b from. let ne : b ≢ first + k = omega (arith, from, c.loop-k-test.true) in
          others b ne ∙ inv.after b from;
    }

pub returns-in_err-row_at-clause-decoded : goal.returns-in_err-row_at-clause-decoded
returns-in_err-row_at-clause-decoded c all long fits are_at was =
    let k = c.loop-k.k in
    absurd (no_err _ _ _ (c.row_at.ensures.encoded (get_or all (c.args.first + k) None) (fits (c.args.first + k))
    (are_at k (search rules))) c.in_err-row_at.was)

pub returns-in_err-put_row-clause-decoded : goal.returns-in_err-put_row-clause-decoded
returns-in_err-put_row-clause-decoded c all long fits are_at was =
    let k = c.loop-k.k in
    let is =
    same_ok _ c.in_ok-row_at.field-0 _ c.in_ok-row_at.was
    (c.row_at.ensures.encoded (get_or all (c.args.first + k) None) (fits (c.args.first + k)) (are_at k (search rules)))
    in
    let after : length c.loop-k.rows ≤ c.args.first + k = c.in_err-put_row.ensures.after in
    let same : length c.loop-k.rows ≡ length all = search rules in
    absurd (c.in_err-put_row.ensures.used (is ∙ get_or-eq_default all None (omega (arith, after, same))))
