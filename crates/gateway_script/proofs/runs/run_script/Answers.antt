use Rattle.std.proofs.Common.{◌≡◌, ◌+◌, ◌<◌, ◌≤◌, ℕ, List, [], length, drop, length-drop, arith, Ok, Err, ◌∙◌}
use Rattle.std.specs.Io.BufRead.{take_through}
use Rattle.std.proofs.lemmas.List.{take_rest}
use Rattle.std.proofs.lemmas.Result.{err_from_is_err_and}
use Rattle.tus_session.proofs.Counting.{uncounted}
use Rattle.gateway_script.specs.Faults.{script_fault}
use Rattle.common.specs.Splits.{rest_after}
use Rattle.gateway_script.specs.Script.{run_lines, script_lines}
use Rattle.gateway_script.proofs.Outputs.{some_list, no_list}
use Rattle.gateway_script.proofs.Ending.{ends_after, line_fails, lines_on, line_some, lines_end}
use Rattle.gateway_script.proofs.runs.run_script.Goals as goal

pub returns-in_err-run_line-clause-does : goal.returns-in_err-run_line-clause-does
returns-in_err-run_line-clause-does g c = λ sure before st r prefix at.
    let i = c.loop-rest.invariant.4 sure before st r prefix at in
    let rest = c.loop-rest.rest.now in
    let p = err_from_is_err_and c.from_residual.result c.from_residual.ensures.1 in
    rw (p.1, p.2) (ends_after _ (Err _) (run_lines 1 0 (script_lines c.args.script.now))
    (run_lines c.loop-rest.number c.loop-rest.start (script_lines rest)) r i.0 i.1
    (line_fails _ _ c.loop-rest.number c.loop-rest.start rest i.0
    (some_list _ rest c.is_empty.ensures c.loop-rest-test.true) (rw c.first_line-line.ensures.line at
    (c.in_err-run_line.ensures.does sure before st i.0 prefix (script_lines (rest_after 10 rest)) i.2))))

-- a line of the rest has a byte, and is within it
shorter : (rest line : List ℕ) → (rest ≡ [] → ⊥) → line ≡ take_through 10 rest → length line ≤ length rest
    → (0 < length line) × (length (drop (length line) rest) + length line ≡ length rest)
shorter rest line some is within =
    let byte : 0 < length line = rw is (line_some rest some) in (byte, omega (arith, length-drop (length line) rest))

pub loop-rest-smaller : goal.loop-rest-smaller
loop-rest-smaller g c =
    let less = shorter c.loop-rest.rest.now c.first_line-line.result.now
    (some_list _ c.loop-rest.rest.now c.is_empty.ensures c.loop-rest-test.true) c.first_line-line.ensures.line
    c.first_line-line.ensures.within in omega arith

pub loop-rest-preserved : goal.loop-rest-preserved
loop-rest-preserved g c =
    let rest : List ℕ = c.loop-rest.rest.now in
    let some : rest ≡ [] → ⊥ = some_list _ rest c.is_empty.ensures c.loop-rest-test.true in
    let less = shorter rest c.first_line-line.result.now some c.first_line-line.ensures.line
    c.first_line-line.ensures.within in (
      omega (arith, c.loop-rest.invariant.0),
      omega (arith, c.loop-rest.invariant.1),
      uncounted (λ fails. absurd (cc)) c.in_ok-run_line.ensures.counts ∙ c.loop-rest.invariant.2,
      uncounted (λ fails. absurd (cc)) c.in_ok-run_line.ensures.io ∙ c.loop-rest.invariant.3,
      λ sure before st r prefix at.
          let i = c.loop-rest.invariant.4 sure before st r prefix at in rw take_rest
          (lines_on _ c.loop-rest.number c.loop-rest.start rest c.first_line-line.result.now
          (run_lines 1 0 (script_lines c.args.script.now)) r i.0 some c.first_line-line.ensures.line i.1
          (c.in_ok-run_line.ensures.does sure before st i.0 prefix (script_lines (rest_after 10 rest)) i.2)),
    )

pub returns-clause-does : goal.returns-clause-does
returns-clause-does g c = λ sure before st r prefix at.
    let i = c.loop-rest.invariant.4 sure before st r prefix at in
    let none : c.loop-rest.rest.now ≡ [] = no_list _ c.loop-rest.rest.now c.is_empty.ensures c.loop-rest-test.false in
    ends_after _ (Ok (tt {0})) (run_lines 1 0 (script_lines c.args.script.now))
    (run_lines c.loop-rest.number c.loop-rest.start []) r i.0 (rw none at i.1)
    (lines_end _ c.loop-rest.number c.loop-rest.start i.0 (Ok (tt {0}))
    (c.in_ok-cut_all.ensures.does sure before st i.0 prefix i.2))

pub returns-in_err-cut_all-clause-does : goal.returns-in_err-cut_all-clause-does
returns-in_err-cut_all-clause-does g c = λ sure before st r prefix at.
    let i = c.loop-rest.invariant.4 sure before st r prefix at in
    let none : c.loop-rest.rest.now ≡ [] = no_list _ c.loop-rest.rest.now c.is_empty.ensures c.loop-rest-test.false in
    let p = err_from_is_err_and c.from_residual-in_err-cut_all.result c.from_residual-in_err-cut_all.ensures.1 in
    rw (p.1, p.2) (ends_after _ (Err (script_fault _)) (run_lines 1 0 (script_lines c.args.script.now))
    (run_lines c.loop-rest.number c.loop-rest.start []) r i.0 (rw none at i.1)
    (lines_end _ c.loop-rest.number c.loop-rest.start i.0 (Err _)
    (c.in_err-cut_all.ensures.does sure before st i.0 prefix i.2)))
