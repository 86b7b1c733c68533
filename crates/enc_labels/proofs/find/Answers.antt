use Rattle.std.proofs.Common.{◌≡◌, ℕ, true, List, [], ap, sym, ◌∙◌, map, Bor}
use Rattle.std.specs.Char.{to_ascii_lowercase}
use Rattle.enc_model.specs.declared.Encoding.{Encoding}
use Rattle.enc_model.specs.declared.Encoding.TheVariants.{Utf8}
use Rattle.enc_labels.proofs.Finding.{found_here, found_next, found_past}
use Rattle.enc_labels.proofs.find.Goals as goal

abbrev other : Bor (List ℕ) × Encoding
other = (record { ref_ptr = (0, 0); now = [] }, Utf8)

pub returns-then-eq_ignore_ascii_case : goal.returns-then-eq_ignore_ascii_case
returns-then-eq_ignore_ascii_case c =
    let same = c.eq_ignore_ascii_case.ensures.test.0 c.if-eq_ignore_ascii_case.true in
    let here = ap (map to_ascii_lowercase) (sym c.as_bytes.ensures.value) ∙ sym same in
    sym (sym c.loop-known.invariant ∙ found_here _ _ c.args.table.now c.loop-known.known-index other
    c.loop-known-test.true here)

pub loop-known-preserved : goal.loop-known-preserved
loop-known-preserved c =
    found_next _ _ c.args.table.now c.loop-known.known-index other c.loop-known-test.true (λ e.
    let same : c.eq_ignore_ascii_case.result ≡ true =
    c.eq_ignore_ascii_case.ensures.test.1 (sym e ∙ ap (map to_ascii_lowercase) (sym c.as_bytes.ensures.value)) in
    cc)
    ∙ c.loop-known.invariant

pub returns : goal.returns
returns c = sym (sym c.loop-known.invariant ∙ found_past _ _ c.args.table.now c.loop-known.known-index
    c.loop-known-test.false)
