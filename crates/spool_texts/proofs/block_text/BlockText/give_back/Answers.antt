use Rattle.std.proofs.Common.{rules, ◌≡◌, ◌≢◌, ◌<◌, ◌-◌, ◌∙◌, ℕ, List, arith, ap, false, get_or, length, subst, sym}
use Rattle.std.proofs.lemmas.Grind.{get_or_default_zero}
use Rattle.spool_blocks.specs.Blocks.{Held}
use Rattle.spool_texts.proofs.GivenBack.{given_from, others_same, still_reserved}
use Rattle.spool_texts.proofs.block_text.BlockText.give_back.Goals as goal

pub loop-given-preserved : goal.loop-given-preserved
loop-given-preserved c =
    let inv = c.loop-given.invariant in
    let list = c.into_list-list.result.items in
    let reserved = c.loop-given.blocks.reserved in
    let k = c.len.result - 1 - c.loop-given.given in
    let b = c.index.result.now in
    let here : k < length list = omega arith in
    let is : b ≡ get_or list k 0 = c.index.ensures ∙ get_or_default_zero list k b here in
    let distinct : (i k : ℕ) → i < k → k < length list → get_or list i 0 ≢ get_or list k 0 =
    subst (λ (xs : List ℕ). (i k : ℕ) → i < k → k < length xs → get_or xs i 0 ≢ get_or xs k 0)
    (sym c.into_list-list.ensures) c.requires.distinct in
    let now = λ (x : ℕ). ap (λ (h : Held). get_or h.reserved x false) c.give_back.ensures in record {
      rows = search rules;
      size = search rules;
      todo = λ i lt. now (get_or list i 0) ∙ still_reserved list reserved k b here is distinct i (omega (arith, lt))
          (inv.todo i (omega (arith, lt)));
      given = λ i from lt. now (get_or list i 0) ∙ given_from list reserved k b here is distinct
          (inv.todo k (omega (arith, here))) (λ j after lt. inv.given j (omega (arith, after)) lt) i
          (omega (arith, from)) lt;
      others = λ other absent. now other ∙ others_same list reserved k b here is distinct other absent
          ∙ inv.others other absent;
    }
