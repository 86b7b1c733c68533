use Rattle.std.proofs.Common.{sym, ◌∙◌, ◌+◌, drop, arith}
use Rattle.std.proofs.lemmas.List.{take_all, length-drop}
use Rattle.common.proofs.Splits.{cut_some, cut_none}
use Rattle.common.proofs.texts.after.Goals as goal

pub returns-in-Some : goal.returns-in-Some
returns-in-Some c =
    let h = cut_some c.args.mark c.args.text.now c.in-Some.at (sym c.place_of.ensures ∙ c.in-Some.is) in
    sym (h.2 ∙ sym (take_all _ (drop (c.in-Some.at + 1) c.args.text.now)
    (omega (arith, length-drop (c.in-Some.at + 1) c.args.text.now))))

pub returns-in-None : goal.returns-in-None
returns-in-None c = sym (cut_none c.args.mark c.args.text.now (sym c.place_of.ensures ∙ c.in-None.is)).1
