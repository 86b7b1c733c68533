use Rattle.std.proofs.Common.{◌≡◌, true, false, sym, ◌∙◌}
use Rattle.enc_index.proofs.Areas.{is_area, margins_of, files_of}
use Rattle.enc_index.proofs.area.is_area_of.Goals as goal

pub returns-then-has_margins : goal.returns-then-has_margins
returns-then-has_margins c =
    let x = c.args.set.now in
    let area = c.args.area.now in (
      λ same. is_area x area c.requires.long (λ i. (c.type_inv.area i).fits)
          (c.has_margins.ensures.0 c.if-has_margins.true) (c.has_files.ensures.0 same),
      λ a. c.has_files.ensures.1 (files_of x area c.requires.valid a),
    )

pub returns-else-has_margins : goal.returns-else-has_margins
returns-else-has_margins c =
    let x = c.args.set.now in
    let area = c.args.area.now in (
      λ same. (let no : false ≡ true = sym c.if-has_margins.false ∙ same in absurd (cc)),
      λ a. c.has_margins.ensures.1 (margins_of x area a),
    )
