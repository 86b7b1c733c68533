use Rattle.std.proofs.Common.{rules, ◌≡◌, ap, sym, ◌∙◌, arith, inl, inr, refl}
use Rattle.std.specs.Prelude.{codes}
use Rattle.tus_request.specs.RouteTable.{files_route, upload_route}
use Rattle.tus_request.proofs.RouteLemmas.{first_both, plain_word}
use Rattle.tus_request.proofs.PlaceLemmas.{none_names_nothing, route_parts}
use Rattle.tus_request.proofs.ParamLemmas.{walk_of, texts}
use Rattle.tus_request.proofs.places.Routes.place_of.Goals as goal

pub returns-in_default : goal.returns-in_default
returns-in_default c =
    let e = rw c.args.self.now.both at c.in_default.ensures.missing in
    let f = first_both (codes "/files") c.args.path.now files_route upload_route plain_word
    (omega (arith, c.type_inv.path 7)) in
    sym (none_names_nothing (codes "/files") c.args.path.now files_route upload_route (sym f ∙ e))

pub returns-in-Files : goal.returns-in-Files
returns-in-Files c =
    let is = c.in-Files.is in
    elim (route_parts c.args.path.now _ (omega (arith, c.type_inv.path 7))
    (rw c.args.self.now.both at c.in-Ok.ensures.found)) [
      | inl w ↦ rw w.0 refl
      | inr w ↦ let k = ap (λ r. r.value) w.2 in absurd (cc)
    ]

pub returns-in-Some : goal.returns-in-Some
returns-in-Some c =
    let is = c.in-Upload.is in
    elim (route_parts c.args.path.now _ (omega (arith, c.type_inv.path 7))
    (rw c.args.self.now.both at c.in-Ok.ensures.found)) [
      | inl w ↦ let k = ap (λ r. r.value) w.1 in absurd (cc)
      | inr w ↦
          let all = walk_of _ _ w.0 w.2 (c.in-Ok.ensures.path ∙ w.1) in
          let h = rw all at (c.in-Some.ensures (texts c.args.path.now w.0 _ c.utf8.path w.1 all)) in
          let p : c.in-Some.part.now ≡ w.0 = cc in
          rw (w.1, ← p) (search rules)
    ]

pub returns-in-None : goal.returns-in-None
returns-in-None c =
    let is = c.in-Upload.is in
    elim (route_parts c.args.path.now _ (omega (arith, c.type_inv.path 7))
    (rw c.args.self.now.both at c.in-Ok.ensures.found)) [
      | inl w ↦ let k = ap (λ r. r.value) w.1 in absurd (cc)
      | inr w ↦
          let all = walk_of _ _ w.0 w.2 (c.in-Ok.ensures.path ∙ w.1) in
          let h = rw all at (c.in-None.ensures (texts c.args.path.now w.0 _ c.utf8.path w.1 all)) in absurd (cc)
    ]
