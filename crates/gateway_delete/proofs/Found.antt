-- The first of a list that does, looked for one by one.
use Rattle.std.proofs.Common.{◌≡◌, ◌∙◌, ap, sym, ℕ, ◌+◌, ◌<◌, Bool, true, false, cond, List, [], ◌∷◌, length}
use Rattle.std.proofs.Common.{take, drop, get_or, Option, Some, None}
use Rattle.std.specs.List.{find}
use Rattle.std.specs.Option.{option_or}
use Rattle.std.proofs.lemmas.List.{take-append-drop, take_more}
use Rattle.std.proofs.lemmas.List.Folds.{find-append}

module _ {X : Type 0} (p : X → Bool) (xs : List X) (i : ℕ) (d : X) (less : i < length xs)
    (none : find p (take i xs) ≡ None) where
  by_next : find p (take (i + 1) xs) ≡ cond (p (get_or xs i d)) (Some (get_or xs i d)) None
  by_next =
      ap (λ ys. find p ys) (take_more xs i d less)
      ∙ (find-append p (take i xs) (get_or xs i d ∷ [])
      ∙ ap (λ o. option_or o (find p (get_or xs i d ∷ []))) none)

  -- the next one doesn't
  pub none_yet : p (get_or xs i d) ≡ false → find p (take (i + 1) xs) ≡ None
  none_yet isnt = by_next ∙ ap (λ b. cond b (Some (get_or xs i d)) None) isnt

  -- the next one does
  pub found_next : p (get_or xs i d) ≡ true → find p xs ≡ Some (get_or xs i d)
  found_next is =
      ap (λ ys. find p ys) (sym (take-append-drop (i + 1) xs))
      ∙ (find-append p (take (i + 1) xs) (drop (i + 1) xs)
      ∙ ap (λ o. option_or o (find p (drop (i + 1) xs)))
      (by_next ∙ ap (λ b. cond b (Some (get_or xs i d)) None) is))
