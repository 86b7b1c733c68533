-- A look-up that goes down a table.
use Rattle.std.proofs.Common.{◌≡◌, ℕ, ◌+◌, ◌<◌, ◌≤◌, Bool, false, List, ◌∷◌, length, map, drop, get_or, Some, None}
use Rattle.std.proofs.Common.{Option, refl, sym, ◌∙◌, bytes_eq, arith}
use Rattle.std.proofs.lemmas.List.{at_drop_more, at_drop_all}
use Rattle.std.proofs.lemmas.Slice.Eq.{bytes_eq-Decides}
use Rattle.enc_model.specs.declared.Encoding.{Encoding}
use Rattle.enc_labels.specs.Labels.{found_label}

module _ {X : Type 0} (f : X → List ℕ × Encoding) (name : List ℕ) where
  -- what is found in the rows from this one on
  abbrev left : List X → Option Encoding
  left xs = found_label (map f xs) name

  first_hit : (x : X) (xs : List X) → (f x).0 ≡ name → left (x ∷ xs) ≡ Some (f x).1
  unfolding found_label
  first_hit x xs e = rw ((bytes_eq-Decides (f x).0 name).1 e) refl

  first_missed : (x : X) (xs : List X) (b : Bool) → bytes_eq (f x).0 name ≡ b → b ≡ false → left (x ∷ xs) ≡ left xs
  unfolding found_label
  first_missed x xs b e h = rw (e ∙ h) refl

  miss : (x : X) → ((f x).0 ≡ name → ⊥) → bytes_eq (f x).0 name ≡ false
  miss x h = grind (arith, (bytes_eq-Decides (f x).0 name).0, h)

  pub found_here : (xs : List X) (i : ℕ) (d : X) → i < length xs → (f (get_or xs i d)).0 ≡ name
      → left (drop i xs) ≡ Some (f (get_or xs i d)).1
  found_here xs i d h e = at_drop_more left xs i d h ∙ first_hit (get_or xs i d) (drop (i + 1) xs) e

  pub found_next : (xs : List X) (i : ℕ) (d : X) → i < length xs → ((f (get_or xs i d)).0 ≡ name → ⊥)
      → left (drop (i + 1) xs) ≡ left (drop i xs)
  found_next xs i d h e = sym
      (at_drop_more left xs i d h ∙ first_missed (get_or xs i d) (drop (i + 1) xs) _ refl (miss (get_or xs i d) e))

  pub found_past : (xs : List X) (i : ℕ) → length xs ≤ i → left (drop i xs) ≡ None
  unfolding found_label
  found_past xs i h = at_drop_all left xs i h
