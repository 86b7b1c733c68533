-- What is written of the bytes that a call gave.
use Rattle.std.specs.Io.KnownBytes.{Appends}
use Rattle.std.proofs.lemmas.List.{take-append-drop}
use Rattle.std.proofs.Common.{◌≡◌, ◌==◌, Bool, true, false, ℕ, List, [], ◌∷◌, ◌++◌, length, take, drop, Option, Some}
use Rattle.std.proofs.Common.{None, refl, sym, ap, ◌∙◌, append_assoc, append-nil, arith}

pub appends_nothing : (known : Option (List ℕ)) → Appends known known []
appends_nothing None = tt {0}
appends_nothing (Some x) = sym (append-nil x)

pub appends_both : (a b c : Option (List ℕ)) (x y : List ℕ) → Appends a b x → Appends b c y → Appends a c (x ++ y)
appends_both None b c x y p q = tt {0}
appends_both (Some a) (Some b) (Some c) x y p q = q ∙ (ap (λ z. z ++ y) p ∙ append_assoc a x y)
appends_both (Some a) (Some b) None x y p q = q
appends_both (Some a) None c x y p q = absurd p

-- a part of the rest was written
pub wrote_more : (a b c : Option (List ℕ)) (bytes prefix rest next : List ℕ) (n : ℕ) → bytes ≡ prefix ++ rest
    → Appends a b prefix → Appends b c (take n rest)
    → next ≡ drop n rest → (more : List ℕ) × (bytes ≡ more ++ next) × Appends a c more
wrote_more a b c bytes prefix rest next n parts before now is = (
  prefix ++ take n rest,
  parts ∙ (ap (λ z. prefix ++ z) (sym (take-append-drop n rest))
      ∙ (sym (append_assoc prefix (take n rest) (drop n rest)) ∙ ap (λ z. (prefix ++ take n rest) ++ z) (sym is))),
  appends_both a b c prefix (take n rest) before now,
)

-- whether the list is empty
pub some_list : (b : Bool) (list : List ℕ) → b ≡ (length list == 0) → b ≡ false → list ≡ [] → ⊥
some_list b list is not_empty none = grind arith

pub no_list : (b : Bool) (list : List ℕ) → b ≡ (length list == 0) → b ≡ true → list ≡ []
no_list b [] is empty = refl
no_list b (x ∷ list) is empty = absurd (grind arith)
