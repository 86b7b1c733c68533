-- What a writer holds while a list is written, item by item.
use Rattle.std.proofs.Common.{◌≡◌, ◌∙◌, ap, sym, ℕ, ◌+◌, ◌<◌, List, ◌++◌, length, take, get_or, append_assoc}
use Rattle.std.proofs.Common.{flat_map, Option, Some, None, []}
use Rattle.std.proofs.lemmas.List.{flat_map_more, take_more}
use Rattle.std.proofs.KnownBytes.{Appends-trans}
use Rattle.std.specs.Io.KnownBytes.{Appends}

pub appends_is : (a b : Option (List ℕ)) (x y : List ℕ) → x ≡ y → Appends a b x → Appends a b y
appends_is a b x y e p = rw (← e) p

-- one item more was written
pub wrote_item : {X : Type 0} (f : X → List ℕ) (head : List ℕ) (xs : List X) (i : ℕ) (d : X) (a b c : Option (List ℕ))
    → i < length xs → Appends a b (head ++ flat_map f (take i xs)) → Appends b c (f (get_or xs i d))
    → Appends a c (head ++ flat_map f (take (i + 1) xs))
wrote_item f head xs i d a b c less before now =
    appends_is a c ((head ++ flat_map f (take i xs)) ++ f (get_or xs i d)) (head ++ flat_map f (take (i + 1) xs))
    (flat_map_more f head (take i xs) (get_or xs i d)
    ∙ ap (λ ys. head ++ flat_map f ys) (sym (take_more xs i d less)))
    (Appends-trans a b c (head ++ flat_map f (take i xs)) (f (get_or xs i d)) before now)

-- what was written to an empty file is all that it holds
pub whole_text : (a b : Option (List ℕ)) (text : List ℕ) → a ≡ Some [] → Appends a b text → b ≡ Some text
whole_text None b text empty p = absurd (cc)
whole_text (Some a) None text empty p = absurd p
whole_text (Some a) (Some b) text empty p =
    let none : a ≡ [] = cc in ap (λ z. Some z) (p ∙ ap (λ z. z ++ text) none)
