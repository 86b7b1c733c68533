-- Pairs, one after another.
use Rattle.std.specs.Prelude.{◌≡◌, ℕ, ◌+◌, ◌<◌, true, false, ◌||◌, List, [], ◌∷◌, ◌++◌, length, map, drop}
use Rattle.std.specs.Prelude.{bytes_eq, if◌then◌else◌, Some, None}
use Rattle.std.proofs.Common.{arith, ap, sym, ◌∙◌, refl, get_or}
use Rattle.std.proofs.lemmas.List.{at_drop_more, at_drop_all, length-map, get_or-map}
use Rattle.tus_request.specs.Texts.{trimmed}
use Rattle.tus_request.specs.Metadata.{KeyValue, has_key, setting, key_value_of, with_key_value, key_values_from}
use Rattle.tus_request.specs.Pairs.{pair_shown}
use Rattle.tus_request.specs.declared.metadata.Pair.{Pair}

pub has_key_turn : (key : List ℕ) (pairs : List Pair) (i : ℕ) (x : Pair) → i < length pairs → x ≡ get_or pairs i x
    → has_key key (map pair_shown (drop i pairs)) ≡ (bytes_eq x.key.now key || has_key key
    (map pair_shown (drop (i + 1) pairs)))
has_key_turn key pairs i x inside is =
    at_drop_more (λ t. has_key key (map pair_shown t)) pairs i x inside
    ∙ ap (λ (y : Pair). bytes_eq y.key.now key || has_key key (map pair_shown (drop (i + 1) pairs))) (sym is)

pub setting_turn : (key other : List ℕ) (pairs : List Pair) (i : ℕ) (x : Pair) → i < length pairs → x ≡ get_or pairs i x
    → setting key other (map pair_shown (drop i pairs)) ≡ (if bytes_eq x.key.now key then x.value.items else setting key
    other (map pair_shown (drop (i + 1) pairs)))
setting_turn key other pairs i x inside is =
    at_drop_more (λ t. setting key other (map pair_shown t)) pairs i x inside
    ∙ ap (λ (y : Pair). if bytes_eq y.key.now key then y.value.items else setting key other
    (map pair_shown (drop (i + 1) pairs))) (sym is)

none_left : (rest : List (List ℕ)) → key_values_from None rest ≡ None
none_left [] = refl
none_left (part ∷ rest) = refl

-- the parts, trimmed
abbrev pub trims : List (List ℕ) → List (List ℕ)
trims texts = map (trimmed (32 ∷ [])) texts

pairs_turn : (current : List KeyValue) (texts : List (List ℕ)) (n : ℕ) (part : List ℕ)
    → (n < length texts) × (part ≡ get_or texts n part)
    → key_values_from (Some current) (drop n (trims texts)) ≡ key_values_from
    (with_key_value current (key_value_of (trimmed
    (32 ∷ []) part)))
    (drop (n + 1) (trims texts))
pairs_turn current texts n part h =
    let inside : n < length (trims texts) = omega (arith, h.0, length-map texts (trimmed (32 ∷ []))) in
    let same : get_or (trims texts) n (trimmed (32 ∷ []) part) ≡ trimmed (32 ∷ []) part =
    get_or-map (trimmed (32 ∷ [])) texts n part (trimmed (32 ∷ []) part) h.0 ∙ ap (trimmed (32 ∷ [])) (sym h.1) in
    at_drop_more (λ t. key_values_from (Some current) t) (trims texts) n (trimmed (32 ∷ []) part) inside
    ∙ ap (λ t. key_values_from (with_key_value current (key_value_of t)) (drop (n + 1) (trims texts))) same

-- a part that is no pair
pub pairs_bad : (current : List KeyValue) (texts : List (List ℕ)) (n : ℕ) (part : List ℕ)
    → (n < length texts) × (part ≡ get_or texts n part)
    → key_value_of (trimmed (32 ∷ []) part) ≡ None → key_values_from (Some current) (drop n (trims texts)) ≡ None
pairs_bad current texts n part h e = rw (pairs_turn current texts n part h, e, none_left (drop (n + 1) (trims texts)))

-- a pair whose key was there
pub pairs_twice : (current : List KeyValue) (texts : List (List ℕ)) (n : ℕ) (part : List ℕ) (p : KeyValue)
    → (n < length texts) × (part ≡ get_or texts n part)
    → key_value_of (trimmed (32 ∷ []) part) ≡ Some p → has_key p.0 current ≡ true
    → key_values_from (Some current) (drop n (trims texts)) ≡ None
pairs_twice current texts n part p h e twice =
    rw (pairs_turn current texts n part h, e, twice, none_left (drop (n + 1) (trims texts)))

-- one pair more
pub pairs_more : (current : List KeyValue) (texts : List (List ℕ)) (n : ℕ) (part : List ℕ) (p : KeyValue)
    → (n < length texts) × (part ≡ get_or texts n part)
    → key_value_of (trimmed (32 ∷ []) part) ≡ Some p → has_key p.0 current ≡ false
    → key_values_from (Some current) (drop n (trims texts)) ≡ key_values_from (Some (current ++ p ∷ [])) (drop (n + 1)
    (trims texts))
pairs_more current texts n part p h e new = rw (pairs_turn current texts n part h, e, new)

-- no part is left
pub pairs_end : (current : List KeyValue) (texts : List (List ℕ)) (n : ℕ) → n ≡ length texts
    → key_values_from (Some current) (drop n (trims texts)) ≡ Some current
pairs_end current texts n e =
    at_drop_all (λ t. key_values_from (Some current) t) (trims texts) n
    (omega (arith, length-map texts (trimmed (32 ∷ []))))
