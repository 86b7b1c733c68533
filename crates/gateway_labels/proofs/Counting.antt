-- The counts of a text, one character on.
use Rattle.std.proofs.Common.{◌≡◌, ◌∙◌, ℕ, ◌+◌, ◌-◌, ◌^◌, List, [], ◌∷◌, ◌++◌, ap, arith, cond, eqb, min, refl, sym}
use Rattle.std.specs.List.{sum_by}
use Rattle.std.proofs.lemmas.List.Sums.{sum_by_push}
use Rattle.gateway_labels.specs.Counted.{IsCounted}
use Rattle.gateway_labels.specs.Rule.{capped, last_of, lost_in, neighbours, strangeness, weight}
use Rattle.gateway_labels.specs.declared.counts.Counts.{Counts}

pub last_push : (b : ℕ) (text : List ℕ) (c : ℕ) → last_of b (text ++ c ∷ []) ≡ c
last_push b [] c = refl
last_push b (x ∷ text) c = last_push x text c

neighbours_push : (b : ℕ) (text : List ℕ) (c : ℕ)
    → neighbours b (text ++ c ∷ []) ≡ neighbours b text ++ (last_of b text, c) ∷ []
neighbours_push b [] c = refl
neighbours_push b (x ∷ text) c = ap (λ rest. (b, x) ∷ rest) (neighbours_push x text c)

strangeness_push : (text : List ℕ) (c : ℕ)
    → strangeness (text ++ c ∷ []) ≡ strangeness text + weight (last_of 32 text, c)
strangeness_push text c =
    ap (λ pairs. sum_by weight pairs) (neighbours_push 32 text c)
    ∙ sum_by_push weight (neighbours 32 text) (last_of 32 text, c)

lost_push : (text : List ℕ) (c : ℕ) → lost_in (text ++ c ∷ []) ≡ lost_in text + cond (eqb c 0xFFFD) 1 0
lost_push text c = sum_by_push (λ x. cond (eqb x 0xFFFD) 1 0) text c

-- what is capped and grows is capped
capped_more : (n more : ℕ) → min (capped n + more) (2 ^ 64 - 1) ≡ capped (n + more)
capped_more n more = omega arith

pub lost_more : (counts : Counts) (text : List ℕ) (c : ℕ) → IsCounted counts text
    → min (counts.lost + cond (eqb c 0xFFFD) 1 0) (2 ^ 64 - 1) ≡ capped (lost_in (text ++ c ∷ []))
lost_more counts text c is =
    ap (λ n. min (n + cond (eqb c 0xFFFD) 1 0) (2 ^ 64 - 1)) is.lost
    ∙ capped_more (lost_in text) (cond (eqb c 0xFFFD) 1 0)
    ∙ ap capped (sym (lost_push text c))

pub strangeness_more : (counts : Counts) (text : List ℕ) (c : ℕ) → IsCounted counts text
    → min (counts.strangeness + weight (counts.last, c)) (2 ^ 64 - 1) ≡ capped (strangeness (text ++ c ∷ []))
strangeness_more counts text c is =
    ap (λ n. min (n + weight (counts.last, c)) (2 ^ 64 - 1)) is.strangeness
    ∙ capped_more (strangeness text) (weight (counts.last, c))
    ∙ ap (λ last. capped (strangeness text + weight (last, c))) is.last
    ∙ ap capped (sym (strangeness_push text c))
