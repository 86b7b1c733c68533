-- The first line of a text, and the lines after it.
use Rattle.std.proofs.Common.{◌≡◌, ℕ, suc, ◌+◌, ◌<◌, true, false, cond, List, [], ◌∷◌, length, Option, Some, None, Ok}
use Rattle.std.proofs.Common.{Err, refl, ap, arith, ◌==◌}
use Rattle.common.specs.Splits.{before}
use Rattle.enc_index.specs.Files.{rest_if_any, pieces, onto_first_line, without_cr, without_crs, lines_of, with_line}
use Rattle.enc_index.specs.Files.{with_lines}
use Rattle.enc_model.specs.Index.{Index}
use Rattle.enc_index.specs.declared.kind.ReadError.{ReadError}

abbrev pieces_after : Option (List ℕ) → List (List ℕ)
pieces_after None = []
pieces_after (Some rest) = pieces rest

pieces_cut : (bytes : List ℕ) → pieces bytes ≡ before 0x0A bytes ∷ pieces_after (rest_if_any 0x0A bytes)
unfolding pieces rest_if_any
pieces_cut [] = refl
pieces_cut (b ∷ bytes) =
    let rest = pieces_cut bytes in
    elim (b == 0x0A) as (λ t. cond t ([] ∷ pieces bytes) (onto_first_line b (pieces bytes)) ≡ cond t []
    (b ∷ before 0x0A bytes) ∷ pieces_after (cond t (Some bytes) (rest_if_any 0x0A bytes))) [
      | true ↦ refl
      | false ↦ ap
          (onto_first_line b) rest
    ]

first_of_more : (line : List ℕ) (rest : List ℕ) → without_crs (line ∷ pieces rest) ≡ without_cr line ∷ without_crs
    (pieces rest)
unfolding without_crs
first_of_more line rest = rw (pieces_cut rest) refl

pub lines_next : (bytes rest : List ℕ) → rest_if_any 0x0A bytes ≡ Some rest → lines_of bytes ≡ without_cr
    (before 0x0A bytes) ∷ lines_of rest
lines_next bytes rest e = rw (pieces_cut bytes, e) (first_of_more (before 0x0A bytes) rest)

pub lines_last : (bytes : List ℕ) → rest_if_any 0x0A bytes ≡ None → lines_of bytes ≡ before 0x0A bytes ∷ []
unfolding without_crs
lines_last bytes e = rw (pieces_cut bytes, e) refl

pub after_shorter : (mark : ℕ) (bytes rest : List ℕ) → rest_if_any mark bytes ≡ Some rest → length rest < length bytes
unfolding rest_if_any
after_shorter mark [] rest e = absurd cc
after_shorter mark (b ∷ bytes) rest e =
    elim (b == mark) as (λ t. cond t (Some bytes) (rest_if_any mark bytes) ≡ Some rest
    → length rest < suc (length bytes)) [
      | true ↦ λ h. (let same : bytes ≡ rest = cc in omega (arith, ap length same))
      | false ↦ λ h. (let less = after_shorter mark bytes rest h in omega arith)
    ] e

-- LINE BY LINE

pub lines_on : (bound n : ℕ) (index next : Index) (line : List ℕ) (lines : List (List ℕ))
    → with_line bound n index line ≡ Ok next →
    with_lines bound n index (line ∷ lines) ≡ with_lines bound (n + 1) next lines
unfolding with_lines
lines_on bound n index next line lines e = rw e refl

pub lines_bad : (bound n : ℕ) (index : Index) (e : ReadError) (line : List ℕ) (lines : List (List ℕ))
    → with_line bound n index line ≡ Err e →
    with_lines bound n index (line ∷ lines) ≡ Err e
unfolding with_lines
lines_bad bound n index e line lines h = rw h refl

pub lines_done : (bound n : ℕ) (index : Index) → with_lines bound n index [] ≡ Ok index
unfolding with_lines
lines_done bound n index = refl

-- lines, one after the other
pub ruleset by_lines = (lines_next, lines_last, after_shorter)

-- the entries of lines, one after the other
pub ruleset by_entries = (lines_on, lines_bad, lines_done)
