-- What the bytes of a pair add to its pointer, and the character there.
use Rattle.std.proofs.Common.{ℕ, ◌+◌, ◌-◌, ◌<◌, ◌≡◌, if◌then◌else◌, nat_lt, List, [], ◌∷◌, Option, Some}
use Rattle.std.proofs.Common.{None, IfSome, zero, suc, map, get_or, length, slice_index_or, ap, ◌∙◌, arith}
use Rattle.std.proofs.lemmas.List.FromFn.{get_or-map-range_with_len}
use Rattle.std.proofs.lemmas.Bool.Decides.{nat_tests}
use Rattle.std.specs.List.{range_with_len}
use Rattle.enc_legacy.specs.declared.pairs.TheConstants.{TRAILS}

-- an entry of a table of what bytes add, as leads and then as trails
abbrev row_of : (ℕ → ℕ) → (ℕ → ℕ) → ℕ → ℕ
row_of lead trail n = if nat_lt n TRAILS then lead n else trail (n - TRAILS)

abbrev pub rows_of : (ℕ → ℕ) → (ℕ → ℕ) → List ℕ
rows_of lead trail = map (row_of lead trail) (range_with_len 0 512)

row_at : (table : List ℕ) (lead trail : ℕ → ℕ) → table ≡ rows_of lead trail → (n : ℕ) → n < 512
    → get_or table n 0 ≡ row_of lead trail n
row_at table lead trail is n small =
    ap (λ l. get_or l n 0) is ∙ get_or-map-range_with_len (row_of lead trail) 0 512 n n 0 small (omega arith)

pub lead_at : (table : List ℕ) (lead trail : ℕ → ℕ) → table ≡ rows_of lead trail → (b : ℕ) → b < 256
    → get_or table b 0 ≡ lead b
lead_at table lead trail is b small =
    row_at table lead trail is b (omega (arith, small)) ∙ grind (arith, nat_tests, small)

trail_at : (table : List ℕ) (lead trail : ℕ → ℕ) → table ≡ rows_of lead trail → (b : ℕ) → b < 256
    → get_or table (TRAILS + b) 0 ≡ trail b
trail_at table lead trail is b small =
    row_at table lead trail is (TRAILS + b) (omega (arith, small)) ∙ grind (arith, nat_tests, small)

-- both of a pair
pub pair_at : (table : List ℕ) (lead trail : ℕ → ℕ) → table ≡ rows_of lead trail → (a b : ℕ) → a < 256 → b < 256
    → (get_or table a 0 ≡ lead a) × (get_or table (TRAILS + b) 0 ≡ trail b)
pair_at table lead trail is a b small below =
    (lead_at table lead trail is a small, trail_at table lead trail is b below)

-- a pointer that has a character is one of the table's
pub pointer_within : (codes : List (Option ℕ)) (p c : ℕ) → slice_index_or codes p None ≡ Some c → p < length codes
pointer_within [] p c is = grind (arith, is)
pointer_within (x ∷ codes) zero c is = omega arith
pointer_within (x ∷ codes) (suc p) c is = let l = pointer_within codes p c is in omega (arith, l)

-- what follows of two things where there is one
pub some_both : {A : Type 0} (o : Option A) (P Q R : A → Type 0) → ((x : A) → P x → Q x → R x) → IfSome o P
    → IfSome o Q → IfSome o R
some_both None P Q R f p q = tt
some_both (Some x) P Q R f p q = f x p q
