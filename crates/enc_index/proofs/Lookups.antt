-- Look-ups in entries and in the set.
use Rattle.std.proofs.Common.{◌≡◌, ℕ, zero, suc, ◌+◌, ◌<◌, Bool, List, [], ◌∷◌, Option, Some, None, refl, arith}
use Rattle.std.proofs.Common.{slice_index_or}
use Rattle.std.proofs.lemmas.Bool.Decides.{nat_tests}
use Rattle.enc_model.specs.Index.{code, pointer_where}
use Rattle.enc_model.specs.Indexes.{IndexSet, tables, pairs_of}
use Rattle.enc_index.specs.declared.kind.Kind.{Kind}
use Rattle.enc_index.specs.declared.kind.Kind.TheVariants.{Jis0208, Jis0212, Katakana, Single}
use Rattle.enc_index.specs.Kinds.{table_of, index_of}
use Rattle.enc_index.specs.Entries.{pairs_from}

pub table_is : (x : IndexSet) (k : Kind) → table_of (tables x) k ≡ pairs_of (index_of x k)
table_is x Jis0208 = refl
table_is x Jis0212 = refl
table_is x Katakana = refl
table_is x (Single e) = refl

pub code_of_none : (p : ℕ) → code [] p ≡ None
unfolding code
code_of_none p = refl

pub pointer_of_none : (includes : ℕ → Bool) (c : ℕ) → pointer_where includes [] c ≡ None
unfolding pointer_where
pointer_of_none includes c = refl

-- below the first pointer there is nothing
code_below : (q : ℕ) (entries : List (Option ℕ)) (p : ℕ) → p < q → code (pairs_from q entries) p ≡ None
unfolding pairs_from code
code_below q [] p h = refl
code_below q (None ∷ entries) p h = code_below (suc q) entries p (omega arith)
code_below q (Some c ∷ entries) p h =
    let rest = code_below (suc q) entries p (omega arith) in
    grind (arith, nat_tests, rest)

code_at : (q : ℕ) (entries : List (Option ℕ)) (p k : ℕ) → p ≡ q + k → code (pairs_from q entries) p ≡ slice_index_or
    entries k None
unfolding pairs_from code
code_at q [] p k e = refl
code_at q (None ∷ entries) p zero e = code_below (suc q) entries p (omega arith)
code_at q (None ∷ entries) p (suc k) e = code_at (suc q) entries p k (omega arith)
code_at q (Some c ∷ entries) p zero e = grind (arith, nat_tests)
code_at q (Some c ∷ entries) p (suc k) e =
    let rest = code_at (suc q) entries p k (omega arith) in
    grind (arith, nat_tests, rest)

-- an entry, by its pointer, is its code point
pub code_entry : (entries : List (Option ℕ)) (p : ℕ) → code (pairs_from 0 entries) p ≡ slice_index_or entries p None
code_entry entries p = code_at 0 entries p p (omega arith)
