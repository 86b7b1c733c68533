-- A table at its beginning, and at its end.
use Rattle.std.proofs.Common.{◌≡◌, ℕ, zero, suc, ◌+◌, ◌≤◌, true, List, [], ◌∷◌, length, replicate, Option, Some, None}
use Rattle.std.proofs.Common.{Ok, Err, refl, sym, ◌∙◌, ap, arith, slice_index_or, IsErrAnd, Result}
use Rattle.std.proofs.lemmas.Bool.Decides.{nat_tests}
use Rattle.std.proofs.lemmas.List.{length-replicate}
use Rattle.enc_model.specs.Index.{Index}
use Rattle.enc_index.specs.declared.kind.Kind.{Kind}
use Rattle.enc_index.specs.declared.kind.ReadError.{ReadError}
use Rattle.enc_index.specs.declared.kind.ReadError.TheVariants.{Line, Range, Twice, NoMemory}
use Rattle.enc_index.specs.Scalars.{is_scalar}
use Rattle.enc_index.specs.Entries.{pairs_from, AreScalarEntries, ascends}
use Rattle.enc_index.specs.Files.{pairs_of_file, lines_of, with_lines, pointers_of}
use Rattle.enc_index.specs.Kinds.{KindedIndex, IsReadingOfIndex}

no_pairs_at : (q n : ℕ) → pairs_from q (replicate n None) ≡ []
unfolding pairs_from
no_pairs_at q zero = refl
no_pairs_at q (suc n) = no_pairs_at (suc q) n

abbrev pub none : Option ℕ
none = None

no_code : (n k : ℕ) → slice_index_or (replicate n None) k None ≡ none
no_code zero k = refl
no_code (suc n) zero = refl
no_code (suc n) (suc k) = no_code n k

-- a table with no code point
pub at_first : (bound n : ℕ) (entries : List (Option ℕ)) (lines : List (List ℕ)) → entries ≡ replicate bound None →
    with_lines (length entries) n (pairs_from 0 entries) lines ≡ with_lines bound n [] lines
at_first bound n entries lines e = rw (e, length-replicate bound none, no_pairs_at 0 bound) refl

pub scalars_at_first : (bound : ℕ) (entries : List (Option ℕ)) → entries ≡ replicate bound None
    → AreScalarEntries entries
scalars_at_first bound entries e k = rw (e, no_code bound k) (tt)

pub read_refused : (kind : Kind) (bytes : List ℕ) (e : ReadError) → with_lines (pointers_of kind) 1 []
    (lines_of bytes) ≡ Err e → IsReadingOfIndex kind bytes (Err e)
unfolding pairs_of_file
read_refused kind bytes (Line n) h = h
read_refused kind bytes (Range n) h = h
read_refused kind bytes (Twice n) h = h
read_refused kind bytes NoMemory h = tt

pub read_done : (kind : Kind) (bytes : List ℕ) (index : Index) → with_lines (pointers_of kind) 1 []
    (lines_of bytes) ≡ Ok index → pairs_of_file kind bytes ≡ Ok index
unfolding pairs_of_file
read_done kind bytes index h = h

-- the pairs of a table ascend
pairs_ascend : (low q bound : ℕ) (entries : List (Option ℕ)) → low ≤ q → bound ≡ q + length entries
    → AreScalarEntries entries
    → ascends low bound (pairs_from q entries) ≡ true
unfolding ascends pairs_from
pairs_ascend low q bound [] l e s = refl
pairs_ascend low q bound (None ∷ entries) l e s =
    pairs_ascend low (suc q) bound entries (omega arith) (omega arith) (λ k. s (suc k))
pairs_ascend low q bound (Some c ∷ entries) l e s =
    let rest = pairs_ascend (suc q) (suc q) bound entries (omega arith) (omega arith) (λ k. s (suc k)) in
    let scalar : is_scalar c ≡ true = s zero in
    grind (arith, nat_tests, rest, scalar)

pub table_ascends : (bound : ℕ) (entries : List (Option ℕ)) → length entries ≡ bound → AreScalarEntries entries
    → ascends 0 bound (pairs_from 0 entries) ≡ true
table_ascends bound entries e s = pairs_ascend 0 0 bound entries (omega arith) (omega arith) s

pub refused_by : (kind : Kind) (bytes : List ℕ) (r : Result KindedIndex ReadError) (e : ReadError)
    → IsErrAnd r (λ x. x ≡ e) →
    with_lines (pointers_of kind) 1 [] (lines_of bytes) ≡ Err e → IsReadingOfIndex kind bytes r
refused_by kind bytes (Ok index) e h lines = absurd h
refused_by kind bytes (Err x) e h lines = read_refused kind bytes x (lines ∙ ap Err (sym h))
