-- A pair put into the table.
use Rattle.std.proofs.Common.{◌≡◌, ℕ, zero, suc, ◌+◌, ◌<◌, true, false, List, [], ◌∷◌, length, Option, Some, None, Ok}
use Rattle.std.proofs.Common.{Err, refl, sym, ap, arith, slice_index_or, slice_set, is_some, nat_lt}
use Rattle.std.proofs.lemmas.Bool.Decides.{nat_tests}
use Rattle.std.specs.Char.{InScalarRange}
use Rattle.enc_model.specs.Index.{Index}
use Rattle.enc_index.specs.declared.kind.ReadError.TheVariants.{Twice}
use Rattle.enc_index.specs.Scalars.{is_scalar}
use Rattle.enc_index.specs.Entries.{pairs_from}
use Rattle.enc_index.specs.Files.{inserted, with_pair, unless_given}
use Rattle.enc_index.proofs.Lookups.{code_entry}

pub scalar_test : (c : ℕ) → InScalarRange c → is_scalar c ≡ true
scalar_test c h = grind (arith, nat_tests, h)

-- before greater pointers
in_prefix : (p c q : ℕ) (entries : List (Option ℕ)) → p < q
    → inserted p c (pairs_from q entries) ≡ (p, c) ∷ pairs_from q
    entries
unfolding inserted pairs_from
in_prefix p c q [] h = refl
in_prefix p c q (None ∷ entries) h = in_prefix p c (suc q) entries (omega arith)
in_prefix p c q (Some d ∷ entries) h = grind (arith, nat_tests)

placed_at : (q : ℕ) (entries : List (Option ℕ)) (p k c : ℕ) → p ≡ q + k → k < length entries
    → slice_index_or entries k None ≡ None →
    pairs_from q (slice_set entries k (Some c)) ≡ inserted p c (pairs_from q entries)
unfolding inserted pairs_from
placed_at q [] p k c e h n = absurd (omega arith)
placed_at q (None ∷ entries) p zero c e h n =
    let same : p ≡ q = omega arith in
    rw same (sym (in_prefix q c (suc q) entries (omega arith)))
placed_at q (None ∷ entries) p (suc k) c e h n = placed_at (suc q) entries p k c (omega arith) (omega arith) n
placed_at q (Some d ∷ entries) p zero c e h n = absurd cc
placed_at q (Some d ∷ entries) p (suc k) c e h n =
    let rest = placed_at (suc q) entries p k c (omega arith) (omega arith) n in
    grind (arith, nat_tests, rest)

none_of : (o : Option ℕ) → is_some o ≡ false → o ≡ None
none_of None e = refl
none_of (Some c) e = absurd cc

pub pair_put : (entries : List (Option ℕ)) (n : ℕ) (pair : ℕ × ℕ) → pair.0 < length entries → is_scalar pair.1 ≡ true
    → is_some (slice_index_or entries pair.0 None) ≡ false →
    with_pair (length entries) n (pairs_from 0 entries) (Some pair) ≡ Ok
    (pairs_from 0 (slice_set entries pair.0 (Some pair.1)))
pair_put entries n pair h s e =
    let inside : nat_lt pair.0 (length entries) ≡ true = grind (arith, nat_tests, h) in
    let none = none_of (slice_index_or entries pair.0 None) e in
    let placed = placed_at 0 entries pair.0 pair.0 pair.1 (omega arith) h none in
    rw (inside, s, code_entry entries pair.0, none) (ap Ok (sym placed))

given : (n : ℕ) (pair : ℕ × ℕ) (index : Index) (o : Option ℕ) → is_some o ≡ true
    → unless_given n pair index o ≡ Err (Twice n)
given n pair index None e = absurd cc
given n pair index (Some c) e = refl

pub pair_twice : (entries : List (Option ℕ)) (n : ℕ) (pair : ℕ × ℕ) → pair.0 < length entries → is_scalar pair.1 ≡ true
    → is_some (slice_index_or entries pair.0 None) ≡ true →
    with_pair (length entries) n (pairs_from 0 entries) (Some pair) ≡ Err (Twice n)
pair_twice entries n pair h s e =
    let inside : nat_lt pair.0 (length entries) ≡ true = grind (arith, nat_tests, h) in
    rw (inside, s, code_entry entries pair.0) (given n pair _ _ e)

-- a pair of a line, put into an index
pub ruleset by_pair = (pair_put, pair_twice, scalar_test)
