-- What lives as long as a borrow of two borrowed values.
use base.Fml.{Lft, Incl}
use base.Meet.{within_both}
use mathlib.Core.List.{not-mem-nil, Mem}
use Rattle.std.proofs.Common.{ℕ, [], ◌++◌}

-- the lifetimes in a tuple of two references, the second of them to a `T`
abbrev pub lives_of : (first second of_t : Lft) → Lft
lives_of a b l =
    let part = (a ++ ((l ++ []) ++ (((l ++ []) ++ []) ++ []))) ++ ((b ++ l) ++ []) in
    part ++ part

pub live_within : (ν a b l : Lft) → Incl ν a → Incl ν b → Incl ν l → Incl ν (lives_of a b l)
live_within ν a b l in_a in_b in_l =
    let none : (x : ℕ) → Mem x [] → Mem x ν = λ x m. absurd (not-mem-nil m) in
    let both = within_both ν in
    let part = both _ _ (both _ _ in_a (both _ _ (both _ _ in_l none)
    (both _ _ (both _ _ (both _ _ in_l none) none) none))) (both _ _ (both _ _ in_b in_l) none) in
    both _ _ part part
