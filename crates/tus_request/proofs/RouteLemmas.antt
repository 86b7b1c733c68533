-- What `first` answers on two rows: a word with a slash and a parameter after it, and the word.
use Rattle.std.specs.Prelude.{◌≡◌, ℕ, ◌-◌, ◌<◌, Bool, false, cond, ◌==◌, List, [], ◌∷◌, ◌++◌, length, Option}
use Rattle.std.specs.Prelude.{Some, None, codes}
use Rattle.std.proofs.Common.{arith, refl, zero, suc, get_or}
use Rattle.matchit.specs.Rows.{RowsOf, param_token, catch_all_token}
use Rattle.matchit.specs.Seek.{seek, first, has_slash, own, or_else}
use Rattle.std.proofs.lemmas.Bool.Decides.{nat_tests}
use Rattle.matchit.proofs.OnLiterals.{matchit_on_literals}

-- no token of the word is a parameter's
abbrev pub IsPlain : List ℕ → Type 0
IsPlain [] = Unit {0}
IsPlain (x ∷ word) = (x == param_token ≡ false) × (x == catch_all_token ≡ false) × IsPlain word

module _ {K : Type 0} where
  -- a path with no row left to match has no route, by a byte and by a parameter
  abbrev pub no_param : Bool → ℕ → ℕ × RowsOf K
  no_param v n = cond {A = ℕ × RowsOf K} v (0, []) (n, [])

  arm : (v : Bool) (n : ℕ) (path : List ℕ) → ((skip : ℕ) → seek {K = K} skip [] path ≡ None)
      → or_else (seek ((no_param v n).0 - 1) (no_param v n).1 path) None ≡ None
  arm v n path nothing = grind (arith, nothing)

  pub seek_nothing : (skip : ℕ) (path : List ℕ) → seek {K = K} skip [] path ≡ None
  unfolding matchit_on_literals
  seek_nothing skip [] = refl
  seek_nothing (suc skip) (b ∷ path) = seek_nothing skip path
  seek_nothing zero (b ∷ path) =
      rw (seek_nothing 0 path) (arm (has_slash (b ∷ path)) (length (b ∷ path)) path (λ skip. seek_nothing skip path))

  pub no_arm : (v : Bool) (n : ℕ) (path : List ℕ)
      → or_else (seek ((no_param v n).0 - 1) (no_param v n).1 path) None ≡ None
  no_arm v n path = arm v n path (λ skip. seek_nothing skip path)

  -- a parameter that ends the route takes what is left, if that is one segment
  skip_all : (rs : RowsOf K) (path : List ℕ) → seek (length path) rs path ≡ own rs
  unfolding matchit_on_literals
  skip_all rs [] = refl
  skip_all rs (b ∷ path) = skip_all rs path

  -- a word with a slash and a parameter after it, and the word
  abbrev pub both : List ℕ → K → K → RowsOf K
  both word f u = (word ++ 47 ∷ param_token ∷ [], u) ∷ (word, f) ∷ []

  -- what follows the slash is a parameter where it is one segment
  abbrev pub after_slash : List ℕ → K → Option K
  after_slash [] u = None
  after_slash (c ∷ rest) u = cond (has_slash (c ∷ rest)) None (Some u)

  -- what follows the word decides
  abbrev pub after : List ℕ → K → K → Option K
  after [] f u = Some f
  after (b ∷ rest) f u = cond (47 == b) (after_slash rest u) None

  -- the path is the word, or begins with it and a slash
  abbrev pub found : List ℕ → List ℕ → K → K → Option K
  found [] path f u = after path f u
  found (x ∷ word) [] f u = None
  found (x ∷ word) (b ∷ path) f u = cond (x == b) (found word path f u) None

  -- a last parameter
  one_param : (v : Bool) (path rest : List ℕ) (u : K) → length path ≡ suc (length rest)
      → or_else (seek ((cond {A = ℕ × RowsOf K} v (0, []) (length path, ([], u) ∷ [])).0 - 1)
      (cond {A = ℕ × RowsOf K} v (0, []) (length path, ([], u) ∷ [])).1 rest) None
      ≡ cond v None (Some u)
  one_param v path rest u e = let all = skip_all (([], u) ∷ []) rest in grind (arith, seek_nothing)

  pub first_param : (path : List ℕ) (u : K) → get_or path 0 0 < 256
      → first ((param_token ∷ [], u) ∷ []) path ≡ after_slash path u
  unfolding matchit_on_literals
  first_param [] u low = refl
  first_param (c ∷ rest) u low =
      let e : (param_token == c) ≡ false = grind (arith, nat_tests) in
      rw (e, seek_nothing 0 rest) (one_param (has_slash (c ∷ rest)) (c ∷ rest) rest u refl)

  pub first_after : (path : List ℕ) (f u : K) → get_or path 1 0 < 256 → first (both [] f u) path ≡ after path f u
  unfolding matchit_on_literals
  first_after [] f u low = refl
  first_after (b ∷ rest) f u low =
      let slash = first_param rest u low in
      let none = seek_nothing 0 rest in
      let past = no_arm (has_slash (b ∷ rest)) (length (b ∷ rest)) rest in
      grind (arith, nat_tests)

  pub first_both : (word path : List ℕ) (f u : K) → IsPlain word → get_or path (suc (length word)) 0 < 256
      → first (both word f u) path ≡ found word path f u
  unfolding matchit_on_literals
  first_both [] path f u plain low = first_after path f u low
  first_both (x ∷ word) [] f u plain low = refl
  first_both (x ∷ word) (b ∷ path) f u plain low =
      let ih = first_both word path f u plain.2 low in
      let none = seek_nothing 0 path in
      let past = no_arm (has_slash (b ∷ path)) (length (b ∷ path)) path in
      grind (arith, nat_tests)

pub plain_word : IsPlain (codes "/files")
plain_word = (refl, refl, (refl, refl, (refl, refl, (refl, refl, (refl, refl, (refl, refl, tt))))))
