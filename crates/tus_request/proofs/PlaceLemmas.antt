-- From the route that a path has to what it names.
use Rattle.std.specs.Prelude.{◌≡◌, ℕ, ◌⊎◌, true, false, List, [], ◌∷◌, ◌++◌, Some, None}
use Rattle.std.proofs.Common.{arith, refl, get_or, sym, ◌∙◌, ◌<◌, codes}
use Rattle.std.specs.List.{list_all}
use Rattle.std.specs.Char.{is_ascii_digit}
use Rattle.std.proofs.lemmas.Bool.Decides.{nat_tests}
use Rattle.matchit.specs.Seek.{has_slash}
use Rattle.tus_request.specs.Places.{upload_number}
use Rattle.tus_request.specs.Places.{place_at}
use Rattle.matchit.specs.Seek.{first}
use Rattle.matchit.specs.Router.{RouteOf}
use Rattle.tus_request.specs.RouteTable.{files_route, upload_route}
use Rattle.tus_request.specs.declared.places.Kind.{Kind}
use Rattle.tus_request.proofs.RouteLemmas.{found, both, first_both, plain_word}

-- a text with a slash writes no number
slash_no_digits : (text : List ℕ) → has_slash text ≡ true → list_all is_ascii_digit text ≡ false
slash_no_digits [] h = absurd (cc)
slash_no_digits (b ∷ text) h = let ih = slash_no_digits text in grind (arith, nat_tests, ih)

slash_no_number : (text : List ℕ) → has_slash text ≡ true → upload_number text ≡ None
slash_no_number [] h = refl
slash_no_number (b ∷ text) h = let n = slash_no_digits (b ∷ text) h in grind (arith, nat_tests)

module _ {K : Type 0} where
  pub none_names_nothing : (word path : List ℕ) (f u : K) → found word path f u ≡ None → place_at word path ≡ None
  none_names_nothing [] path f u h = grind (arith, nat_tests, slash_no_number)
  none_names_nothing (x ∷ word) path f u h = let ih = none_names_nothing word in grind (arith, nat_tests, ih)

  -- a path that has a route is the word, or begins with it and a slash
  found_parts : (word path : List ℕ) (f u r : K) → found word path f u ≡ Some r
      → ((path ≡ word) × (r ≡ f)) ⊎ ((part : List ℕ) × (path ≡ word ++ 47 ∷ part) × (r ≡ u))
  found_parts [] path f u r h = grind (arith, nat_tests)
  found_parts (x ∷ word) path f u r h = let ih = found_parts word in grind (arith, nat_tests, ih)

pub route_parts : (path : List ℕ) (r : RouteOf Kind) → get_or path 7 0 < 256
    → first (both (codes "/files") files_route upload_route) path ≡ Some r
    → ((path ≡ codes "/files") × (r ≡ files_route))
    ⊎ ((part : List ℕ) × (path ≡ codes "/files/" ++ part) × (r ≡ upload_route))
route_parts path r low e =
    found_parts (codes "/files") path files_route upload_route r
    (sym (first_both (codes "/files") path files_route upload_route plain_word low) ∙ e)
