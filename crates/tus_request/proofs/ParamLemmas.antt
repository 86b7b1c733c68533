-- What the parameter of `/files/{number}` takes of a path.
use Rattle.std.specs.Prelude.{◌≡◌, ℕ, ◌+◌, ◌-◌, ◌<◌, ◌≤◌, true, ltb, leb, List, [], ◌∷◌, ◌++◌, length, drop, codes}
use Rattle.std.specs.Prelude.{IsUtf8}
use Rattle.std.proofs.Common.{arith, ap, ◌∙◌, refl, get_or}
use Rattle.std.proofs.lemmas.Bool.Decides.{nat_tests}
use Rattle.std.proofs.lemmas.Str.{IsUtf8-drop, IsCharBoundary-after_ascii, IsUtf8-from_is_utf8}
use Rattle.std.proofs.Math.Seq.{take-length}
use Rattle.matchit.specs.Rows.{param_token}
use Rattle.matchit.specs.Params.{wild_from, next_at, walk, part_of, AllText, wild_stop}
use Rattle.std.specs.Str.{is_utf8, chars}
use Rattle.matchit.specs.Router.{RouteOf}
use Rattle.tus_request.specs.RouteTable.{upload_route}
use Rattle.tus_request.specs.declared.places.Kind.{Kind}

abbrev pub AreBytes : List ℕ → Type 0
AreBytes [] = Unit {0}
AreBytes (x ∷ word) = (ltb x param_token ≡ true) × AreBytes word

past_word : (word : List ℕ) (len token at : ℕ) → AreBytes word → at + length word ≤ len
    → wild_from (word ++ param_token ∷ []) len token at ≡ (token + length word, at + length word)
past_word [] len token at low fits =
    let t : token + 0 ≡ token = omega arith in
    let a : at + 0 ≡ at = omega arith in
    rw (t, a)
past_word (x ∷ word) len token at low fits =
    let n : next_at len at ≡ at + 1 = grind (arith, nat_tests) in
    let t : token + 1 + length word ≡ token + length (x ∷ word) = omega arith in
    let a : at + 1 + length word ≡ at + length (x ∷ word) = omega arith in
    let e = past_word word len (token + 1) (at + 1) low.1 (omega arith) in
    rw (low.0, n, e, t, a)

walk_one : (pattern text path : List ℕ) (name : ℕ × ℕ) (token at : ℕ) → wild_from pattern (length path) 0
    0 ≡ (token, at)
    → walk pattern text path (name ∷ []) 0
    0 ≡ (part_of text name.0 name.1, part_of path at (wild_stop pattern token path at)) ∷ []
walk_one pattern text path name token at e = rw e

-- from the seventh byte to the end
seventh : (path part : List ℕ) → drop 7 path ≡ part → length path ≡ length part + 7
    → part_of path 7 (length path) ≡ part
seventh path part e len =
    let n : length path - 7 ≡ length part = omega arith in
    let low : leb 7 (length path) ≡ true = grind (arith, nat_tests) in
    let high : leb (length path) (length path) ≡ true = grind (arith, nat_tests) in
    rw (low, high, n, e, take-length)

pub upload_walk : (part : List ℕ) → walk upload_route.pattern upload_route.text (codes "/files/" ++ part)
    upload_route.names 0 0
    ≡ (codes "number", part) ∷ []
upload_walk part =
    let len : length (codes "/files/" ++ part) ≡ length part + 7 = omega arith in
    let w = past_word (codes "/files/") (length (codes "/files/" ++ part)) 0 0
    (refl, (refl, (refl, (refl, (refl, (refl, (refl, tt))))))) (omega arith) in
    walk_one upload_route.pattern upload_route.text (codes "/files/" ++ part) (8, 14) 7 7 w
    ∙ ap (λ p. (codes "number", p) ∷ []) (seventh (codes "/files/" ++ part) part refl len)

pub walk_of : (route : RouteOf Kind) (path part : List ℕ) → route ≡ upload_route → path ≡ codes "/files/" ++ part
    → walk route.pattern route.text path route.names 0 0 ≡ (codes "number", part) ∷ []
walk_of route path part is e = rw (is, e) (upload_walk part)

number_is_text : IsUtf8 (codes "number")
unfolding is_utf8 chars lib.Utf8.encode
number_is_text = IsUtf8-from_is_utf8 (codes "number") refl

part_is_text : (path part : List ℕ) → IsUtf8 path → path ≡ codes "/files/" ++ part → IsUtf8 part
part_is_text path part valid e =
    let len : 6 < length path = rw e (omega arith) in
    let slash : get_or path 6 0 ≡ 47 = rw e refl in
    let cut = IsCharBoundary-after_ascii path 6 valid len (omega arith) in
    rw e at (IsUtf8-drop path 7 valid cut)

pub texts : (path part : List ℕ) (pairs : List (List ℕ × List ℕ)) → IsUtf8 path → path ≡ codes "/files/" ++ part
    → pairs ≡ (codes "number", part) ∷ [] → AllText pairs
texts path part pairs valid e is = rw is (number_is_text, part_is_text path part valid e, tt)
