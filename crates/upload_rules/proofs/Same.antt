-- The same number and offset mean the same accepted bytes.
use Rattle.std.proofs.Common.{◌≡◌, ℕ, List, [], ◌∷◌, ◌++◌, refl, length, Option, Some, None, sym, ◌∙◌, ap, arith}
use Rattle.std.proofs.Common.{append-nil}
use Rattle.std.proofs.lemmas.Grind.{common_steps}
use Rattle.std.proofs.lemmas.Option.{none-some, same_Some}
use Rattle.upload_rules.specs.Store.{Upload, upload_of, find, with_length, patched, accepted_count}
use Rattle.upload_rules.specs.World.{Patch, World}
use Rattle.upload_rules.specs.Grown.{GrewFrom, IsGrown}

same_bytes : (began : Upload) (declare : Option ℕ) (more : List ℕ)
    → accepted_count (patched began declare more) ≡ accepted_count began
    → patched began declare more ≡ with_length began declare
same_bytes began declare [] e = rw append-nil refl
same_bytes began declare (b ∷ more) e = absurd (grind (arith, common_steps))

grew_same : (p : Patch) (o : Option Upload) (u : Upload) → GrewFrom p o → o ≡ Some u
    → accepted_count u ≡ accepted_count p.began
    → (declare : Option ℕ) × (u ≡ with_length p.began declare)
grew_same p None u g f e = absurd (none-some u f)
grew_same p (Some v) u g f e =
    let h : v ≡ u = same_Some v u f in
    let k : u ≡ patched p.began g.0 g.1 = sym h ∙ g.2 in
    let l : accepted_count (patched p.began g.0 g.1) ≡ accepted_count p.began = sym (ap (λ x. accepted_count x) k) ∙ e
    in
    (g.0, k ∙ same_bytes p.began g.0 g.1 l)

-- an open patch whose offset is still the count of accepted bytes began at the upload as it is, but for a length
pub same_upload : (w : World) (d : ℕ) (p : Patch) (u : Upload) → IsGrown w → find d w.patches ≡ Some p
    → upload_of w.store p.number ≡ Some u
    → accepted_count u ≡ accepted_count p.began
    → (declare : Option ℕ) × (u ≡ with_length p.began declare)
same_upload w d p u grown found there e = grew_same p (upload_of w.store p.number) u (grown.each d p found) there e
