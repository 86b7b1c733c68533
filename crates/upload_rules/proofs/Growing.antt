-- Worlds that stay grown.
use Rattle.std.proofs.Common.{◌≡◌, ℕ, ◌<◌, List, [], ◌∷◌, ◌++◌, Option, Some, None, refl, sym, arith}
use Rattle.std.proofs.Common.{Bool, inl, inr, ◌⊎◌, append_assoc, append-nil}
use Rattle.std.proofs.lemmas.Bool.{cases_eq}
use Rattle.std.proofs.lemmas.Bool.Decides.{nat_tests}
use Rattle.upload_rules.specs.Store.{New, Upload, find, upload_of, replaced, without, patched}
use Rattle.upload_rules.specs.Lengths.{known_or}
use Rattle.upload_rules.specs.World.{Patch, World}
use Rattle.upload_rules.specs.Calls.{created, first_patch, dropped}
use Rattle.upload_rules.specs.Grown.{GrewFrom, IsGrown}
use Rattle.upload_rules.specs.Apart.{IsApart}
use Rattle.upload_rules.proofs.Finds.{find_push_other, find_without_other, find_without_same, find_replaced_same}
use Rattle.upload_rules.proofs.Finds.{find_replaced_other}

known_still : (known first second : Option ℕ) → known_or (known_or known first) second ≡ known_or known
    (known_or first second)
known_still None first second = refl
known_still (Some n) first second = refl

-- a patch's upload with what another patch brings
grew_more : (p : Patch) (u : Upload) (declare : Option ℕ) (body : List ℕ) → GrewFrom p (Some u)
    → GrewFrom p (Some (patched u declare body))
grew_more p u declare body h = (
  known_or h.0 declare,
  h.1 ++ body,
  rw (h.2, known_still, append_assoc) refl,
)

pub known_already : (known : Option ℕ) → known_or known None ≡ known
known_already None = refl
known_already (Some n) = refl

grew_at_once : (p : Patch) (u : Upload) → p.began ≡ u → GrewFrom p (Some u)
grew_at_once p u e = (None, [], rw (known_already, append-nil) (sym e))

-- what is found after the changes of patches was there before
unchanged_without : (d e : ℕ) (p : Patch) (ps : List (ℕ × Patch)) → IsApart ps → find e (without d ps) ≡ Some p
    → find e ps ≡ Some p
unchanged_without d e p ps apart h =
    grind (arith, cases_eq d e, find_without_same d ps apart, find_without_other d e ps)

unchanged_replaced : (d e : ℕ) (p q r : Patch) (ps : List (ℕ × Patch)) → find d ps ≡ Some p
    → find e (replaced d q ps) ≡ Some r
    → ((d ≡ e) × (q ≡ r)) ⊎ (find e ps ≡ Some r)
unchanged_replaced d e p q r ps there h =
    grind (arith, cases_eq d e, find_replaced_same d p q ps there, find_replaced_other d e q ps)

unchanged_more : (d e : ℕ) (q r : Patch) (ps : List (ℕ × Patch)) → find e ((d, q) ∷ ps) ≡ Some r
    → (q ≡ r) ⊎ (find e ps ≡ Some r)
unchanged_more d e q r ps h = grind (arith, nat_tests)

module _ (w : World) (grown : IsGrown w) where
  pub grown_dropped : (d : ℕ) → IsApart w.patches → IsGrown (dropped w d)
  grown_dropped d apart = record { each = λ e p found. grown.each e p (unchanged_without d e p w.patches apart found) }

  -- with more of a patch's body
  pub grown_longer : (d : ℕ) (p : Patch) (body : List ℕ) (short : Bool) → find d w.patches ≡ Some p
      → IsGrown (record w { patches = replaced d (record p { body = body; short = short }) w.patches })
  grown_longer d p body short there = record {
    each = λ e r found. elim (unchanged_replaced d e p (record p { body = body; short = short }) r w.patches there
        found) [
          | inl same ↦ rw (sym same.1) (grown.each d p there)
          | inr old ↦ grown.each e r old
        ];
  }

  pub grown_begun : (n count : ℕ) (declare : Option ℕ) (u : Upload) (d : ℕ) → upload_of w.store n ≡ Some u
      → IsGrown (record w { patches = (d, first_patch n count declare u) ∷ w.patches })
  grown_begun n count declare u d there = record {
    each = λ e r found. elim (unchanged_more d e (first_patch n count declare u) r w.patches found) [
      | inl same ↦ rw (sym same, there) (grew_at_once (first_patch n count declare u) u refl)
      | inr old ↦ grown.each e r old
    ];
  }

  -- with an upload more, whose number is above those of the patches
  pub grown_created : (new : New) → ((d : ℕ) (p : Patch) → find d w.patches ≡ Some p → p.number < w.store.next)
      → IsGrown (created w new)
  grown_created new below = record {
    each = λ d p there.
        let b = below d p there in
        rw (find_push_other p.number w.store.next _ w.store.uploads (λ e. omega (arith, e, b))) (grown.each d p there);
  }

  -- with what a patch brings to an upload
  pub grown_put : (n : ℕ) (u : Upload) (declare : Option ℕ) (body : List ℕ) → upload_of w.store n ≡ Some u
      → IsGrown (record w { store = record w.store { uploads = replaced n (patched u declare body) w.store.uploads } })
  grown_put n u declare body there =
      let v = patched u declare body in
      record {
        each = λ d p found. elim (cases_eq n p.number) [
          | inl same ↦ rw (sym same, find_replaced_same n u v w.store.uploads there)
              (grew_more p u declare body (rw (sym same, there) at (grown.each d p found)))
          | inr other ↦ rw (find_replaced_other n p.number v w.store.uploads other) (grown.each d p found)
        ];
      }
