-- What a turn of one connection leaves unchanged for the others.
use Rattle.std.specs.Prelude.{◌≡◌, ◌≤◌, ◌<◌, ◌⊎◌, ℕ, List, ◌++◌, Option, Some, None}
use Rattle.upload_rules.specs.Store.{Upload, Store, upload_of, text_of, patched, find}
use Rattle.upload_rules.specs.World.{Patch, World}
use Rattle.upload_rules.specs.Apart.{IsApart}

-- The upload only grew: bytes were appended to it and to its text, and its length may have been declared.
pub record Longer (m m' : Store) (up up' : Upload) : Type 0 where
  pub declare : Option ℕ
  pub bytes : List ℕ
  pub more : List ℕ
  pub is : up' ≡ patched up declare bytes
  pub text : text_of m'.indexes up' ≡ text_of m.indexes up ++ more

-- Each upload that has a number below the earlier `next` was there before and only grew. Some may be deleted.
pub record Grows (m m' : Store) : Type 0 where
  pub indexes : m'.indexes ≡ m.indexes
  pub next : m.next ≤ m'.next
  pub uploads : (n : ℕ) (up' : Upload) → n < m.next → upload_of m' n ≡ Some up'
      → (up : Upload) × (upload_of m n ≡ Some up) × Longer m m' up up'

-- From one world to the next by the connection whose draft was `own` and is `own'`: all other patches stay, and a new
-- draft number belongs to no other.
pub record Moves (w w' : World) (own own' : Option ℕ) : Type 0 where
  pub grows : Grows w.store w'.store
  pub others : (e : ℕ) (p : Patch) → (own ≡ Some e → ⊥) → find e w.patches ≡ Some p → find e w'.patches ≡ Some p
  pub back : (e : ℕ) (p : Patch) → IsApart w.patches → find e w'.patches ≡ Some p
      → (own' ≡ Some e) ⊎ ((own ≡ Some e → ⊥) × ((q : Patch) × (find e w.patches ≡ Some q)))
  pub fresh : (e : ℕ) → own' ≡ Some e → (own ≡ Some e) ⊎ (find e w.patches ≡ None)
  pub unique : IsApart w.patches → IsApart w'.patches
