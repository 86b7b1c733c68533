-- A worked example of the definitions: slot 7 owns block 0 for upload 5, the draft 0 has reserved block 1, and block 2
-- is free.
use Rattle.std.proofs.Common.{◌≡◌, ◌≢◌, ℕ, zero, suc, ◌+◌, ◌<◌, List, [], ◌∷◌, true, false, length, get_or, None, Some}
use Rattle.std.proofs.Common.{refl, sym, ◌∙◌, ap, subst, arith, inl, inr, eq-eqb}
use Rattle.std.proofs.lemmas.Bool.{cases_eq, ne_eqb}
use Rattle.enc_model.specs.Indexes.{IndexSet}
use Rattle.spool_blocks.specs.Blocks.{Held}
use Rattle.spool_blocks.specs.Chains.{Owns, OwnsOneEach}
use Rattle.spool_texts.specs.Drafts.{IsReserved}
use Rattle.spool_texts.specs.Written.{NoneOf}
use Rattle.upload_rules.specs.Store.{Upload, find, text_of}
use Rattle.upload_rules.specs.World.{Patch, World}
use Rattle.upload_rules.specs.Room.{blocks_of}
use Rattle.spool_room.specs.Holdings.{IsInSome, OwnsTexts, Reserves, IsHeldBy, RuleHolds}
use Rattle.spool_blocks.proofs.Links.{same_slot, same_ordinal}
use Rattle.spool_room.proofs.Numbers.{found_after}
use Rattle.spool_room.proofs.Rule.{rule_holds}

abbrev held : Held
held = record { rows = Some (7, 0) ∷ None ∷ None ∷ []; reserved = false ∷ true ∷ false ∷ [] }

abbrev slots : ℕ → ℕ
slots n = n + 2

abbrev lists : ℕ → List ℕ
lists zero = 1 ∷ []
lists (suc e) = []

-- block 0 alone is owned
record IsFirst (b slot ordinal : ℕ) : Type 0 where
  block : b ≡ 0
  owner : slot ≡ 7
  at : ordinal ≡ 0

first_owned : (b slot ordinal : ℕ) → Owns held.rows b slot ordinal → IsFirst b slot ordinal
first_owned zero slot ordinal own = record {
  block = refl;
  owner = same_slot held.rows 0 slot ordinal 7 0 own refl;
  at = same_ordinal held.rows 0 slot ordinal 7 0 own refl;
}
first_owned (suc zero) slot ordinal own = absurd cc
first_owned (suc (suc zero)) slot ordinal own = absurd cc
first_owned (suc (suc (suc b))) slot ordinal own = absurd cc

owns_one : OwnsOneEach held.rows 7 1
owns_one = record {
  there = λ i lt. (0, ap (λ (k : ℕ). Some (7, k)) (nought i lt));
  once = λ a b i own own'. (first_owned a 7 i own).block ∙ sym (first_owned b 7 i own').block;
  only = λ b i own. omega (arith, (first_owned b 7 i own).at);
}
  where
    nought : (i : ℕ) → i < 1 → 0 ≡ i
    nought i lt = omega (arith, lt)

reserved_one : (b : ℕ) → get_or held.reserved b false ≡ true → IsInSome lists b
reserved_one zero flagged = absurd cc
reserved_one (suc zero) flagged = record { list = 0; at = 0; below = omega arith; here = refl }
reserved_one (suc (suc zero)) flagged = absurd cc
reserved_one (suc (suc (suc b))) flagged = absurd cc

list_one : (e : ℕ) → IsReserved held (lists e)
list_one zero = record {
  below = λ i lt. subst (λ (k : ℕ). get_or (1 ∷ []) k 0 < 3) (nought i lt) (omega arith);
  reserved = λ i lt. subst (λ (k : ℕ). get_or held.reserved (get_or (1 ∷ []) k 0) false ≡ true) (nought i lt) refl;
  no_owner = λ i lt. subst (λ (k : ℕ). get_or held.rows (get_or (1 ∷ []) k 0) None ≡ None) (nought i lt) refl;
  distinct = λ i k lt lt'. absurd (omega (arith, lt, lt'));
}
  where
    nought : (i : ℕ) → i < 1 → 0 ≡ i
    nought i lt = omega (arith, lt)
list_one (suc e) = record {
  below = λ i lt. absurd (omega (arith, lt));
  reserved = λ i lt. absurd (omega (arith, lt));
  no_owner = λ i lt. absurd (omega (arith, lt));
  distinct = λ i k lt lt'. absurd (omega (arith, lt'));
}

none_of : (e f : ℕ) → e ≢ f → NoneOf (lists e) (lists f)
none_of zero zero ne = absurd (ne refl)
none_of zero (suc f) ne = λ i k lt lt'. absurd (omega (arith, lt'))
none_of (suc e) f ne = λ i k lt lt'. absurd (omega (arith, lt))

no_other : (e : ℕ) → e ≢ 0 → lists e ≡ []
no_other zero ne = absurd (ne refl)
no_other (suc e) ne = refl

module _ (x : IndexSet) (u : Upload) (one : blocks_of (length (text_of x u)) ≡ 1) (p : Patch) where
  abbrev world : World
  world = record {
    store = record { uploads = (5, u) ∷ []; next = 6; indexes = x };
    patches = (0, p) ∷ [];
    blocks =
        Some 3;
  }

  found : (n : ℕ) (v : Upload) → find n ((5, u) ∷ []) ≡ Some v → (5 ≡ n) × (u ≡ v)
  found n v there = elim (cases_eq 5 n) [
    | inl same ↦ (same, some_same (sym (rw (eq-eqb 5 n same) refl) ∙ there))
    | inr other ↦ absurd (none_some (sym (rw (ne_eqb 5 n other) refl) ∙ there))
  ]
    where
      some_same : {u v : Upload} → Some u ≡ Some v → u ≡ v
      some_same e = cc

      none_some : {v : Upload} → None ≡ Some v → ⊥
      none_some e = cc

  texts : OwnsTexts x ((5, u) ∷ []) slots held.rows
  texts = record {
    apart = (refl, tt);
    texts = λ n v there.
        let is = found n v there in
        subst (λ (k : ℕ). OwnsOneEach held.rows (slots k) (blocks_of (length (text_of x v)))) is.0
        (subst (λ (w : Upload). OwnsOneEach held.rows 7 (blocks_of (length (text_of x w)))) is.1
        (subst (λ (k : ℕ). OwnsOneEach held.rows 7 k) (sym one) owns_one));
    distinct = λ m n v w there there' same. sym (found m v there).0 ∙ (found n w there').0;
    owners = λ b slot ordinal own. record {
      number = 5;
      upload = u;
      there = refl;
      is = sym (first_owned b slot ordinal own).owner;
    };
  }

  only_draft : (e : ℕ) (q : Patch) → e ≢ 0 → find e ((0, p) ∷ []) ≡ Some q → ⊥
  only_draft e q ne there = none_some (sym (found_after e (0, p) [] (λ f. ne (sym f))) ∙ there)
    where
      none_some : {q : Patch} → None ≡ Some q → ⊥
      none_some e = cc

  drafts : Reserves x ((0, p) ∷ []) lists 0 held
  drafts = record {
    apart = (refl, tt);
    reserved = list_one;
    distinct = none_of;
    all = reserved_one;
    needs = λ e q ne there. absurd (only_draft e q ne there);
    none = λ e ne there. no_other e ne;
  }

  world_holds : IsHeldBy world slots lists 0 held
  world_holds = record { texts = texts; drafts = drafts; limit = refl }

  rule : RuleHolds world 0 (1 ∷ []) held
  rule = rule_holds world slots lists 0 held refl world_holds
