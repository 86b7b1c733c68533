-- The blocks of the uploads' texts are the owned ones.
use Rattle.std.proofs.Common.{◌≡◌, ◌≢◌, ℕ, List, [], ◌∷◌, length, None, Some, sym, ◌∙◌, ap, arith}
use Rattle.enc_model.specs.Indexes.{IndexSet}
use Rattle.spool_blocks.specs.Blocks.{Row, owned_count}
use Rattle.spool_blocks.specs.Chains.{OwnsOneEach}
use Rattle.spool_blocks.proofs.Totals.{each_counted, none_owned, rows_without, owned_without, owns_without, owned_with}
use Rattle.upload_rules.specs.Store.{Upload, find, text_of}
use Rattle.upload_rules.specs.Room.{blocks_of, used}
use Rattle.spool_room.specs.Holdings.{IsInUse, OwnsTexts}
use Rattle.spool_room.proofs.Numbers.{first_found, found_after, is_other, found_later}

-- one slot's blocks are nobody's any more, and another slot owns the same
each_unchanged : (slot other n : ℕ) (rows : List Row) → other ≢ slot → OwnsOneEach rows other n
    → OwnsOneEach (rows_without slot rows) other n
each_unchanged slot other n rows ne owns = record {
  there = λ i lt. let at = owns.there i lt in (at.0, owns_without slot rows at.0 other i ne at.1);
  once = λ a b i own own'. owns.once a b i (owned_with slot rows a other i own).1
      (owned_with slot rows b other i own').1;
  only = λ b i own. owns.only b i (owned_with slot rows b other i own).1;
}

-- the other uploads own what is left
module _ (x : IndexSet) (entry : ℕ × Upload) (uploads : List (ℕ × Upload)) (slots : ℕ → ℕ) (rows : List Row)
    (owns : OwnsTexts x (entry ∷ uploads) slots rows) where
  later : (n : ℕ) (u : Upload) → find n uploads ≡ Some u → find n (entry ∷ uploads) ≡ Some u
  later n u there = found_later n u entry uploads owns.apart.0 there

  other_slot : (n : ℕ) (u : Upload) → find n uploads ≡ Some u → slots n ≢ slots entry.0
  other_slot n u there same =
      is_other n u entry uploads owns.apart.0 there
      (sym (owns.distinct n entry.0 u entry.1 (later n u there) (first_found entry uploads) same))

  in_use : (slot : ℕ) → slot ≢ slots entry.0 → IsInUse (entry ∷ uploads) slots slot → IsInUse uploads slots slot
  in_use slot ne use_ = record {
    number = use_.number;
    upload = use_.upload;
    there = sym (found_after use_.number entry uploads (λ e. ne (sym use_.is ∙ ap slots (sym e)))) ∙ use_.there;
    is = use_.is;
  }

  others_own : OwnsTexts x uploads slots (rows_without (slots entry.0) rows)
  others_own = record {
    apart = owns.apart.1;
    texts = λ n u there. each_unchanged (slots entry.0) (slots n) (blocks_of (length (text_of x u))) rows
        (other_slot n u there) (owns.texts n u (later n u there));
    distinct = λ m n u v there there'. owns.distinct m n u v (later m u there) (later n v there');
    owners = λ b slot ordinal own. let was =
        owned_with (slots entry.0) rows b slot ordinal own in in_use slot was.0 (owns.owners b slot ordinal was.1);
  }

pub owned_used : (x : IndexSet) (uploads : List (ℕ × Upload)) (slots : ℕ → ℕ) (rows : List Row)
    → OwnsTexts x uploads slots rows → owned_count rows ≡ used x uploads
owned_used x [] slots rows owns = none_owned rows (λ b s k own. no_upload (owns.owners b s k own))
  where
    no_upload : {slot : ℕ} → IsInUse [] slots slot → ⊥
    no_upload use_ = let there : None ≡ Some use_.upload = use_.there in cc
owned_used x (entry ∷ uploads) slots rows owns =
    let its = each_counted (blocks_of (length (text_of x entry.1))) (slots entry.0) rows
    (owns.texts entry.0 entry.1 (first_found entry uploads)) in
    omega (
      arith,
      its,
      owned_without (slots entry.0) rows,
      owned_used x uploads slots
          (rows_without (slots entry.0) rows) (others_own x entry uploads slots rows owns),
    )
