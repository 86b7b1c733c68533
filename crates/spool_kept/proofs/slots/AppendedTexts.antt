-- The texts after an append.
use Rattle.std.proofs.lemmas.Grind.{common_steps}
use Rattle.std.proofs.Common.{◌≡◌, ℕ, zero, suc, ◌+◌, ◌-◌, ◌*◌, ◌/◌, ◌%◌, ◌<◌, ◌≤◌, List, ◌++◌, Some, length, take}
use Rattle.std.proofs.Common.{drop, refl, sym, ◌∙◌, ap, arith}
use Rattle.std.proofs.lemmas.List.{append_assoc, take-append-drop, take-take}
use Rattle.spool_journal.specs.declared.TheConstants.{PAGE}
use Rattle.upload_rules.specs.Room.{blocks_of}
use Rattle.spool_blocks.specs.Blocks.{Row}
use Rattle.spool_blocks.specs.Chains.{Owns, OwnsOneEach}
use Rattle.spool_texts.specs.Texts.{block_at, block_bytes, joined_blocks, text_shown}
use Rattle.spool_texts.specs.TextOn.{blocks_on, text_on, IsListed}
use Rattle.spool_texts.proofs.Shown.{found, shown, text_joined}

joined_same : (current : ℕ → ℕ) (first : ℕ) (old new : List Row) (slot ordinal n : ℕ)
    → ((i : ℕ) → i < ordinal + n → block_at slot i new 0 ≡ block_at slot i old 0)
    → joined_blocks current first new slot ordinal n ≡ joined_blocks current first old slot ordinal n
unfolding joined_blocks
joined_same current first old new slot ordinal zero same = refl
joined_same current first old new slot ordinal (suc n) same =
    both (ap (block_bytes current first) (same ordinal (omega arith)))
    (joined_same current first old new slot (ordinal + 1) n (λ i lt. same i (omega (arith, lt))))
  where
    both : {a b c d : List ℕ} → a ≡ b → c ≡ d → a ++ c ≡ b ++ d
    both e f = cc

block_found : (rows : List Row) (slot n i : ℕ) (one : OwnsOneEach rows slot n) (lt : i < n)
    → block_at slot i rows 0 ≡ Some (one.there i lt).0
block_found rows slot n i one lt =
    let own = one.there i lt in
    let at : 0 + own.0 ≡ own.0 = omega arith in
    found slot i own.0 rows 0 own.1 (λ k owns. one.once k own.0 i owns own.1) ∙ ap (λ (b : ℕ). Some b) at

-- a slot that owns the same blocks has the same text
pub text_still : (current : ℕ → ℕ) (first : ℕ) (old new : List Row) (slot len : ℕ)
    → OwnsOneEach old slot (blocks_of len)
    → OwnsOneEach new slot (blocks_of len) → ((b i : ℕ) → Owns old b slot i → Owns new b slot i)
    → text_shown current first new slot len ≡ text_shown current first old slot len
text_still current first old new slot len one one' still =
    ap (λ (xs : List ℕ). take len xs) (joined_same current first old new slot 0 (blocks_of len) (λ i lt.
    let own = one.there i (omega (arith, lt)) in
    let own' = one'.there i (omega (arith, lt)) in
    block_found new slot (blocks_of len) i one' (omega (arith, lt)) ∙ ap (λ (b : ℕ). Some b)
    (one'.once own'.0 own.0 i own'.1 (still own.0 i own.1)) ∙ sym
    (block_found old slot (blocks_of len) i one (omega (arith, lt)))))

-- a text whose tail, with what was added, is on new blocks
module _ (current : ℕ → ℕ) (first : ℕ) (old new : List Row) (slot len : ℕ) (list : List ℕ)
    (listed : IsListed old slot list) (size : length list ≡ blocks_of len) where
  was : List ℕ
  was = text_shown current first old slot len

  prefix : text_on current first list (PAGE * (len / PAGE)) ≡ take (PAGE * (len / PAGE)) was
  unfolding was
  prefix =
      let low : PAGE * (len / PAGE) ≤ len = omega arith in
      sym (take-take (PAGE * (len / PAGE)) len (blocks_on current first list) low)
      ∙ ap (λ (xs : List ℕ). take (PAGE * (len / PAGE)) xs) (shown current first old slot len list listed size)

  pub text_longer : (more_len len' : ℕ) (more added : List ℕ) → IsListed new slot (take (len / PAGE) list ++ more)
      → length more ≡ blocks_of more_len
      → text_on current first more more_len ≡ drop (len - len % PAGE) (text_shown current first old slot len) ++ added
      → len' ≡ len - len % PAGE + more_len
      → text_shown current first new slot len' ≡ text_shown current first old slot len ++ added
  unfolding was
  text_longer more_len len' more added listed' more_size on total =
      let whole : len - len % PAGE ≡ PAGE * (len / PAGE) = omega arith in
      let long : len' ≡ PAGE * (len / PAGE) + more_len = omega (arith, total, whole) in
      let low : len / PAGE ≤ length list = omega (arith, size) in
      let all : length (take (len / PAGE) list ++ more) ≡ (len' + 4095) / PAGE = search (arith, common_steps) in
      sym (shown current first new slot len' (take (len / PAGE) list ++ more) listed' all) ∙ ap (text_on current first
      (take (len / PAGE) list ++ more)) long ∙ text_joined current first (len / PAGE) more_len list more low ∙ ap (λ (xs
      : List ℕ). xs ++ text_on current first more more_len) prefix ∙ ap (λ (xs : List ℕ). take (PAGE * (len / PAGE)) was
      ++ xs) (cc) ∙ sym (append_assoc (take (PAGE * (len / PAGE)) was) (drop (PAGE * (len / PAGE)) was) added) ∙ ap (λ
      (xs : List ℕ). xs ++ added) (take-append-drop (PAGE * (len / PAGE)) was)
