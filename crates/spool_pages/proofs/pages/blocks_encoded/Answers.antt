use Rattle.std.proofs.Common.{inl, inr, drop, ◌++◌, ◌-◌, ◌≡◌, ◌<◌, ◌≤◌, Some, eqb, ℕ, List, length, take, get_or, true}
use Rattle.std.proofs.Common.{refl, sym, ◌∙◌, ap, arith, rules}
use Rattle.std.specs.Int.{to_be_bytes, w32}
use Rattle.std.specs.List.{starts_with}
use Rattle.std.proofs.Math.ListN.{get_or-append}
use Rattle.std.proofs.lemmas.Bool.{cases_lt}
use Rattle.std.proofs.lemmas.Grind.{common_steps}
use Rattle.std.proofs.lemmas.Bool.Decides.{Decides-eqb}
use Rattle.std.proofs.lemmas.Slice.Eq.{starts_is}
use Rattle.std.proofs.lemmas.List.{get_or-append-add, ext_get_or}
use Rattle.spool_journal.specs.Image.{byte_of}
use Rattle.spool_pages.specs.View.{AreAt, magic, first_page}
use Rattle.spool_pages.proofs.RecordBytes.{at_beyond}
use Rattle.spool_pages.proofs.pages.blocks_encoded.Goals as goal

module _ (prefix : List ℕ) (blocks : ℕ) (long : length prefix ≡ 12)
    (same : (i : ℕ) → i < 12 → get_or prefix i 0 ≡ get_or (first_page blocks) i 0) where
  taken : take 8 prefix ≡ magic
  unfolding first_page
  taken = ext_get_or 0 (take 8 prefix) magic (grind (arith, common_steps)) (λ i lt. grind (arith, common_steps, same i))

  whole : AreAt (byte_of prefix) 0 12 (first_page blocks)
  whole = record { each = λ i lt. grind (arith, same i) }

  number_at : AreAt (byte_of prefix) 8 4 (to_be_bytes w32 blocks)
  unfolding first_page
  number_at = at_beyond magic (to_be_bytes w32 blocks) 8 4 refl (omega arith) whole

  begins : starts_with eqb prefix magic ≡ true
  begins = rw taken refl

module _ (prefix : List ℕ) (blocks : ℕ) (begun : starts_with eqb prefix magic ≡ true)
    (number : AreAt (byte_of prefix) 8 4 (to_be_bytes w32 blocks)) where
  prefix_is : prefix ≡ magic ++ drop 8 prefix
  prefix_is = (starts_is Decides-eqb prefix magic (starts_with eqb prefix magic) refl).0 begun

  begun_number : (i : ℕ) → 8 ≤ i → i < 12 → get_or prefix i 0 ≡ get_or (magic ++ to_be_bytes w32 blocks) i 0
  begun_number i from lt =
      grind (arith, get_or-append-add magic (to_be_bytes w32 blocks) (i - 8) 0, number.each (i - 8))

  is_first : (i : ℕ) → i < 12 → get_or prefix i 0 ≡ get_or (first_page blocks) i 0
  unfolding first_page
  is_first i lt = elim (cases_lt i 8) [
    | inl below ↦ ap (λ (xs : List ℕ). get_or xs i 0) prefix_is ∙ get_or-append magic (drop 8 prefix) 0 i below
        ∙ sym (get_or-append magic (to_be_bytes w32 blocks) 0 i below)
    | inr from ↦ begun_number i from lt
  ]

pub returns-then-not-starts_with-clause-encoded : goal.returns-then-not-starts_with-clause-encoded
returns-then-not-starts_with-clause-encoded c blocks fits same =
    let v = c.starts_with.ensures.value in
    let b = c.if-not-starts_with.true in
    let yes = begins c.args.prefix.now blocks (search rules) same in
    cc

pub returns-clause-encoded : goal.returns-clause-encoded
returns-clause-encoded c blocks fits same =
    ap Some (c.get_u32.ensures.is blocks fits (number_at c.args.prefix.now blocks (search rules) same))

pub returns-clause-only : goal.returns-clause-only
returns-clause-only c =
    let v = c.starts_with.ensures.value in
    let b = c.if-not-starts_with.false in
    is_first c.args.prefix.now c.get_u32.result (cc) c.get_u32.ensures.there
