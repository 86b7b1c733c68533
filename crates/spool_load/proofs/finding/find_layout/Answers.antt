use Rattle.std.proofs.Common.{◌≡◌, ◌∙◌, ◌⊎◌, ◌<◌, ◌≤◌, ℕ, inl, inr, Option, Some, None, IsNone, get_or, refl, sym, ap}
use Rattle.std.proofs.Common.{arith, ⊎_elim}
use Rattle.std.proofs.lemmas.Bool.{cases_lt}
use Rattle.std.proofs.lemmas.Option.{same_Some}
use Rattle.common.specs.declared.limits.TheConstants.{LEAST_BLOCKS, MOST_BLOCKS}
use Rattle.spool_disk.proofs.Gave.{none, once_none}
use Rattle.spool_journal.specs.Image.{all_pages}
use Rattle.spool_pages.specs.View.{first_page}
use Rattle.spool_load.proofs.Opens.{some_pages}
use Rattle.spool_load.proofs.finding.find_layout.Goals as goal

none_from : {A : Type 0} (o : Option A) → ((x : A) → o ≡ Some x → ⊥) → IsNone o
none_from None never = refl
none_from (Some x) never = absurd (never x refl)

pub returns-then-len-lt12-clause-found : goal.returns-then-len-lt12-clause-found
returns-then-len-lt12-clause-found g c bytes gave blocks encodes =
    omega (arith, some_pages blocks, c.len.ensures, c.if-len-lt12.true, encodes.room)

pub returns-in_default-clause-found : goal.returns-in_default-clause-found
returns-in_default-clause-found g c bytes gave blocks encodes =
    c.in_default.not-Some blocks
    (c.blocks_encoded.ensures.encoded blocks (omega (arith, encodes.most))
    (λ i lt. c.in_ok-prefix.ensures.bytes bytes gave i lt ∙ encodes.prefix i lt))

pub returns-in_default-of-clause-found : goal.returns-in_default-of-clause-found
returns-in_default-of-clause-found g c bytes gave blocks encodes =
    let e : c.in-Some.blocks ≡ blocks =
    same_Some _ _ (c.in-Some.ensures.encoded blocks (omega (arith, encodes.most))
    (λ i lt. c.in_ok-prefix.ensures.bytes bytes gave i lt ∙ encodes.prefix i lt)) in
    ⊎_elim (λ below. omega (arith, below, e, encodes.least)) (λ above. omega (arith, above, e, encodes.most))
    (c.of.ensures.none.0 (none_from c.of.result c.in_default-of.not-Some))

pub returns-then-len-pages-clause-found : goal.returns-then-len-pages-clause-found
returns-then-len-pages-clause-found g c bytes gave blocks encodes =
    let e : c.in-Some.blocks ≡ blocks =
    same_Some _ _ (c.in-Some.ensures.encoded blocks (omega (arith, encodes.most))
    (λ i lt. c.in_ok-prefix.ensures.bytes bytes gave i lt ∙ encodes.prefix i lt)) in
    let pages : all_pages c.in-Some-of.layout ≡ all_pages blocks = ap all_pages (c.in-Some-of.ensures.some ∙ e) in
    omega (
      arith,
      pages,
      encodes.room,
      c.len-2.ensures,
      c.pages.ensures,
      c.if-len-pages.true,
      c.read_prefix.ensures.size,
    )

some_not_none : {A : Type 0} (o : Option A) (x : A) → o ≡ Some x → IsNone o → ⊥
some_not_none o x is none = cc

within : (n : ℕ) → ((n < LEAST_BLOCKS) ⊎ (MOST_BLOCKS < n) → ⊥) → (LEAST_BLOCKS ≤ n) × (n ≤ MOST_BLOCKS)
within n not = (
  elim (cases_lt n 16) [ inl lt ↦ absurd (not (inl lt)) | inr over ↦ over ],
  elim (cases_lt MOST_BLOCKS n) [ inl lt ↦ absurd (not (inr lt)) | inr over ↦ over ],
)

pub returns-clause-found : goal.returns-clause-found
returns-clause-found g c bytes gave =
    let layout = c.in-Some-of.layout in
    let same : layout ≡ c.in-Some.blocks = c.in-Some-of.ensures.some in
    let range =
    within c.in-Some.blocks (λ out. some_not_none c.of.result layout c.in-Some-of.is (c.of.ensures.none.1 out)) in
    record {
      least = omega (arith, same, range.0);
      most = omega (arith, same, range.1);
      room = omega (arith, c.if-len-pages.false, c.pages.ensures, c.len-2.ensures, c.read_prefix.ensures.size);
      prefix =
          λ i lt. sym (c.in_ok-prefix.ensures.bytes bytes gave i lt) ∙ c.in-Some.ensures.only i lt ∙ ap
          (λ (n : ℕ). get_or (first_page n) i 0) (sym same);
    }

pub returns-then-len-lt12-clause-gave : goal.returns-then-len-lt12-clause-gave
returns-then-len-lt12-clause-gave g c honest = none refl

pub returns-then-len-lt12-clause-once : goal.returns-then-len-lt12-clause-once
returns-then-len-lt12-clause-once g c = once_none refl
