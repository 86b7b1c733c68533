-- Writes to the last of the listed blocks.
use Rattle.std.proofs.Common.{◌≡◌, ◌≢◌, inl, inr, ℕ, zero, suc, ◌+◌, ◌-◌, ◌*◌, ◌/◌, ◌<◌, ◌≤◌, ◌++◌, List, [], ◌∷◌}
use Rattle.std.proofs.Common.{length, get_or, take, refl, sym, ◌∙◌, ap, arith, ⊎_elim, length-append, length-take}
use Rattle.std.proofs.lemmas.List.{take_more, take_all, append-nil, get_or-take, get_or_append_left}
use Rattle.spool_journal.specs.declared.TheConstants.{PAGE}
use Rattle.spool_disk.specs.Disk.{span, In, IsImage, Preserves, Writes}
use Rattle.spool_disk.proofs.Span.{span_same}
use Rattle.spool_journal.specs.Phases.{Idle}
use Rattle.spool_texts.specs.TextOn.{blocks_on, text_on}
use Rattle.spool_texts.specs.Written.{SameOutside, NoneOf, InBlocks, WritesIn, IsImageBut}
use Rattle.spool_texts.proofs.Shown.{text_prefix, text_joined}
use Rattle.spool_journal.specs.Image.{area_end}

-- the first bytes of a span
pub take-span : (f : ℕ → ℕ) (at n k : ℕ) → k ≤ n → take k (span f at n) ≡ span f at k
unfolding span
take-span f at n zero le = refl
take-span f at zero (suc k) le = absurd (omega (arith, le))
take-span f at (suc n) (suc k) le = ap (λ (xs : List ℕ). f at ∷ xs) (take-span f (at + 1) n k (omega (arith, le)))

-- the text on one block
pub text_one : (current : ℕ → ℕ) (first b len : ℕ) → len ≤ PAGE → text_on current first (b ∷ []) len ≡ span current
    (PAGE * (first + b)) len
unfolding blocks_on
text_one current first b len le =
    ap (λ (xs : List ℕ). take len xs) (append-nil (span current (PAGE * (first + b)) PAGE))
    ∙ take-span current (PAGE * (first + b)) PAGE len le

-- where two agree on the blocks
pub blocks_same : (f g : ℕ → ℕ) (first : ℕ) (list : List ℕ)
    → ((i p : ℕ) → i < length list → first + get_or list i 0 ≡ p / PAGE → f p ≡ g p)
    → blocks_on f first list ≡ blocks_on g first list
unfolding blocks_on
blocks_same f g first [] same = refl
blocks_same f g first (b ∷ list) same =
    both
    (span_same f g (PAGE * (first + b)) PAGE
    (λ p within. same 0 p (omega arith) (omega (arith, within.from, within.below))))
    (blocks_same f g first list (λ i p lt e. same (suc i) p (omega (arith, lt)) e))
  where
    both : {a b c d : List ℕ} → a ≡ b → c ≡ d → a ++ c ≡ b ++ d
    both e f = cc

module _ {current current' : ℕ → ℕ} {unsynced unsynced' : ℕ → Type 0} {done : Type 0} (first : ℕ) (list bytes : List ℕ)
    (some : 1 ≤ length list) (fits : length bytes ≤ PAGE) (page : ℕ) (last : page ≡ first + get_or list
    (length list - 1) 0) (writes : Writes (PAGE * page) bytes done current current' unsynced unsynced') where
  last_block : (p : ℕ) → In (PAGE * page) (length bytes) p → InBlocks first list p
  last_block p within = record {
    at = length list - 1;
    below = omega (arith, some);
    here = omega (arith, last, within.from, within.below, fits);
  }

  pub prefix_writes : WritesIn first list current current' unsynced unsynced'
  prefix_writes = record {
    outside = λ p away. writes.outside p (λ within. away (last_block p within));
    unsyncs = λ p l. ⊎_elim inl (λ within. inr (last_block p within)) (writes.unsyncs p l);
  }

  pub prefix_text : ((i k : ℕ) → i < k → k < length list → get_or list i 0 ≢ get_or list k 0) → done
      → text_on current' first list (PAGE * (length list - 1) + length bytes) ≡ text_on current first list
      (PAGE * (length list - 1)) ++ bytes
  prefix_text distinct ok =
      ap (λ (xs : List ℕ). text_on current' first xs (PAGE * (length list - 1) + length bytes)) whole
      ∙ text_joined current' first (length list - 1) (length bytes) list (get_or list (length list - 1) 0 ∷ [])
      (omega arith)
      ∙ both (text_prefix current' first (length list - 1) list (omega arith) ∙ others
      ∙ sym (text_prefix current first (length list - 1) list (omega arith))) here
    where
      whole : list ≡ take (length list - 1) list ++ get_or list (length list - 1) 0 ∷ []
      whole = sym (take_all (length list - 1 + 1) list (omega arith)) ∙ take_more list (length list - 1) 0
          (omega (arith, some))

      others : blocks_on current' first (take (length list - 1) list) ≡ blocks_on current first (take
          (length list - 1) list)
      others = blocks_same current' current first (take (length list - 1) list) (λ i p lt e.
          let below : i < length list - 1 = omega (arith, lt, length-take (length list - 1) list) in
          let e' : first + get_or list i 0 ≡ p / PAGE =
          ap (λ (b : ℕ). first + b) (sym (get_or-take (length list - 1) list i 0 below)) ∙ e in
          writes.outside p (λ within. let here = last_block p within in distinct i (length list - 1) below
          (omega (arith, some)) (omega (arith, e', here.here))))

      here : text_on current' first (get_or list (length list - 1) 0 ∷ []) (length bytes) ≡ bytes
      here = text_one current' first (get_or list (length list - 1) 0) (length bytes) fits
          ∙ ap (λ (b : ℕ). span current' (PAGE * b) (length bytes)) (sym last) ∙ writes.inside ok

      both : {a b c d : List ℕ} → a ≡ b → c ≡ d → a ++ c ≡ b ++ d
      both e f = cc

-- no write is one
pub writes_none : {current : ℕ → ℕ} {unsynced : ℕ → Type 0} (first : ℕ) (blocks : List ℕ)
    → WritesIn first blocks current current unsynced unsynced
writes_none first blocks = record { outside = λ p away. refl; unsyncs = λ p l. inl l }

-- nothing is written where the disk is only read
pub writes_preserve : {current current' : ℕ → ℕ} {unsynced unsynced' : ℕ → Type 0} (first : ℕ) (blocks : List ℕ)
    → Preserves current current' unsynced unsynced' → WritesIn first blocks current current' unsynced unsynced'
writes_preserve first blocks preserves = record {
  outside = λ p away. preserves.same p;
  unsyncs = λ p l. inl (preserves.unsyncs p l);
}

pub idle_in : {j : ℕ} {current current' : ℕ → ℕ} {unsynced unsynced' : ℕ → Type 0} {blocks : List ℕ}
    → Idle j current unsynced
    → WritesIn (area_end j) blocks current current' unsynced unsynced' → Idle j current' unsynced'
idle_in {j = j} {blocks = blocks} idle writes = record {
  gate = λ l. ⊎_elim idle.gate (λ within. omega (arith, within.here)) (writes.unsyncs PAGE l);
  closed = λ e. idle.closed (sym (writes.outside PAGE (λ within. omega (arith, within.here))) ∙ e);
  area = λ p within l. ⊎_elim (idle.area p within) (λ here. omega (arith, here.here, within.below))
      (writes.unsyncs p l);
}

-- an image after such writes
pub image_in : {current current' image : ℕ → ℕ} {unsynced unsynced' : ℕ → Type 0} {first : ℕ} {blocks : List ℕ}
    → WritesIn first blocks current current' unsynced unsynced' → IsImage current' unsynced' image
    → IsImageBut first blocks current unsynced image
image_in writes is = record {
  same = λ p away is_synced. is.same p (λ l. ⊎_elim is_synced away (writes.unsyncs p l)) ∙ writes.outside p away;
}

-- a list that grew
pub in_append : {first p : ℕ} {list list' : List ℕ} (more : List ℕ) → list' ≡ list ++ more → InBlocks first list p
    → InBlocks first list' p
in_append {first = first} {p = p} {list = list} {list' = list'} more grown within = record {
  at = within.at;
  below = omega (arith, ap length grown, length-append list more, within.below);
  here = ap (λ (xs : List ℕ). first + get_or xs within.at 0) grown ∙ ap (λ (b : ℕ). first + b)
      (get_or_append_left list more 0 within.at within.below) ∙ within.here;
}

pub writes_on : {first : ℕ} {list list' : List ℕ} {current mid current' : ℕ → ℕ} {unsynced between unsynced' : ℕ
    → Type 0}
    (more : List ℕ) → list' ≡ list ++ more → WritesIn first list current mid unsynced between
    → WritesIn first list' mid current' between unsynced' → WritesIn first list' current current' unsynced unsynced'
writes_on more grown a b = record {
  outside = λ p away. b.outside p away ∙ a.outside p (λ within. away (in_append more grown within));
  unsyncs = λ p l. ⊎_elim (λ m. ⊎_elim inl (λ within. inr (in_append more grown within)) (a.unsyncs p m)) inr
      (b.unsyncs p l);
}

-- a crash image is one apart from any blocks
pub but_image : {first : ℕ} {blocks : List ℕ} {current image : ℕ → ℕ} {unsynced : ℕ → Type 0}
    → IsImage current unsynced image → IsImageBut first blocks current unsynced image
but_image is = record { same = λ p away is_synced. is.same p is_synced }

pub but_more : {first : ℕ} {list list' : List ℕ} {current image : ℕ → ℕ} {unsynced : ℕ → Type 0} (more : List ℕ)
    → list' ≡ list ++ more → IsImageBut first list current unsynced image
    → IsImageBut first list' current unsynced image
but_more more grown is = record {
  same = λ p away is_synced. is.same p (λ within. away
      (in_append more grown within)) is_synced;
}

pub but_on : {first : ℕ} {list list' : List ℕ} {current mid image : ℕ → ℕ} {unsynced between : ℕ
    → Type 0} (more : List ℕ)
    → list' ≡ list ++ more → WritesIn first list current mid unsynced between → IsImageBut first list' mid between image
    → IsImageBut first list' current unsynced image
but_on more grown a is = record {
  same = λ p away is_synced. is.same p away (λ m. ⊎_elim is_synced (λ within. away (in_append more grown within))
      (a.unsyncs p m))
      ∙ a.outside p (λ within. away (in_append more grown within));
}

-- where only other blocks were written
pub blocks_unchanged : (current current' : ℕ → ℕ) (first : ℕ) (list blocks : List ℕ)
    → SameOutside first blocks current current'
    → NoneOf list blocks → blocks_on current' first list ≡ blocks_on current first list
blocks_unchanged current current' first list blocks same apart =
    blocks_same current' current first list
    (λ i p lt e. same p (λ within. apart i within.at lt within.below (omega (arith, e, within.here))))
