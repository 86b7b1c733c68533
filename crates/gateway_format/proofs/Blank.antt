-- Disks that are only read, and whether they hold nothing but zeros.
use Rattle.std.proofs.Common.{◌≡◌, ◌∙◌, ap, arith, inl, inr, refl, sym, ℕ, zero, suc, ◌+◌, ◌-◌, ◌<◌, ◌≤◌}
use Rattle.std.proofs.Common.{Bool, true, false, List}
use Rattle.std.specs.Prelude.{◌&&◌, ◌==◌}
use Rattle.std.specs.List.{list_all}
use Rattle.std.proofs.lemmas.Bool.{and_parts, and_from, cases_lt}
use Rattle.std.proofs.lemmas.Bool.Decides.{nat_tests}
use Rattle.spool_disk.specs.Disk.{Elapses, IsImage, Preserves, span}
use Rattle.spool_disk.specs.Views.{Lasts}
use Rattle.spool_disk.specs.declared.disk.Disk.{Ghosts}
use Rattle.spool_disk.proofs.Firm.{lasts_call, lasts_more, lasts_on}
use Rattle.gateway_outside.specs.SpoolFiles.{OnlyRead}
use Rattle.gateway_format.specs.Blanks.{IsBlank, IsBlankFrom, is_zero}

-- the images that a call which changed nothing leaves are those of before
image_of : {now then image : ℕ → ℕ} {fresh old : ℕ → Type 0} → Preserves then now old fresh → IsImage now fresh image
    → IsImage then old image
image_of same is = record { same = λ p synced. is.same p (λ late. synced (same.unsyncs p late)) ∙ same.same p }

module _ {D : Type 0} (disk : Ghosts D) where
  -- one read
  pub read_once : (a b : D) → disk.size b ≡ disk.size a → (disk.honest a → disk.honest b)
      → (disk.honest a → Preserves (disk.current a) (disk.current b) (disk.unsynced a) (disk.unsynced b))
      → (disk.honest a → Elapses (disk.moment a) (disk.moment b) (disk.left_since a) (disk.left_since b)
      (disk.current b) (disk.unsynced b))
      → OnlyRead disk a b
  read_once a b size honest preserves time = record {
    size = size;
    honest = honest;
    preserves = preserves;
    lasts = λ is. lasts_call (time is) (λ image now. image_of (preserves is) now);
  }

  -- one after the other
  pub read_on : (a b c : D) → OnlyRead disk a b → OnlyRead disk b c → OnlyRead disk a c
  read_on a b c early late = record {
    size = late.size ∙ early.size;
    honest = λ is. late.honest (early.honest is);
    preserves = λ is. let one = early.preserves is in let two = late.preserves (early.honest is) in
        record { same = λ p. two.same p ∙ one.same p; unsyncs = λ p fresh. one.unsyncs p (two.unsyncs p fresh) };
    lasts = λ is. lasts_on (early.lasts is)
        (lasts_more (late.lasts (early.honest is)) (λ image now. image_of (early.preserves is) now));
  }

zero_of : (b : ℕ) → (b == 0) ≡ true → b ≡ 0
zero_of b e = grind (arith, nat_tests)

is_of_zero : (b : ℕ) → b ≡ 0 → (b == 0) ≡ true
is_of_zero b e = grind (arith, nat_tests)

not_both : {b : Bool} {X : Type 0} → b ≡ true → b ≡ false → X
not_both e f = absurd (cc)

-- so many bytes are zeros, as they were read
pub zeros_are : (bytes : ℕ → ℕ) (at n : ℕ) → list_all is_zero (span bytes at n) ≡ true → IsBlankFrom at n bytes
unfolding span
zeros_are bytes at zero e p lt = omega (arith, lt)
zeros_are bytes at (suc n) e zero lt =
    let parts = and_parts (bytes at == 0) (list_all is_zero (span bytes (at + 1) n)) e in
    let here : at + zero ≡ at = omega arith in ap bytes here ∙ zero_of (bytes at) parts.0
zeros_are bytes at (suc n) e (suc p) lt =
    let parts = and_parts (bytes at == 0) (list_all is_zero (span bytes (at + 1) n)) e in
    let here : at + suc p ≡ at + 1 + p = omega arith in
    ap bytes here ∙ zeros_are bytes (at + 1) n parts.1 p (omega (arith, lt))

pub are_zeros : (bytes : ℕ → ℕ) (at n : ℕ) → IsBlankFrom at n bytes → list_all is_zero (span bytes at n) ≡ true
unfolding span
are_zeros bytes at zero is = refl
are_zeros bytes at (suc n) is =
    let here : at ≡ at + zero = omega arith in
    and_from (bytes at == 0) (list_all is_zero (span bytes (at + 1) n))
    (is_of_zero (bytes at) (ap bytes here ∙ is zero (omega arith)))
    (are_zeros bytes (at + 1) n (λ p lt. let there : at + 1 + p ≡ at + suc p = omega arith in
    ap bytes there ∙ is (suc p) (omega (arith, lt))))

-- a read of as many bytes
pub gave_as : (bytes : ℕ → ℕ) (at : ℕ) {n count : ℕ} {read : List ℕ} → read ≡ span bytes at n → n ≡ count
    → read ≡ span bytes at count
gave_as bytes at gave same = gave ∙ ap (λ m. span bytes at m) same

pub blank_yes : (bytes : ℕ → ℕ) (at n : ℕ) (read : List ℕ) (all : Bool) → read ≡ span bytes at n
    → all ≡ list_all is_zero read → all ≡ true → IsBlankFrom at n bytes
blank_yes bytes at n read all gave is zeros =
    zeros_are bytes at n (ap (λ xs. list_all is_zero xs) (sym gave) ∙ (sym is ∙ zeros))

pub blank_no : (bytes : ℕ → ℕ) (at n : ℕ) (read : List ℕ) (all : Bool) → read ≡ span bytes at n
    → all ≡ list_all is_zero read → all ≡ false → IsBlankFrom at n bytes → ⊥
blank_no bytes at n read all gave is other blank =
    not_both (is ∙ (ap (λ xs. list_all is_zero xs) gave ∙ are_zeros bytes at n blank)) other

-- one part more
pub blank_more : (bytes now : ℕ → ℕ) (at n : ℕ) → IsBlank at bytes → ((p : ℕ) → now p ≡ bytes p)
    → IsBlankFrom at n now → IsBlank (at + n) bytes
blank_more bytes now at n before same more p lt = elim (cases_lt p at) [
  | inl below ↦ before p below
  | inr over ↦
      let here : at + (p - at) ≡ p = omega (arith, over) in
      ap bytes (sym here) ∙ (sym (same (at + (p - at))) ∙ more (p - at) (omega (arith, over, lt)))
]

-- a part of what is blank
pub blank_part : (bytes now : ℕ → ℕ) (size at n : ℕ) → at + n ≤ size → IsBlank size bytes
    → ((p : ℕ) → now p ≡ bytes p) → IsBlankFrom at n now
blank_part bytes now size at n within all same p lt =
    same (at + p) ∙ all (at + p) (omega (arith, within, lt))
