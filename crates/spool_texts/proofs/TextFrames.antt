-- A change of a block that no row owns.
use Rattle.std.proofs.Common.{◌≡◌, ℕ, zero, suc, ◌+◌, ◌*◌, ◌/◌, ◌≤◌, Bool, true, false, cond, List, [], ◌∷◌}
use Rattle.std.proofs.Common.{Option, None, Some, get_or, take, refl, sym, ◌∙◌, ap, arith, ⊎_elim}
use Rattle.std.proofs.lemmas.Bool.{cases_eq}
use Rattle.spool_disk.proofs.Span.{span_same}
use Rattle.spool_texts.specs.Texts.{owns, block_at, block_bytes, joined_blocks, aside, SameBut, Frame}
use Rattle.std.proofs.lemmas.Bool.Decides.{nat_tests}
use Rattle.spool_journal.specs.declared.TheConstants.{PAGE}
use Rattle.spool_journal.proofs.Gate.{open_view, shut_view, SameJournal, form_on, replay_on}
use Rattle.spool_journal.specs.Image.{area_end}

pub aside_there : (page : ℕ) (was image : ℕ → ℕ) (p : ℕ) → page ≡ p / PAGE → aside page was image p ≡ was p
aside_there page was image p e = grind (arith, nat_tests)

pub aside_else : (page : ℕ) (was image : ℕ → ℕ) (p : ℕ) → (page ≡ p / PAGE → ⊥) → aside page was image p ≡ image p
aside_else page was image p e = grind (arith, nat_tests)

-- the block at an ordinal is another than one without owner
module _ (image image' : ℕ → ℕ) (first x slot ordinal : ℕ) (same : SameBut (first + x) image image') where
  same_block : (rows : List (Option (ℕ × ℕ))) (b : ℕ) → ((k : ℕ) → x ≡ b + k → get_or rows k None ≡ None)
      → block_bytes image first (block_at slot ordinal rows b) ≡ block_bytes image' first (block_at slot ordinal rows b)
  unfolding block_at block_bytes owns
  same_block [] b none = refl
  same_block (row ∷ rows) b none =
      cond_case (owns slot ordinal row) (Some b) (block_at slot ordinal rows (b + 1))
      (λ mine. span_same image image' (PAGE * (first + b)) PAGE
      (λ p here. same p (λ e. owned row (none 0) mine (omega (arith, e, here.from, here.below)))))
      (same_block rows (b + 1) (λ k e. none (suc k) (omega (arith, e))))
    where
      owned : (row : Option (ℕ × ℕ)) → (x ≡ b + 0 → row ≡ None) → owns slot ordinal row ≡ true → x ≡ b → ⊥
      owned row none mine e = grind arith

      cond_case : (t : Bool) (a c : Option ℕ) → (t ≡ true → block_bytes image first a ≡ block_bytes image' first a)
          → block_bytes image first c ≡ block_bytes image' first c → block_bytes image first (cond t a c) ≡ block_bytes
          image' first (cond t a c)
      cond_case true a c here rest = here refl
      cond_case false a c here rest = rest

same_joined : (image image' : ℕ → ℕ) (first x slot : ℕ) (rows : List (Option (ℕ × ℕ)))
    → SameBut (first + x) image image' → get_or rows x None ≡ None → (ordinal n : ℕ)
    → joined_blocks image first rows slot ordinal n ≡ joined_blocks image' first rows slot ordinal n
unfolding joined_blocks
same_joined image image' first x slot rows same none ordinal zero = refl
same_joined image image' first x slot rows same none ordinal (suc n) =
    let first_same = same_block image image' first x slot ordinal same rows 0
    (λ k e. let f : x ≡ k = omega (arith, e) in rw f at none) in
    let rest = same_joined image image' first x slot rows same none (ordinal + 1) n in
    cc

-- a page of text
pub frame : (j block : ℕ) (a b : ℕ → ℕ) → j ≤ 385 → SameBut (area_end j + block) a b → Frame j (area_end j) block a b
frame j block a b few same = record {
  texts = λ rows slot len none. ap (λ (l : List ℕ). take len l)
      (same_joined a b (area_end j) block slot rows same none 0 ((len + 4095) / PAGE));
  form = λ formed gate. let f =
      formed (sym (same PAGE (λ e. omega (arith, e))) ∙ gate) in form_on few (omega (arith, f.some, f.few)) journal f;
  others = λ formed p away. ⊎_elim
      (λ (e : a PAGE ≡ 165). let gate : b PAGE ≡ 165 = sym (same PAGE (λ f. omega (arith, f))) ∙ e in
      open_view a p e ∙ replay_on few journal (formed gate) p (λ _. same p away) ∙ sym (open_view b p gate))
      (λ (e : a PAGE ≡ 165 → ⊥). shut_view a p e ∙ same p away ∙ sym
      (shut_view b p (λ f. e (same PAGE (λ g. omega (arith, g)) ∙ f))))
      (cases_eq (a PAGE) 165);
}
  where
    journal : SameJournal j a b
    journal = record { same = λ p within. same p (λ e. omega (arith, e, within.below)) }

pub frame_aside : (j block : ℕ) (image was : ℕ → ℕ) → j ≤ 385 → Frame j (area_end j) block image
    (aside (area_end j + block) was image)
frame_aside j block image was few =
    frame j block image (aside (area_end j + block) was image) few
    (λ p away. sym (aside_else (area_end j + block) was image p away))
