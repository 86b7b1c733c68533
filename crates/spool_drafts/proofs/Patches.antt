-- Patches, and what their drafts hold.
use Rattle.std.proofs.Common.{◌≡◌, ◌⊎◌, inl, inr, ◌≤◌, ◌-◌, ◌*◌, ◌/◌, ◌%◌, ◌++◌, ℕ, Bool, true, false, List, [], length}
use Rattle.std.proofs.Common.{drop, Option, None, Some, refl, sym, ◌∙◌, ap, arith, append-nil, length-append}
use Rattle.std.proofs.Common.{length-drop, ⊎_elim}
use Rattle.std.proofs.lemmas.Bool.{both_ways}
use Rattle.std.proofs.lemmas.List.{drop-append-le}
use Rattle.spool_journal.specs.declared.TheConstants.{PAGE}
use Rattle.enc_model.specs.Indexes.{IndexSet, tables}
use Rattle.upload_rules.specs.Room.{need_of, wants, need}
use Rattle.upload_rules.specs.Store.{Upload, text_of, text_with, is_complete}
use Rattle.upload_rules.specs.World.{Patch, is_there, patch_text}
use Rattle.upload_rules.proofs.TextGrows.{text_after}
use Rattle.upload_rules.proofs.Transcoders.{stays_unencodable}
use Rattle.spool_drafts.specs.Drafts.{open_text, with_piece}

-- a fault, or none
pub fault_cases : (fault : Option ℕ) → (fault ≡ None) ⊎ (is_there fault ≡ true)
fault_cases None = inl refl
fault_cases (Some c) = inr refl

pub no_fault : (fault : Option ℕ) → fault ≡ None → is_there fault ≡ false
no_fault fault none = ap is_there none

pub patch_text_is : (x : IndexSet) (p : Patch) (done : Bool) → patch_text x p done ≡ text_with x p.began p.body done
unfolding patch_text
patch_text_is x p done = refl

-- a text with a value had one with less bytes
pub value_before : (x : IndexSet) (u : Upload) (bytes piece : List ℕ) (done : Bool)
    → (text_with x u (bytes ++ piece) done).fault ≡ None → (text_with x u bytes false).fault ≡ None
value_before x u bytes piece done none =
    ⊎_elim (λ here. here) (λ there. absurd
    (both_ways (is_there (text_with x u (bytes ++ piece) done).fault) (no_fault _ none)
    (stays_unencodable x u bytes piece done there))) (fault_cases (text_with x u bytes false).fault)

-- the text of an upload that isn't complete is a prefix of its text with more bytes
pub in_prefix : (x : IndexSet) (u : Upload) (bytes : List ℕ) (done : Bool) → is_complete u ≡ false
    → (text_with x u bytes done).fault ≡ None → length (text_of x u) ≤ length (text_with x u bytes done).bytes
unfolding text_of
in_prefix x u bytes done still none =
    let at : u.accepted ++ [] ≡ u.accepted = append-nil u.accepted in
    let first : (text_with x u [] false).fault ≡ None = value_before x u [] bytes done none in
    let both = text_after (tables x) u.from u.to u.mode u.origin (u.accepted ++ []) first bytes done in
    let same : (u.accepted ++ []) ++ bytes ≡ u.accepted ++ bytes = ap (λ (b : List ℕ). b ++ bytes) at in
    let grown = ap length (ap (λ (b : List ℕ). (text_with x (record u { accepted = [] }) b done).bytes) (sym same)
    ∙ both.1) in
    let own = ap (λ (b : Bool). length (text_with x u [] b).bytes) still in
    omega (arith, grown, own, length-append (text_with x u [] false).bytes both.0)

-- a patch whose longer text has a value has one too
pub fine_before : (x : IndexSet) (p : Patch) (piece : List ℕ) (done : Bool)
    → (patch_text x (with_piece p piece) done).fault ≡ None → (patch_text x p false).fault ≡ None
fine_before x p piece done none =
    ap (λ r. r.fault) (patch_text_is x p false)
    ∙ value_before x p.began p.body piece done
    (ap (λ r. r.fault) (sym (patch_text_is x (with_piece p piece) done)) ∙ none)

-- the committed text is a prefix of the patch's
pub committed_first : (x : IndexSet) (p : Patch) (done : Bool) → is_complete p.began ≡ false
    → (patch_text x p done).fault ≡ None → length (text_of x p.began) ≤ length (patch_text x p done).bytes
committed_first x p done still none =
    let is = patch_text_is x p done in
    omega (
      arith,
      ap (λ r. length r.bytes) is,
      in_prefix x p.began p.body done still (ap (λ r. r.fault) (sym is) ∙ none),
    )

-- what a patch wants, by its text after the full blocks of the committed one
pub wants_is : (x : IndexSet) (p : Patch) (done : Bool) → (patch_text x p done).fault ≡ None
    → wants x p done ≡ need_of (length (text_of x p.began))
    (length (open_text x p done) - length (text_of x p.began) % PAGE)
unfolding wants
wants_is x p done none =
    let t = length (text_of x p.began) in
    let bytes = (patch_text x p done).bytes in
    let e : length bytes - t ≡ length (open_text x p done) - t % PAGE =
    omega (arith, length-drop (PAGE * (t / PAGE)) bytes) in
    rw (no_fault (patch_text x p done).fault none) (ap (need_of t) e)

-- the same by two numbers
pub wants_of : (x : IndexSet) (p : Patch) (done : Bool) (t n : ℕ) → t ≡ length (text_of x p.began)
    → n ≡ length (open_text x p done) → (patch_text x p done).fault ≡ None
    → need_of t (n - t % PAGE) ≡ wants x p done
wants_of x p done t n committed size none =
    ap (λ (t : ℕ). need_of t (n - t % PAGE)) committed
    ∙ ap (λ (n : ℕ). need_of (length (text_of x p.began)) (n - length (text_of x p.began) % PAGE)) size
    ∙ sym (wants_is x p done none)

wants_nothing : (x : IndexSet) (p : Patch) (done : Bool) → is_there (patch_text x p done).fault ≡ true
    → wants x p done ≡ 0
unfolding wants
wants_nothing x p done there = rw there refl

pub need_roomy : (x : IndexSet) (p : Patch) (done : Bool) → p.short ≡ false → need x p done ≡ wants x p done
need_roomy x p done roomy = rw roomy refl

pub need_short : (x : IndexSet) (p : Patch) (done : Bool) → p.short ≡ true → need x p done ≡ 0
need_short x p done short = rw short refl

pub need_fault : (x : IndexSet) (p : Patch) (done : Bool) → is_there (patch_text x p done).fault ≡ true
    → need x p done ≡ 0
need_fault x p done there = by_short p.short refl
  where
    by_short : (b : Bool) → p.short ≡ b → need x p done ≡ 0
    by_short true e = need_short x p done e
    by_short false e = need_roomy x p done e ∙ wants_nothing x p done there

-- the text after the full blocks grows by what comes
pub open_grows : (x : IndexSet) (p : Patch) (piece text : List ℕ) (done done' : Bool)
    → length (text_of x p.began) ≤ length (patch_text x p done).bytes
    → (text_with x p.began p.body done).bytes ++ text ≡ (text_with x p.began (p.body ++ piece) done').bytes
    → open_text x (with_piece p piece) done' ≡ open_text x p done ++ text
unfolding patch_text
open_grows x p piece text done done' prefix adds =
    let n = PAGE * (length (text_of x p.began) / PAGE) in
    ap (drop n) (sym adds) ∙ drop-append-le n (text_with x p.began p.body done).bytes text (omega (arith, prefix))
