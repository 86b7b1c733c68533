-- Steps of opening a spool.
use Rattle.std.proofs.Common.{◌≡◌, ◌⊎◌, inl, inr, ℕ, ◌+◌, ◌*◌, ◌<◌, ◌≤◌, get_or, Result, Ok, Err, IfOk, refl, sym, ◌∙◌}
use Rattle.std.proofs.Common.{subst, arith}
use Rattle.std.proofs.lemmas.Bool.{cases_eq}
use Rattle.spool_journal.specs.declared.TheConstants.{PAGE}
use Rattle.spool_disk.specs.Disk.{IsImage, Preserves}
use Rattle.spool_disk.specs.Views.{Lasts}
use Rattle.spool_disk.specs.declared.disk.Disk.{Ghosts}
use Rattle.spool_disk.proofs.Firm.{lasts_more, lasts_on}
use Rattle.spool_journal.specs.Image.{journal_pages, all_pages, overlaid, InForm, count, journal_number, content}
use Rattle.spool_journal.specs.Phases.{Settled, ReadsAs, Still}
use Rattle.spool_journal.proofs.Over.{over_none}
use Rattle.spool_journal.proofs.Gate.{open_view, shut_view}
use Rattle.spool_pages.specs.View.{View, Encodes, IsViewOf, first_page}
use Rattle.spool_catalog.specs.Shows.{IsValid}
use Rattle.spool_load.specs.Reads.{NeedsReplay, OnlyReads, EncodesBlocks}
use Rattle.spool_pages.proofs.Encodes.{encodes_same}

-- a spool has at least so many pages
pub some_pages : (n : ℕ) → 539 ≤ all_pages n
unfolding all_pages journal_pages
some_pages n = omega arith

-- two images with the same bytes are one
pub same_function : (f g : ℕ → ℕ) → ((p : ℕ) → f p ≡ g p) → f ≡ g
same_function f g same = λ i p. same p i

-- page 0 is never one of the journal's places
pub prefix_plain : (j : ℕ) (image : ℕ → ℕ) → (image PAGE ≡ 165 → InForm j (count image) (journal_number image))
    → (p : ℕ)
    → p < PAGE → image p ≡ overlaid image p
prefix_plain j image form p lt = elim (cases_eq (image PAGE) 165) [
  | inl ajar ↦
      sym (open_view image p ajar ∙ over_none (journal_number image) (content image) image (count image) p
      (λ k below e. omega (arith, ((form ajar).inside k below).from, e, lt)))
  | inr shut ↦ sym (shut_view image p shut)
]

pub first_plain : (image : ℕ → ℕ) (v : View) → IsViewOf image v → (i : ℕ) → i < PAGE
    → image i ≡ get_or (first_page v.blocks) i 0
first_plain image v is i lt =
    let at : 0 + i ≡ i = omega arith in
    let there : overlaid image i ≡ get_or (first_page v.blocks) i 0 =
    subst (λ (p : ℕ). overlaid image p ≡ get_or (first_page v.blocks) i 0) at (is.encodes.first.each i lt) in
    prefix_plain (journal_pages v.blocks) image is.form i lt ∙ there

pub view_encodes_blocks : (size : ℕ) (image : ℕ → ℕ) (v : View) → IsValid v → IsViewOf image v
    → PAGE * all_pages v.blocks ≤ size → EncodesBlocks size image v.blocks
view_encodes_blocks size image v valid is room = record {
  least = valid.least;
  most = valid.most;
  room = room;
  prefix = λ i lt. first_plain image v is i (omega (arith, lt));
}

-- where the bytes are the same and none is unsynced, nothing was written
pub still_as : {current current' : ℕ → ℕ} {unsynced unsynced' : ℕ → Type 0} → Still current current' unsynced'
    → Preserves current current' unsynced unsynced'
still_as still = record { same = still.reads; unsyncs = λ p l. absurd (still.is_synced p l) }

pub still_as_image : {current : ℕ → ℕ} {unsynced : ℕ → Type 0} (image : ℕ → ℕ) → ((p : ℕ) → image p ≡ current p)
    → IsImage current unsynced image
still_as_image image same = record { same = λ p is_synced. same p }

pub preserves_on : {a b c : ℕ → ℕ} {la lb lc : ℕ → Type 0} → Preserves a b la lb → Preserves b c lb lc
    → Preserves a c la lc
preserves_on first then = record {
  same = λ p. then.same p ∙ first.same p;
  unsyncs = λ p l. first.unsyncs p (then.unsyncs p l);
}

-- where no journal is to be replayed the gate is shut, also after a read
pub gate_shut : {current current' : ℕ → ℕ} {unsynced unsynced' : ℕ → Type 0} {size n : ℕ}
    → Preserves current current' unsynced unsynced'
    → EncodesBlocks size current n → (NeedsReplay size current → ⊥) → current' PAGE ≡ 165 → ⊥
gate_shut {n = n} preserves encodes none ajar = none (record
    { blocks = n; encodes = encodes; gate = sym (preserves.same PAGE) ∙ ajar })

-- after a recovery
pub settled_still : {j : ℕ} {bytes current : ℕ → ℕ} {unsynced : ℕ → Type 0} → Settled j bytes current unsynced
    → Still current current unsynced
settled_still settled = record { reads = λ p. refl; is_synced = settled.is_synced }

pub settled_encodes : {bytes current : ℕ → ℕ} {unsynced : ℕ → Type 0} (v : View)
    → Settled (journal_pages v.blocks) bytes current unsynced → Encodes bytes v → Encodes current v
settled_encodes {bytes = bytes} {current = current} v settled encodes = encodes_same current bytes v settled.same
    encodes

pub settled_reads : {j : ℕ} {bytes current : ℕ → ℕ} {unsynced : ℕ → Type 0} (image : ℕ → ℕ)
    → Settled j bytes current unsynced
    → ((p : ℕ) → image p ≡ current p) → ReadsAs j image bytes
settled_reads image settled same =
    let shut : image PAGE ≡ 165 → ⊥ = λ ajar. settled.closed (sym (same PAGE) ∙ ajar) in
    record {
      form = λ ajar. absurd (shut ajar);
      same = λ p outside. shut_view image p shut ∙ same p ∙ settled.same p outside;
    }

pub settled_on : {j : ℕ} {bytes current current' : ℕ → ℕ} {unsynced unsynced' : ℕ → Type 0}
    → Settled j bytes current unsynced
    → Still current current' unsynced' → Settled j bytes current' unsynced'
settled_on settled still = record {
  is_synced = still.is_synced;
  closed = λ ajar. settled.closed (sym (still.reads PAGE) ∙ ajar);
  same = λ p outside. still.reads p ∙ settled.same p outside;
}

pub if_ok : {T E X : Type 0} (r : Result T E) → X → IfOk r (λ t. X)
if_ok (Ok t) x = x
if_ok (Err e) x = tt

-- a read before it changes nothing of this
pub preserves_image : {current current' image : ℕ → ℕ} {unsynced unsynced' : ℕ → Type 0}
    → Preserves current current' unsynced unsynced'
    → IsImage current' unsynced' image → IsImage current unsynced image
preserves_image preserves is = record {
  same = λ p is_synced. is.same p (λ l. is_synced (preserves.unsyncs p l))
      ∙ preserves.same p;
}

-- A READ AFTER A RECOVERY

-- the bytes after a recovery encode the view that was on the disk
pub recovered_encodes : {was current : ℕ → ℕ} {unsynced : ℕ → Type 0} (n : ℕ) (v : View) → n ≡ v.blocks
    → Settled (journal_pages n) (overlaid was) current unsynced → IsViewOf was v → Encodes current v
recovered_encodes {was = was} {current = current} {unsynced = unsynced} n v same settled is =
    let J : ℕ → Type 0 = λ k. Settled (journal_pages k) (overlaid was) current unsynced in
    settled_encodes v (subst J same settled) is.encodes

module _ {D : Type 0} (disk : Ghosts D) (old mid new : D) (n : ℕ) (honest : disk.honest mid)
    (settled : Settled (journal_pages n) (overlaid (disk.current old)) (disk.current mid) (disk.unsynced mid))
    (reads : OnlyReads disk mid new) where
  pub read_settled : Settled (journal_pages n) (overlaid (disk.current old)) (disk.current new) (disk.unsynced new)
  read_settled = settled_on settled (reads.still honest _ (settled_still settled))

  pub read_lasts : (blocks : ℕ) → n ≡ blocks
      → Lasts disk old mid (λ image. IsImage (disk.current old) (disk.unsynced old) image
      ⊎ ReadsAs (journal_pages blocks) image (overlaid (disk.current old)))
      → Lasts disk old new (λ image. IsImage (disk.current old) (disk.unsynced old) image
      ⊎ ReadsAs (journal_pages blocks) image (overlaid (disk.current old)))
  read_lasts blocks equal first =
      let J : ℕ → Type 0 =
      λ k. Settled (journal_pages k) (overlaid (disk.current old)) (disk.current mid) (disk.unsynced mid) in
      lasts_on first
      (lasts_more (reads.lasts honest _ (settled_still settled))
      (λ image same. inr (settled_reads image (subst J equal settled) same)))

  pub read_unwritten : Preserves (disk.current old) (disk.current mid) (disk.unsynced old) (disk.unsynced mid)
      → Lasts disk old mid (IsImage (disk.current old) (disk.unsynced old))
      → Lasts disk old new (IsImage (disk.current old) (disk.unsynced old))
  read_unwritten preserves first =
      lasts_on first
      (lasts_more (reads.lasts honest _ (settled_still settled))
      (λ image same. preserves_image preserves (still_as_image image same)))

  pub read_same : Preserves (disk.current old) (disk.current mid) (disk.unsynced old) (disk.unsynced mid)
      → Preserves (disk.current old) (disk.current new) (disk.unsynced old) (disk.unsynced new)
  read_same preserves = preserves_on preserves (still_as (reads.still honest _ (settled_still settled)))
