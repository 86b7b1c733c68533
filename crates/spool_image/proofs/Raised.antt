-- What a later next number leaves.
use Rattle.std.proofs.Common.{◌≡◌, ◌⊎◌, ◌∙◌, inl, inr, ℕ, ◌*◌, ◌<◌, ◌≤◌, ◌^◌, max, Result, Ok, Err, IfErr, IfOk}
use Rattle.std.proofs.Common.{OnOk, List, [], ap, refl, sym, subst, ⊎_elim, arith}
use Rattle.std.proofs.Math.Nat.{le-max_left, max-eq_left, max-le}
use Rattle.common.specs.declared.stop.Stop.TheVariants.{NoMemory, DiskFault}
use Rattle.spool_disk.specs.Disk.{IsImage}
use Rattle.spool_disk.specs.Views.{Lasts}
use Rattle.spool_disk.specs.declared.disk.Disk.{Ghosts}
use Rattle.spool_disk.specs.Given.{ReadsOnce}
use Rattle.common.specs.declared.given.GivenRead.{GivenRead}
use Rattle.spool_journal.specs.declared.TheConstants.{PAGE}
use Rattle.spool_journal.specs.Image.{all_pages, journal_pages, overlaid, Outside}
use Rattle.spool_journal.specs.Phases.{Settled}
use Rattle.upload_rules.specs.Store.{Store}
use Rattle.spool_catalog.specs.Holding.{Holding}
use Rattle.spool_catalog.specs.Loads.{LoadsAs}
use Rattle.spool_catalog.specs.Raising.{raised}
use Rattle.spool_catalog.specs.Shows.{ImageShows, IsValid}
use Rattle.spool_catalog.specs.declared.error.OpenFault.{OpenFault}
use Rattle.spool_catalog.specs.declared.error.OpenFault.TheVariants as faults
use Rattle.spool_catalog.proofs.Raised.{raised_shows}
use Rattle.spool_load.specs.Loaded.{LoadsBy, OpenedFrom}
use Rattle.spool_load.specs.Refusals.{RefusedBy}
use Rattle.spool_pages.specs.Changes.{with_next}
use Rattle.spool_pages.specs.Rests.{Rests}
use Rattle.spool_pages.specs.View.{View, IsViewOf}
use Rattle.spool_image.specs.LeftOnly.{IsSpool}
use Rattle.spool_image.specs.Raise.{CommitOfRaise, CommitsRaise, IsStopOfRaise, LeftOrRaised, MayRaise}
use Rattle.spool_image.specs.Raise.{RaiseRefusedBy, RaisesBy, RefusesRaiseAs}
use Rattle.spool_image.specs.declared.error.RaiseError.{RaiseError}
use Rattle.spool_image.specs.declared.error.RaiseError.TheVariants.{Open}
use Rattle.spool_image.proofs.Opening.{view_more}
use Rattle.spool_image.proofs.Opens.{lasts_as, lasts_or}
use Rattle.spool_image.proofs.Upgraded.{laid_over, view_shows}

-- ANSWERS

-- a spool that a read shows is refused by memory or the disk alone
pub loads_raises : {T : Type 0} (e : OpenFault) (P : T → Type 0) → LoadsAs {T = T} (Err e) P → IsStopOfRaise (Open e)
loads_raises (faults.Stop NoMemory) P is = inl refl
loads_raises (faults.Stop DiskFault) P is = inr refl
loads_raises faults.NotASpool P is = absurd is
loads_raises faults.Damaged P is = absurd is
loads_raises faults.Version P is = absurd is

-- a refusal to open is one to raise
pub opens_raise : (e fault : OpenFault) → (e ≡ fault) ⊎ (e ≡ faults.Stop NoMemory) ⊎ (e ≡ faults.Stop DiskFault)
    → RefusesRaiseAs (Err (Open e)) fault
opens_raise e fault (inl is) = inl (ap Open is)
opens_raise e fault (inr (inl is)) = inr (inl (ap Open is))
opens_raise e fault (inr (inr is)) = inr (inr (ap Open is))

module _ (size number : ℕ) (before after : ℕ → ℕ) where
  pub stopped_reason : (e : RaiseError) → IsStopOfRaise e → RaiseRefusedBy size number before after e
  stopped_reason e (inl is) = subst (RaiseRefusedBy size number before after) (sym is) tt
  stopped_reason e (inr is) = subst (RaiseRefusedBy size number before after) (sym is) tt

  pub stopped_reasons : (r : Result ℕ RaiseError) → IfErr r IsStopOfRaise
      → IfErr r (RaiseRefusedBy size number before after)
  stopped_reasons (Ok next) is = tt
  stopped_reasons (Err e) is = stopped_reason e is

  -- what was read is raised
  pub raises_by : (catalog : Holding) (r : Result ℕ RaiseError) → LoadsBy size before after (Ok catalog)
      → IfErr r IsStopOfRaise → IfOk r (λ next. next ≡ max catalog.next number) → RaisesBy size number r before after
  raises_by catalog (Ok next) is stopped later =
      view_more (λ v has_view. later ∙ ap (λ (k : ℕ). max k number) has_view.0.next) is.answer
  raises_by catalog (Err e) is stopped later = stopped_reason e stopped

-- no read
pub none_read : {P : ℕ → Type 0} (given : List GivenRead) → ReadsOnce P given given
none_read given = record {
  since = record { added = []; grown = refl };
  within = λ p never. absurd never;
  once = tt;
}

-- WHAT IT LEAVES

-- a commit leaves the view, or the one with the later number
pub leaves_either : {D : Type 0} (disk : Ghosts D) (d d' : D) (v : View) (number : ℕ) (r : Result ℕ RaiseError)
    → MayRaise r → v.next < number
    → Lasts disk d d' (λ image. IsViewOf image v ⊎ IsViewOf image (with_next v number))
    → Lasts disk d d' (λ image. IsViewOf image v ⊎ (MayRaise r × (v.next < number)
    × IsViewOf image (with_next v number)))
leaves_either disk d d' v number r may less =
    lasts_or disk (λ image. IsViewOf image v) (λ image. IsViewOf image (with_next v number))
    (λ image. MayRaise r × (v.next < number) × IsViewOf image (with_next v number)) (λ image new. (may, less, new))

-- the later of the two numbers, where it is the spool's own
pub own_later : (next number : ℕ) → number ≤ next → next ≡ max next number
own_later next number le = sym (max-eq_left le)

-- the same commit, over bytes that agree outside gate and journal
raise_over : {current : ℕ → ℕ} {unsynced : ℕ → Type 0} (v : View) (number : ℕ) (bytes bytes' : ℕ → ℕ)
    → ((p : ℕ) → Outside (journal_pages v.blocks) p → bytes p ≡ bytes' p)
    → CommitOfRaise v number bytes current unsynced → CommitOfRaise v number bytes' current unsynced
raise_over v number bytes bytes' same commit = record {
  pages = commit.pages;
  one = commit.one;
  area = commit.area;
  changes = commit.changes;
  settled = laid_over v.blocks commit.pages bytes bytes' same commit.settled;
}

-- from what the recovery left to what was there before
pub commits_raise : {D : Type 0} (disk : Ghosts D) (mid new : D) (v : View) (number : ℕ) (was : ℕ → ℕ)
    → Settled (journal_pages v.blocks) (overlaid was) (disk.current mid) (disk.unsynced mid)
    → ((number ≤ v.next) × (new ≡ mid)) ⊎ ((v.next < number)
    × CommitOfRaise v number (disk.current mid) (disk.current new) (disk.unsynced new))
    → CommitsRaise v number (overlaid was) (disk.current new) (disk.unsynced new)
commits_raise disk mid new v number was settled (inl same) = inl (
  same.0,
  subst (λ d. Settled (journal_pages v.blocks) (overlaid was) (disk.current d) (disk.unsynced d)) (sym same.1) settled,
)
commits_raise disk mid new v number was settled (inr commit) =
    inr (commit.0, raise_over v number (disk.current mid) (overlaid was) settled.same commit.1)

pub if_ok_both : {T E : Type 0} (A B : T → Type 0) (r : Result T E) → IfOk r A → IfOk r B → IfOk r (λ t. A t × B t)
if_ok_both A B (Ok t) a b = (a, b)
if_ok_both A B (Err e) a b = tt

pub if_ok_more : {T E : Type 0} (A B : T → Type 0) (r : Result T E) → IfOk r A → ((t : T) → A t → B t) → IfOk r B
if_ok_more A B (Ok t) a more = more t a
if_ok_more A B (Err e) a more = tt

pub if_ok_on : {T E : Type 0} (A : Type 0) (r : Result T E) → OnOk r A → IfOk r (λ t. A)
if_ok_on A (Ok t) a = a
if_ok_on A (Err e) a = tt

-- a spool that shows uploads shows them with the later number
pub raised_view_shows : (n : ℕ) (m : Store) (was image : ℕ → ℕ) (shown : ImageShows n was m) (next : ℕ)
    → m.next ≤ next → next ≤ 10 ^ 18 → IsViewOf image (with_next shown.view next) → ImageShows n image (raised m next)
raised_view_shows n m was image shown next le most is = record {
  view = with_next shown.view next;
  blocks = shown.blocks;
  is = is;
  shows = raised_shows shown.view m next shown.shows (subst (λ (k : ℕ). k ≤ next) (sym shown.shows.next) le) most;
}

-- the later number is in range
pub later_most : (m : Store) (v : View) (number next : ℕ) → IsValid v → v.next ≡ m.next → number ≤ 10 ^ 18
    → next ≡ max v.next number → (m.next ≤ next) × (next ≤ 10 ^ 18)
later_most m v number next valid same most later = (
  subst (λ (k : ℕ). k ≤ next) same (subst (λ (k : ℕ). v.next ≤ k) (sym later) (le-max_left v.next number)),
  subst (λ (k : ℕ). k ≤ 10 ^ 18) (sym later) (max-le valid.next_most most),
)

-- a crash leaves one of before, the same uploads, or these with the later number
pub crash_raised : {D : Type 0} (disk : Ghosts D) (d d' : D) (n : ℕ) (m : Store) (number : ℕ)
    (r : Result ℕ RaiseError) (is : IsSpool disk d n m) → (MayRaise r → number ≤ 10 ^ 18)
    → ((v : View) → IsValid v → IsViewOf (disk.current d) v → PAGE * all_pages v.blocks ≤ disk.size d
    → Lasts disk d d' (λ image. IsImage (disk.current d) (disk.unsynced d) image ⊎ IsViewOf image v
    ⊎ (MayRaise r × (v.next < number) × IsViewOf image (with_next v number))))
    → Lasts disk d d' (LeftOrRaised disk d n number m r)
crash_raised disk d d' n m number r is most lasts =
    lasts_as disk d d' n m is
    (λ v image. IsImage (disk.current d) (disk.unsynced d) image ⊎ IsViewOf image v
    ⊎ (MayRaise r × (v.next < number) × IsViewOf image (with_next v number)))
    (LeftOrRaised disk d n number m r) lasts
    (λ image one. ⊎_elim (λ here. inl (inl here))
    (λ then. ⊎_elim (λ same. inl (inr (view_shows n m (disk.current d) image is.shows same)))
    (λ later. let less = subst (λ (k : ℕ). k < number) is.shows.shows.next later.1 in inr (record {
      may = later.0;
      later = less;
      shows = raised_view_shows n m (disk.current d) image is.shows number (omega (arith, less)) (most later.0)
          later.2;
    })) then) one)
