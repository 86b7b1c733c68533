-- What an upgrade leaves.
use Rattle.std.proofs.Common.{◌≡◌, ◌⊎◌, ◌∙◌, inl, inr, ℕ, ◌*◌, ◌≤◌, Result, Ok, Err, IfErr, OnOk, refl, sym, ap, subst}
use Rattle.std.proofs.Common.{⊎_elim, List, length}
use Rattle.std.specs.Result.{IsErrAnd, result_err}
use Rattle.std.proofs.lemmas.Option.{same_Some}
use Rattle.std.proofs.Common.{arith}
use Rattle.common.specs.declared.stop.Stop.TheVariants.{NoMemory, DiskFault}
use Rattle.spool_journal.specs.declared.TheConstants.{PAGE}
use Rattle.spool_disk.specs.Disk.{IsImage}
use Rattle.spool_disk.specs.Views.{Lasts}
use Rattle.spool_disk.specs.declared.disk.Disk.{Ghosts}
use Rattle.spool_journal.specs.Image.{all_pages, journal_pages, laid, overlaid, page_byte, page_number, Outside}
use Rattle.spool_journal.specs.Phases.{Settled}
use Rattle.spool_journal.proofs.Over.{over_same}
use Rattle.upload_rules.specs.Store.{Store}
use Rattle.spool_pages.specs.Changes.{upgraded}
use Rattle.spool_pages.specs.Rests.{HasTexts, Rests}
use Rattle.spool_pages.specs.View.{View, IsViewOf, AreAt, state_page, state_place, version_number}
use Rattle.spool_pages.specs.declared.version.Version.{Version}
use Rattle.spool_pages.specs.declared.version.Version.TheVariants.{One, Two}
use Rattle.spool_pages.proofs.Resting.{rests_encodes, rests_image, shut_is}
use Rattle.spool_catalog.specs.Holding.{Holding}
use Rattle.spool_catalog.specs.Shows.{ImageShows, IsValid}
use Rattle.spool_catalog.specs.declared.error.OpenFault.{OpenFault}
use Rattle.spool_catalog.specs.declared.error.OpenFault.TheVariants.{NotASpool, Damaged, Stop}
use Rattle.spool_catalog.specs.declared.error.OpenFault.TheVariants as faults
use Rattle.spool_catalog.specs.Loads.{LoadsAs}
use Rattle.spool_catalog.proofs.Upgraded.{upgraded_shows}
use Rattle.spool_load.specs.Loaded.{FoundBy, LoadsBy, ReadsView}
use Rattle.spool_load.specs.declared.finding.Found.{Found}
use Rattle.spool_load.specs.Refusals.{HasJournal, NamesVersion, NotFoundBy, NotFoundFor, RefusedBy}
use Rattle.spool_load.proofs.Opens.{settled_encodes}
use Rattle.spool_load.proofs.Refused.{encodes_one, unfound_reason, version_one, version_at}
use Rattle.spool_image.specs.LeftOnly.{AllShow, IsSpool, LeftOrShows}
use Rattle.spool_image.specs.Upgrade.{CommitOfUpgrade, IsLateRefusal, ReadsNew, UpgradeRefusedBy}
use Rattle.spool_image.specs.Upgrade.{UpgradesBy, UpgradesOf}
use Rattle.spool_image.specs.declared.error.UpgradeError.{UpgradeError}
use Rattle.spool_image.specs.declared.error.UpgradeError.TheVariants.{Open}
use Rattle.spool_image.proofs.Opening.{view_more}
use Rattle.spool_image.proofs.Opens.{lasts_as}

-- a recovered spool rests
pub settled_rests : {was current : ℕ → ℕ} {unsynced : ℕ → Type 0} (v : View) (n : ℕ) → n ≡ v.blocks
    → Settled (journal_pages n) (overlaid was) current unsynced → IsViewOf was v → Rests v current unsynced
settled_rests {was = was} {current = current} {unsynced = unsynced} v n same settled is =
    let J : ℕ → Type 0 = λ k. Settled (journal_pages k) (overlaid was) current unsynced in
    let here = subst J same settled in
    record {
      closed = here.closed;
      is_synced = λ p l. absurd (here.is_synced p l);
      is = shut_is current v here.closed (settled_encodes v here is.encodes);
    }

-- ANSWERS

pub upgrades_late : {T : Type 0} (version : Version) (r : Result T UpgradeError) → version ≡ One
    → IfErr r IsLateRefusal → UpgradesOf version r
upgrades_late version (Ok t) old late = old
upgrades_late version (Err e) old late = inr late

pub on_ok_more : {T E A B : Type 0} (r : Result T E) → (A → B) → OnOk r A → OnOk r B
on_ok_more (Ok t) more a = more a
on_ok_more (Err e) more a = tt

pub on_ok_both : {T E : Type 0} (A B : Type 0) (r : Result T E) → OnOk r A → OnOk r B → OnOk r (A × B)
on_ok_both A B (Ok t) a b = (a, b)
on_ok_both A B (Err e) a b = tt

-- what holds before a refusal that changes nothing holds after it
pub untouched_on : {D T E : Type 0} (P : D → Type 0) (fault : E) (mid new : D) (r : Result T E) → P mid
    → IfErr r (λ e. (e ≡ fault → ⊥) → new ≡ mid) → IfErr r (λ e. (e ≡ fault → ⊥) → P new)
untouched_on P fault mid new (Ok t) p same = tt
untouched_on P fault mid new (Err e) p same = λ fine. subst P (sym (same fine)) p

pub if_err : {T E : Type 0} (r : Result T E) (P Q : E → Type 0) → IsErrAnd r P → ((e : E) → P e → Q e) → IfErr r Q
if_err (Ok t) P Q recorded more = tt
if_err (Err e) P Q recorded more = more e recorded

pub other_err : {T E : Type 0} (r : Result T E) (e fault : E) → r ≡ Err e → (e ≡ fault → ⊥) → r ≡ Err fault → ⊥
other_err r e fault is fine bad = fine (same_Some _ _ (ap result_err (sym is ∙ bad)))

-- what shows after it
pub rests_show : {D : Type 0} (disk : Ghosts D) (d' : D) (n : ℕ) (m : Store) (v : View) → v.blocks ≡ n
    → disk.honest d' → PAGE * all_pages n ≤ disk.size d' → Rests v (disk.current d') (disk.unsynced d')
    → ((image : ℕ → ℕ) → IsViewOf image v → ImageShows n image m) → AllShow disk d' n m
rests_show disk d' n m v same honest room rests shows = record {
  honest = honest;
  room = room;
  each = λ image here. shows image (rests_image image rests here);
}

pub view_shows : (n : ℕ) (m : Store) (was image : ℕ → ℕ) (shown : ImageShows n was m) → IsViewOf image shown.view
    → ImageShows n image m
view_shows n m was image shown is =
    record { view = shown.view; blocks = shown.blocks; is = is; shows = shown.shows }

pub upgraded_view_shows : (n : ℕ) (m : Store) (was image : ℕ → ℕ) (shown : ImageShows n was m)
    → IsViewOf image (upgraded shown.view) → ImageShows n image m
upgraded_view_shows n m was image shown is = record {
  view = upgraded shown.view;
  blocks = shown.blocks;
  is = is;
  shows = upgraded_shows shown.view m shown.shows;
}

pub crash_shown : {D : Type 0} (disk : Ghosts D) (d d' : D) (n : ℕ) (m : Store) (is : IsSpool disk d n m)
    → ((v : View) → IsValid v → IsViewOf (disk.current d) v → PAGE * all_pages v.blocks ≤ disk.size d
    → Lasts disk d d' (λ image. IsImage (disk.current d) (disk.unsynced d) image ⊎ IsViewOf image v
    ⊎ IsViewOf image (upgraded v)))
    → Lasts disk d d' (LeftOrShows disk d n m)
crash_shown disk d d' n m is lasts =
    lasts_as disk d d' n m is
    (λ v image. IsImage (disk.current d) (disk.unsynced d) image ⊎ IsViewOf image v ⊎ IsViewOf image (upgraded v))
    (LeftOrShows disk d n m) lasts
    (λ image one. ⊎_elim (λ here. inl here)
    (λ then. inr (⊎_elim (view_shows n m (disk.current d) image is.shows)
    (upgraded_view_shows n m (disk.current d) image is.shows) then)) one)

module _ (size : ℕ) (before after : ℕ → ℕ) where
  -- what was found of version 2
  pub found_new : (found : Found) → FoundBy size before after found → found.version ≡ Two → ReadsNew size before after
  found_new found is new = record {
    blocks = found.layout;
    encodes = is.encodes;
    journal = is.journal;
    new = version_at after _ 12 Two found.next (omega arith)
        (subst (λ (w : Version). AreAt after (state_place found.layout) 12 (state_page w found.next)) new
        is.state.fields);
  }

  -- and what was found of version 1
  pub found_old : (found : Found) → FoundBy size before after found → found.version ≡ One → ReadsNew size before after
      → ⊥
  found_old found is old new =
      let n = found.layout in
      let N : ℕ → Type 0 = λ k. NamesVersion k after Two in
      let there = subst N (encodes_one size before new.blocks n new.encodes is.encodes) new.new in
      let decoded = version_at after (state_place n) 12 found.version found.next (omega arith) is.state.fields in
      let same : version_number found.version ≡ 2 = version_one after (state_place n) found.version Two decoded there in
      let one : version_number found.version ≡ 1 = ap version_number old in
      omega (arith, same, one)

  -- a refusal to open an old spool is one to upgrade it
  pub old_reason : (e : OpenFault) → (e ≡ Damaged → ReadsNew size before after → ⊥) → RefusedBy size before after e
      → UpgradeRefusedBy size before after (Open e)
  old_reason NotASpool old is = is
  old_reason faults.Version old is = is
  old_reason Damaged old is = (is, old refl)
  old_reason (Stop stop) old is = tt

  -- nor is why it isn't found another one
  pub unfound_upgrade : (e : OpenFault) → NotFoundBy size before after e → UpgradeRefusedBy size before after (Open e)
  unfound_upgrade NotASpool why = why
  unfound_upgrade faults.Version why = why
  unfound_upgrade Damaged why = (
    unfound_reason size before after Damaged why,
    λ new. why.bad (subst (λ (k : ℕ). HasJournal k before)
        (encodes_one size before new.blocks why.blocks new.encodes why.encodes) new.journal),
  )
  unfound_upgrade (Stop NoMemory) why = absurd why
  unfound_upgrade (Stop DiskFault) why = tt

  pub refused_late : {T : Type 0} (r : Result T UpgradeError) → IfErr r IsLateRefusal
      → IfErr r (UpgradeRefusedBy size before after)
  refused_late (Ok t) late = tt
  refused_late (Err e) (inl is) = subst (UpgradeRefusedBy size before after) (sym is) tt
  refused_late (Err e) (inr is) = subst (UpgradeRefusedBy size before after) (sym is) tt

  pub late_by : {T : Type 0} (r : Result T UpgradeError) → IfErr r IsLateRefusal
      → ReadsView size before after (λ v. v.version ≡ One) → UpgradesBy size r before after
  late_by (Ok t) late view = view
  late_by {T = T} (Err e) late view = refused_late {T = T} (Err e) late

  -- what was found of version 1 and read is upgraded
  pub upgrades_by : {T : Type 0} (found : Found) (catalog : Holding) → found.version ≡ One
      → catalog.version ≡ found.version
      → LoadsBy size before after (Ok catalog) → (done : T) → UpgradesBy size (Ok done) before after
  upgrades_by found catalog old same is done =
      view_more (λ v has_view. sym has_view.0.version ∙ same ∙ old) is.answer

-- a spool that a read shows is found, unless the disk fails
pub unfound_disk_fault : {T : Type 0} (size : ℕ) (current : ℕ → ℕ) (e : OpenFault) (P : T → Type 0)
    → LoadsAs {T = T} (Err e) P → NotFoundFor size current e → e ≡ Stop DiskFault
unfound_disk_fault size current NotASpool P h why = absurd h
unfound_disk_fault size current faults.Version P h why = absurd h
unfound_disk_fault size current Damaged P h why = absurd h
unfound_disk_fault size current (Stop NoMemory) P h why = absurd why
unfound_disk_fault size current (Stop DiskFault) P h why = refl

pub loads_upgrades : {T : Type 0} (U : Type 0) (version : Version) (e : OpenFault) (P : T → Type 0)
    → LoadsAs {T = T} (Err e) P
    → UpgradesOf {T = U} version (Err (Open e))
loads_upgrades U version (Stop NoMemory) P h = inr (inl refl)
loads_upgrades U version (Stop DiskFault) P h = inr (inr refl)
loads_upgrades U version NotASpool P h = absurd h
loads_upgrades U version Damaged P h = absurd h
loads_upgrades U version faults.Version P h = absurd h

pub other_old : (version : Version) → (version ≡ Two → ⊥) → version ≡ One
other_old One not = refl
other_old Two not = absurd (not refl)

-- after an upgrade each image shows the same, unless the disk failed
pub after_shows : {D : Type 0} (disk : Ghosts D) (d' : D) (n : ℕ) (m : Store) (v : View)
    (r : Result (Unit {0}) UpgradeError) → v.blocks ≡ n → disk.honest d' → PAGE * all_pages n ≤ disk.size d'
    → (r ≡ Err (Open (Stop DiskFault)) → ⊥)
    → OnOk r (Rests (upgraded v) (disk.current d') (disk.unsynced d'))
    → IfErr r (λ e. (e ≡ Open (Stop DiskFault) → ⊥) → Rests v (disk.current d') (disk.unsynced d'))
    → ((image : ℕ → ℕ) → IsViewOf image v → ImageShows n image m)
    → ((image : ℕ → ℕ) → IsViewOf image (upgraded v) → ImageShows n image m) → AllShow disk d' n m
after_shows disk d' n m v (Ok t) same honest room fine done stays old new =
    rests_show disk d' n m (upgraded v) same honest room done new
after_shows disk d' n m v (Err e) same honest room fine done stays old new =
    rests_show disk d' n m v same honest room
    (stays (λ is. fine (subst (λ (x : UpgradeError). ◌≡◌ {A = Result (Unit {0}) UpgradeError} (Err e) (Err x)) is
    refl)))
    old

-- the same pages, laid over bytes that agree outside gate and journal
pub laid_over : {current : ℕ → ℕ} {unsynced : ℕ → Type 0} (n : ℕ) (pages : List (ℕ × List ℕ)) (bytes bytes' : ℕ → ℕ)
    → ((p : ℕ) → Outside (journal_pages n) p → bytes p ≡ bytes' p)
    → Settled (journal_pages n) (laid pages bytes) current unsynced
    → Settled (journal_pages n) (laid pages bytes') current unsynced
laid_over n pages bytes bytes' same settled = record {
  is_synced = settled.is_synced;
  closed = settled.closed;
  same = λ p outside. settled.same p outside
      ∙ over_same (page_number pages) (page_number pages) (page_byte pages) (page_byte pages) bytes bytes'
      (length pages) p (λ k lt. refl) (λ k x lt below. refl) (λ none. same p outside);
}

pub commit_over : {current : ℕ → ℕ} {unsynced : ℕ → Type 0} (v : View) (bytes bytes' : ℕ → ℕ)
    → ((p : ℕ) → Outside (journal_pages v.blocks) p → bytes p ≡ bytes' p)
    → CommitOfUpgrade v bytes current unsynced → CommitOfUpgrade v bytes' current unsynced
commit_over v bytes bytes' same commit = record {
  pages = commit.pages;
  count = commit.count;
  area = commit.area;
  changes = commit.changes;
  settled = laid_over v.blocks commit.pages bytes bytes' same commit.settled;
}

-- a spool at rest has its view's texts
pub rests_texts : {current : ℕ → ℕ} {unsynced : ℕ → Type 0} (v : View) → Rests v current unsynced
    → HasTexts current v
rests_texts v rests = (rests_encodes rests).texts
