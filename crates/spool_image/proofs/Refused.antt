-- At most one reason of a refusal holds, and none of a valid spool.
use Rattle.std.proofs.Common.{◌≡◌, ◌⊎◌, inl, inr, ℕ, refl, subst, ap, arith}
use Rattle.common.specs.declared.stop.Stop.TheVariants.{NoMemory, DiskFault}
use Rattle.spool_journal.specs.declared.TheConstants.{PAGE}
use Rattle.spool_journal.specs.Image.{overlaid}
use Rattle.spool_pages.specs.View.{View, state_place, version_number}
use Rattle.spool_catalog.specs.declared.error.OpenFault.{OpenFault}
use Rattle.spool_catalog.specs.declared.error.OpenFault.TheVariants.{NotASpool, Damaged, Version, Stop}
use Rattle.spool_catalog.specs.Holding.{Holding}
use Rattle.spool_catalog.specs.Shows.{IsValid}
use Rattle.spool_load.specs.Loaded.{EncodesBy, OpenedFrom}
use Rattle.spool_load.specs.Reads.{EncodesBlocks}
use Rattle.spool_load.specs.Refusals.{HasJournal, HasKnownVersion, IsNoSpool, HasOtherVersion, IsDamaged, RefusedBy}
use Rattle.spool_load.specs.Refusals.{NamesVersion, ReadsDamage, ReadsOtherVersion, RefusedFor}
use Rattle.spool_pages.specs.declared.version.Version.TheVariants.{One, Two}
use Rattle.spool_image.specs.Upgrade.{IsAlreadyNew, IsOldDamaged, UpgradeRefusedFor}
use Rattle.spool_image.specs.declared.error.UpgradeError.{UpgradeError}
use Rattle.spool_image.specs.declared.error.UpgradeError.TheVariants.{Open, AlreadyNew}
use Rattle.spool_load.proofs.Opens.{view_encodes_blocks}
use Rattle.spool_load.proofs.Refused.{known_version_at, encodes_one, version_one, version_at}

-- the error is this fault, `NoMemory` or `DiskFault`, if each other error would be this fault
recorded_as : (e fault : OpenFault) → (e ≡ NotASpool → e ≡ fault) → (e ≡ Version → e ≡ fault)
    → (e ≡ Damaged → e ≡ fault)
    → (e ≡ fault) ⊎ (e ≡ Stop NoMemory) ⊎ (e ≡ Stop DiskFault)
recorded_as NotASpool fault no_spool version damaged = inl (no_spool refl)
recorded_as Version fault no_spool version damaged = inl (version refl)
recorded_as Damaged fault no_spool version damaged = inl (damaged refl)
recorded_as (Stop NoMemory) fault no_spool version damaged = inr (inl refl)
recorded_as (Stop DiskFault) fault no_spool version damaged = inr (inr refl)

module _ (size : ℕ) (before after : ℕ → ℕ) where
  -- the version of a disk doesn't depend on how its number of blocks is named
  known_at : (n m : ℕ) → EncodesBlocks size before n → EncodesBlocks size before m → HasKnownVersion n after
      → HasKnownVersion m after
  known_at n m a b known = subst (λ (k : ℕ). HasKnownVersion k after) (encodes_one size before n m a b) known

  other_not_damaged : ReadsOtherVersion size before after → ReadsDamage size before after → ⊥
  other_not_damaged other damaged =
      let e : other.blocks ≡ damaged.blocks = encodes_one size before other.blocks damaged.blocks other.encodes
      damaged.encodes in
      let J : ℕ → Type 0 = λ k. HasJournal k before in
      other.other (known_at damaged.blocks other.blocks damaged.encodes other.encodes
      (damaged.version (subst J e other.journal)))

  module _ (v : View) (valid : IsValid v) (encodes_by : EncodesBy size before after v) where
    pub view_is_spool : IsNoSpool size before → ⊥
    view_is_spool none = none v.blocks encodes_by.begins

    pub view_is_known : ReadsOtherVersion size before after → ⊥
    view_is_known other =
        other.other (known_at v.blocks other.blocks encodes_by.begins other.encodes
        (known_version_at after (state_place v.blocks) PAGE v.version v.next (omega arith) encodes_by.encodes.state))

    pub view_is_whole : ReadsDamage size before after → ⊥
    view_is_whole damaged =
        damaged.no_view v valid encodes_by.journal encodes_by.encodes
        (encodes_one size before v.blocks damaged.blocks encodes_by.begins damaged.encodes)

  -- the reason for an error that is this fault is the fault's
  given : (e fault : OpenFault) → RefusedBy size before after e → e ≡ fault → RefusedBy size before after fault
  given e fault reason is = subst (RefusedBy size before after) is reason

  pub refused_no_spool : (e : OpenFault) → RefusedBy size before after e → IsNoSpool size before
      → (e ≡ NotASpool) ⊎ (e ≡ Stop NoMemory) ⊎ (e ≡ Stop DiskFault)
  refused_no_spool e reason none =
      recorded_as e NotASpool (λ is. is)
      (λ is. let other = given e Version reason is in absurd (none other.blocks other.encodes))
      (λ is. let damaged = given e Damaged reason is in absurd (none damaged.blocks damaged.encodes))

  pub refused_version : (e : OpenFault) → RefusedBy size before after e → ReadsOtherVersion size before after
      → (e ≡ Version) ⊎ (e ≡ Stop NoMemory) ⊎ (e ≡ Stop DiskFault)
  refused_version e reason other =
      recorded_as e Version (λ is. absurd (given e NotASpool reason is other.blocks other.encodes)) (λ is. is)
      (λ is. absurd (other_not_damaged other (given e Damaged reason is)))

  pub refused_damaged : (e : OpenFault) → RefusedBy size before after e → ReadsDamage size before after
      → (e ≡ Damaged) ⊎ (e ≡ Stop NoMemory) ⊎ (e ≡ Stop DiskFault)
  refused_damaged e reason damaged =
      recorded_as e Damaged (λ is. absurd (given e NotASpool reason is damaged.blocks damaged.encodes))
      (λ is. absurd (other_not_damaged (given e Version reason is) damaged)) (λ is. is)

-- THE SAME OF WHAT A READ GIVES NOW, AND OF AN UPGRADE
module _ (size : ℕ) (current : ℕ → ℕ) where
  module _ (catalog : Holding) (opened : OpenedFrom size current catalog) where
    pub opened_encodes : EncodesBy size current (overlaid current) opened.view
    opened_encodes = record {
      begins = view_encodes_blocks size current opened.view opened.valid opened.is opened.room;
      journal = opened.is.form;
      encodes = opened.is.encodes;
    }

    pub opened_is_spool : IsNoSpool size current → ⊥
    opened_is_spool = view_is_spool size current (overlaid current) opened.view opened.valid opened_encodes

    pub opened_is_known : HasOtherVersion size current → ⊥
    opened_is_known = view_is_known size current (overlaid current) opened.view opened.valid opened_encodes

    pub opened_is_whole : IsDamaged size current → ⊥
    opened_is_whole = view_is_whole size current (overlaid current) opened.view opened.valid opened_encodes

    pub opened_is_old : opened.view.version ≡ One → IsAlreadyNew size current → ⊥
    opened_is_old old new =
        let v = opened.view in
        let N : ℕ → Type 0 = λ k. NamesVersion k (overlaid current) Two in
        let there = subst N (encodes_one size current new.blocks v.blocks new.encodes opened_encodes.begins) new.new in
        let decoded = version_at (overlaid current) (state_place v.blocks) PAGE v.version v.next (omega arith)
        opened.is.encodes.state in
        let same : version_number v.version ≡ 2 =
        version_one (overlaid current) (state_place v.blocks) v.version Two decoded there in
        let one : version_number v.version ≡ 1 = ap version_number old in
        omega (arith, same, one)

  -- it is refused so, or out of memory or by the disk
  abbrev pub Upgrades : UpgradeError → UpgradeError → Type 0
  Upgrades e error = (e ≡ error) ⊎ (e ≡ Open (Stop NoMemory)) ⊎ (e ≡ Open (Stop DiskFault))

  opens : (e fault : OpenFault) → (e ≡ fault) ⊎ (e ≡ Stop NoMemory) ⊎ (e ≡ Stop DiskFault)
      → Upgrades (Open e) (Open fault)
  opens e fault (inl is) = inl (ap Open is)
  opens e fault (inr (inl is)) = inr (inl (ap Open is))
  opens e fault (inr (inr is)) = inr (inr (ap Open is))

  pub plain_reason : (e : OpenFault) → UpgradeRefusedFor size current (Open e) → RefusedFor size current e
  plain_reason NotASpool is = is
  plain_reason Version is = is
  plain_reason Damaged is = is.0
  plain_reason (Stop stop) is = tt

  new_is_known : IsAlreadyNew size current → HasOtherVersion size current → ⊥
  new_is_known new other =
      other.other (known_at size current (overlaid current) new.blocks other.blocks new.encodes other.encodes
      (record { version = Two; decoded = new.new }))

  pub upgrade_no_spool : (e : UpgradeError) → UpgradeRefusedFor size current e → IsNoSpool size current
      → Upgrades e (Open NotASpool)
  upgrade_no_spool AlreadyNew new none = absurd (none new.blocks new.encodes)
  upgrade_no_spool (Open e) reason none =
      opens e NotASpool (refused_no_spool size current (overlaid current) e (plain_reason e reason) none)

  pub upgrade_version : (e : UpgradeError) → UpgradeRefusedFor size current e → HasOtherVersion size current
      → Upgrades e (Open Version)
  upgrade_version AlreadyNew new other = absurd (new_is_known new other)
  upgrade_version (Open e) reason other =
      opens e Version (refused_version size current (overlaid current) e (plain_reason e reason) other)

  pub upgrade_damaged : (e : UpgradeError) → UpgradeRefusedFor size current e → IsOldDamaged size current
      → Upgrades e (Open Damaged)
  upgrade_damaged AlreadyNew new damaged = absurd (damaged.1 new)
  upgrade_damaged (Open e) reason damaged =
      opens e Damaged (refused_damaged size current (overlaid current) e (plain_reason e reason) damaged.0)

  pub upgrade_new : (e : UpgradeError) → UpgradeRefusedFor size current e → IsAlreadyNew size current
      → Upgrades e AlreadyNew
  upgrade_new AlreadyNew reason new = inl refl
  upgrade_new (Open NotASpool) reason new = absurd (reason new.blocks new.encodes)
  upgrade_new (Open Version) reason new = absurd (new_is_known new reason)
  upgrade_new (Open Damaged) reason new = absurd (reason.1 new)
  upgrade_new (Open (Stop NoMemory)) reason new = inr (inl refl)
  upgrade_new (Open (Stop DiskFault)) reason new = inr (inr refl)
