-- From a run or an upgrade and an end to a round.
use Rattle.std.proofs.Common.{◌≡◌, ◌⊎◌, ◌<◌, ◌≤◌, ◌+◌, ◌*◌, ◌^◌, inl, inr, ℕ, List, [], ◌∷◌, ◌++◌, drop, Option}
use Rattle.std.proofs.Common.{Some, None, Result, Ok, Err, refl}
use Rattle.std.proofs.Common.{sym, subst, ap, ◌∙◌, append-nil, append_assoc, arith, ⊎_elim}
use Rattle.std.specs.Prelude.{OnErr}
use Rattle.common.specs.declared.stop.Stop.{Stop}
use Rattle.common.specs.declared.stop.Stop.TheVariants.{NoMemory, DiskFault}
use Rattle.spool_disk.specs.Disk.{Counts, IsImage}
use Rattle.spool_disk.specs.declared.disk.Disk.{Ghosts}
use Rattle.spool_journal.specs.Image.{all_pages}
use Rattle.spool_journal.specs.declared.TheConstants.{PAGE}
use Rattle.spool_disk.specs.Views.{Lasts}
use Rattle.spool_image.specs.Format.{IsNewest}
use Rattle.spool_image.specs.LeftOnly.{AllShow, IsSpool, LeftOrShows}
use Rattle.spool_image.specs.Upgrade.{UpgradedFrom}
use Rattle.spool_image.specs.declared.error.FormatError.{FormatError}
use Rattle.spool_image.specs.declared.error.FormatError.TheVariants as formats
use Rattle.spool_image.specs.declared.error.UpgradeError.TheVariants as upgrades
use Rattle.spool_image.specs.declared.error.UpgradeError.{UpgradeError}
use Rattle.spool_image.proofs.Crashed.{synced_shows}
use Rattle.spool_catalog.proofs.Upgraded.{upgraded_valid}
use Rattle.spool_catalog.specs.Shows.{IsValid}
use Rattle.spool_catalog.specs.declared.error.OpenFault.{OpenFault}
use Rattle.spool_catalog.specs.declared.error.OpenFault.TheVariants as opens
use Rattle.spool_pages.proofs.Resting.{rests_image}
use Rattle.spool_pages.specs.Changes.{upgraded}
use Rattle.spool_pages.specs.Rests.{Rests}
use Rattle.spool_pages.specs.View.{View}
use Rattle.spool_pages.specs.declared.version.Version.TheVariants.{Two}
use Rattle.upload_rules.specs.Store.{Store}
use Rattle.tus_session.specs.History.{State, Mark, Marked, beginning, history}
use Rattle.tus_session.specs.Images.{last_stores}
use Rattle.gateway_script.specs.Script as script
use Rattle.gateway_script.specs.Script.{script_result, Exit}
use Rattle.gateway_script.specs.Outputs.{IsFirst, output_of, last_output, WroteMost}
use Rattle.gateway_script.specs.declared.faults.CallFault.TheVariants as calls
use Rattle.gateway_script.specs.declared.faults.ScriptFault.TheVariants as scripts
use Rattle.gateway_engine.specs.Ran.{CountsEither}
use Rattle.gateway_engine.specs.RanOn.{AllShowOne, EndedOn}
use Rattle.gateway_engine.specs.RanFrom.{HasFailedOn, HasRefusedOn, HasRunFrom, opening_in}
use Rattle.gateway_engine.specs.declared.faults.RunFault.{RunFault}
use Rattle.gateway_engine.specs.declared.faults.RunFault.TheVariants.{Open, Script}
use Rattle.gateway_rounds.specs.Rounds.{OpensWith, Crashes, IsRunFault, left_by_run, left_by_upgrade, IsWholeRun}
use Rattle.gateway_rounds.specs.Rounds.{RunEndsAs}
use Rattle.gateway_rounds.specs.Rounds.{PassesRun, UpgradeEnds, UpgradeLeaves}

-- WHAT WAS WRITTEN

-- all events come first
all_first : (past : List Marked) → IsFirst past past
all_first past = ([], refl)

-- the output of all events but the latest is at the start
output_prefix : (st : State) (past : List Marked)
    → output_of st past ≡ output_of st (drop 1 past) ++ last_output st past
output_prefix st [] = refl
output_prefix st (e ∷ past) = refl

-- what a run that was broken off wrote is the prefix of what its events gave
most_prefix : (st : State) (past : List Marked) (out : List ℕ)
    → WroteMost (calls.Stop NoMemory) st past out → (rest : List ℕ) × (output_of st past ≡ out ++ rest)
most_prefix st past out (inl all) = ([], sym all ∙ sym (append-nil out))
most_prefix st past out (inr but_last) =
    (last_output st past, output_prefix st past ∙ ap (λ (xs : List ℕ). xs ++ last_output st past) (sym but_last))

part_prefix : (st : State) (past : List Marked) (out : List ℕ)
    → WroteMost calls.Io st past out → (rest : List ℕ) × (output_of st past ≡ out ++ rest)
part_prefix st past out (part, missing, is, wrote) = (
  missing,
  output_prefix st past ∙ (ap (λ (xs : List ℕ). output_of st (drop 1 past) ++ xs) is
      ∙ (sym (append_assoc (output_of st (drop 1 past)) part missing) ∙ ap (λ (xs : List ℕ). xs ++ missing)
      (sym wrote))),
)

-- WHERE A ROUND BEGINS

-- where each image shows the same uploads, each shows one of these
pub all_one : {D : Type 0} (disk : Ghosts D) (d : D) (n : ℕ) (m : Store) → AllShow disk d n m
    → AllShowOne disk d n (m ∷ [])
all_one disk d n m all = record {
  honest = all.honest;
  room = all.room;
  each = λ image is. record { store = m; among = inl refl; shows = all.each image is };
}

-- what a read gives is an image
pub read_opens : {D : Type 0} (disk : Ghosts D) (d : D) (n : ℕ) (stores : List Store) → AllShowOne disk d n stores
    → (m : Store) × OpensWith disk d n stores m
read_opens disk d n stores all =
    let one = all.each (disk.current d) (record { same = λ p is_synced. refl }) in
    (one.store, record { among = one.among; shows = one.shows })

pub is_spool : {D : Type 0} (disk : Ghosts D) (d : D) (n : ℕ) (stores : List Store) (m : Store)
    → AllShowOne disk d n stores → OpensWith disk d n stores m → IsSpool disk d n m
is_spool disk d n stores m all opened = record { honest = all.honest; room = all.room; shows = opened.shows }

-- FROM THE DISK BEFORE TO THE DISK THAT CAME BACK
module _ {D : Type 0} (disk : Ghosts D) (given back : D) (n : ℕ) (before : List Store) (m : Store)
    (now : (t : ℕ) (image : ℕ → ℕ) → t ≤ disk.moment back → IsImage (disk.current back) (disk.unsynced back) image
    → disk.left_since back t image)
    (only : (image : ℕ → ℕ) → disk.left_since given (disk.moment given) image
    → IsImage (disk.current given) (disk.unsynced given) image)
    (shown : AllShowOne disk given n before) (opened : OpensWith disk given n before m) where
  abbrev st : State
  st = beginning m (Some n)

  passed : (marks : List Mark) (past : List Marked) (bytes : List ℕ) (fault : Option RunFault) (out : List ℕ)
      (left : List Store)
      → IsFirst past (script_result st marks bytes).run.past → (rest : List ℕ) × (output_of st past ≡ out ++ rest)
      → left ≡ left_by_run fault st past before → RunEndsAs fault st (script_result st marks bytes) past out
      → PassesRun n m bytes fault out before left
  passed marks past bytes fault out left first replies leaves ends = record {
    marks = marks;
    past = past;
    first = first;
    unwritten = replies.0;
    replies = replies.1;
    leaves = leaves;
    ends = ends;
  }

  -- what was stopped anywhere leaves images from before, or some that show the same
  pub still_shown : Lasts disk given back (LeftOrShows disk given n m) → disk.honest back
      → PAGE * all_pages n ≤ disk.size back → AllShowOne disk back n before
  still_shown lasts honest room = record {
    honest = honest;
    room = room;
    each = λ image is.
        ⊎_elim (λ earlier. shown.each image (only image earlier))
        (λ either. ⊎_elim (λ here. shown.each image here)
        (λ shows. record { store = m; among = opened.among; shows = shows }) either)
        (lasts.nothing_else (disk.moment given) image (omega arith) (now (disk.moment given) image lasts.later is));
  }

  -- the bytes that were there, and those that a run of this script with this fault wrote after them
  module _ (prefix held bytes : List ℕ) where
    abbrev Lived : Option RunFault → Type 0
    Lived fault =
        (left : List Store) × AllShowOne disk back n left × (out : List ℕ) × (held ≡ prefix ++ out)
        × PassesRun n m bytes fault out before left

    whole : {Since : List Store → Type 0} {exit : Exit} (r : script.Result)
        → EndedOn Since st r (Some held) (Some prefix) exit → IsWholeRun st r r.run.past r.run.out
    whole r is = record { events = refl; output = is.output }

    written_whole : {Since : List Store → Type 0} {exit : Exit} (r : script.Result)
        → EndedOn Since st r (Some held) (Some prefix) exit
        → (rest : List ℕ) × (output_of st r.run.past ≡ r.run.out ++ rest)
    written_whole r is = ([], sym is.output ∙ sym (append-nil r.run.out))

    pub ran : HasRunFrom disk given (Ok back) (Some held) (Some prefix) n st bytes → Lived None
    ran (marks, is) =
        let r = script_result st marks bytes in (
          r.run.state.world.store ∷ [],
          all_one disk back n r.run.state.world.store is.shows,
          r.run.out,
          is.ended.wrote,
          passed marks r.run.past bytes None r.run.out (r.run.state.world.store ∷ []) (all_first r.run.past)
              (written_whole r is.ended) (ap (λ (s : State). s.world.store ∷ []) is.ended.state)
              (is.ended.exits, whole r is.ended),
        )

    at_line : (line : ℕ)
        → HasRunFrom disk given (Err (back, Script (scripts.Script line))) (Some held) (Some prefix) n st bytes
        → Lived (Some (Script (scripts.Script line)))
    at_line line (marks, is) =
        let r = script_result st marks bytes in (
          r.run.state.world.store ∷ [],
          all_one disk back n r.run.state.world.store is.shows,
          r.run.out,
          is.ended.wrote,
          passed marks r.run.past bytes (Some (Script (scripts.Script line))) r.run.out (r.run.state.world.store ∷ [])
              (all_first r.run.past) (written_whole r is.ended)
              (ap (λ (s : State). s.world.store ∷ []) is.ended.state) (is.ended.exits, whole r is.ended),
        )

    failed : HasRunFrom disk given (Err (back, Script (scripts.Stop DiskFault))) (Some held) (Some prefix) n st bytes
        → Lived (Some (Script (scripts.Stop DiskFault)))
    failed (marks, is) =
        let r = script_result st marks bytes in (
          last_stores st r.run.past,
          is.shows,
          r.run.out,
          is.ended.wrote,
          passed marks r.run.past bytes (Some (Script (scripts.Stop DiskFault))) r.run.out
              (last_stores st r.run.past) (all_first r.run.past)
              (written_whole r is.ended) refl (is.ended.exits, whole r is.ended),
        )

    out_of_memory : HasRunFrom disk given (Err (back, Script (scripts.Stop NoMemory))) (Some held) (Some prefix) n st
        bytes → Lived (Some (Script (scripts.Stop NoMemory)))
    out_of_memory (marks, is) = (
      (history st is.past).world.store ∷ [],
      all_one disk back n (history st is.past).world.store is.shows,
      is.out,
      is.wrote,
      passed marks is.past bytes (Some (Script (scripts.Stop NoMemory))) is.out
          ((history st is.past).world.store ∷ []) is.first
          (most_prefix st is.past is.out is.most) refl is.most,
    )

    broken_off : HasRunFrom disk given (Err (back, Script scripts.Io)) (Some held) (Some prefix) n st bytes
        → Lived (Some (Script scripts.Io))
    broken_off (marks, is) = (
      (history st is.past).world.store ∷ [],
      all_one disk back n (history st is.past).world.store is.shows,
      is.out,
      is.wrote,
      passed marks is.past bytes (Some (Script scripts.Io)) is.out ((history st is.past).world.store ∷ []) is.first
          (part_prefix st is.past is.out is.most) refl is.most,
    )

    -- the disk wasn't opened, so nothing was written
    unbegun : (stop : Stop) → held ≡ prefix → AllShowOne disk back n before → Lived (Some (Open (opens.Stop stop)))
    unbegun stop same still = (
      before,
      still,
      [],
      same ∙ sym (append-nil prefix),
      passed [] [] bytes (Some (Open (opens.Stop stop))) [] before (
        (script_result st [] bytes).run.past,
        sym (append-nil (script_result st [] bytes).run.past),
      ) ([], refl) refl refl,
    )

    pub reported : {Same : Type 0} (fault : RunFault) → (Same → held ≡ prefix)
        → HasRunFrom disk given (Err (back, fault)) (Some held) (Some prefix) n st bytes
        → OnErr (opening_in {D = D} (Err (back, fault))) Same → Lived (Some fault)
    reported (Script (scripts.Stop NoMemory)) so has unopened = out_of_memory has
    reported (Script (scripts.Stop DiskFault)) so has unopened = failed has
    reported (Script (scripts.Script line)) so has unopened = at_line line has
    reported (Script scripts.Io) so has unopened = broken_off has
    reported (Open (opens.Stop stop)) so has unopened =
        unbegun stop (so unopened) (still_shown has.lasts has.honest has.room)
    reported (Open opens.NotASpool) so has unopened = absurd has
    reported (Open opens.Damaged) so has unopened = absurd has
    reported (Open opens.Version) so has unopened = absurd has

-- THE COUNTS of faults, and of refused allocations
no_fault : {F : Type 0} {a b : ℕ} → (F → ⊥) → Counts F a b → Counts ⊥ a b
no_fault never counts = record {
  later = counts.later;
  counted = λ f. absurd f;
  nothing_else = λ less. never (counts.nothing_else less);
}

counts_unopened : (fault : OpenFault) (a b : ℕ) → Counts (fault ≡ opens.Stop DiskFault) a b
    → Counts (IsRunFault (Some (Open fault))) a b
counts_unopened (opens.Stop DiskFault) a b counts = record {
  later = counts.later;
  counted = λ f. counts.counted refl;
  nothing_else = λ less. tt {0};
}
counts_unopened (opens.Stop NoMemory) a b counts = no_fault (λ e. cc) counts
counts_unopened opens.NotASpool a b counts = no_fault (λ e. cc) counts
counts_unopened opens.Damaged a b counts = no_fault (λ e. cc) counts
counts_unopened opens.Version a b counts = no_fault (λ e. cc) counts

pub counts_run : {D : Type 0} (back : D) (fault : RunFault) (a b : ℕ)
    → Counts (HasFailedOn {D = D} (Err (back, fault))) a b → Counts (IsRunFault (Some fault)) a b
counts_run back (Script (scripts.Stop NoMemory)) a b counts = counts
counts_run back (Script (scripts.Stop DiskFault)) a b counts = counts
counts_run back (Script (scripts.Script line)) a b counts = counts
counts_run back (Script scripts.Io) a b counts = counts
counts_run back (Open fault) a b counts = counts_unopened fault a b counts

-- a reader that refuses nothing
none_refused : (0 < 0) ⊎ (2 ^ 64 ≤ 0 + 1) → ⊥
none_refused (inl less) = omega (arith, less)
none_refused (inr full) = omega (arith, full)

writer_alone : {R F : Type 0} {v w : ℕ} → (F → R) → (R → F) → CountsEither R 0 0 v w → Counts F v w
writer_alone into from c = record {
  later = c.writer_later;
  counted = λ f. ⊎_elim (λ read. absurd (none_refused read)) (λ wrote. wrote) (c.counted (into f));
  nothing_else = λ less. from (c.nothing_else (inr less));
}

pub refusals_done : {v w : ℕ} → CountsEither ⊥ 0 0 v w
    → Counts (◌≡◌ {A = Option RunFault} None (Some (Script scripts.Io))) v w
refusals_done c = writer_alone (λ e. absurd (cc)) (λ never. absurd never) c

pub refusals_reported : {D : Type 0} (back : D) (fault : RunFault) (v w : ℕ)
    → CountsEither (HasRefusedOn {D = D} (Err (back, fault))) 0 0 v w
    → Counts (◌≡◌ {A = Option RunFault} (Some fault) (Some (Script scripts.Io))) v w
refusals_reported back (Script (scripts.Stop stop)) v w c =
    writer_alone (λ e. absurd (cc)) (λ never. absurd never) c
refusals_reported back (Script (scripts.Script line)) v w c =
    writer_alone (λ e. absurd (cc)) (λ never. absurd never) c
refusals_reported back (Script scripts.Io) v w c = writer_alone (λ e. tt) (λ is. refl) c
refusals_reported back (Open fault) v w c = writer_alone (λ e. absurd (cc)) (λ never. absurd never) c

-- THE END OF A ROUND
pub crashed : {D C : Type 0} (disk : Ghosts D) (chosen : C → D → D → Type 0) (how : C) (back after : D) (n : ℕ)
    (left : List Store) → AllShowOne disk back n left → chosen how back after → disk.size after ≡ disk.size back
    → (disk.honest back → disk.honest after)
    → (disk.honest back → IsImage (disk.current back) (disk.unsynced back) (disk.current after))
    → (disk.honest back → (p : ℕ) → disk.unsynced after p → ⊥) → disk.failures after ≡ disk.failures back
    → (next : List Store) × AllShowOne disk after n next × Crashes disk chosen how back after left next
crashed disk chosen how back after n left all is size honest_after image is_synced failures =
    let one = all.each (disk.current after) (image all.honest) in (
      one.store ∷ [],
      all_one disk after n one.store (synced_shows disk after n one.store (record {
        honest = honest_after all.honest;
        room = subst (λ (k : ℕ). PAGE * all_pages n ≤ k) (sym size) all.room;
        shows = one.shows;
      }) (is_synced all.honest)),
      record {
        is = is;
        image = image all.honest;
        synced = is_synced all.honest;
        failures = failures;
        store = one.store;
        among = one.among;
        alone = refl;
      },
    )

-- UPGRADES

pub upgrade_ends : {New : Type 0} (e : UpgradeError)
    → (New × (e ≡ upgrades.AlreadyNew)) ⊎ (e ≡ upgrades.Open (opens.Stop NoMemory))
    ⊎ (e ≡ upgrades.Open (opens.Stop DiskFault))
    → UpgradeEnds (Some e)
upgrade_ends e (inl new) = subst (λ (x : UpgradeError). UpgradeEnds (Some x)) (sym new.1) tt
upgrade_ends e (inr (inl is)) = subst (λ (x : UpgradeError). UpgradeEnds (Some x)) (sym is) tt
upgrade_ends e (inr (inr is)) = subst (λ (x : UpgradeError). UpgradeEnds (Some x)) (sym is) tt

pub done_leaves : {current : ℕ → ℕ} {unsynced : ℕ → Type 0} (size : ℕ) (before image : ℕ → ℕ)
    → UpgradedFrom size before current unsynced → IsImage current unsynced image → IsNewest image
done_leaves size before image from here = record {
  view = upgraded from.view;
  valid = upgraded_valid from.view from.valid;
  new = refl;
  is = rests_image image from.rests here;
}

not_disk_fault : (e : UpgradeError) → e ≡ upgrades.AlreadyNew → e ≡ upgrades.Open (opens.Stop DiskFault) → ⊥
not_disk_fault e new device = cc

pub refused_leaves : {current : ℕ → ℕ} {unsynced : ℕ → Type 0} (e : UpgradeError) (v : View) (image : ℕ → ℕ) → IsValid v
    → ((v.version ≡ Two) × (e ≡ upgrades.AlreadyNew)) ⊎ (e ≡ upgrades.Open (opens.Stop NoMemory))
    ⊎ (e ≡ upgrades.Open (opens.Stop DiskFault))
    → ((e ≡ upgrades.Open (opens.Stop DiskFault) → ⊥) → Rests v current unsynced) → IsImage current unsynced image
    → UpgradeLeaves (Some e) image
refused_leaves e v image valid (inl new) rests here =
    subst (λ (x : UpgradeError). UpgradeLeaves (Some x) image) (sym new.1) (record {
      view = v;
      valid = valid;
      new = new.0;
      is = rests_image image (rests (not_disk_fault e new.1)) here;
    })
refused_leaves e v image valid (inr (inl is)) rests here =
    subst (λ (x : UpgradeError). UpgradeLeaves (Some x) image) (sym is) tt
refused_leaves e v image valid (inr (inr is)) rests here =
    subst (λ (x : UpgradeError). UpgradeLeaves (Some x) image) (sym is) tt

-- the failures of an upgrade are reported
none_some : (x : UpgradeError) → ◌≡◌ {A = Option UpgradeError} None (Some x) → ⊥
none_some x e = cc

ok_err : (t : Unit {0}) (x : UpgradeError) → ◌≡◌ {A = Result (Unit {0}) UpgradeError} (Ok t) (Err x) → ⊥
ok_err t x e = cc

some_err : (e x : UpgradeError) → ◌≡◌ {A = Option UpgradeError} (Some e) (Some x)
    → ◌≡◌ {A = Result (Unit {0}) UpgradeError} (Err e) (Err x)
some_err e x same = cc

err_some : (e x : UpgradeError) → ◌≡◌ {A = Result (Unit {0}) UpgradeError} (Err e) (Err x)
    → ◌≡◌ {A = Option UpgradeError} (Some e) (Some x)
err_some e x same = cc

pub err_same : (e x : UpgradeError) → ◌≡◌ {A = Result (Unit {0}) UpgradeError} (Err e) (Err x) → e ≡ x
err_same e x same = cc

pub counts_done : {t : Unit {0}} (x : UpgradeError) (a b : ℕ)
    → Counts (◌≡◌ {A = Result (Unit {0}) UpgradeError} (Ok t) (Err x)) a b
    → Counts (◌≡◌ {A = Option UpgradeError} None (Some x)) a b
counts_done {t} x a b counts = record {
  later = counts.later;
  counted = λ e. absurd (none_some x e);
  nothing_else = λ less. absurd (ok_err t x (counts.nothing_else less));
}

pub counts_reported : (e x : UpgradeError) (a b : ℕ)
    → Counts (◌≡◌ {A = Result (Unit {0}) UpgradeError} (Err e) (Err x)) a b
    → Counts (◌≡◌ {A = Option UpgradeError} (Some e) (Some x)) a b
counts_reported e x a b counts = record {
  later = counts.later;
  counted = λ reported. counts.counted (some_err e x reported);
  nothing_else = λ less. err_some e x (counts.nothing_else less);
}

-- what it leaves, by whether the disk failed
pub left_reported : {D : Type 0} (disk : Ghosts D) (back : D) (n : ℕ) (m : Store) (before : List Store)
    (e : UpgradeError)
    → ((e ≡ upgrades.Open (opens.Stop DiskFault) → ⊥) → AllShow disk back n m) → AllShowOne disk back n before
    → (left : List Store) × AllShowOne disk back n left × (left ≡ left_by_upgrade (Some e) m before)
left_reported disk back n m before upgrades.AlreadyNew shows still =
    (m ∷ [], all_one disk back n m (shows (λ device. cc)), refl)
left_reported disk back n m before (upgrades.Open (opens.Stop NoMemory)) shows still =
    (m ∷ [], all_one disk back n m (shows (λ device. cc)), refl)
left_reported disk back n m before (upgrades.Open opens.NotASpool) shows still =
    (m ∷ [], all_one disk back n m (shows (λ device. cc)), refl)
left_reported disk back n m before (upgrades.Open opens.Damaged) shows still =
    (m ∷ [], all_one disk back n m (shows (λ device. cc)), refl)
left_reported disk back n m before (upgrades.Open opens.Version) shows still =
    (m ∷ [], all_one disk back n m (shows (λ device. cc)), refl)
left_reported disk back n m before (upgrades.Open (opens.Stop DiskFault)) shows still = (before, still, refl)

-- THE MAKING: what is refused for its size begins as no spool
pub refuses_spool : (fault : FormatError)
    → ((◌≡◌ {A = Result (Unit {0}) FormatError} (Err fault) (Err formats.AlreadySpool) → ⊥)
    → (◌≡◌ {A = Result (Unit {0}) FormatError} (Err fault) (Err formats.DiskFault) → ⊥) → ⊥)
    → (fault ≡ formats.AlreadySpool) ⊎ (fault ≡ formats.DiskFault)
refuses_spool formats.AlreadySpool no_spool = inl refl
refuses_spool formats.Size no_spool = absurd (no_spool (λ e. cc) (λ e. cc))
refuses_spool formats.DiskFault no_spool = inr refl
