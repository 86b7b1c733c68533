-- What a raise leaves, by how it ended.
use Rattle.std.proofs.Common.{◌≡◌, ◌⊎◌, ◌∙◌, inl, inr, ℕ, ◌<◌, ◌≤◌, ◌*◌, max, List, [], ◌∷◌, Option, Some, None}
use Rattle.std.proofs.Common.{Result, Ok, Err, refl, sym, subst, ap, arith, ⊎_elim}
use Rattle.std.proofs.Math.Nat.{max-eq_right}
use Rattle.std.proofs.lemmas.Bool.{cases_lt}
use Rattle.common.specs.declared.stop.Stop.TheVariants.{NoMemory, DiskFault}
use Rattle.spool_disk.specs.Disk.{Counts, IsImage}
use Rattle.spool_disk.specs.Views.{Lasts}
use Rattle.spool_disk.specs.declared.disk.Disk.{Ghosts}
use Rattle.spool_journal.specs.Image.{all_pages}
use Rattle.spool_journal.specs.declared.TheConstants.{PAGE}
use Rattle.spool_catalog.specs.Raising.{raised}
use Rattle.spool_catalog.specs.declared.error.OpenFault.TheVariants as opens
use Rattle.spool_image.specs.LeftOnly.{AllShow, ShowsOne}
use Rattle.spool_image.specs.Raise.{IsStopOfRaise, LeftOrRaised, ShowsRaised, latest}
use Rattle.spool_image.specs.declared.error.RaiseError.{RaiseError}
use Rattle.spool_image.specs.declared.error.RaiseError.TheVariants as raises
use Rattle.upload_rules.specs.Answers.{Among}
use Rattle.upload_rules.specs.Store.{Store}
use Rattle.gateway_engine.specs.RanOn.{AllShowOne}
use Rattle.gateway_rounds.specs.Rounds.{OpensWith, RaiseEnds, left_by_raise, raised_to}
use Rattle.gateway_rounds.proofs.Passing.{all_one}

-- HOW IT ENDED

-- what isn't too large is refused by memory or the disk alone
pub raise_ends : (number : ℕ) (e : RaiseError)
    → (latest < number → ◌≡◌ {A = Result ℕ RaiseError} (Err e) (Err raises.TooLarge))
    → (number ≤ latest → IsStopOfRaise e) → RaiseEnds number (Some e)
raise_ends number e high stops = ⊎_elim
    (λ (less : latest < number). subst (λ (x : RaiseError). RaiseEnds number (Some x))
    (sym (raise_same e raises.TooLarge (high less))) less)
    (λ (le : number ≤ latest). stopped (stops le)) (cases_lt (latest) number)
  where
    stopped : IsStopOfRaise e → RaiseEnds number (Some e)
    stopped (inl is) = subst (λ (x : RaiseError). RaiseEnds number (Some x)) (sym is) tt
    stopped (inr is) = subst (λ (x : RaiseError). RaiseEnds number (Some x)) (sym is) tt

    raise_same : (e x : RaiseError) → ◌≡◌ {A = Result ℕ RaiseError} (Err e) (Err x) → e ≡ x
    raise_same e x same = cc

pub done_ends : (number next : ℕ) → (latest < number → ◌≡◌ {A = Result ℕ RaiseError} (Ok next) (Err raises.TooLarge))
    → number ≤ latest
done_ends number next high = ⊎_elim
    (λ (less : latest < number). absurd (ok_err (high less)))
    (λ (le : number ≤ latest). le) (cases_lt (latest) number)
  where
    ok_err : ◌≡◌ {A = Result ℕ RaiseError} (Ok next) (Err raises.TooLarge) → ⊥
    ok_err e = cc

-- THE COUNTS of faults
pub counts_raised : (next a b : ℕ) (x : RaiseError) → Counts (◌≡◌ {A = Result ℕ RaiseError} (Ok next) (Err x)) a b
    → Counts (◌≡◌ {A = Option RaiseError} None (Some x)) a b
counts_raised next a b x counts = record {
  later = counts.later;
  counted = λ e. absurd (none_some e);
  nothing_else = λ less. absurd (ok_err (counts.nothing_else less));
}
  where
    none_some : ◌≡◌ {A = Option RaiseError} None (Some x) → ⊥
    none_some e = cc

    ok_err : ◌≡◌ {A = Result ℕ RaiseError} (Ok next) (Err x) → ⊥
    ok_err e = cc

pub counts_unraised : (e x : RaiseError) (a b : ℕ) → Counts (◌≡◌ {A = Result ℕ RaiseError} (Err e) (Err x)) a b
    → Counts (◌≡◌ {A = Option RaiseError} (Some e) (Some x)) a b
counts_unraised e x a b counts = record {
  later = counts.later;
  counted = λ reported. counts.counted (some_err reported);
  nothing_else = λ less. err_some (counts.nothing_else less);
}
  where
    some_err : ◌≡◌ {A = Option RaiseError} (Some e) (Some x) → ◌≡◌ {A = Result ℕ RaiseError} (Err e) (Err x)
    some_err same = cc

    err_some : ◌≡◌ {A = Result ℕ RaiseError} (Err e) (Err x) → ◌≡◌ {A = Option RaiseError} (Some e) (Some x)
    err_some same = cc

-- WHAT IT LEAVES

pub raised_one : {D : Type 0} (disk : Ghosts D) (back : D) (n number next : ℕ) (m : Store) → next ≡ max m.next number
    → AllShow disk back n (raised m next) → AllShowOne disk back n (raised_to m number ∷ [])
raised_one disk back n number next m later all =
    all_one disk back n (raised_to m number) (subst (λ (k : ℕ). AllShow disk back n (raised m k)) later all)

module _ {D : Type 0} (disk : Ghosts D) (given back : D) (n number : ℕ) (before : List Store) (m : Store)
    (now : (t : ℕ) (image : ℕ → ℕ) → t ≤ disk.moment back → IsImage (disk.current back) (disk.unsynced back) image
    → disk.left_since back t image)
    (only : (image : ℕ → ℕ) → disk.left_since given (disk.moment given) image
    → IsImage (disk.current given) (disk.unsynced given) image)
    (shown : AllShowOne disk given n before) (opened : OpensWith disk given n before m)
    (honest : disk.honest back) (room : PAGE * all_pages n ≤ disk.size back) where
  abbrev Left : RaiseError → Type 0
  Left e = (left : List Store) × AllShowOne disk back n left × (left ≡ left_by_raise (Some e) number m before)

  -- of a store that was there before, or has the later number
  lived : (e : RaiseError) (stores : List Store) → ((s : Store) → Among s before → Among s stores)
      → ((image : ℕ → ℕ) → ShowsRaised n number m (Err e) image → Among (raised m number) stores)
      → Lasts disk given back (LeftOrRaised disk given n number m (Err e)) → AllShowOne disk back n stores
  lived e stores keeps new lasts = record {
    honest = honest;
    room = room;
    each = λ image is. ⊎_elim (λ earlier. old image (only image earlier))
        (λ one. ⊎_elim (λ left. ⊎_elim (λ here. old image here)
        (λ shows. record { store = m; among = keeps m opened.among; shows = shows }) left)
        (λ later. record { store = raised m number; among = new image later; shows = later.shows }) one)
        (lasts.nothing_else (disk.moment given) image (omega arith) (now (disk.moment given) image lasts.later is));
  }
    where
      old : (image : ℕ → ℕ) → IsImage (disk.current given) (disk.unsynced given) image → ShowsOne n stores image
      old image here =
          let one = shown.each image here in
          record { store = one.store; among = keeps one.store one.among; shows = one.shows }

  -- where it wasn't given
  unmade : (e : RaiseError) → ((image : ℕ → ℕ) → ShowsRaised n number m (Err e) image → ⊥)
      → Lasts disk given back (LeftOrRaised disk given n number m (Err e)) → AllShowOne disk back n before
  unmade e none lasts = lived e before (λ s among. among) (λ image is. absurd (none image is)) lasts

  -- where the disk failed
  maybe : (e : RaiseError) → Lasts disk given back (LeftOrRaised disk given n number m (Err e))
      → AllShowOne disk back n (raised_to m number ∷ before)
  maybe e lasts =
      lived e (raised_to m number ∷ before) (λ s among. inr among)
      (λ image is. inl (ap (raised m) (sym (max-eq_right (omega (arith, is.later)))))) lasts

  pub raise_leaves : (e : RaiseError) → Lasts disk given back (LeftOrRaised disk given n number m (Err e)) → Left e
  raise_leaves (raises.Open (opens.Stop DiskFault)) lasts =
      (raised_to m number ∷ before, maybe (raises.Open (opens.Stop DiskFault)) lasts, refl)
  raise_leaves (raises.Open (opens.Stop NoMemory)) lasts =
      (before, unmade (raises.Open (opens.Stop NoMemory)) (λ image is. is.may) lasts, refl)
  raise_leaves (raises.Open opens.NotASpool) lasts =
      (before, unmade (raises.Open opens.NotASpool) (λ image is. is.may) lasts, refl)
  raise_leaves (raises.Open opens.Version) lasts =
      (before, unmade (raises.Open opens.Version) (λ image is. is.may) lasts, refl)
  raise_leaves (raises.Open opens.Damaged) lasts =
      (before, unmade (raises.Open opens.Damaged) (λ image is. is.may) lasts, refl)
  raise_leaves raises.TooLarge lasts = (before, unmade raises.TooLarge (λ image is. is.may) lasts, refl)
