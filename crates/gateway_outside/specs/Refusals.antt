-- A refusal to open a spool, as `list` answers it.
use Rattle.std.proofs.Common.{◌≡◌, ◌∙◌, ◌⊎◌, inl, inr, ℕ, ap, Result, Ok, Err, IfErr, IfOk, OnOk, subst, sym}
use Rattle.common.specs.declared.stop.Stop.TheVariants.{NoMemory, DiskFault}
use Rattle.upload_rules.specs.Store.{Store}
use Rattle.spool_pages.specs.View.{View}
use Rattle.spool_catalog.specs.Loads.{LoadsAs}
use Rattle.spool_catalog.specs.Shows.{Shows}
use Rattle.spool_catalog.specs.declared.error.OpenFault.{OpenFault}
use Rattle.spool_catalog.specs.declared.error.OpenFault.TheVariants as opens
use Rattle.spool_load.specs.Loaded.{ReadsView}
use Rattle.spool_load.specs.Refusals.{RefusedBy}
use Rattle.spool_image.proofs.Opening.{view_more}
use Rattle.gateway_outside.specs.Changing.{IsChangeFault}
use Rattle.gateway_outside.specs.Listing.{AnswersAs, IsLineFault, ListRefusedBy, IsListResult}
use Rattle.gateway_outside.specs.declared.faults.Fault.{Fault}
use Rattle.gateway_outside.specs.declared.faults.Fault.TheVariants.{Damaged, Stop, Version}
use Rattle.gateway_outside.specs.Faults.{open_fault}

-- only by memory and the disk, so it is listed but for these
pub lists_as : {S : Type 0} (T : Type 0) (done : S → Type 0) (e : OpenFault) (f : Fault) → f ≡ open_fault e
    → LoadsAs {T = S} (Err e) done → IsListResult {T = T} (Err f)
lists_as T done (opens.Stop NoMemory) f answer_is loads = inl (inl answer_is)
lists_as T done (opens.Stop DiskFault) f answer_is loads = inr answer_is
lists_as T done opens.NotASpool f answer_is loads = absurd loads
lists_as T done opens.Damaged f answer_is loads = absurd loads
lists_as T done opens.Version f answer_is loads = absurd loads

-- refused by the disk or out of memory, whatever was to be answered
pub loads_err : {T U : Type 0} (P : T → Type 0) (Q : U → Type 0) (e : OpenFault) → LoadsAs {T = T} (Err e) P
    → LoadsAs {T = U} (Err e) Q
loads_err P Q opens.NotASpool is = is
loads_err P Q opens.Damaged is = is
loads_err P Q opens.Version is = is
loads_err P Q (opens.Stop stop) is = is

pub refused_as : (it e : OpenFault) (f : Fault) → f ≡ open_fault e
    → (e ≡ it) ⊎ (e ≡ opens.Stop NoMemory) ⊎ (e ≡ opens.Stop DiskFault)
    → (f ≡ open_fault it) ⊎ (f ≡ Stop NoMemory) ⊎ (f ≡ Stop DiskFault)
refused_as it e f answer_is (inl is) = inl (answer_is ∙ ap (λ x. open_fault x) is)
refused_as it e f answer_is (inr (inl is)) = inr (inl (answer_is ∙ ap (λ x. open_fault x) is))
refused_as it e f answer_is (inr (inr is)) = inr (inr (answer_is ∙ ap (λ x. open_fault x) is))

-- of another version, and damaged
pub other_version : (e : OpenFault) (f : Fault) → f ≡ open_fault e
    → (e ≡ opens.Version) ⊎ (e ≡ opens.Stop NoMemory) ⊎ (e ≡ opens.Stop DiskFault)
    → (f ≡ Version) ⊎ (f ≡ Stop NoMemory) ⊎ (f ≡ Stop DiskFault)
other_version = refused_as opens.Version

pub is_damaged : (e : OpenFault) (f : Fault) → f ≡ open_fault e
    → (e ≡ opens.Damaged) ⊎ (e ≡ opens.Stop NoMemory) ⊎ (e ≡ opens.Stop DiskFault)
    → (f ≡ Damaged) ⊎ (f ≡ Stop NoMemory) ⊎ (f ≡ Stop DiskFault)
is_damaged = refused_as opens.Damaged

-- ON ANY DISK, by what the reads of the opening gave
module _ (size : ℕ) (before after : ℕ → ℕ) where
  reason : (e : OpenFault) → RefusedBy size before after e → ListRefusedBy size before after (open_fault e)
  reason opens.NotASpool why = why
  reason opens.Version why = why
  reason opens.Damaged why = why
  reason (opens.Stop stop) why = tt

  pub unopened : {T : Type 0} {So : Store → Type 0} (e : OpenFault) (f : Fault) → f ≡ open_fault e
      → RefusedBy size before after e → AnswersAs {T = T} So size (Err f) before after
  unopened e f same why =
      record { refused = subst (ListRefusedBy size before after) (sym same) (reason e why); done = tt }

  pub change_refused : {T : Type 0} (r : Result T Fault) → IfErr r IsChangeFault
      → IfErr r (ListRefusedBy size before after)
  change_refused (Ok t) why = tt
  change_refused (Err f) (inl is) = subst (ListRefusedBy size before after) (sym is) tt
  change_refused (Err f) (inr (inl is)) = subst (ListRefusedBy size before after) (sym is) tt
  change_refused (Err f) (inr (inr is)) = subst (ListRefusedBy size before after) (sym is) tt

  pub memory_refused : {T : Type 0} (r : Result T Fault) → IfErr r (λ f. f ≡ Stop NoMemory)
      → IfErr r (ListRefusedBy size before after)
  memory_refused (Ok t) why = tt
  memory_refused (Err f) is = subst (ListRefusedBy size before after) (sym is) tt

  -- done as for the uploads that the view shows
  pub done_by : {T : Type 0} (Has : View → Type 0) (So : Store → Type 0) (r : Result T Fault)
      → ((v : View) (m : Store) → Shows v m → Has v → OnOk r (So m)) → ReadsView size before after Has
      → OnOk r (ReadsView size before after (λ v. (m : Store) → Shows v m → So m))
  done_by Has So (Ok t) so is = view_more (λ v has m shows. so v m shows has) is
  done_by Has So (Err f) so is = tt

pub ok_both : {T : Type 0} (P : Type 0) (Q : T → Type 0) (r : Result T Fault) → OnOk r P → IfOk r Q
    → OnOk r (P × IfOk r Q)
ok_both P Q (Ok t) p q = (p, q)
ok_both P Q (Err f) p q = tt

pub ok_each : {T A : Type 0} (P : A → Type 0) (r : Result T Fault) → ((a : A) → OnOk r (P a)) → OnOk r ((a : A) → P a)
ok_each P (Ok t) p = p
ok_each P (Err f) p = tt

pub ok_if : {T : Type 0} (Q : T → Type 0) (r : Result T Fault) → IfOk r Q → OnOk r (IfOk r Q)
ok_if Q (Ok t) q = q
ok_if Q (Err f) q = tt

-- what a writer refuses a change meets too
pub write_fault : (f : Fault) → IsLineFault f → IsChangeFault f
write_fault f (inl is) = inl is
write_fault f (inr is) = inr (inl is)
