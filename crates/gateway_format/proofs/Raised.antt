-- The uploads of a spool that was raised.
use Rattle.std.proofs.Common.{◌≡◌, ◌∙◌, ◌⊎◌, inl, inr, refl, subst, sym, ℕ, max, List, Option, Result, Ok, Err}
use Rattle.std.proofs.Common.{IfOk}
use Rattle.std.specs.Prelude.{OnOk}
use Rattle.std.specs.Io.KnownBytes.{Appends}
use Rattle.spool_disk.specs.declared.disk.Disk.{Ghosts}
use Rattle.upload_rules.specs.Store.{Store}
use Rattle.spool_catalog.specs.Raising.{raised}
use Rattle.spool_image.specs.LeftOnly.{AllShow, IsSpool}
use Rattle.spool_catalog.specs.declared.error.OpenFault.TheVariants as openings
use Rattle.spool_image.specs.declared.error.RaiseError.{RaiseError}
use Rattle.spool_image.specs.declared.error.RaiseError.TheVariants.{Open, TooLarge}
use Rattle.gateway_outside.specs.Faults.{raise_fault}
use Rattle.gateway_outside.specs.Openings.{EndsWellBut}
use Rattle.gateway_outside.specs.SpoolFiles.{OnlyRead}
use Rattle.gateway_outside.specs.declared.failures.Failure.{Failure}
use Rattle.gateway_outside.specs.declared.faults.Fault.{Fault}
use Rattle.gateway_outside.specs.declared.faults.Fault.TheVariants.{Io}
use Rattle.gateway_format.specs.Raising.{AnswersRaise, FailsAs, RaisedIn}
use Rattle.gateway_format.specs.Reports.{raised_line}

-- what all images show, a read shows
opens : {D : Type 0} (disk : Ghosts D) (d : D) (n : ℕ) (m : Store) → AllShow disk d n m → IsSpool disk d n m
opens disk d n m shown = record {
  honest = shown.honest;
  room = shown.room;
  shows = shown.each (disk.current d) (record { same = λ p synced. refl });
}

-- and still do once it was only read
still_show : {D : Type 0} (disk : Ghosts D) (d d' : D) (n : ℕ) (m : Store) → AllShow disk d n m → OnlyRead disk d d'
    → AllShow disk d' n m
still_show disk d d' n m shown reads =
    let same = reads.preserves shown.honest in record {
      honest = reads.honest shown.honest;
      room = rw reads.size shown.room;
      each = λ image is. shown.each image (record {
        same = λ p synced. is.same p (λ unsynced. synced (same.unsyncs p unsynced)) ∙ same.same p;
      });
    }

-- what holds of the number of a raise holds of the one that is answered
answered : (next : ℕ) (P : ℕ → Type 0) (answer : Result ℕ RaiseError) → FailsAs answer (Ok next) → IfOk answer P
    → P next
answered next P (Ok number) same so = subst P (sym same) so
answered next P (Err e) never so = absurd never

-- ALL IMAGES SHOW THE LATER NUMBER, once the raise is answered
pub show_raised : {D : Type 0} (disk : Ghosts D) (d d' : D) (n number next : ℕ) (m : Store) → AllShow disk d n m
    → ⊥ ⊎ RaisedIn disk d number (λ answer. FailsAs answer (Ok next)) d'
    → AllShow disk d' n (raised m (max m.next number))
show_raised disk d d' n number next m shown so = elim so [
  | inl never ↦ absurd never
  | inr given ↦
      let both = answered next (λ k. (k ≡ max m.next number) × AllShow disk given.now n (raised m k)) given.answer
      given.answers (given.raises.shows n m (opens disk d n m shown)) in
      still_show disk given.now d' n (raised m (max m.next number))
      (subst (λ k. AllShow disk given.now n (raised m k)) both.0 both.1) given.reads
]

-- what a raise is refused for is never told as a stream's
pub never_io : (e : RaiseError) (fault : Fault) → fault ≡ raise_fault e → fault ≡ Io → ⊥
never_io (Open openings.NotASpool) fault is io = absurd (cc)
never_io (Open openings.Damaged) fault is io = absurd (cc)
never_io (Open openings.Version) fault is io = absurd (cc)
never_io (Open (openings.Stop stop)) fault is io = absurd (cc)
never_io TooLarge fault is io = absurd (cc)

-- what is printed is the number that was answered
line_of : {T : Type 0} (next : ℕ) (before after : Option (List ℕ)) (result : Result T Failure) → EndsWellBut result Io
    → OnOk result (Appends before after (raised_line next)) → (answer : Result ℕ RaiseError)
    → FailsAs answer (Ok next) → AnswersRaise before after result answer
line_of next before after result ends line (Ok number) same =
    (ends, subst (λ k. OnOk result (Appends before after (raised_line k))) same line)
line_of next before after result ends line (Err e) never = absurd never

-- and nothing is printed where it failed
none_of : (before : Option (List ℕ)) (failure : Failure) (answer : Result ℕ RaiseError) → FailsAs answer (Err failure)
    → AnswersRaise {T = Unit {0}} before before (Err failure) answer
none_of before failure (Ok number) never = absurd never
none_of before failure (Err e) so = (so, refl)

-- A RAISE THAT IS ANSWERED, AND TOLD
module _ {D : Type 0} (disk : Ghosts D) (d d' : D) (number : ℕ) (Shut : Type 0) where
  as_told : (P Q : Result ℕ RaiseError → Type 0) → ((answer : Result ℕ RaiseError) → P answer → Q answer)
      → RaisedIn disk d number P d' → RaisedIn disk d number Q d'
  as_told P Q so given = record {
    now = given.now;
    answer = given.answer;
    raises = given.raises;
    answers = so given.answer given.answers;
    reads = given.reads;
  }

  pub told : {T : Type 0} (next : ℕ) (before after : Option (List ℕ)) (result : Result T Failure)
      → EndsWellBut result Io → OnOk result (Appends before after (raised_line next))
      → ⊥ ⊎ RaisedIn disk d number (λ answer. FailsAs answer (Ok next)) d'
      → Shut ⊎ RaisedIn disk d number (AnswersRaise before after result) d'
  told next before after result ends line so = elim so [
    | inl never ↦ absurd never
    | inr given ↦ inr (as_told _ _ (line_of next before after result ends line) given)
  ]

  pub untold : (before : Option (List ℕ)) (failure : Failure)
      → Shut ⊎ RaisedIn disk d number (λ answer. FailsAs answer (Err failure)) d'
      → (Shut × (before ≡ before)) ⊎ RaisedIn disk d number (AnswersRaise {T = Unit {0}} before before (Err failure)) d'
  untold before failure so = elim so [
    | inl shut ↦ inl (shut, refl)
    | inr given ↦ inr (as_told _ _ (none_of before failure) given)
  ]
