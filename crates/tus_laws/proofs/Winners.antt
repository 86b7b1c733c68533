-- Of two PATCHes that began at one offset of one upload at most one is accepted.
use Rattle.std.proofs.Common.{◌≡◌, ◌+◌, ℕ, false, List, ◌∷◌, ◌++◌, length}
use Rattle.std.proofs.Common.{Some, None, sym, ◌∙◌, ap, arith}
use Rattle.std.proofs.lemmas.Option.{none-some}
use Rattle.std.proofs.lemmas.List.{length-append}
use Rattle.upload_rules.specs.declared.errors.UploadRefusal.TheVariants.{NoSuch, Offset}
use Rattle.upload_rules.specs.Store.{Upload, Store, upload_of, patched, patched_store, accepted_count, origin_count}
use Rattle.upload_rules.specs.Calls.{is_empty}
use Rattle.upload_rules.proofs.Refusals.{no_such_upload, other_offset}
use Rattle.tus_session.specs.History.{State, Event, Marked, Served, history}
use Rattle.tus_laws.specs.Patches.{DonePatch, IsAccepted, IsRefused, HasBody, SamePlace, IsAbove}
use Rattle.tus_session.proofs.Moved.{Fitting, accepted_at}
use Rattle.tus_laws.proofs.Commits.{fitting_at}
use Rattle.tus_laws.proofs.Changes.{done_uploads, done_world}
use Rattle.tus_laws.proofs.Growing.{store_at, put_there, later_grows}

-- ONE PATCH

pub gone_refused : (st : State) (e : Event) (x : DonePatch st e) → upload_of x.world.store x.patch.number ≡ None
    → IsRefused x NoSuch
gone_refused st e x none = no_such_upload x.world x.draft x.patch none

-- TWO PATCHES

module _ (start : State) (past between : List Marked) (e f : Event) (x : DonePatch (history start past) e)
    (y : DonePatch (history start (between ++ (e, Served) ∷ past)) f) (above : IsAbove start.world.store)
    (same : SamePlace x y) (body : HasBody x) (accepted : IsAccepted x) where
  abbrev m : Store
  m = store_at start past

  end : Fitting x.patch (upload_of m x.patch.number)
  end = fitting_at (history start past) e x (done_uploads (history start past) e x) accepted

  abbrev put : Upload
  put = patched end.up x.patch.declare x.patch.body

  -- after the first event the upload has what the first patch brought
  append_to : store_at start ((e, Served) ∷ past) ≡ patched_store m x.patch.number x.patch.declare x.patch.body
  append_to =
      let first = done_world (history start past) e x in
      let still = done_uploads (history start past) e x in
      grind arith

  after : upload_of (store_at start ((e, Served) ∷ past)) x.patch.number ≡ Some put
  after =
      ap (λ s. upload_of s x.patch.number) append_to
      ∙ put_there m x.patch.number x.patch.declare x.patch.body end.up end.there

  some_bytes : (bytes : List ℕ) → is_empty bytes ≡ false → (more : List ℕ)
      → origin_count end.up.origin + length ((end.up.accepted ++ bytes) ++ more) ≡ accepted_count end.up → ⊥
  some_bytes bytes some more count = grind (arith, length-append {A = ℕ})

  -- and at the second it has no fewer bytes, if it is there
  pub later_refused : (u : Upload) → upload_of y.world.store y.patch.number ≡ Some u → IsRefused y Offset
  later_refused u there =
      let there' : upload_of (store_at start (between ++ (e, Served) ∷ past)) x.patch.number ≡ Some u =
      ap (λ s. upload_of s x.patch.number) (sym (done_uploads (history start (between ++ (e, Served) ∷ past)) f y))
      ∙ (ap (upload_of y.world.store) same.number ∙ there) in
      let grown = later_grows start ((e, Served) ∷ past) between above x.patch.number put u after there' in
      let count_is : accepted_count u ≡ accepted_count (patched put grown.0 grown.1) =
      ap (λ v. accepted_count v) grown.2 in
      other_offset y.world y.draft y.patch u there
      (λ count. some_bytes x.patch.body body grown.1 (sym count_is ∙ (count ∙ (sym same.offset ∙ sym end.count))))

pub one_accepted : (start : State) (past between : List Marked) (e f : Event) (x : DonePatch (history start past) e)
    (y : DonePatch (history start (between ++ (e, Served) ∷ past)) f) → IsAbove start.world.store → SamePlace x y
    → HasBody x → HasBody y → IsAccepted x → IsAccepted y → ⊥
one_accepted start past between e f x y above same body body' accepted accepted' =
    let end = accepted_at y.world y.draft y.patch accepted' in
    let refused = later_refused start past between e f x y above same body accepted end.up end.there in
    none-some Offset (sym accepted' ∙ refused)
