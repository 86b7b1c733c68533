-- Along a history the next number grows, and an upload's accepted bytes, until the upload is deleted.
use Rattle.std.proofs.Common.{◌≡◌, ◌⊎◌, inl, inr, ℕ, ◌+◌, ◌<◌, ◌≤◌, List, [], ◌∷◌, ◌++◌, length, Option, Some, None}
use Rattle.std.proofs.Common.{refl, sym, ◌∙◌, ap, subst, arith, append-nil}
use Rattle.std.proofs.lemmas.Option.{none-some, same_Some}
use Rattle.std.proofs.lemmas.List.{length-append}
use Rattle.std.proofs.lemmas.Bool.{cases_eq}
use Rattle.std.proofs.lemmas.Bool.Decides.{nat_tests}
use Rattle.upload_rules.specs.Lengths.{known_or}
use Rattle.upload_rules.specs.Store.{New, Upload, Store, find, upload_of, with_length, patched, new_upload}
use Rattle.upload_rules.specs.Store.{created_store, deleted_store, patched_at, patched_store, accepted_count}
use Rattle.upload_rules.proofs.Finds.{find_replaced_same, find_replaced_other}
use Rattle.upload_rules.proofs.Deleted.{none_in_others, find_in_others}
use Rattle.tus_session.specs.History.{State, Event, Mark, Marked, Served, OutOfMemory, Failed, step, history}
use Rattle.tus_laws.specs.Patches.{Changed, Nothing, Made, Declared, Put, DeclaredAndPut, Deleted, IsAbove}
use Rattle.upload_rules.specs.Store.{HasAllBytes}
use Rattle.tus_session.proofs.Growth.{patched_nothing, patched_twice}
use Rattle.tus_session.proofs.Unmade.{memory_same, fault_same}
use Rattle.tus_laws.proofs.Bodies.{none_if}
use Rattle.tus_laws.proofs.Commits.{put_is, declared_is, both_is, fitting_at}
use Rattle.tus_laws.proofs.Changes.{done_uploads, served_changed}

abbrev pub store_at : State → List Marked → Store
store_at start past = (history start past).world.store

-- ONE CHANGE

-- the upload was there, with what PATCHes brought since
record WasThere (m : Store) (n : ℕ) (v : Upload) : Type 0 where
  upload : Upload
  there : upload_of m n ≡ Some upload
  declare : Option ℕ
  more : List ℕ
  is : v ≡ patched upload declare more

-- From one store to a later one the next number doesn't fall, and stays above those of the uploads. An upload whose
-- number was given by then was there then
record IsLaterStore (m m' : Store) : Type 0 where
  next : m.next ≤ m'.next
  above : IsAbove m → IsAbove m'
  known : HasAllBytes m → HasAllBytes m'
  uploads : (n : ℕ) (v : Upload) → n < m.next → upload_of m' n ≡ Some v → WasThere m n v

same_there : (m : Store) (n : ℕ) (v : Upload) → upload_of m n ≡ Some v → WasThere m n v
same_there m n v there = record { upload = v; there = there; declare = None; more = []; is = patched_nothing v }

itself_later : (m : Store) → IsLaterStore m m
itself_later m = record {
  next = omega arith;
  above = λ h. h;
  known = λ h. h;
  uploads = λ n v lt there. same_there m n v there;
}

later_both : (a b c : Store) → IsLaterStore a b → IsLaterStore b c → IsLaterStore a c
later_both a b c first second =
    let le : a.next ≤ b.next = first.next in
    let le' : b.next ≤ c.next = second.next in
    record {
      next = omega arith;
      above = λ h. second.above (first.above h);
      known = λ h. second.known (first.known h);
      uploads = λ n v lt found.
          let y = second.uploads n v (omega arith) found in
          let x = first.uploads n y.upload lt y.there in
          record {
            upload = x.upload;
            there = x.there;
            declare = known_or x.declare y.declare;
            more = x.more ++ y.more;
            is = y.is ∙ (ap (λ u. patched u y.declare y.more) x.is
                ∙ patched_twice x.upload x.declare y.declare x.more y.more);
          };
    }

found_made : (n m : ℕ) (u new : Upload) (uploads : List (ℕ × Upload)) → find n (uploads ++ (m, new) ∷ []) ≡ Some u
    → (find n uploads ≡ Some u) ⊎ ((m ≡ n) × (u ≡ new))
found_made n m u new [] found = grind (arith, nat_tests)
found_made n m u new (x ∷ xs) found = let ih = found_made n m u new xs in grind (arith, nat_tests, ih)

made_later : (m : Store) (new : New) → IsLaterStore m (created_store m new)
made_later m new = record {
  next = omega arith;
  above = λ above n u found.
      let made = found_made n m.next u (new_upload new) m.uploads found in grind (arith, above);
  known = λ known n u found. elim (found_made n m.next u (new_upload new) m.uploads found) [
    | inl old ↦ known n u old
    | inr is ↦ ap (λ (v : Upload). v.origin) is.1
  ];
  uploads = λ n v lt found. elim (found_made n m.next v (new_upload new) m.uploads found) [
    | inl old ↦ same_there m n v old
    | inr is ↦ absurd (omega (arith, lt, is.0))
  ];
}

-- the upload with what a PATCH brings
pub put_there : (m : Store) (number : ℕ) (declare : Option ℕ) (body : List ℕ) (v : Upload)
    → upload_of m number ≡ Some v
    → upload_of (patched_store m number declare body) number ≡ Some (patched v declare body)
put_there m number declare body v there =
    ap (λ o. upload_of (patched_at m number declare body o) number) there
    ∙ find_replaced_same number v (patched v declare body) m.uploads there

put_later_at : (m : Store) (number : ℕ) (declare : Option ℕ) (body : List ℕ) (o : Option Upload)
    → upload_of m number ≡ o → IsLaterStore m (patched_at m number declare body o)
put_later_at m number declare body None none = itself_later m
put_later_at m number declare body (Some u) there = record {
  next = omega arith;
  above = λ above n v found. grind (arith, above, find_replaced_other);
  known = λ known n v found. elim (cases_eq number n) [
    | inl is ↦
        let put = find_replaced_same number u (patched u declare body) m.uploads there in
        let here = ap (upload_of (patched_at m number declare body (Some u))) is ∙ found in
        ap (λ (w : Upload). w.origin) (same_Some v (patched u declare body) (sym here ∙ put)) ∙ known number u there
    | inr ne ↦ known n v (sym (find_replaced_other number n (patched u declare body) m.uploads ne) ∙ found)
  ];
  uploads = λ n v lt found. elim (cases_eq number n) [
    | inl is ↦
        let put = find_replaced_same number u (patched u declare body) m.uploads there in
        let here = ap (upload_of (patched_at m number declare body (Some u))) is ∙ found in
        record {
          upload = u;
          there = ap (upload_of m) (sym is) ∙ there;
          declare = declare;
          more = body;
          is = same_Some v (patched u declare body) (sym here ∙ put);
        }
    | inr ne ↦ same_there m n v (sym (find_replaced_other number n (patched u declare body) m.uploads ne) ∙ found)
  ];
}

found_deleted : (m : Store) (gone n : ℕ) (v : Upload) → upload_of (deleted_store m gone) n ≡ Some v
    → upload_of m n ≡ Some v
found_deleted m gone n v found = grind (arith, none_in_others, find_in_others)

deleted_later : (m : Store) (gone : ℕ) → IsLaterStore m (deleted_store m gone)
deleted_later m gone = record {
  next = omega arith;
  above = λ above n v found. above n v (found_deleted m gone n v found);
  known = λ known n v found. known n v (found_deleted m gone n v found);
  uploads = λ n v lt found. same_there m n v (found_deleted m gone n v found);
}

put_later : (m after : Store) (number : ℕ) (declare : Option ℕ) (body : List ℕ)
    → patched_store m number declare body ≡ after → IsLaterStore m after
put_later m after number declare body is =
    subst (IsLaterStore m) is (put_later_at m number declare body (upload_of m number) refl)

changed_later : (st : State) (e : Event) (after : Store) → Changed st e after → IsLaterStore st.world.store after
changed_later st e after (Nothing is) = rw is (itself_later st.world.store)
changed_later st e after (Made new is) = rw is (made_later st.world.store new)
changed_later st e after (Declared x total d accepted is) =
    rw is (put_later st.world.store _ x.patch.number (Some total) []
    (declared_is st.world.store x.patch.number d.upload d.there total d.unknown))
changed_later st e after (Put x body accepted is) =
    let fit = fitting_at st e x (done_uploads st e x) accepted in
    let stays : known_or fit.up.declared None ≡ fit.up.declared =
    ap (λ u. u.declared) (sym (patched_nothing fit.up)) in
    rw is (put_later st.world.store _ x.patch.number None x.patch.body
    (put_is st.world.store x.patch.number fit.up fit.there None x.patch.body stays))
changed_later st e after (DeclaredAndPut x total d body accepted is) =
    rw is (put_later st.world.store _ x.patch.number (Some total) x.patch.body
    (both_is st.world.store x.patch.number d.upload d.there total d.unknown x.patch.body))
changed_later st e after (Deleted n u there is) = rw is (deleted_later st.world.store n)

event_later : (st : State) (e : Event) (mark : Mark) → IsLaterStore st.world.store (step st e mark).state.world.store
event_later st e Served = changed_later st e (step st e Served).state.world.store (served_changed st e)
event_later st e OutOfMemory = rw (memory_same st e) (itself_later st.world.store)
event_later st e Failed = rw (fault_same st e) (itself_later st.world.store)

-- ALONG A HISTORY

later_later : (start : State) (past later : List Marked) → IsLaterStore (store_at start past)
    (store_at start (later ++ past))
later_later start past [] = itself_later (store_at start past)
later_later start past (e ∷ later) =
    later_both (store_at start past) (store_at start (later ++ past)) (store_at start (e ∷ (later ++ past)))
    (later_later start past later) (event_later (history start (later ++ past)) e.0 e.1)

pub always_above : (start : State) (past : List Marked) → IsAbove start.world.store → IsAbove (store_at start past)
always_above start [] above = above
always_above start (e ∷ past) above =
    (event_later (history start past) e.0 e.1).above (always_above start past above)

-- the bytes of each upload stay all that came
pub always_known : (start : State) (past : List Marked) → HasAllBytes start.world.store
    → HasAllBytes (store_at start past)
always_known start [] known = known
always_known start (e ∷ past) known =
    (event_later (history start past) e.0 e.1).known (always_known start past known)

pub next_grows : (start : State) (past later : List Marked)
    → (store_at start past).next ≤ (store_at start (later ++ past)).next
next_grows start past later = (later_later start past later).next

-- an upload that is still there has what PATCHes brought since
pub later_grows : (start : State) (past later : List Marked) → IsAbove start.world.store → (n : ℕ) (u v : Upload)
    → upload_of (store_at start past) n ≡ Some u → upload_of (store_at start (later ++ past)) n ≡ Some v
    → (declare : Option ℕ) × (more : List ℕ) × (v ≡ patched u declare more)
later_grows start past later above n u v there there' =
    let was = (later_later start past later).uploads n v (always_above start past above n u there) there' in
    let same : was.upload ≡ u = same_Some was.upload u (sym was.there ∙ there) in
    (was.declare, was.more, was.is ∙ ap (λ x. patched x was.declare was.more) same)

none_more : (xs ys : List ℕ) → length xs ≡ length (xs ++ ys) → ys ≡ []
none_more xs [] e = refl
none_more xs (y ∷ ys) e =
    let n : length (xs ++ y ∷ ys) ≡ length xs + length (y ∷ ys) = length-append xs (y ∷ ys) in
    absurd (omega arith)

-- the same upload and the same count mean the same accepted bytes
pub later_same : (start : State) (past later : List Marked) → IsAbove start.world.store → (n : ℕ) (u v : Upload)
    → upload_of (store_at start past) n ≡ Some u → upload_of (store_at start (later ++ past)) n ≡ Some v
    → accepted_count u ≡ accepted_count v → (declare : Option ℕ) × (v ≡ with_length u declare)
later_same start past later above n u v there there' count =
    let grown = later_grows start past later above n u v there there' in
    let all : accepted_count u ≡ accepted_count (patched u grown.0 grown.1) =
    count ∙ ap (λ x. accepted_count x) grown.2 in
    let none : grown.1 ≡ [] = none_more u.accepted grown.1 (omega (arith, all)) in (
      grown.0,
      grown.2
          ∙ (ap (patched u grown.0) none
          ∙ ap (λ x. record (with_length u grown.0) { accepted = x }) (append-nil u.accepted)),
    )

-- an upload that is gone stays away
pub later_gone : (start : State) (past between later : List Marked) → IsAbove start.world.store → (n : ℕ) (u : Upload)
    → upload_of (store_at start past) n ≡ Some u → upload_of (store_at start (between ++ past)) n ≡ None
    → upload_of (store_at start (later ++ (between ++ past))) n ≡ None
later_gone start past between later above n u there none =
    let lt = always_above start past above n u there in
    let le = next_grows start past between in
    none_if _ (λ v is.
    let was = (later_later start (between ++ past) later).uploads n v (omega (arith, lt, le)) is in
    none-some was.upload (sym none ∙ was.there))
