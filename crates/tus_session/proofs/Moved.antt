-- What the calls on uploads leave to the other connections.
use Rattle.std.proofs.Common.{◌≡◌, ◌⊎◌, inl, inr, ℕ, zero, suc, ◌+◌, ◌<◌, ◌≤◌, ◌==◌, Bool, true, false, List, [], ◌∷◌}
use Rattle.std.proofs.Common.{◌++◌, length, if◌then◌else◌, Option, Some, None, refl, sym, ◌∙◌, ap, subst, arith}
use Rattle.std.proofs.Common.{append-nil, append_assoc, nat_lt, ◌&&◌}
use Rattle.std.proofs.lemmas.Bool.Decides.{nat_tests}
use Rattle.std.proofs.lemmas.Bool.{cases_eq, eqb-true, ne_eqb, cases_Bool, ltb-false}
use Rattle.std.proofs.lemmas.List.{length-append, nil_from_length}
use Rattle.std.proofs.lemmas.Option.{same_Some}
use Rattle.upload_rules.specs.Lengths.{is_length, known_or, is_new, differ, longest}
use Rattle.upload_rules.specs.Store.{New, Upload, Store, upload_of, text_of, text_with, patched, find}
use Rattle.upload_rules.specs.Store.{without, is_complete, new_upload, created_store, deleted_store, patched_at}
use Rattle.upload_rules.specs.Store.{patched_store, accepted_count}
use Rattle.upload_rules.specs.World.{Patch, World, is_there, least_from, free_number, reached, length_then, completes}
use Rattle.upload_rules.specs.World.{patch_text}
use Rattle.upload_rules.specs.Room.{is_short}
use Rattle.upload_rules.specs.Grown.{GrewFrom}
use Rattle.upload_rules.specs.declared.errors.UploadRefusal.{UploadRefusal}
use Rattle.upload_rules.specs.declared.errors.UploadRefusal.TheVariants.{Offset, LengthSet, TooLong, Unencodable, Full}
use Rattle.upload_rules.specs.Calls.{dropped, committed, committed_store, spent, created, terminated, longer_patch}
use Rattle.upload_rules.specs.Calls.{is_empty}
use Rattle.upload_rules.specs.Calls.{commit_refusal, upload_refusal, length_refusal, text_refusal, or_else, refuse_if}
use Rattle.upload_rules.specs.Calls.{declares, declares_at, is_idle, text_stays}
use Rattle.upload_rules.proofs.Commits.{complete_patched}
use Rattle.upload_rules.proofs.Deleted.{none_in_others, find_in_others}
use Rattle.upload_rules.proofs.Finds.{find_push_other, find_without_other, find_without_same}
use Rattle.upload_rules.proofs.Finds.{find_replaced_same, find_replaced_other, length_without}
use Rattle.upload_rules.proofs.Patches.{apart_without, apart_replaced}
use Rattle.tus_action.specs.Acts.{fed}
use Rattle.tus_session.specs.Turns.{left_world}
use Rattle.tus_session.specs.Moves.{Longer, Grows, Moves}
use Rattle.tus_session.proofs.Growth.{IsLonger, patched_twice, text_longer, text_same, patched_nothing}

-- the same upload
pub same_longer : (m m' : Store) (up : Upload) → m'.indexes ≡ m.indexes → Longer m m' up up
same_longer m m' up same = record {
  declare = None;
  bytes = [];
  more = [];
  is = patched_nothing up;
  text = ap (λ x. text_of x up) same ∙ sym (append-nil (text_of m.indexes up));
}

pub same_grows : (m : Store) → Grows m m
same_grows m = record {
  indexes = refl;
  next = omega arith;
  uploads = λ n up lt there. (up, there, same_longer m m up refl);
}

pub own_or : (own : Option ℕ) (e : ℕ) → (own ≡ Some e) ⊎ (own ≡ Some e → ⊥)
own_or None e = inr (λ h. absurd (cc))
own_or (Some d) e = elim (cases_eq d e) [ inl is ↦ inl (ap Some is) | inr ne ↦ inr (λ h. ne (same_Some d e h)) ]

-- nothing moved
pub still : (w : World) (own : Option ℕ) → Moves w w own own
still w own = record {
  grows = same_grows w.store;
  others = λ e p ne found. found;
  back = λ e p apart found. elim (own_or own e) [ inl is ↦ inl is | inr ne ↦ inr (ne, (p, found)) ];
  fresh = λ e h. inl h;
  unique = λ h. h;
}

abbrev Patches : Type 0
Patches = List (ℕ × Patch)

some_ne : (d e : ℕ) → (Some d ≡ Some e → ⊥) → d ≡ e → ⊥
some_ne d e h is = h (ap Some is)

-- the draft is dropped
pub drop_moves : (w : World) (d : ℕ) → Moves w (dropped w d) (Some d) None
drop_moves w d = record {
  grows = same_grows w.store;
  others = λ e p ne found. find_without_other d e w.patches (some_ne d e ne) ∙ found;
  back = λ e p apart found. elim (cases_eq d e) [
    | inl is ↦
        let x : Some p ≡ None = sym found ∙ rw (← is) (find_without_same d w.patches apart) in absurd (cc)
    | inr ne ↦ inr (λ h. ne (same_Some d e h), (p, sym (find_without_other d e w.patches ne) ∙ found))
  ];
  fresh = λ e h. absurd (cc);
  unique = λ h. apart_without d w.patches h;
}

pub left_moves : (w : World) (own : Option ℕ) → Moves w (left_world w own) own None
left_moves w None = still w None
left_moves w (Some d) = drop_moves w d

-- the draft's patch grows
pub feed_moves : (w : World) (d : ℕ) (p : Patch) (piece : List ℕ) → find d w.patches ≡ Some p
    → Moves w (fed w d piece) (Some d) (Some d)
feed_moves w d p [] found = still w (Some d)
feed_moves w d p (b ∷ piece) found =
    let q = longer_patch w d p (b ∷ piece) in
    rw found (record {
      grows = same_grows w.store;
      others = λ e p ne there. find_replaced_other d e q w.patches (some_ne d e ne) ∙ there;
      back = λ e p apart there. elim (cases_eq d e) [
        | inl is ↦ inl (ap Some is)
        | inr ne ↦ inr (λ h. ne (same_Some d e h), (p, sym (find_replaced_other d e q w.patches ne) ∙ there))
      ];
      fresh = λ e h. inl h;
      unique = λ h. apart_replaced d q w.patches h;
    })

-- THE LEAST FREE NUMBER

abbrev IsFull : ℕ → Patches → Type 0
IsFull n patches = (k : ℕ) → k < n → is_there (find k patches) ≡ true

one_is : (o : Option Patch) → is_there o ≡ true → (p : Patch) × (o ≡ Some p)
one_is None h = absurd cc
one_is (Some p) h = (p, refl)

none_is : (o : Option Patch) → is_there o ≡ false → o ≡ None
none_is None h = refl
none_is (Some p) h = absurd cc

at_least : (n m : ℕ) (patches : Patches) → m ≡ n → IsFull n patches → n ≤ length patches
at_least zero m patches same full = omega arith
at_least (suc n) m patches same full =
    let there = one_is (find n patches) (full n (omega arith)) in
    let shorter = length_without n there.0 patches there.1 in
    let rest = at_least n n (without n patches) refl
    (λ k lt. ap is_there (find_without_other n k patches (omega arith)) ∙ full k (omega arith)) in
    omega (arith, shorter, rest)

one_more_full : (n : ℕ) (patches : Patches) → IsFull n patches → is_there (find n patches) ≡ true
    → IsFull (n + 1) patches
one_more_full n patches full there k lt =
    elim (cases_eq k n) [
      | inl is ↦ rw is there
      | inr ne ↦ full k (omega arith)
    ]

none_least : (left n : ℕ) (patches : Patches) → IsFull n patches → length patches ≤ n + left
    → find (least_from left n patches) patches ≡ None
none_least zero n patches full high =
    elim (cases_Bool (is_there (find n patches))) [
      | inl there ↦
          absurd (omega (arith, at_least (n + 1) (n + 1) patches refl (one_more_full n patches full there)))
      | inr free ↦ none_is (find n patches) free
    ]
none_least (suc left) n patches full high =
    elim (cases_Bool (is_there (find n patches))) [
      | inl there ↦ rw there (none_least left (n + 1) patches (one_more_full n patches full there) (omega arith))
      | inr free ↦ rw free (none_is (find n patches) free)
    ]

pub free_none : (w : World) → find (free_number w) w.patches ≡ None
free_none w = none_least (length w.patches) 0 w.patches (λ k lt. absurd (omega arith)) (omega arith)

abbrev pub with_patch : World → ℕ → Patch → World
with_patch w d p = record w { patches = (d, p) ∷ w.patches }

find_after : (d e : ℕ) (p : Patch) (patches : Patches) → (d ≡ e → ⊥) → find e ((d, p) ∷ patches) ≡ find e patches
find_after d e p patches ne = grind (arith, nat_tests)

-- a patch is opened under a number that none has
pub open_moves : (w : World) (d : ℕ) (p : Patch) → find d w.patches ≡ None → Moves w (with_patch w d p) None (Some d)
open_moves w d p free = record {
  grows = same_grows w.store;
  others = λ e q ne found. elim (cases_eq d e) [
    | inl is ↦ let x : None ≡ Some q = sym (rw is at free) ∙ found in absurd (cc)
    | inr ne' ↦ find_after d e p w.patches ne' ∙ found
  ];
  back = λ e q apart found. elim (cases_eq d e) [
    | inl is ↦ inl (ap Some is)
    | inr ne ↦ inr (λ h. absurd (cc), (q, sym (find_after d e p w.patches ne) ∙ found))
  ];
  fresh = λ e h. inr (rw (← (same_Some d e h)) free);
  unique = λ h. (free, h);
}

-- THE STORE CHANGES

longer_both : (m m1 m2 : Store) (u v x : Upload) → Longer m m1 u v → Longer m1 m2 v x → Longer m m2 u x
longer_both m m1 m2 u v x a b = record {
  declare = known_or a.declare b.declare;
  bytes = a.bytes ++ b.bytes;
  more = a.more ++ b.more;
  is = b.is ∙ ap (λ z. patched z b.declare b.bytes) a.is ∙ patched_twice u a.declare b.declare a.bytes b.bytes;
  text = b.text ∙ (ap (λ t. t ++ b.more) a.text ∙ append_assoc (text_of m.indexes u) a.more b.more);
}

-- one step after another
pub grows_both : (m m1 m2 : Store) → Grows m m1 → Grows m1 m2 → Grows m m2
grows_both m m1 m2 a b = record {
  indexes = b.indexes ∙ a.indexes;
  next = (let l = a.next in let r = b.next in omega (arith, l, r));
  uploads = λ n up lt there.
      let y = b.uploads n up (let l = a.next in omega (arith, l, lt)) there in
      let x = a.uploads n y.0 lt y.1 in
      (x.0, x.1, longer_both m m1 m2 x.0 y.0 up x.2 y.2);
}

none_or : (o : Option Patch) → (o ≡ None) ⊎ ((p : Patch) × (o ≡ Some p))
none_or None = inl refl
none_or (Some p) = inr (p, refl)

pub both_moves : (w w1 w2 : World) (x y z : Option ℕ) → Moves w w1 x y → Moves w1 w2 y z → Moves w w2 x z
both_moves w w1 w2 x y z a b = record {
  grows = grows_both w.store w1.store w2.store a.grows b.grows;
  others = λ e p ne found.
      b.others e p
      (λ h. elim (a.fresh e h)
      [ inl own ↦ ne own | inr none ↦ let c : Some p ≡ None = sym found ∙ none in absurd (cc) ])
      (a.others e p ne found);
  back = λ e p apart found. elim (b.back e p (a.unique apart) found) [
    | inl own ↦ inl own
    | inr other ↦ elim (a.back e other.1.0 apart other.1.1) [ inl own ↦ absurd (other.0 own) | inr more ↦ inr more ]
  ];
  fresh = λ e h. elim (b.fresh e h) [
    | inl own ↦ a.fresh e own
    | inr none ↦ elim (own_or x e) [
      | inl own ↦ inl own
      | inr ne ↦ elim (none_or (find e w.patches)) [
        | inl free ↦ inr free
        | inr there ↦ let c : Some there.0 ≡ None = sym (a.others e there.0 ne there.1) ∙ none in absurd (cc)
      ]
    ]
  ];
  unique = λ h. b.unique (a.unique h);
}

-- the uploads of the second world, and the patches of the first
pub stored_moves : (w : World) (m : Store) (own : Option ℕ) → Grows w.store m → Moves w (record w { store = m }) own own
stored_moves w m own grows = let s = still w own in assumption (grows, s)

-- an upload is made
pub create_moves : (w : World) (new : New) (own : Option ℕ) → Moves w (created w new) own own
create_moves w new own = stored_moves w (created_store w.store new) own (record {
  indexes = refl;
  next = omega arith;
  uploads = λ n up lt there. (
    up,
    sym (find_push_other n w.store.next (new_upload new) w.store.uploads (λ e. omega (arith, lt, e))) ∙ there,
    same_longer w.store (created_store w.store new) up refl,
  );
})

-- an upload is taken away
pub delete_moves : (w : World) (number : ℕ) (own : Option ℕ) → Moves w (terminated w number) own own
delete_moves w number own = stored_moves w (deleted_store w.store number) own (record {
  indexes = refl;
  next = omega arith;
  uploads = λ n up lt there. elim (cases_eq number n) [
    | inl same ↦
        let x : Some up ≡ None = sym there ∙ rw (← same) (none_in_others number w.store.uploads) in absurd (cc)
    | inr ne ↦ (
      up,
      sym (find_in_others number n w.store.uploads ne) ∙ there,
      same_longer w.store
          (deleted_store w.store number) up refl,
    )
  ];
})

-- an upload has what a patch brings
put_grows : (m : Store) (number : ℕ) (declare : Option ℕ) (bytes : List ℕ) (u : Upload) → upload_of m number ≡ Some u
    → IsLonger m.indexes u (patched u declare bytes) → Grows m (patched_at m number declare bytes (Some u))
put_grows m number declare bytes u there longer_patch =
    let v = patched u declare bytes in
    let m' : Store = patched_at m number declare bytes (Some u) in
    record {
      indexes = refl;
      next = omega arith;
      uploads = λ n up lt found. elim (cases_eq number n) [
        | inl is ↦
            let put : find n m'.uploads ≡ Some v = rw (← is) (find_replaced_same number u v m.uploads there) in
            let same : v ≡ up = same_Some v up (sym put ∙ found) in
            let l : Longer m m' u v =
            record { declare = declare; bytes = bytes; more = longer_patch.0; is = refl; text = longer_patch.1 } in
            (u, rw (← is) there, subst (Longer m m' u) same l)
        | inr ne ↦ (up, sym (find_replaced_other number n v m.uploads ne) ∙ found, same_longer m m' up refl)
      ];
    }

-- WHAT IS COMMITTED

or_else_none : (a b : Option UploadRefusal) → or_else a b ≡ None → a ≡ None
or_else_none None b e = refl
or_else_none (Some f) b e = absurd (cc)

pub or_else_second : (a b : Option UploadRefusal) → or_else a b ≡ None → b ≡ None
or_else_second None b e = e
or_else_second (Some f) b e = absurd (cc)

room_case : (b c : Bool) → (if b then Some LengthSet else refuse_if c TooLong) ≡ None → c ≡ false
room_case true c e = absurd (cc)
room_case false true e = absurd (cc)
room_case false false e = refl

-- the length that isn't refused leaves room
pub has_room : (known declare : Option ℕ) (end : ℕ) → length_refusal known declare end ≡ None
    → end ≤ longest (known_or known declare)
has_room known declare end e =
    let long = longest (known_or known declare) in
    ltb-false long end (room_case (differ known declare) (nat_lt long end) e)

not_empty : (body : List ℕ) → is_empty body ≡ false → 0 < length body
not_empty [] e = absurd (cc)
not_empty (b ∷ body) e = omega arith

no_fault : (o : Option ℕ) (rest : Option UploadRefusal) → (if is_there o then Some Unencodable else rest) ≡ None
    → o ≡ None
no_fault None rest e = refl
no_fault (Some c) rest e = absurd (cc)

-- a text that doesn't stay has a value
has_value : (w : World) (d : ℕ) (p : Patch) → text_stays w.store p ≡ false → text_refusal w d p ≡ None
    → (text_with w.store.indexes p.began p.body (completes w.store p)).fault ≡ None
unfolding patch_text
has_value w d p moves none =
    let done = completes w.store p in
    no_fault (patch_text w.store.indexes p done).fault (refuse_if (is_short w d p done) Full) (rw moves at none)

-- The upload of a patch that goes with it: it has as many bytes as at the patch's head moment, and its length leaves
-- room for the body.
pub record Fitting (p : Patch) (o : Option Upload) : Type 0 where
  pub up : Upload
  pub there : o ≡ Some up
  pub count : accepted_count up ≡ accepted_count p.began
  pub room : reached p ≤ longest (known_or up.declared p.declare)

fitting_case : (p : Patch) (u : Upload) (b : Bool) → (accepted_count u == accepted_count p.began) ≡ b
    → (if b then length_refusal u.declared p.declare (reached p) else Some Offset) ≡ None
    → Fitting p (Some u)
fitting_case p u true same e = record {
  up = u;
  there = refl;
  count = eqb-true (accepted_count u) (accepted_count p.began) same;
  room = has_room u.declared p.declare (reached p) e;
}
fitting_case p u false same e = absurd (cc)

fitting : (p : Patch) (o : Option Upload) → upload_refusal p o ≡ None → Fitting p o
fitting p None e = absurd (cc)
fitting p (Some u) e = fitting_case p u (accepted_count u == accepted_count p.began) refl e

-- the upload of a patch that isn't refused
pub accepted_at : (w : World) (d : ℕ) (p : Patch) → commit_refusal w d p ≡ None
    → Fitting p (upload_of w.store p.number)
unfolding commit_refusal
accepted_at w d p e =
    let here = upload_of w.store p.number in
    fitting p here (or_else_none (upload_refusal p here) (text_refusal w d p) e)

module _ (w : World) (d : ℕ) (p : Patch) (grown : GrewFrom p (upload_of w.store p.number))
    (fit : Fitting p (upload_of w.store p.number)) where
  abbrev m : Store
  m = w.store

  abbrev u : Upload
  u = fit.up

  new_is : declares m p ≡ is_new u.declared p.declare
  new_is = ap (declares_at p) fit.there

  -- where the patch brings something, the upload isn't complete
  unfinished_case : (known : Option ℕ) → u.declared ≡ known → (b : Bool) → is_new known p.declare ≡ b
      → (if b then false else is_empty p.body) ≡ false
      → is_length known (accepted_count u) ≡ false
  unfinished_case None e b new busy = refl
  unfinished_case (Some n) e true new busy = absurd (known_before p.declare new)
    where
      known_before : (declare : Option ℕ) → is_new (Some n) declare ≡ true → ⊥
      known_before None new = cc
      known_before (Some k) new = cc
  unfinished_case (Some n) e false new busy =
      let room : reached p ≤ n = rw e at fit.room in
      ne_eqb (accepted_count u) n (omega (arith, room, fit.count, not_empty p.body busy))

  unfinished : is_idle m p ≡ false → is_complete u ≡ false
  unfinished busy =
      unfinished_case u.declared refl (is_new u.declared p.declare) refl (rw new_is at busy)

  -- the accepted bytes are those of the head moment
  value_here : (done : Bool) → (text_with m.indexes p.began p.body done).fault ≡ None
      → (text_with m.indexes u p.body done).fault ≡ None
  value_here done value =
      let grew : GrewFrom p (Some u) = rw fit.there at grown in
      let l : accepted_count (patched p.began grew.0 grew.1) ≡ accepted_count p.began =
      sym (ap (λ x. accepted_count x) grew.2) ∙ fit.count in
      let none = nil_from_length grew.1 (omega (arith, l, length-append p.began.accepted grew.1)) in
      rw (grew.2, none, append-nil p.began.accepted) value

  completes_is : is_complete (patched u p.declare p.body) ≡ completes m p
  completes_is =
      complete_patched u p.declare p.body
      ∙ (ap (λ n. is_length (known_or u.declared p.declare) (n + length p.body)) fit.count
      ∙ ap (λ o. is_length (length_then p o) (reached p)) (sym fit.there))

  -- a text that stays, though a length is declared
  stays_case : (a b : Bool) (body : List ℕ) → (if a && b then false else is_empty body) ≡ true
      → (if a then false else is_empty body) ≡ false
      → (body ≡ []) × (b ≡ false)
  stays_case true true body stays busy = absurd (cc)
  stays_case true false [] stays busy = (refl, refl)
  stays_case true false (x ∷ body) stays busy = absurd (cc)
  stays_case false b body stays busy = let x : true ≡ false = sym stays ∙ busy in absurd (cc)

  text_grows : text_refusal w d p ≡ None → is_idle m p ≡ false → (b : Bool) → text_stays m p ≡ b
      → IsLonger m.indexes u (patched u p.declare p.body)
  text_grows fine busy false moves =
      text_longer m.indexes u p.declare p.body (completes m p) (unfinished busy)
      (value_here (completes m p) (has_value w d p moves fine))
  text_grows fine busy true stays =
      let still = stays_case (declares m p) (completes m p) p.body stays busy in
      let open_still : is_complete (patched u p.declare []) ≡ false =
      subst (λ z. is_complete (patched u p.declare z) ≡ false) still.0 (completes_is ∙ still.1) in
      subst (λ z. IsLonger m.indexes u (patched u p.declare z)) (sym still.0)
      (text_same m.indexes u p.declare (unfinished busy) open_still)

  store_grows : text_refusal w d p ≡ None → (b : Bool) → is_idle m p ≡ b
      → Grows m (if b then m else patched_store m p.number p.declare p.body)
  store_grows fine true e = same_grows m
  store_grows fine false busy =
      rw fit.there
      (put_grows m p.number p.declare p.body u fit.there (text_grows fine busy (text_stays m p) refl))

-- the patch is spent
spend_on : (w : World) (d : ℕ) (p : Patch) → GrewFrom p (upload_of w.store p.number) → (o : Option UploadRefusal)
    → commit_refusal w d p ≡ o → Moves w (spent w d p o) (Some d) None
unfolding commit_refusal
spend_on w d p grown (Some f) e = drop_moves w d
spend_on w d p grown None e =
    let m = committed_store w.store p in
    let fine = or_else_second (upload_refusal p (upload_of w.store p.number)) (text_refusal w d p) e in
    let grows : Grows w.store m =
    store_grows w d p grown (accepted_at w d p e) fine (is_idle w.store p) refl in
    both_moves w (record w { store = m }) (committed w d p) (Some d) (Some d) None (stored_moves w m (Some d) grows)
    (drop_moves (record w { store = m }) d)

pub spend_moves : (w : World) (d : ℕ) (p : Patch) → GrewFrom p (upload_of w.store p.number)
    → Moves w (spent w d p (commit_refusal w d p)) (Some d) None
spend_moves w d p grown = spend_on w d p grown (commit_refusal w d p) refl
