-- What the commit of a PATCH makes of the uploads: `declare`, or `append`, or both.
use Rattle.std.proofs.Common.{◌≡◌, ℕ, Bool, true, false, List, [], ◌∷◌, Option, Some}
use Rattle.std.proofs.Common.{None}
use Rattle.std.proofs.Common.{refl, sym, ◌∙◌, ap, subst, arith, append-nil, if◌then◌else◌}
use Rattle.std.proofs.lemmas.Bool.Decides.{nat_tests}
use Rattle.upload_rules.specs.Lengths.{known_or, is_new, longest}
use Rattle.upload_rules.specs.Store.{Upload, Store, upload_of, replaced, patched_store}
use Rattle.upload_rules.specs.World.{Patch}
use Rattle.upload_rules.specs.Calls.{is_empty, declares_at, is_idle, committed_store}
use Rattle.upload_rules.proofs.Finds.{find_replaced_same}
use Rattle.tus_session.specs.History.{State, Event}
use Rattle.tus_session.proofs.Moved.{Fitting, accepted_at}
use Rattle.tus_laws.specs.Patches.{DonePatch, IsAccepted, HasBody, Declares, declared_store}
use Rattle.tus_laws.specs.Patches.{appended_store, Changed, Nothing, Declared, Put, DeclaredAndPut}

replaced_twice : {A : Type 0} (n : ℕ) (a b : A) (xs : List (ℕ × A))
    → replaced n b (replaced n a xs) ≡ replaced n b xs
replaced_twice n a b [] = refl
replaced_twice n a b (x ∷ xs) = let ih = replaced_twice n a b xs in grind (arith, nat_tests)

module _ (m : Store) (n : ℕ) (u : Upload) (there : upload_of m n ≡ Some u) where
  -- where the length stays, only bytes come
  pub put_is : (declare : Option ℕ) (bytes : List ℕ) → known_or u.declared declare ≡ u.declared
      → patched_store m n declare bytes ≡ appended_store m n bytes
  put_is declare bytes stays = grind arith

  module _ (total : ℕ) (unknown : u.declared ≡ None) where
    abbrev v : Upload
    v = record u { declared = Some total }

    -- only a length comes
    pub declared_is : patched_store m n (Some total) [] ≡ declared_store m n total
    declared_is = grind (arith, append-nil {A = ℕ})

    -- a length, and after it bytes
    pub both_is : (bytes : List ℕ)
        → patched_store m n (Some total) bytes ≡ appended_store (declared_store m n total) n bytes
    both_is bytes =
        let here = find_replaced_same n u v m.uploads there in
        grind (arith, replaced_twice {A = Upload})

module _ (st : State) (e : Event) (x : DonePatch st e) (fit : Fitting x.patch
    (upload_of st.world.store x.patch.number)) (accepted : IsAccepted x) where
  abbrev m : Store
  m = st.world.store

  abbrev p : Patch
  p = x.patch

  abbrev u : Upload
  u = fit.up

  abbrev after : Store
  after = patched_store m p.number p.declare p.body

  puts : known_or u.declared p.declare ≡ u.declared → HasBody x → Changed st e after
  puts stays some = Put x some accepted (put_is m p.number u fit.there p.declare p.body stays)

  declares_as : (total : ℕ) → u.declared ≡ None → p.declare ≡ Some total → Declares x total
  declares_as total unknown declare =
      let long : longest (known_or u.declared p.declare) ≡ total =
      ap (λ k. longest (known_or k p.declare)) unknown ∙ ap longest declare in
      record {
        upload = u;
        there = fit.there;
        unknown = unknown;
        declared = declare;
        enough = omega (arith, long, fit.room, fit.count);
      }

  declared_case : (total : ℕ) → u.declared ≡ None → p.declare ≡ Some total → (body : List ℕ) → p.body ≡ body
      → Changed st e after
  declared_case total unknown declare [] none =
      Declared x total (declares_as total unknown declare) accepted
      (ap (λ o. patched_store m p.number o p.body) declare
      ∙ (ap (patched_store m p.number (Some total)) none ∙ declared_is m p.number u fit.there total unknown))
  declared_case total unknown declare (b ∷ body) some =
      DeclaredAndPut x total (declares_as total unknown declare) (ap is_empty some) accepted
      (ap (λ o. patched_store m p.number o p.body) declare ∙ both_is m p.number u fit.there total unknown p.body)

  brings : (known declare : Option ℕ) → u.declared ≡ known → p.declare ≡ declare
      → (if is_new known declare then false else is_empty p.body) ≡ false
      → Changed st e after
  brings None None known_is declare_is busy = puts (grind arith) busy
  brings None (Some total) known_is declare_is busy = declared_case total known_is declare_is p.body refl
  brings (Some n) declare known_is declare_is busy = puts (grind arith) busy

  changed_case : (b : Bool) → is_idle m p ≡ b → Changed st e (if b then m else after)
  changed_case true idle = Nothing refl
  changed_case false busy =
      brings u.declared p.declare refl refl
      (sym (ap (λ o. if declares_at p o then false else is_empty p.body) fit.there) ∙ busy)

-- the upload of a PATCH that is accepted
pub fitting_at : (st : State) (e : Event) (x : DonePatch st e) → x.world.store ≡ st.world.store → IsAccepted x
    → Fitting x.patch (upload_of st.world.store x.patch.number)
fitting_at st e x same accepted =
    subst (λ s. Fitting x.patch (upload_of s x.patch.number)) same (accepted_at x.world x.draft x.patch accepted)

pub committed_changed : (st : State) (e : Event) (x : DonePatch st e) → x.world.store ≡ st.world.store → IsAccepted x
    → Changed st e (committed_store st.world.store x.patch)
committed_changed st e x same accepted =
    changed_case st e x (fitting_at st e x same accepted) accepted (is_idle st.world.store x.patch) refl
