-- Uploads deleted one after the other.
use Rattle.std.proofs.Common.{◌≡◌, ◌∙◌, inl, inr, ap, sym, subst, refl, arith, eq-eqb, ℕ}
use Rattle.std.proofs.Common.{Bool, true, false, ◌&&◌, List, [], ◌∷◌, ◌++◌, Option, Some, None, Err}
use Rattle.std.proofs.Common.{append_assoc, append-nil, if◌then◌else◌}
use Rattle.std.specs.Prelude.{filter, not}
use Rattle.std.proofs.KnownBytes.{Appends-nil, Appends-trans}
use Rattle.std.proofs.lemmas.Bool.Decides.{nat_tests}
use Rattle.std.proofs.Math.Bool.{and-true}
use Rattle.std.proofs.lemmas.Bool.{cases_eq, ne_eqb}
use Rattle.std.specs.Io.KnownBytes.{Appends}
use Rattle.upload_rules.specs.Answers.{Among, Answers, Limits}
use Rattle.upload_rules.specs.Calls.{terminated}
use Rattle.upload_rules.specs.Reading.{no_such}
use Rattle.upload_rules.specs.Store.{Store, Upload, deleted_store, find, others, upload_of}
use Rattle.upload_rules.specs.World.{World, is_there}
use Rattle.upload_rules.specs.declared.errors.UploadError.{UploadError}
use Rattle.upload_rules.specs.declared.errors.UploadError.TheVariants.{Stop, Refused}
use Rattle.upload_rules.specs.declared.errors.UploadRefusal.{UploadRefusal}
use Rattle.upload_rules.specs.declared.uploads.Uploads.{Ghosts}
use Rattle.gateway_outside.specs.Changing.{AreAllAmong, LimitsToAll}
use Rattle.gateway_delete.specs.Deleting.{all_there, deletion_line, deletion_lines, is_among, left, stages}

-- WHERE NONE HAS THE NUMBER all stay
others_all : (n : ℕ) (xs : List (ℕ × Upload)) → find n xs ≡ None → others n xs ≡ xs
others_all n [] e = refl
others_all n (x ∷ xs) e = grind (arith, nat_tests, others_all n xs)

none_there : (o : Option Upload) (e : UploadRefusal) → no_such o ≡ Some e → o ≡ None
none_there o e is = grind arith

stays : (represents : World → Type 0) (w : World) (n : ℕ) (e : UploadRefusal) → no_such (upload_of w.store n) ≡ Some e
    → represents w → represents (terminated w n)
stays represents w n e is now = rw (others_all n w.store.uploads (none_there (upload_of w.store n) e is)) now

pub refused_stays : {T : Type 0} (represents : World → Type 0) (w : World) (n : ℕ) (done : T → Type 0) (f : UploadError)
    (e : UploadRefusal) → f ≡ Refused e → Answers {T = T} (no_such (upload_of w.store n)) (Err f) done (represents w)
    → represents (terminated w n)
refused_stays represents w n done (Stop stop) e is answer_is = absurd (cc)
refused_stays represents w n done (Refused f) e is answer_is = stays represents w n f answer_is.0 answer_is.1

-- WHAT IS LEFT
rest_all : (xs : List (ℕ × Upload)) → filter (λ e. not (is_among [] e.0)) xs ≡ xs
rest_all [] = refl
rest_all (x ∷ xs) = ap (λ ys. x ∷ ys) (rest_all xs)

rest_others : (n : ℕ) (ns : List ℕ) (xs : List (ℕ × Upload))
    → filter (λ e. not (is_among ns e.0)) (others n xs) ≡ filter (λ e. not (is_among (n ∷ ns) e.0)) xs
rest_others n ns [] = refl
rest_others n ns (x ∷ xs) =
    elim (cases_eq x.0 n) [
      | inl same ↦ rw (eq-eqb x.0 n same) (rest_others n ns xs)
      | inr other ↦ rw (ne_eqb x.0 n other)
          (ap (λ ys. if not (is_among ns x.0) then x ∷ ys else ys) (rest_others n ns xs))
    ]

left_all : (m : Store) → left m [] ≡ m
left_all m = ap (λ us. record m { uploads = us }) (rest_all m.uploads)

left_deleted : (m : Store) (n : ℕ) (ns : List ℕ) → left (deleted_store m n) ns ≡ left m (n ∷ ns)
left_deleted m n ns = ap (λ us. record m { uploads = us }) (rest_others n ns m.uploads)

pub first_stage : (m : Store) (ns : List ℕ) → Among m (stages m ns)
first_stage m [] = inl refl
first_stage m (n ∷ ns) = inl refl

and_again : (a b c d : Bool) → b ≡ c → (a && b) && d ≡ a && (c && d)
and_again a b c d e = grind arith

-- ON THE WAY: the store, what was written, and what is still to be deleted
pub record Halfway {U B : Type 0} (u : Ghosts U B) (sure : Bool) (w : World) (before now : U) (numbers rest : List ℕ)
    (prefix held : Option (List ℕ)) (all : Bool) : Type 0 where
  pub store : Store
  pub represents : u.represents now sure (record w { store = store })
  pub remains : left store rest ≡ left w.store numbers
  pub out : List ℕ
  pub wrote : Appends prefix held out
  pub lines : out ++ deletion_lines store rest ≡ deletion_lines w.store numbers
  pub there : all && all_there store rest ≡ all_there w.store numbers
  pub passed : AreAllAmong (stages store rest) (stages w.store numbers)
  pub limits : sure ≡ true → LimitsToAll (u.moment before) (u.moment now) (u.left_only before) (u.left_only now)
      (stages w.store numbers)

module _ {U B : Type 0} (u : Ghosts U B) (sure : Bool) (w : World) (numbers : List ℕ) where
  pub begun : (now : U) (prefix : Option (List ℕ)) → u.represents now sure w
      → Halfway u sure w now now numbers numbers prefix prefix true
  begun now prefix represents = record {
    store = w.store;
    represents = represents;
    remains = refl;
    out = [];
    wrote = Appends-nil prefix;
    lines = refl;
    there = refl;
    passed = λ m among. among;
    limits = λ e. record { later = omega arith; limits = λ blocks t ms le left among. left };
  }

  module _ (before now next : U) (n : ℕ) (rest : List ℕ) (prefix held : Option (List ℕ)) (all : Bool)
      (is : Halfway u sure w before now numbers (n ∷ rest) prefix held all)
      (crash : sure ≡ true → Limits (u.moment now) (u.moment next) (u.left_only now) (u.left_only next) is.store
      (deleted_store is.store n)) where
    pub limits_more : sure ≡ true → LimitsToAll (u.moment before) (u.moment next) (u.left_only before)
        (u.left_only next)
        (stages w.store numbers)
    limits_more e = record {
      later = omega (arith, (is.limits e).later, (crash e).later);
      limits = λ blocks t ms le left among.
          (crash e).limits blocks t ms (omega (arith, le, (is.limits e).later))
          ((is.limits e).limits blocks t ms le left among)
          (among is.store (is.passed is.store (inl refl)))
          (among (deleted_store is.store n) (is.passed (deleted_store is.store n)
          (inr (first_stage (deleted_store is.store n) rest))));
    }

    pub further : (on : Option (List ℕ)) (there : Bool)
        → u.represents next sure (terminated (record w { store = is.store }) n)
        → there ≡ is_there (upload_of is.store n) → Appends held on (deletion_line there n)
        → Halfway u sure w before next numbers rest prefix on (all && there)
    further on there represents same line = record {
      store = deleted_store is.store n;
      represents = represents;
      remains = left_deleted is.store n rest ∙ is.remains;
      out = is.out ++ deletion_line there n;
      wrote = Appends-trans prefix held on is.out (deletion_line there n) is.wrote line;
      lines = append_assoc is.out (deletion_line there n) (deletion_lines (deleted_store is.store n) rest)
          ∙ (ap (λ b. is.out ++ (deletion_line b n ++ deletion_lines (deleted_store is.store n) rest)) same
          ∙ is.lines);
      there = and_again all there (is_there (upload_of is.store n)) (all_there (deleted_store is.store n) rest) same
          ∙ is.there;
      passed = λ m among. is.passed m (inr among);
      limits = limits_more;
    }

  module _ (before now : U) (prefix held : Option (List ℕ)) (all : Bool)
      (is : Halfway u sure w before now numbers [] prefix held all) where
    pub done_represents : u.represents now sure (record w { store = left w.store numbers })
    done_represents = rw (sym is.remains ∙ left_all is.store) is.represents

    pub done_lines : Appends prefix held (deletion_lines w.store numbers)
    done_lines = rw (sym is.lines ∙ append-nil is.out) is.wrote

    pub done_all : all ≡ all_there w.store numbers
    done_all = sym (and-true all) ∙ is.there
