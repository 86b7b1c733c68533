-- Lists of reserved blocks, one for each draft number, where one of them changes.
use Rattle.std.proofs.lemmas.Grind.{common_steps}
use Rattle.std.proofs.Common.{◌≡◌, ◌≢◌, ◌⊎◌, inl, inr, ℕ, ◌+◌, ◌++◌, List, [], true, false}
use Rattle.std.proofs.Common.{length, get_or, sym, ◌∙◌, ap, subst, arith}
use Rattle.std.proofs.lemmas.Bool.{cases_eq, both_ways}
use Rattle.std.proofs.lemmas.List.{get_or_append_left, get_or-append-add, length-append}
use Rattle.spool_blocks.specs.Blocks.{Held}
use Rattle.spool_texts.specs.Drafts.{IsReserved, Takes, GivesBack}
use Rattle.spool_texts.specs.Written.{NoneOf}
use Rattle.spool_room.specs.Holdings.{IsInSome}
use Rattle.spool_drafts.specs.Effect.{IsIn}
use Rattle.spool_catalog.proofs.slots.Members.{IsOut, place_or_out}

-- MEMBERS

pub cases_in : (list : List ℕ) (b : ℕ) → IsIn list b ⊎ IsOut list b
cases_in list b = elim (place_or_out list b) [
  | inl is ↦ inl (record { at = is.at; below = is.below; here = is.here })
  | inr out ↦ inr out
]

pub out_of_more : (list more : List ℕ) (b : ℕ) → IsOut (list ++ more) b → IsOut list b
out_of_more list more b out i lt e =
    out i (omega (arith, lt, length-append list more)) (get_or_append_left list more 0 i lt ∙ e)

pub none_sym : (a b : List ℕ) → NoneOf a b → NoneOf b a
none_sym a b apart i k lt lt' e = apart k i lt' lt (sym e)

pub none_in_nothing : (a b : List ℕ) → a ≡ [] → NoneOf a b
none_in_nothing a b none i k lt lt' e = omega (arith, lt, ap length none)

-- BLOCKS TAKEN AND GIVEN BACK

pub taken_preserves : {old new : Held} {list list' : List ℕ} (other : List ℕ) → Takes old new list list'
    → IsReserved old other → IsReserved new other
taken_preserves other takes is = search (arith, common_steps)

pub taken_apart : {old new : Held} {list list' : List ℕ} (other : List ℕ) → Takes old new list list'
    → IsReserved old other → NoneOf list other → NoneOf list' other
taken_apart {old = old} {list = list} {list' = list'} other takes is apart i k lt lt' e = search (arith, common_steps)

-- a block that was not taken was reserved before
pub reserved_before : {old new : Held} {list list' : List ℕ} (b : ℕ) → Takes old new list list'
    → get_or new.reserved b false ≡ true → IsOut list' b → get_or old.reserved b false ≡ true
reserved_before {list = list} b takes is out =
    sym (takes.others b (λ i lt e. out (length list + i)
    (omega (arith, lt, ap length takes.grown, length-append list takes.more))
    (cc (get_or-append-add list takes.more i 0)))) ∙ is

pub given_preserves : {old new : Held} {list : List ℕ} (other : List ℕ) → GivesBack old new list → IsReserved old other
    → NoneOf list other → IsReserved new other
given_preserves other gives is apart = search (arith, common_steps)

-- a block that is reserved after was not given back, and was reserved
pub unchanged_out : {old new : Held} {list : List ℕ} (b : ℕ) → GivesBack old new list
    → get_or new.reserved b false ≡ true
    → IsOut list b
unchanged_out {new = new} b gives is i lt e = both_ways (get_or new.reserved b false) (rw e at (gives.given i lt)) is

-- ANOTHER LIST AT ONE NUMBER

-- the list of this number is another one
pub record IsSwapped (old : ℕ → List ℕ) (d : ℕ) (list : List ℕ) (new : ℕ → List ℕ) : Type 0 where
  pub here : new d ≡ list
  pub others : (e : ℕ) → d ≢ e → new e ≡ old e

module _ (old new : ℕ → List ℕ) (d : ℕ) (list : List ℕ) (swapped : IsSwapped old d list new) where
  pub all_reserved : (h : Held) → IsReserved h list → ((e : ℕ) → d ≢ e → IsReserved h (old e)) → (e : ℕ)
      → IsReserved h (new e)
  all_reserved h own is e = search (arith, common_steps)

  pub all_apart : ((e : ℕ) → d ≢ e → NoneOf list (old e)) → ((e f : ℕ) → e ≢ f → NoneOf (old e) (old f)) → (e f : ℕ)
      → e ≢ f → NoneOf (new e) (new f)
  all_apart own is e f other =
      elim (cases_eq d e) [
        | inl same ↦ subst (λ (k : ℕ). NoneOf (new k) (new f)) same (of_own f (λ g. other (sym same ∙ g)))
        | inr first ↦ elim (cases_eq d f) [
          | inl same ↦ none_sym (new f) (new e) (subst (λ (k : ℕ). NoneOf (new k) (new e)) same (of_own e first))
          | inr second ↦ rw (← (swapped.others e first)) at (rw (← (swapped.others f second)) at (is e f other))
        ]
      ]
    where
      of_own : (f : ℕ) → d ≢ f → NoneOf (new d) (new f)
      of_own f away = rw (← swapped.here) at (rw (← (swapped.others f away)) at (own f away))

  pub in_own : (b : ℕ) → IsIn list b → IsInSome new b
  in_own b is = search (arith, common_steps)

  -- a block of another list
  pub in_other : (b : ℕ) → IsInSome old b → IsOut (old d) b → IsInSome new b
  in_other b is out = search (arith, common_steps)
