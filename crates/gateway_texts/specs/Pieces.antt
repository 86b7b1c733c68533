-- A text that is written piece by piece.
use Rattle.std.proofs.Common.{◌≡◌, ◌∙◌, ap, arith, refl, subst, sym, ℕ, ◌+◌, ◌-◌, ◌≤◌, Bool, List, ◌++◌}
use Rattle.std.proofs.Common.{length, take, drop, Option}
use Rattle.std.proofs.lemmas.List.{drop-take, length-append, take-append-drop, take-take, take_all}
use Rattle.std.proofs.KnownBytes.{Appends-trans}
use Rattle.upload_rules.specs.Answers.{Quiet}
use Rattle.upload_rules.specs.Store.{Store}
use Rattle.gateway_outside.specs.Changing.{LimitsToAll}
use Rattle.gateway_texts.specs.Copies.{AppendsOf, AreOf}

pub take_on : (n m : ℕ) (xs : List ℕ) → take n xs ++ take m (drop n xs) ≡ take (n + m) xs
take_on n m xs =
    ap (λ ys. ys ++ take m (drop n xs)) (sym (take-take n (n + m) xs (omega arith)))
    ∙ (ap (λ ys. take n (take (n + m) xs) ++ ys) (sym (drop-take n m xs)) ∙ take-append-drop n (take (n + m) xs))

-- the text itself
pub are_same : (sure : Bool) (text : List ℕ) → AreOf sure text text
are_same sure text = record { size = refl; same = λ e. refl }

pub are_both : (sure : Bool) (xs' ys' xs ys : List ℕ) → AreOf sure xs' xs → AreOf sure ys' ys
    → AreOf sure (xs' ++ ys') (xs ++ ys)
are_both sure xs' ys' xs ys a b = record {
  size = length-append xs' ys'
      ∙ (ap (λ n. n + length ys') a.size ∙ (ap (λ n. length xs + n) b.size ∙ sym (length-append xs ys)));
  same = λ e. ap (λ zs. zs ++ ys') (a.same e) ∙ ap (λ zs. xs ++ zs) (b.same e);
}

-- one piece more was written
pub more_written : (sure : Bool) (text : List ℕ) (at next : ℕ) (a b c : Option (List ℕ)) → at ≤ next
    → AppendsOf sure a b (take at text) → AppendsOf sure b c (take (next - at) (drop at text))
    → AppendsOf sure a c (take next text)
more_written sure text at next a b c le before now = record {
  bytes = before.bytes ++ now.bytes;
  are = subst (λ x. AreOf sure (before.bytes ++ now.bytes) x)
      (take_on at (next - at) text ∙ ap (λ k. take k text) (omega (arith, le)))
      (are_both sure before.bytes now.bytes (take at text) (take (next - at) (drop at text)) before.are now.are);
  wrote = Appends-trans a b c before.bytes now.bytes before.wrote now.wrote;
}

pub all_written : (sure : Bool) (text : List ℕ) (at : ℕ) (a b : Option (List ℕ)) → length text ≤ at
    → AppendsOf sure a b (take at text) → AppendsOf sure a b text
all_written sure text at a b most all = rw (take_all at text most) at all

pub quiet_both : (m0 m1 m2 : ℕ) (l0 l1 l2 : Option ℕ → ℕ → List Store → Type 0) → Quiet m0 m1 l0 l1
    → Quiet m1 m2 l1 l2 → Quiet m0 m2 l0 l2
quiet_both m0 m1 m2 l0 l1 l2 a b = record {
  later = let x = a.later in let y = b.later in omega (arith, x, y);
  limits = λ blocks t ms le left.
      let x = a.later in b.limits blocks t ms (omega (arith, le, x)) (a.limits blocks t ms le left);
}

-- a call that writes nothing that a text owns leaves the uploads that it found
pub quiet_limits : (m0 m1 : ℕ) (l0 l1 : Option ℕ → ℕ → List Store → Type 0) (stores : List Store) → Quiet m0 m1 l0 l1
    → LimitsToAll m0 m1 l0 l1 stores
quiet_limits m0 m1 l0 l1 stores q = record {
  later = q.later;
  limits = λ blocks t ms le left among. q.limits blocks t ms le left;
}
