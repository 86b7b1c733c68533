-- A vector that grows in parts.
use Rattle.std.proofs.Common.{ℕ, List, ◌++◌, ◌≡◌, ◌<◌, ◌≤◌, ◌+◌, sym, ◌∙◌, ap, append_assoc}
use Rattle.std.proofs.Common.{arith, length, length-append, Vec, Result, Ok, Err, vec_capacity, vec_len}
use Rattle.std.proofs.Common.{subst, take, drop, take-append-drop, ◌⊎◌, inl, inr}
use Rattle.std.proofs.lemmas.List.{take_all, take-take, length-take, length-take-le, length-drop}
use Rattle.std.proofs.Math.Seq.{take-add}
use Rattle.std.specs.Result.{IsErrAnd}
use Rattle.enc_model.specs.Transcode.{GrownByPrefix}
use Rattle.enc_encode.specs.Growth.{Appended, Stopped, Grew}

-- what is a part of the prefix is one of the whole
grown_prefix : (old x y new : List ℕ) → GrownByPrefix old x new → GrownByPrefix old (x ++ y) new
grown_prefix old x y new p = record {
  prefix = p.prefix;
  rest = p.rest ++ y;
  parts = ap (λ w. w ++ y) p.parts ∙ append_assoc p.prefix p.rest y;
  out = p.out;
}

-- after the whole prefix
grown_more : (old x y mid new : List ℕ) → mid ≡ old ++ x → GrownByPrefix mid y new → GrownByPrefix old (x ++ y) new
grown_more old x y mid new m p = record {
  prefix = x ++ p.prefix;
  rest = p.rest;
  parts = ap (λ w. x ++ w) p.parts ∙ sym (append_assoc x p.prefix p.rest);
  out = p.out ∙ ap (λ w. w ++ p.prefix) m ∙ append_assoc old x p.prefix;
}

-- by the first so many bytes, which fill what room there was, or are all
pub record Filled {Z : Type 0} (old : Vec ℕ Z) (x : List ℕ) (n : ℕ) (new : Vec ℕ Z) : Type 0 where
  pub within : n ≤ length x
  pub items : new.items ≡ old.items ++ take n x
  pub capacity : vec_capacity old ≤ vec_capacity new
  pub full : (vec_capacity old ≤ length old.items + n) ⊎ (length x ≤ n)

module _ {Z : Type 0} where
  -- by the first so many bytes, for all of which there was no room
  pub some_of : (old : Vec ℕ Z) (x : List ℕ) (n : ℕ) (new : Vec ℕ Z) → Filled old x n new → n < length x
      → Stopped old x new
  some_of old x n new p short = record {
    items = record { prefix = take n x; rest = drop n x; parts = sym (take-append-drop n x); out = p.items };
    full = elim p.full [
      | inl l ↦ omega (arith, l, short)
      | inr l ↦ absurd (omega (arith, l, short))
    ];
  }

  pub some_full : (old : Vec ℕ Z) (x : List ℕ) (n : ℕ) (new : Vec ℕ Z) → Filled old x n new → n < length x
      → vec_capacity old ≤ length new.items
  some_full old x n new p short =
      let e : length new.items ≡ length (old.items ++ take n x) = ap length p.items in
      let l = length-append old.items (take n x) in
      let m = length-take-le n x (omega (arith, short)) in
      elim p.full [
        | inl f ↦ omega (arith, e, l, m, f)
        | inr f ↦ absurd (omega (arith, f, short))
      ]

  -- by all of them
  pub all_of : (old : Vec ℕ Z) (x : List ℕ) (n : ℕ) (new : Vec ℕ Z) → Filled old x n new → length x ≤ n
      → Appended old x new
  all_of old x n new p l = record {
    items = p.items ∙ ap (λ z. old.items ++ z) (take_all n x l);
    capacity = p.capacity;
  }

  -- by some more
  pub more_of : (old : Vec ℕ Z) (x : List ℕ) (n k m : ℕ) (mid new : Vec ℕ Z) → Filled old x n mid
      → m ≤ length (take k (drop n x)) → new.items ≡ mid.items ++ take m (take k (drop n x))
      → vec_capacity mid ≤ vec_capacity new → Filled old x (n + m) new
  more_of old x n k m mid new p few e a =
      let l = length-take k (drop n x) in
      let left = length-drop n x in
      let within = p.within in
      let small : m ≤ k = omega (arith, few, l) in
      let b = p.capacity in record {
        within = omega (arith, few, l, left, within);
        items = e ∙ ap (λ z. mid.items ++ z) (take-take m k (drop n x) small)
            ∙ ap (λ z. z ++ take m (drop n x)) p.items ∙ append_assoc old.items (take n x) (take m (drop n x))
            ∙ ap (λ z. old.items ++ z) (sym (take-add n m x));
        capacity = omega (arith, a, b);
        full = elim p.full [
          | inl f ↦ inl (omega (arith, f))
          | inr f ↦ inr (omega (arith, f))
        ];
      }

  -- by a call that is refused, and then by another
  pub again : {X E : Type 0} (old : Vec ℕ Z) (x : List ℕ) (mid new : Vec ℕ Z) (r : Result X E)
      → mid.items ≡ old.items → vec_capacity old ≤ vec_capacity mid → vec_capacity old < vec_len old + length x
      → Grew mid x new r → Grew old x new r
  again old x mid new (Ok v) e a f p = record {
    items = p.items ∙ ap (λ z. z ++ x) e;
    capacity = let b = p.capacity in omega (arith, a, b);
  }
  again old x mid new (Err v) e a f p = record {
    items = subst (λ z. GrownByPrefix z x new.items) e p.items;
    full = let l = old.ok.0 in omega (arith, f, l);
  }

  -- refused in its first part
  pub prefix : {old : Vec ℕ Z} {x : List ℕ} {new : Vec ℕ Z} (y : List ℕ) → Stopped old x new → Stopped old (x ++ y) new
  prefix {old} {x} {new} y p = record {
    items = grown_prefix old.items x y new.items p.items;
    full = let l = length-append x y in let f = p.full in omega (arith, l, f);
  }

  -- refused after a part
  pub after_part : {old : Vec ℕ Z} {x y : List ℕ} {mid new : Vec ℕ Z} → Appended old x mid → Stopped mid y new
      → Stopped old (x ++ y) new
  after_part {old} {x} {y} {mid} {new} p q = record {
    items = grown_more old.items x y mid.items new.items p.items q.items;
    full =
        let l = length-append x y in let m =
        length-append old.items x in let i : length mid.items ≡ length (old.items ++ x) = ap length p.items in
        let f = q.full in let a = p.capacity in omega (arith, l, m, i, f, a);
  }

  -- a part, and then another
  pub both : {old : Vec ℕ Z} {x y : List ℕ} {mid new : Vec ℕ Z} → Appended old x mid → Appended mid y new
      → Appended old (x ++ y) new
  both {old} {x} {y} {mid} {new} p q = record {
    items = q.items ∙ ap (λ z. z ++ y) p.items ∙ append_assoc old.items x y;
    capacity = let a = p.capacity in let b = q.capacity in omega (arith, a, b);
  }

  pub more : {X E : Type 0} {old : Vec ℕ Z} {x : List ℕ} (y : List ℕ) {mid : Vec ℕ Z} (new : Vec ℕ Z) (r : Result X E)
      → Appended old x mid → Grew mid y new r → Grew old (x ++ y) new r
  more y new (Ok w) p q = both p q
  more y new (Err w) p q = after_part p q

  -- at the exit of a `?`
  pub exit : {X E : Type 0} {old : Vec ℕ Z} {x : List ℕ} {new : Vec ℕ Z} (Q : E → Type 0) (r : Result X E)
      → IsErrAnd r Q → Stopped old x new → Grew old x new r
  exit Q (Ok v) h p = absurd h
  exit Q (Err v) h p = p
