-- Files that are compared with texts, piece by piece.
use Rattle.std.proofs.Common.{◌≡◌, ◌∙◌, ap, arith, subst, sym, ℕ, ◌+◌, ◌≤◌, Bool, true, false, List}
use Rattle.std.proofs.Common.{◌++◌, Ok, Result, length, take, drop}
use Rattle.std.specs.Prelude.{bytes_eq}
use Rattle.std.proofs.lemmas.List.{take_all}
use Rattle.std.proofs.lemmas.Slice.Eq.{bytes_eq-Decides}
use Rattle.tus_request.proofs.FieldLemmas.{bytes_eq_other}
use Rattle.gateway_texts.specs.Copies.{AreOf}
use Rattle.gateway_texts.specs.Pieces.{are_both, take_on}
use Rattle.gateway_export.specs.Exporting.{IsLike, IsText}
use Rattle.gateway_export.specs.declared.comparing.Likeness.{Likeness}
use Rattle.gateway_export.specs.declared.comparing.Likeness.TheVariants.{Other, Same, Unread}

same_eq : (x : List ℕ) → bytes_eq x x ≡ true
same_eq x = grind (arith, bytes_eq-Decides x x)

-- one piece, which was read as this
pub piece_is : (sure : Bool) (bytes read text : List ℕ) (same : Bool) → AreOf sure read text
    → same ≡ bytes_eq bytes read → IsText sure bytes text same
piece_is sure bytes read text same are is = record {
  yes = λ e. subst (λ z. AreOf sure z text) (sym ((bytes_eq-Decides bytes read).0 (sym is ∙ e))) are;
  no = λ e. is ∙ ap (λ z. bytes_eq bytes z) (are.same e);
}

-- as many bytes of both
pub piece_same : {sure : Bool} {read : List ℕ} (bytes text : List ℕ) (at : ℕ) {n m count : ℕ} {same : Bool} → n ≡ count
    → m ≡ count → AreOf sure read (take n (drop at text)) → same ≡ bytes_eq (take m (drop at bytes)) read
    → IsText sure (take count (drop at bytes)) (take count (drop at text)) same
piece_same {sure = sure} {read = read} bytes text at {same = same} few most are is =
    piece_is sure _ read _ same (subst (λ k. AreOf sure read (take k (drop at text))) few are)
    (is ∙ ap (λ k. bytes_eq (take k (drop at bytes)) read) most)

pub same_more : (sure : Bool) (bytes text : List ℕ) (at count : ℕ) → AreOf sure (take at bytes) (take at text)
    → AreOf sure (take count (drop at bytes)) (take count (drop at text))
    → AreOf sure (take (at + count) bytes) (take (at + count) text)
same_more sure bytes text at count before now =
    subst (λ x. AreOf sure x (take (at + count) text)) (take_on at count bytes)
    (subst (λ x. AreOf sure (take at bytes ++ take count (drop at bytes)) x) (take_on at count text)
    (are_both sure (take at bytes) (take count (drop at bytes)) (take at text) (take count (drop at text)) before now))

-- what a comparison came to
pub like_same : (sure : Bool) (bytes text : List ℕ) (likeness : Likeness) → likeness ≡ Same
    → IsLike sure bytes text likeness → IsText sure bytes text true
like_same sure bytes text likeness is like = rw is at like

pub like_other : (sure : Bool) (bytes text : List ℕ) (likeness : Likeness) → likeness ≡ Other
    → IsLike sure bytes text likeness → IsText sure bytes text false
like_other sure bytes text likeness is like = rw is at like

-- what is the same was read
pub same_read : {E : Type 0} (likeness : Likeness) → likeness ≡ Same
    → ◌≡◌ {A = Result Likeness E} (Ok likeness) (Ok Unread) → ⊥
same_read likeness is unread = absurd (cc)

-- where one piece differs, all does
pub whole_differs : (sure : Bool) (bytes text : List ℕ) (at count : ℕ)
    → IsText sure (take count (drop at bytes)) (take count (drop at text)) false → IsText sure bytes text false
whole_differs sure bytes text at count piece = record {
  yes = λ never. absurd (cc);
  no = λ e. sym (bytes_eq_other bytes text (λ one.
      let equal : bytes_eq (take count (drop at bytes)) (take count (drop at text)) ≡ true =
      subst (λ z. bytes_eq (take count (drop at bytes)) (take count (drop at z)) ≡ true) one
      (same_eq (take count (drop at bytes))) in
      let bad : true ≡ false = sym equal ∙ sym (piece.no e) in absurd (cc)));
}

-- and where its length does
pub long_differs : (sure : Bool) (bytes text : List ℕ) → (length bytes ≡ length text → ⊥)
    → IsText sure bytes text false
long_differs sure bytes text differs = record {
  yes = λ never. absurd (cc);
  no = λ e. sym (bytes_eq_other bytes text (λ one. differs (ap (λ z. length z) one)));
}

pub whole_same : (sure : Bool) (bytes text : List ℕ) (at : ℕ) → length bytes ≤ at → length text ≤ at
    → AreOf sure (take at bytes) (take at text) → IsText sure bytes text true
whole_same sure bytes text at most most' are =
    let all : AreOf sure bytes text = rw (take_all at bytes most, take_all at text most') at are in
    record {
      yes = λ e. all;
      no = λ e. subst (λ z. true ≡ bytes_eq bytes z) (all.same e) (sym (same_eq bytes));
    }
