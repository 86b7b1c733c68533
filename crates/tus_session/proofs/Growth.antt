-- What a patch brings to an upload, and its text.
use Rattle.std.proofs.Common.{◌≡◌, ℕ, List, [], ◌++◌, Bool, false, Option, Some, None, refl, sym, ◌∙◌, ap, append-nil}
use Rattle.std.proofs.Common.{append_assoc}
use Rattle.enc_model.specs.Indexes.{IndexSet}
use Rattle.upload_rules.specs.Lengths.{known_or}
use Rattle.upload_rules.specs.Store.{Upload, with_length, patched, text_of, text_with, is_complete}
use Rattle.upload_rules.proofs.Commits.{text_of_is, text_patched}
use Rattle.upload_rules.proofs.Longer.{text_at_start, stays_without_code}

known_already : (known : Option ℕ) → known_or known None ≡ known
known_already None = refl
known_already (Some n) = refl

known_still : (known first second : Option ℕ)
    → known_or (known_or known first) second ≡ known_or known (known_or first second)
known_still None first second = refl
known_still (Some n) first second = refl

-- a patch that brings nothing
pub patched_nothing : (u : Upload) → u ≡ patched u None []
patched_nothing u =
    sym (ap (λ z. record (with_length u None) { accepted = z }) (append-nil u.accepted)
    ∙ ap (λ k. record u { declared = k }) (known_already u.declared))

-- two patches bring what one does
pub patched_twice : (u : Upload) (first second : Option ℕ) (bytes more : List ℕ)
    → patched (patched u first bytes) second more ≡ patched u (known_or first second) (bytes ++ more)
patched_twice u first second bytes more =
    ap (λ k. record u { declared = k; accepted = (u.accepted ++ bytes) ++ more }) (known_still u.declared first second)
    ∙ ap (λ z. record (with_length u (known_or first second)) { accepted = z }) (append_assoc u.accepted bytes more)

-- the text of an upload is a prefix of another's
abbrev pub IsLonger : IndexSet → Upload → Upload → Type 0
IsLonger x u v = (more : List ℕ) × (text_of x v ≡ text_of x u ++ more)

longer_case : (x : IndexSet) (u : Upload) (declare : Option ℕ) (bytes : List ℕ) (done : Bool) → is_complete u ≡ false
    → (text_with x u bytes done).fault ≡ None
    → (o : Option ℕ) → (text_with x u [] false).fault ≡ o
    → IsLonger x u (patched u declare bytes)
longer_case x u declare bytes done unfinished value None e = text_at_start x u declare bytes unfinished e
longer_case x u declare bytes done unfinished value (Some c) e =
    let f : Some c ≡ None = sym (stays_without_code x u [] bytes done c e) ∙ value in
    absurd (cc)

-- the text of an upload that isn't complete is a prefix of its text with further bytes, where that has a value
pub text_longer : (x : IndexSet) (u : Upload) (declare : Option ℕ) (bytes : List ℕ) (done : Bool)
    → is_complete u ≡ false → (text_with x u bytes done).fault ≡ None
    → IsLonger x u (patched u declare bytes)
text_longer x u declare bytes done unfinished value =
    longer_case x u declare bytes done unfinished value (text_with x u [] false).fault refl

-- and it stays where a length is declared that isn't reached
pub text_same : (x : IndexSet) (u : Upload) (declare : Option ℕ) → is_complete u ≡ false
    → is_complete (patched u declare []) ≡ false
    → IsLonger x u (patched u declare [])
text_same x u declare unfinished unreached = (
  [],
  text_patched x u declare [] ∙ ap (λ b. (text_with x u [] b).bytes) (unreached ∙ sym unfinished)
      ∙ sym (text_of_is x u) ∙ sym (append-nil (text_of x u)),
)
