-- An upload's text with what a patch brings.
use Rattle.std.proofs.Common.{◌≡◌, ℕ, Bool, false, List, [], ◌++◌, Option, Some, None, sym, ◌∙◌, ap}
use Rattle.std.proofs.Common.{append_assoc, append-nil}
use Rattle.enc_model.specs.Indexes.{IndexSet, tables}
use Rattle.upload_rules.specs.Store.{Upload, text_from, text_of, text_with, patched, is_complete}
use Rattle.upload_rules.proofs.TextGrows.{text_after, fault_stays}
use Rattle.upload_rules.proofs.Commits.{text_patched, text_of_is}

pub text_at_start : (x : IndexSet) (u : Upload) (declare : Option ℕ) (bytes : List ℕ) → is_complete u ≡ false
    → (text_with x u [] false).fault ≡ None
    → (more : List ℕ) × (text_of x (patched u declare bytes) ≡ text_of x u ++ more)
text_at_start x u declare bytes incomplete value =
    let nil = append-nil u.accepted in
    let done = is_complete (patched u declare bytes) in
    let grown = text_after (tables x) u.from u.to u.mode u.origin u.accepted
    (ap (λ b. (text_from (tables x) u.origin u.from u.to u.mode b false).fault) (sym nil) ∙ value) bytes done in (
      grown.0,
      text_patched x u declare bytes ∙ grown.1
          ∙ ap (λ z. z ++ grown.0) (ap (λ b. (text_from (tables x) u.origin u.from u.to u.mode b false).bytes) (sym nil)
          ∙ ap (λ d. (text_with x u [] d).bytes) (sym incomplete) ∙ sym (text_of_is x u)),
    )

pub stays_without_code : (x : IndexSet) (u : Upload) (bytes more : List ℕ) (done : Bool) (c : ℕ)
    → (text_with x u bytes false).fault ≡ Some c
    → (text_with x u (bytes ++ more) done).fault ≡ Some c
stays_without_code x u bytes more done c h =
    ap (λ b. (text_from (tables x) u.origin u.from u.to u.mode b done).fault) (sym (append_assoc u.accepted bytes more))
    ∙ fault_stays (tables x) u.from u.to u.mode u.origin (u.accepted ++ bytes) more done c h
