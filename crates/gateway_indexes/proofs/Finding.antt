-- A file of a folder in memory, looked for by its name.
use Rattle.std.proofs.Common.{◌≡◌, ◌∙◌, ◌+◌, ◌<◌, ◌≤◌, ℕ, List, [], ◌∷◌, Option, None, Some, ap, drop, get_or, length}
use Rattle.std.proofs.Common.{bytes_eq, false, refl, string_bytes, sym, true}
use Rattle.std.proofs.lemmas.List.{drop_all, drop_more}
use Rattle.gateway_indexes.specs.Memory.{content_in}
use Rattle.gateway_indexes.specs.declared.memory.HeldFile.{HeldFile}

first : (name : List ℕ) (file : HeldFile) (files : List HeldFile) → bytes_eq (string_bytes file.name) name ≡ true
    → content_in name (file ∷ files) ≡ Some file.content.items
unfolding content_in
first name file files is = rw is refl

later : (name : List ℕ) (file : HeldFile) (files : List HeldFile) → bytes_eq (string_bytes file.name) name ≡ false
    → content_in name (file ∷ files) ≡ content_in name files
unfolding content_in
later name file files is = rw is refl

none : (name : List ℕ) → content_in name [] ≡ None
unfolding content_in
none name = refl

module _ (name : List ℕ) (files : List HeldFile) (i : ℕ) (file : HeldFile)
    (left : content_in name (drop i files) ≡ content_in name files) where
  pub found_here : i < length files → file ≡ get_or files i file → bytes_eq (string_bytes file.name) name ≡ true
      → Some file.content.items ≡ content_in name files
  found_here less is same =
      sym (first name file (drop (i + 1) files) same)
      ∙ ap (λ f. content_in name (f ∷ drop (i + 1) files)) is
      ∙ ap (content_in name) (sym (drop_more files i file less)) ∙ left

  pub not_here : i < length files → file ≡ get_or files i file → bytes_eq (string_bytes file.name) name ≡ false
      → content_in name (drop (i + 1) files) ≡ content_in name files
  not_here less is other =
      sym (later name file (drop (i + 1) files) other)
      ∙ ap (λ f. content_in name (f ∷ drop (i + 1) files)) is
      ∙ ap (content_in name) (sym (drop_more files i file less)) ∙ left

pub nowhere : (name : List ℕ) (files : List HeldFile) (i : ℕ)
    → content_in name (drop i files) ≡ content_in name files → length files ≤ i → None ≡ content_in name files
nowhere name files i left past =
    sym (none name) ∙ ap (content_in name) (sym (drop_all i files past)) ∙ left
