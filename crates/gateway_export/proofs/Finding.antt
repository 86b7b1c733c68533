-- A file of a folder in memory, looked for by its name.
use Rattle.std.proofs.Common.{◌≡◌, ◌∙◌, ◌+◌, ◌<◌, ◌≤◌, ℕ, Bool, List, [], ◌∷◌, ◌++◌, Option, None, Some, ap, inl, inr}
use Rattle.std.proofs.Common.{bytes_eq, drop, false, get_or, if◌then◌else◌, length, refl, string_bytes, sym, true}
use Rattle.std.proofs.Common.{arith, min, nat_le, take}
use Rattle.std.proofs.lemmas.Bool.{cases_lt}
use Rattle.std.proofs.lemmas.List.{drop_all, drop_more, take_all}
use Rattle.std.proofs.lemmas.Slice.Eq.{bytes_eq-Decides}
use Rattle.gateway_outside.specs.Bools.{true_or_false}
use Rattle.gateway_outside.specs.Files.{Files}
use Rattle.gateway_export.specs.Folders.{HoldsAll, with_file}
use Rattle.gateway_export.specs.Memory.{HoldsFiles, content_in, files_in, longest_in, takes_in, text_in}
use Rattle.gateway_export.specs.declared.memory.HeldText.{HeldText}
use Rattle.gateway_export.specs.declared.memory.MemoryTexts.{MemoryTexts}
use Rattle.gateway_export.proofs.Exported.{new_preserves}

first : (name : List ℕ) (file : HeldText) (files : List HeldText) → bytes_eq name (string_bytes file.name) ≡ true
    → content_in name (file ∷ files) ≡ Some file.content.items
unfolding content_in
first name file files is = rw is refl

later : (name : List ℕ) (file : HeldText) (files : List HeldText) → bytes_eq name (string_bytes file.name) ≡ false
    → content_in name (file ∷ files) ≡ content_in name files
unfolding content_in
later name file files is = rw is refl

none : (name : List ℕ) → content_in name [] ≡ None
unfolding content_in
none name = refl

module _ (name : List ℕ) (files : List HeldText) (i : ℕ) (file : HeldText)
    (left : content_in name (drop i files) ≡ content_in name files) where
  pub found_here : i < length files → file ≡ get_or files i file → bytes_eq name (string_bytes file.name) ≡ true
      → Some file.content.items ≡ content_in name files
  found_here less is same =
      sym (first name file (drop (i + 1) files) same)
      ∙ ap (λ f. content_in name (f ∷ drop (i + 1) files)) is
      ∙ ap (content_in name) (sym (drop_more files i file less)) ∙ left

  pub not_here : i < length files → file ≡ get_or files i file → bytes_eq name (string_bytes file.name) ≡ false
      → content_in name (drop (i + 1) files) ≡ content_in name files
  not_here less is other =
      sym (later name file (drop (i + 1) files) other)
      ∙ ap (λ f. content_in name (f ∷ drop (i + 1) files)) is
      ∙ ap (content_in name) (sym (drop_more files i file less)) ∙ left

pub nowhere : (name : List ℕ) (files : List HeldText) (i : ℕ)
    → content_in name (drop i files) ≡ content_in name files → length files ≤ i → None ≡ content_in name files
nowhere name files i left past =
    sym (none name) ∙ ap (content_in name) (sym (drop_all i files past)) ∙ left

-- ONE MORE, last
other_last : (name : List ℕ) (files : List HeldText) (file : HeldText) → bytes_eq name (string_bytes file.name) ≡ false
    → content_in name (files ++ file ∷ []) ≡ content_in name files
other_last name [] file other = later name file [] other
other_last name (x ∷ files) file other = elim (true_or_false (bytes_eq name (string_bytes x.name))) [
  | inl same ↦ first name x (files ++ file ∷ []) same ∙ sym (first name x files same)
  | inr unlike ↦
      later name x (files ++ file ∷ []) unlike ∙ (other_last name files file other ∙ sym (later name x files unlike))
]

same_last : (name : List ℕ) (files : List HeldText) (file : HeldText) → content_in name files ≡ None
    → bytes_eq name (string_bytes file.name) ≡ true → content_in name (files ++ file ∷ []) ≡ Some file.content.items
same_last name [] file nothing same = first name file [] same
same_last name (x ∷ files) file nothing same = elim (true_or_false (bytes_eq name (string_bytes x.name))) [
  | inl here ↦
      let bad : ◌≡◌ {A = Option (List ℕ)} (Some x.content.items) None = sym (first name x files here) ∙ nothing in
      absurd (cc)
  | inr unlike ↦
      later name x (files ++ file ∷ []) unlike
      ∙ same_last name files file (sym (later name x files unlike) ∙ nothing) same
]

-- WHAT A FOLDER HOLDS, where it stays
pub holds_same : (a b : MemoryTexts) → text_in b ≡ text_in a → (files : Files) → HoldsFiles a files
    → HoldsFiles b files
holds_same a b same files held = λ name. held name ∙ ap (λ (t : Files). t name) (sym same)

pub all_same : (a b : MemoryTexts) → text_in b ≡ text_in a → (files : Files) → HoldsFiles a files
    → HoldsAll (HoldsFiles b) files
all_same a b same files held =
    record { now = files; held = holds_same a b same files held; preserves = λ name bytes here. here }

pub text_same : (a b : MemoryTexts) → files_in b ≡ files_in a → longest_in b ≡ longest_in a → text_in b ≡ text_in a
text_same a b same longest = λ i name. if nat_le (length name) (longest i) then content_in name (same i) else None

-- and where it has one more
with_last : (files : List HeldText) (file : HeldText) (given : Files) (takes : Bool) (name other : List ℕ)
    → given other ≡ (if takes then content_in other files else None)
    → content_in name files ≡ None → (bytes_eq other name ≡ true → takes ≡ true) → string_bytes file.name ≡ name
    → with_file given name file.content.items other
    ≡ (if takes then content_in other (files ++ file ∷ []) else None)
with_last files file given takes name other held nothing taken named = elim (true_or_false (bytes_eq other name)) [
  | inl same ↦
      let one : other ≡ name = (bytes_eq-Decides other name).0 same in
      let here : bytes_eq other (string_bytes file.name) ≡ true =
      ap (λ n. bytes_eq other n) named ∙ same in
      rw (same, taken same)
      (sym (same_last other files file (ap (λ n. content_in n files) one ∙ nothing) here))
  | inr unlike ↦
      let far : bytes_eq other (string_bytes file.name) ≡ false =
      ap (λ n. bytes_eq other n) named ∙ unlike in
      rw unlike (held ∙ ap (λ (there : Option (List ℕ)). if takes then there else None)
      (sym (other_last other files file far)))
]

pub added_held : (a b : MemoryTexts) (file : HeldText) (files : Files) (name : List ℕ) → HoldsFiles a files
    → files_in b ≡ files_in a ++ file ∷ [] → longest_in b ≡ longest_in a → takes_in a name ≡ true
    → string_bytes file.name ≡ name → files name ≡ None → HoldsFiles b (with_file files name file.content.items)
added_held a b file files name held more longest takes named nothing = λ other.
    let absent : content_in name (files_in a) ≡ None =
    sym (ap (λ (t : Bool). if t then content_in name (files_in a) else None) takes) ∙ (sym (held name) ∙ nothing) in
    with_last (files_in a) file files (takes_in a other) name other (held other) absent
    (λ same. ap (λ n. takes_in a n) ((bytes_eq-Decides other name).0 same) ∙ takes) named
    ∙ (λ i. if nat_le (length other) (sym longest i) then content_in other (sym more i) else None)

-- the same of all that was there
pub all_more : (b : MemoryTexts) (files : Files) (name bytes : List ℕ) → files name ≡ None
    → HoldsFiles b (with_file files name bytes) → HoldsAll (HoldsFiles b) files
all_more b files name bytes nothing held = record {
  now = with_file files name bytes;
  held = held;
  preserves = new_preserves None files name bytes nothing;
}

-- PARTS OF A TEXT
pub take_short : (xs : List ℕ) (n : ℕ) → take (min (length xs) n) xs ≡ take n xs
take_short xs n = elim (cases_lt n (length xs)) [
  | inl less ↦ ap (λ k. take k xs) (omega (arith, less))
  | inr most ↦
      ap (λ k. take k xs) (omega (arith, most)) ∙ (take_all (length xs) xs (omega arith) ∙ sym (take_all n xs most))
]

pub drop_short : (xs : List ℕ) (n : ℕ) → drop (min (length xs) n) xs ≡ drop n xs
drop_short xs n = elim (cases_lt n (length xs)) [
  | inl less ↦ ap (λ k. drop k xs) (omega (arith, less))
  | inr most ↦
      ap (λ k. drop k xs) (omega (arith, most)) ∙ (drop_all (length xs) xs (omega arith) ∙ sym (drop_all n xs most))
]
