-- The checks, one after another.
use Rattle.std.specs.Prelude.{◌≡◌, ℕ, ◌<◌, Bool, true, false, List, [], ◌∷◌, length, if◌then◌else◌}
use Rattle.std.specs.Prelude.{Option, Some, None, codes}
use Rattle.std.proofs.Common.{arith, ap, get_or, inl, inr}
use Rattle.std.specs.List.{list_all}
use Rattle.std.proofs.lemmas.Bool.{and_parts, cases_Bool}
use Rattle.std.proofs.lemmas.Bool.Decides.{nat_tests}
use Rattle.std.proofs.lemmas.Str.{IsUtf8-from_ascii, IsUtf8-nil}
use Rattle.std.specs.Str.{IsUtf8}
use Rattle.enc_model.specs.declared.Encoding.{Encoding}
use Rattle.tus_request.specs.Metadata.{is_plain, is_metadata, metadata_of}
use Rattle.tus_request.specs.Checks.{Line, Asking, asking, is_given, length_in, cut_off, decided, measured, only}
use Rattle.tus_request.specs.Checks.{number_in, optional_number_in, is_patch_media, passed_patch}
use Rattle.tus_request.specs.Checks.{patch_checked}
use Rattle.tus_request.specs.declared.faults.Fault.TheVariants.{Coding}

pub checked_is : (offers : Encoding → Bool) (line : Line) (given : List ℕ → List (List ℕ))
    (codings lengths : List (List ℕ)) (a : Asking) (len : ℕ)
    → is_given codings ≡ false → length_in lengths ≡ Some len → a ≡ asking line given len
    → decided offers a ≡ (if is_given codings then cut_off line Coding else measured offers line given
    (length_in lengths))
checked_is offers line given codings lengths a len e f g = rw (e, f) (ap (decided offers) g)

-- an append passes its checks where they find its media type, its offset and what it declares
pub patch_passes : (x : Asking) (n offset : ℕ) (declare : Option ℕ)
    → is_patch_media (only (x.given (codes "content-type"))) ≡ true
    → number_in (x.given (codes "upload-offset")) ≡ Some offset
    → optional_number_in (x.given (codes "upload-length")) ≡ Some declare
    → passed_patch x n offset declare ≡ patch_checked x n
patch_passes x n offset declare media at length = rw (media, at, length)

plain_is_ascii : (bytes : List ℕ) → list_all is_plain bytes ≡ true → (i : ℕ) → get_or bytes i 0 < 128
plain_is_ascii [] e i = omega arith
plain_is_ascii (b ∷ bytes) e i =
    let p = and_parts (is_plain b) (list_all is_plain bytes) e in
    let ih = plain_is_ascii bytes p.1 in grind (arith, nat_tests, ih)

-- bytes that are no text are no metadata
pub no_metadata : (bytes : List ℕ) → ¬ (IsUtf8 bytes) → metadata_of bytes ≡ None
no_metadata [] not = absurd (not IsUtf8-nil)
no_metadata (b ∷ bytes) not = elim (cases_Bool (is_metadata (b ∷ bytes))) [
  | inl t ↦ absurd (not (IsUtf8-from_ascii (b ∷ bytes) (plain_is_ascii (b ∷ bytes) (and_parts _ _ t).1)))
  | inr f ↦ rw f
]
