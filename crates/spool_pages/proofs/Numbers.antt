-- Numbers in bytes.
use Rattle.std.proofs.Common.{◌≡◌, ℕ, ◌+◌, ◌^◌, ◌<◌, List, [], ◌∷◌, get_or, ◌∙◌, ap, arith}
use Rattle.std.specs.Int.{to_be_bytes, from_be_bytes, w16, w32, w64}
use Rattle.std.proofs.lemmas.Nat.{from_be_bytes-to_be_bytes_2, from_be_bytes-to_be_bytes_4, from_be_bytes-to_be_bytes_8}
use Rattle.spool_journal.specs.Image.{byte_of}
use Rattle.spool_pages.specs.View.{AreAt}

module _ (f : ℕ → ℕ) (at n : ℕ) where
  pub two_at : AreAt f at 2 (to_be_bytes w16 n) → f at ∷ f (at + 1) ∷ [] ≡ to_be_bytes w16 n
  two_at are_at = grind arith

  pub four_at : AreAt f at 4 (to_be_bytes w32 n) → f at ∷ f (at + 1) ∷ f (at + 2) ∷ f (at + 3) ∷ [] ≡ to_be_bytes w32 n
  four_at are_at = grind arith

  pub eight_at : AreAt f at 8 (to_be_bytes w64 n) → f at ∷ f (at + 1) ∷ f (at + 2) ∷ f (at + 3) ∷ f (at + 4) ∷ f
      (at + 5) ∷ f (at + 6) ∷ f (at + 7) ∷ [] ≡ to_be_bytes w64 n
  eight_at are_at = grind arith

module _ (bytes : List ℕ) (at n : ℕ) where
  pub two_are : n < 2 ^ 16 → AreAt (byte_of bytes) at 2 (to_be_bytes w16 n)
      → from_be_bytes w16 (get_or bytes at 0 ∷ get_or bytes (at + 1) 0 ∷ []) ≡ n
  two_are fits are_at = ap (from_be_bytes w16) (two_at (byte_of bytes) at n are_at) ∙ from_be_bytes-to_be_bytes_2 n fits

  pub four_are : n < 2 ^ 32 → AreAt (byte_of bytes) at 4 (to_be_bytes w32 n)
      → from_be_bytes w32 (get_or bytes at 0 ∷ get_or bytes (at + 1) 0 ∷ get_or bytes (at + 2) 0 ∷ get_or bytes (at + 3)
      0 ∷ []) ≡ n
  four_are fits are_at = ap (from_be_bytes w32) (four_at (byte_of bytes) at n are_at)
      ∙ from_be_bytes-to_be_bytes_4 n fits

  pub eight_are : n < 2 ^ 64 → AreAt (byte_of bytes) at 8 (to_be_bytes w64 n)
      → from_be_bytes w64 (get_or bytes at 0 ∷ get_or bytes (at + 1) 0 ∷ get_or bytes (at + 2) 0 ∷ get_or bytes (at + 3)
      0 ∷ get_or bytes (at + 4) 0 ∷ get_or bytes (at + 5) 0 ∷ get_or bytes (at + 6) 0 ∷ get_or bytes (at + 7)
      0 ∷ []) ≡ n
  eight_are fits are_at = ap (from_be_bytes w64) (eight_at (byte_of bytes) at n are_at)
      ∙ from_be_bytes-to_be_bytes_8 n fits
