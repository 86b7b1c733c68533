-- The definitions on worked examples.
use Rattle.std.proofs.Common.{◌≡◌, ℕ, ◌+◌, ◌<◌, slice_index, false, true, [], ◌∷◌, Some, None, refl, arith, sym, zero}
use Rattle.std.proofs.Common.{suc}
use Rattle.std.proofs.lemmas.Bool.{true≢false}
use Rattle.std.specs.List.{prefix_len}
use Rattle.std.specs.Char.{is_ascii}
use Rattle.lane_kernels.specs.Classes.{is_plain_2022}
use Rattle.lane_kernels.specs.Units.{ArePaired, is_lead, is_trail, last_lead, left_over, units_of}
use Rattle.lane_kernels.specs.Steps.{scalars_of}

-- the prefix ends at 80, and before an escape
ends_at_80 : prefix_len is_ascii (0x41 ∷ 0x1B ∷ 0x7F ∷ 0x80 ∷ 0x41 ∷ []) ≡ 3
ends_at_80 = refl

ends_at_escape : prefix_len is_plain_2022 (0x41 ∷ 0x1B ∷ 0x7F ∷ []) ≡ 1
ends_at_escape = refl

-- a pair in either order, and a byte left over
little : units_of false (0x3D ∷ 0xD8 ∷ 0x00 ∷ 0xDE ∷ 0x41 ∷ []) ≡ 0xD83D ∷ 0xDE00 ∷ []
little = refl

big : units_of true (0xD8 ∷ 0x3D ∷ 0xDE ∷ 0x00 ∷ 0x41 ∷ []) ≡ 0xD83D ∷ 0xDE00 ∷ []
big = refl

one_left : left_over (0x3D ∷ 0xD8 ∷ 0x41 ∷ []) ≡ Some 0x41
one_left = refl

pair_is_one : scalars_of None (0xD83D ∷ 0xDE00 ∷ 0x41 ∷ []) ≡ 0x1F600 ∷ 0x41 ∷ []
pair_is_one = refl

lead_at_the_end : last_lead (0x41 ∷ 0xD83D ∷ []) ≡ Some 0xD83D
lead_at_the_end = refl

-- a carried lead and its trail, and a lead at the end
carried_pair : ArePaired (Some 0xD83D) (0xDE00 ∷ 0xD83D ∷ [])
carried_pair = record { first = λ some. refl; next = next }
  where
    next : (k : ℕ) → k + 1 < 2 → is_trail (slice_index (0xDE00 ∷ 0xD83D ∷ []) (k + 1)) ≡ is_lead
        (slice_index (0xDE00 ∷ 0xD83D ∷ []) k)
    next zero inside = refl
    next (suc k) inside = absurd (omega (arith, inside))

-- a trail alone, a carried lead without a trail, and a lead without one
lone_trail : ArePaired None (0xDE00 ∷ []) → ⊥
lone_trail paired = true≢false (paired.first (omega arith))

torn_lead : ArePaired (Some 0xD83D) (0x41 ∷ []) → ⊥
torn_lead paired = true≢false (sym (paired.first (omega arith)))

lone_lead : ArePaired None (0xD83D ∷ 0x41 ∷ []) → ⊥
lone_lead paired = true≢false (sym (paired.next 0 (omega arith)))
