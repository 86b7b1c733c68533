-- The cut on worked examples, by computation.
use Rattle.std.proofs.Common.{◌≡◌, true, false, [], ◌∷◌, refl}
use Rattle.enc_laws.specs.Subparts.{segments, segments_text}

-- three bytes of four wait, and are one U+FFFD at the end
begun : segments_text false (segments (0xF0 ∷ 0x90 ∷ [])) ≡ []
unfolding segments
begun = refl

begun_more : segments_text false (segments (0xF0 ∷ 0x90 ∷ 0x80 ∷ [])) ≡ []
unfolding segments
begun_more = refl

cut_off : segments_text true (segments (0xF0 ∷ 0x90 ∷ 0x80 ∷ [])) ≡ (0xFFFD ∷ [])
unfolding segments
cut_off = refl

-- a second byte out of the lead's range is a subpart of its own
overlong : segments (0xE0 ∷ 0x80 ∷ 0x41 ∷ []) ≡ ((0xE0 ∷ []) ∷ (0x80 ∷ []) ∷ (0x41 ∷ []) ∷ [])
unfolding segments
overlong = refl

overlong_text : segments_text true (segments (0xE0 ∷ 0x80 ∷ 0x41 ∷ [])) ≡ (0xFFFD ∷ 0xFFFD ∷ 0x41 ∷ [])
unfolding segments
overlong_text = refl

-- the standard's example of the practice: U+0061, the subparts F1 80 80, E1 80 and C2, U+0062, 80, U+0063, 80, BF,
-- U+0064
standard : segments_text true
    (segments (0x61 ∷ 0xF1 ∷ 0x80 ∷ 0x80 ∷ 0xE1 ∷ 0x80 ∷ 0xC2 ∷ 0x62 ∷ 0x80 ∷ 0x63 ∷ 0x80 ∷ 0xBF ∷ 0x64 ∷ []))
    ≡ (0x61 ∷ 0xFFFD ∷ 0xFFFD ∷ 0xFFFD ∷ 0x62 ∷ 0xFFFD ∷ 0x63 ∷ 0xFFFD ∷ 0xFFFD ∷ 0x64 ∷ [])
unfolding segments
standard = refl
