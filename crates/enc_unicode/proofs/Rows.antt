-- The definitions on worked examples.
use Rattle.std.proofs.Common.{◌≡◌, [], ◌∷◌, refl}
use Rattle.enc_model.specs.Stream.{steps, steps_within}
use Rattle.enc_model.specs.Utf8.{utf8, utf8_start}
use Rattle.enc_unicode.specs.Utf8State.{utf8_after}

-- the state after two bytes of four
two_of_four : utf8_after (0xF0 ∷ 0x90 ∷ []) ≡ record {
  needed = 2;
  lower = 0x80;
  upper = 0xBF;
  point = 0x10;
  partial = 0xF0 ∷ 0x90 ∷ [];
}
unfolding steps steps_within utf8
two_of_four = refl

-- a lead whose second byte is bounded
bounded_second : utf8_after (0xED ∷ []) ≡ record {
  needed = 2;
  lower = 0x80;
  upper = 0x9F;
  point = 0xD;
  partial = 0xED ∷ [];
}
unfolding steps steps_within utf8
bounded_second = refl

-- a byte that doesn't go on is read again, and begins nothing
nothing_unfinished : utf8_after (0xE0 ∷ 0x80 ∷ []) ≡ utf8_start
unfolding steps steps_within utf8
nothing_unfinished = refl
