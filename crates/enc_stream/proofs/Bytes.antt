-- The places of the state bytes.
use Rattle.std.proofs.Common.{ℕ, zero, suc, ◌+◌, ◌≡◌, ◌≤◌, true, List, [], ◌∷◌, ◌++◌, length, get_or, refl, sym, ◌∙◌}
use Rattle.std.proofs.Common.{ap, arith, lit≤}
use Rattle.enc_model.specs.declared.Encoding.{Encoding}
use Rattle.enc_model.specs.Decode.{Decoding, OfUtf8, OfUtf16, OfShiftJis, OfEucJp, OfIso2022, OfSingle, undecided}
use Rattle.enc_model.specs.Transcode.{Transcoder, Phase, Before, During, Over}
use Rattle.enc_stream.specs.StateBytes.{IsPhaseOf, IsReached, IsReachedIn, IsValidState, encoding_number, mode_number}
use Rattle.enc_stream.specs.StateBytes.{phase_number, shift_number, decoder_bytes, phase_bytes, padded, state_bytes}

-- WHAT A PHASE HOLDS HAS AT MOST FIVE BYTES

few_held : (held : List ℕ) → undecided held ≡ true → length held ≤ 4
few_held [] h = lit≤ tt
few_held (x ∷ []) h = lit≤ tt
few_held (x ∷ y ∷ []) h = lit≤ tt
few_held (x ∷ y ∷ z ∷ bytes) h = absurd cc

few_unfinished : (s : Decoding) → IsReached s → length (decoder_bytes s) ≤ 4
few_unfinished (OfUtf8 s) h = let l = h.1 in omega (arith, l)
few_unfinished (OfUtf16 big s) h = grind arith
few_unfinished (OfShiftJis lead) h = lit≤ tt
few_unfinished (OfEucJp s) h = lit≤ tt
few_unfinished (OfIso2022 s) h = lit≤ tt
few_unfinished (OfSingle e s) h = lit≤ tt

few : (from : Encoding) (p : Phase) → IsPhaseOf from p → IsReachedIn p → length (phase_bytes p) ≤ 5
few from (Before held) h k = let l = few_held held h in omega (arith, l)
few from (During s) h k = let l = few_unfinished s k in omega (arith, l)
few from Over h k = lit≤ tt

-- THE FIRST FIVE OF TWELVE

five : (xs rest : List ℕ) → (let all = padded 12 xs ++ rest in
    padded 5 xs ≡ get_or all 0 0 ∷ get_or all 1 0 ∷ get_or all 2 0 ∷ get_or all 3 0 ∷ get_or all 4 0 ∷ [])
five [] rest = refl
five (a ∷ []) rest = refl
five (a ∷ b ∷ []) rest = refl
five (a ∷ b ∷ c ∷ []) rest = refl
five (a ∷ b ∷ c ∷ d ∷ []) rest = refl
five (a ∷ b ∷ c ∷ d ∷ e ∷ xs) rest = refl

twelve : (xs : List ℕ) → length xs ≤ 5 → (let prefix = padded 5 xs in
    padded 12 xs ≡ get_or prefix 0 0 ∷ get_or prefix 1 0 ∷ get_or prefix 2 0 ∷ get_or prefix 3 0 ∷ get_or prefix 4
    0 ∷ 0 ∷ 0 ∷ 0 ∷ 0 ∷ 0 ∷ 0 ∷ 0 ∷ [])
twelve [] h = refl
twelve (a ∷ []) h = refl
twelve (a ∷ b ∷ []) h = refl
twelve (a ∷ b ∷ c ∷ []) h = refl
twelve (a ∷ b ∷ c ∷ d ∷ []) h = refl
twelve (a ∷ b ∷ c ∷ d ∷ e ∷ []) h = refl
twelve (a ∷ b ∷ c ∷ d ∷ e ∷ f ∷ xs) h = absurd (omega (arith, h))

-- the bytes after them
after : (n : ℕ) (xs rest : List ℕ) (i : ℕ) → get_or (padded n xs ++ rest) (n + i) 0 ≡ get_or rest i 0
after zero xs rest i = grind arith
after (suc n) [] rest i = grind (arith, after n [] rest i)
after (suc n) (x ∷ xs) rest i = grind (arith, after n xs rest i)

-- THE BYTES OF A STATE, AND ITS PARTS

pub packed : (s : Transcoder) (from to mode phase shift : ℕ) (partial : List ℕ) → IsValidState s →
    from ≡ encoding_number s.from → to ≡ encoding_number s.to → mode ≡ mode_number s.mode → phase ≡ phase_number s.phase
    → shift ≡ shift_number s.shift →
    partial ≡ padded 5 (phase_bytes s.phase) →
    from ∷ to ∷ mode ∷ phase ∷ get_or partial 0 0 ∷ get_or partial 1 0 ∷ get_or partial 2 0 ∷ get_or partial 3 0
    ∷ get_or partial 4
    0 ∷ 0 ∷ 0 ∷ 0 ∷ 0 ∷ 0 ∷ 0 ∷ 0
    ∷ shift ∷ 0 ∷ 0 ∷ 0 ∷ 0 ∷ 0 ∷ 0 ∷ 0 ∷ 0 ∷ 0 ∷ 0 ∷ 0 ∷ 0 ∷ 0 ∷ 0 ∷ 0 ∷ []
    ≡ state_bytes s
packed s from to mode phase shift partial valid e1 e2 e3 e4 e5 e6 =
    rw (e1, e2, e3, e4, e5, e6, twelve (phase_bytes s.phase) (few s.from s.phase valid.fitting.phase valid.reached))
    refl

module _ (s : Transcoder) (bytes : List ℕ) (is : state_bytes s ≡ bytes) where
  pub from_there : encoding_number s.from ≡ get_or bytes 0 0
  from_there = ap (λ z. get_or z 0 0) is

  pub to_there : encoding_number s.to ≡ get_or bytes 1 0
  to_there = ap (λ z. get_or z 1 0) is

  pub mode_there : mode_number s.mode ≡ get_or bytes 2 0
  mode_there = ap (λ z. get_or z 2 0) is

  pub phase_there : phase_number s.phase ≡ get_or bytes 3 0
  phase_there = ap (λ z. get_or z 3 0) is

  pub shift_there : shift_number s.shift ≡ get_or bytes 16 0
  shift_there = sym (after 12 (phase_bytes s.phase) (padded 16 (shift_number s.shift ∷ [])) 0)
      ∙ ap (λ z. get_or z 16 0) is

  pub unfinished_there : padded 5 (phase_bytes s.phase) ≡ get_or bytes 4 0 ∷ get_or bytes 5 0 ∷ get_or bytes 6 0
      ∷ get_or
      bytes 7 0 ∷ get_or bytes 8 0 ∷ []
  unfinished_there =
      five (phase_bytes s.phase) (padded 16 (shift_number s.shift ∷ []))
      ∙ ap (λ z. get_or z 4 0 ∷ get_or z 5 0 ∷ get_or z 6 0 ∷ get_or z 7 0 ∷ get_or z 8 0 ∷ []) is
