-- A text that begins with letters, which have bytes one after another.
use Rattle.std.proofs.Common.{ℕ, zero, suc, ◌≡◌, ◌<◌, ◌≤◌, ◌+◌, ◌*◌, List, [], ◌∷◌, ◌++◌, sym, ◌∙◌, ap, subst}
use Rattle.std.proofs.Common.{arith, length, take, drop, get_or, append_assoc, append-nil, inr, Some, IfSome}
use Rattle.std.proofs.lemmas.List.{take_more, get_or-take}
use Rattle.std.proofs.lemmas.Str.{IsUtf8-past_char}
use Rattle.std.specs.Str.{IsUtf8}
use Rattle.enc_index.specs.Entries.{found_pointer}
use Rattle.enc_encode.specs.Letters.{AreLetters, IsLetter}
use Rattle.enc_encode.specs.Runs.{FirstGiven, RunPrefix}
use Rattle.enc_encode.specs.Singles.{FewPointers, IsSingleByte}
use Rattle.enc_encode.proofs.Puts.{two_at}
use Rattle.enc_encode.proofs.RunPrefixes.{run_none, run_more}
use Rattle.enc_encode.proofs.Twos.{two_begin}

pointer_few : (at : List ℕ) (c p : ℕ) → FewPointers at → found_pointer at c ≡ Some p → p < 128
pointer_few at c p few is = subst (λ o. IfSome o (λ p. p < 128)) is (few c)

single_by : (at : List ℕ) (c p b : ℕ) → 128 ≤ c → found_pointer at c ≡ Some p → b ≡ p + 0x80
    → IsSingleByte at c (b ∷ [])
single_by at c p b outside is own = inr (outside, p, is, ap (λ z. z ∷ []) own)

-- a letter's byte is the one that the encoding has
letter_given : (at : List ℕ) (low byte count lead trail b : ℕ) (more : List ℕ) → FewPointers at
    → AreLetters at low byte count → IsLetter low byte count lead trail b → IsUtf8 (lead ∷ trail ∷ more)
    → FirstGiven (IsSingleByte at) (lead ∷ trail ∷ more) (b ∷ []) more
letter_given at low byte count lead trail b more few are is u =
    let lowest = are.lowest in
    let highest = are.highest in
    let inside = is.inside in
    let code = is.code in
    let t = two_begin lead trail more u is.small (omega (arith, lowest, code)) (omega (arith, highest, code, inside)) in
    let c = t.0 in
    let same = t.1 in
    let e = are.each c (omega (arith, same, code)) (omega (arith, same, code, inside)) in
    let p = e.0 in
    let small = pointer_few at c p few e.1 in
    let sum = e.2 in
    let own = is.own in
    record {
      c = c;
      parts = t.3;
      given = single_by at c p b t.2 e.1 (omega (arith, own, sum, small, same, code));
    }

module _ (at text lanes bytes held : List ℕ) (low byte count n : ℕ) (few : FewPointers at)
    (are : AreLetters at low byte count) (u : IsUtf8 text) (long : 32 ≤ length text) (wide : length bytes ≡ 16)
    (load : lanes ≡ take 32 text) (most : n ≤ 16)
    (each : (k : ℕ) → k < n → IsLetter low byte count (get_or lanes (2 * k) 0) (get_or lanes (2 * k + 1) 0)
    (get_or bytes k 0)) where
  here : (i : ℕ) → i < 32 → get_or lanes i 0 ≡ get_or text i 0
  here i l = ap (λ z. get_or z i 0) load ∙ get_or-take 32 text i 0 l

  letter : (k : ℕ) → k < n → IsLetter low byte count (get_or text (2 * k) 0) (get_or text (2 * k + 1) 0)
      (get_or bytes k 0)
  letter k l = subst (λ z. IsLetter low byte count (get_or text (2 * k) 0) z (get_or bytes k 0))
      (here (2 * k + 1) (omega (arith, l, most)))
      (subst (λ z. IsLetter low byte count z (get_or lanes (2 * k + 1) 0) (get_or bytes k 0))
      (here (2 * k) (omega (arith, l, most))) (each k l))

  pub letters_run : (m : ℕ) → m ≤ n
      → RunPrefix (IsSingleByte at) text (drop (2 * m) text) held (held ++ take m bytes) × IsUtf8 (drop (2 * m) text)
  letters_run zero l = (run_none (IsSingleByte at) text held (held ++ []) (append-nil held), u)
  letters_run (suc m) l =
      let before = letters_run m (omega (arith, l)) in
      let gives = IsSingleByte at in
      let b = get_or bytes m 0 in
      let rest = drop (2 * m) text in
      let left = drop (2 * suc m) text in
      let next : 2 * m + 2 ≡ 2 * suc m = omega arith in
      let parts : rest ≡ get_or text (2 * m) 0 ∷ get_or text (2 * m + 1) 0 ∷ left =
      two_at text (2 * m) (omega (arith, l, most, long))
      ∙ ap (λ k. get_or text (2 * m) 0 ∷ get_or text (2 * m + 1) 0 ∷ drop k text) next in
      let first : FirstGiven gives rest (b ∷ []) left =
      subst (λ z. FirstGiven gives z (b ∷ []) left) (sym parts)
      (letter_given at low byte count (get_or text (2 * m) 0) (get_or text (2 * m + 1) 0) b left few are
      (letter m (omega (arith, l))) (subst IsUtf8 parts before.1)) in
      let more : suc m ≡ m + 1 = omega arith in
      let put : held ++ take (suc m) bytes ≡ (held ++ take m bytes) ++ b ∷ [] =
      ap (λ k. held ++ take k bytes) more
      ∙ ap (λ z. held ++ z) (take_more bytes m 0 (omega (arith, l, most, wide)))
      ∙ sym (append_assoc held (take m bytes) (b ∷ [])) in (
        run_more gives text rest left held (held ++ take m bytes) (held ++ take (suc m) bytes) (b ∷ []) before.1
            before.0 first put,
        IsUtf8-past_char rest left first.c before.1 first.parts,
      )
