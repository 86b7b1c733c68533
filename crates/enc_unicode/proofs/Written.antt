-- Units that are written some at a time.
use Rattle.std.proofs.Common.{ℕ, ◌+◌, ◌*◌, ◌%◌, ◌≡◌, ◌≤◌, List, ◌++◌, take, drop, ap, sym, ◌∙◌, append_assoc}
use Rattle.std.proofs.lemmas.Str.{encodes-append}
use Rattle.std.proofs.Math.Seq.{take-add}
use lib.Utf8.{encodes}

-- up to a place by steps, each unit of at most so many bytes, after the first so many bytes of an old code
abbrev pub WrittenTo : ℕ → ℕ → List ℕ → List ℕ → ℕ → ℕ → List ℕ → ℕ → Type 0
WrittenTo step most units old from at code len = record {
  code : take len code ≡ take from old ++ encodes (take at units);
  few : len ≤ from + most * at;
  within : at ≤ 32;
  steps : at % step ≡ 0;
}

-- some units more
pub written_more : (prefix before now units some : List ℕ) (at n : ℕ) → before ≡ prefix ++ encodes (take at units)
    → some ≡ take n (drop at units) → now ≡ before ++ encodes some → now ≡ prefix ++ encodes (take (at + n) units)
written_more prefix before now units some at n e is more =
    let first = encodes (take at units) in
    more ∙ ap (λ z. z ++ encodes some) e ∙ append_assoc prefix first (encodes some)
    ∙ ap (λ z. prefix ++ z) (ap (λ z. first ++ encodes z) is
    ∙ sym (ap encodes (take-add at n units) ∙ encodes-append (take at units) (take n (drop at units))))
