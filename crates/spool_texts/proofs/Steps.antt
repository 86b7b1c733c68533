-- Steps of a draft's text.
use Rattle.std.proofs.Common.{◌≡◌, ℕ, ◌++◌, List, length, take, ◌∙◌, ap, arith}
use Rattle.std.proofs.lemmas.List.{take_at, take_all, append-nil, drop_all}
use Rattle.spool_disk.specs.Disk.{Counts}
use Rattle.spool_texts.specs.Reading.{IsRead}

-- the failure count of an equivalent failure
pub counts_same : {F G : Type 0} {a b : ℕ} → Counts F a b → (F → G) → (G → F) → Counts G a b
counts_same counts to from = record {
  later = counts.later;
  counted = λ g. counts.counted (from g);
  nothing_else = λ lt. to (counts.nothing_else lt);
}

-- the first bytes were read
pub prefix_read : (text old given rest : List ℕ) (len n : ℕ) → length text ≡ len → length old ≡ len
    → IsRead text 0 n old given → take len (given ++ rest) ≡ text
prefix_read text old given rest len n size old_size read = take_at given rest len (ap length is ∙ size) ∙ is
  where
    is : given ≡ text
    is =
        let count : n ≡ len = omega (arith, read.count, size, old_size) in
        read.bytes ∙ ap (λ (xs : List ℕ). take n text ++ xs) (drop_all n old (omega (arith, count, old_size)))
        ∙ append-nil (take n text) ∙ take_all n text (omega (arith, count, size))
