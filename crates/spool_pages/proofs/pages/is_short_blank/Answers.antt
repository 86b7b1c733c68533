use Rattle.std.proofs.Common.{rules, ◌≡◌, ◌<◌, ◌↔◌, ℕ, [], IsTrue, List, length, get_or, arith}
use Rattle.std.proofs.lemmas.List.{get_or_past}
use Rattle.std.proofs.lemmas.Bool.{cases_lt}
use Rattle.spool_pages.specs.Bytes.{IsPadded}
use Rattle.spool_pages.proofs.pages.is_short_blank.Goals as goal

blank : (bytes : List ℕ) → ((k : ℕ) → k < length bytes → get_or bytes k 0 ≡ 0) → IsPadded bytes []
blank bytes zeros = record { each = λ i. grind (arith, get_or_past, cases_lt, zeros i) }

pub returns : goal.returns
returns c =
    let each : IsTrue c.all.result ↔ ((k : ℕ) → k < length c.args.bytes.now → get_or c.args.bytes.now k 0 ≡ 0) =
    search rules in
    (λ yes. blank c.args.bytes.now (each.0 yes), λ padded. each.1 (λ k lt. padded.each k))
