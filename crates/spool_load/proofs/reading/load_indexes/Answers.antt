use Rattle.std.proofs.Common.{◌≡◌, ◌<◌, ◌+◌, ◌∙◌, ℕ, List, length, get_or, rules, sym, ap, subst, arith}
use Rattle.enc_model.specs.Indexes.{IndexSet}
use Rattle.enc_index.specs.Area.{IsAreaOf, area_byte}
use Rattle.spool_load.specs.Reads.{IsReadAt}
use Rattle.spool_load.proofs.reading.load_indexes.Goals as goal

pub returns-in-Ok-clause-valid : goal.returns-in-Ok-clause-valid
returns-in-Ok-clause-valid g c bytes gave =
    let area = c.in_ok-area.area.items in
    let read = c.in_ok-area.ensures.read bytes gave in
    let written = c.in-Ok.ensures.written in
    let same : area ≡ c.deref.result.now = search rules in
    record {
      each = λ i lt.
          let inside : length area ≡ 90112 = ap length same ∙ written.long in
          sym (read.each i (omega (arith, inside, lt))) ∙ ap (λ (xs : List ℕ). get_or xs i 0) same ∙ written.bytes i lt;
    }

area_there : (x : IndexSet) (bytes : ℕ → ℕ) (place : ℕ) (area now : List ℕ) → IsReadAt bytes place area
    → length area ≡ 90112 → area ≡ now → ((i : ℕ) → i < 90112 → bytes (place + i) ≡ area_byte x i) → IsAreaOf x now
area_there x bytes place area now read long same there = subst (IsAreaOf x) same (record {
  long = long;
  bytes = λ i lt. read.each i (omega (arith, long, lt)) ∙ there i lt;
})

pub returns-in-Ok-clause-decoded : goal.returns-in-Ok-clause-decoded
returns-in-Ok-clause-decoded g c bytes gave x valid there =
    c.in-Ok.ensures.given_back x valid
    (area_there x bytes _ _ _ (c.in_ok-area.ensures.read bytes gave) c.in_ok-area.ensures.long (search rules) there)

pub returns-clause-decoded : goal.returns-clause-decoded
returns-clause-decoded g c bytes gave x valid there =
    let shown =
    c.from_area.ensures.given_back x valid
    (area_there x bytes _ _ _ (c.in_ok-area.ensures.read bytes gave) c.in_ok-area.ensures.long (search rules) there) in
    search rules
