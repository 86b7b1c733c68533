use Rattle.std.proofs.Common.{◌≡◌, ◌≤◌, ◌<◌, ℕ, List, All, sym, subst, arith}
use Rattle.std.specs.Str.{IsUtf8}
use Rattle.std.proofs.lemmas.Str.{IsUtf8-from_ascii}
use Rattle.std.proofs.lemmas.Str.Ascii.{IsAscii-from_all}
use Rattle.std.proofs.lemmas.Grind.{common_steps}
use Rattle.spool_catalog.proofs.records.text_of.Goals as goal

below : (bytes : List ℕ) → All (λ b. (0x20 ≤ b) × (b ≤ 0x7E)) bytes → All (λ b. b < 128) bytes
below bytes printable k d lt = let most = (printable k d lt).1 in omega (arith, most)

pub returns-clause-passes : goal.returns-clause-passes
returns-clause-passes c printable =
    let same : c.extend_from_slice.new.self.items ≡ c.args.bytes.now = grind (arith, common_steps) in
    let utf8 : IsUtf8 c.extend_from_slice.new.self.items =
    subst IsUtf8 (sym same) (IsUtf8-from_ascii _ (IsAscii-from_all _ (below c.args.bytes.now printable))) in
    let fine = c.in-Err.ensures.succeeds utf8 in
    absurd (cc)
