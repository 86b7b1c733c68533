use Rattle.std.proofs.Common.{◌≡◌, drop, map}
use Rattle.std.specs.Char.{to_ascii_lowercase}
use Rattle.enc_labels.specs.Labels.{lowered_row, found_label}
use Rattle.enc_labels.proofs.find.Given as goal

abbrev pub invariant-loop-known : goal.invariant-loop-known
invariant-loop-known l =
    let name = map to_ascii_lowercase l.name in
    found_label (map lowered_row (drop l.known-index l.table)) name ≡ found_label (map lowered_row l.table) name
