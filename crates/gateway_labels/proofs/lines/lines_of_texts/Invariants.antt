use Rattle.std.proofs.Common.{◌≡◌, take}
use Rattle.std.specs.Prelude.{flat_map, string_bytes}
use Rattle.gateway_labels.specs.Lines.{line_of}
use Rattle.gateway_labels.proofs.lines.lines_of_texts.Given as goal

abbrev pub invariant-loop-choice : goal.invariant-loop-choice
invariant-loop-choice l =
    string_bytes l.lines ≡ flat_map (line_of l.choices) (take l.choice-index l.choices)
