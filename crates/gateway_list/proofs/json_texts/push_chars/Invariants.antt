use Rattle.std.proofs.Common.{◌≡◌, ◌++◌}
use Rattle.std.specs.Prelude.{string_bytes}
use Rattle.gateway_list.specs.Json.{json_chars}
use Rattle.gateway_list.proofs.json_texts.push_chars.Given as goal

abbrev pub invariant-loop-c : goal.invariant-loop-c
invariant-loop-c l = string_bytes l.json ≡ string_bytes l.fn.json ++ json_chars l.yielded
