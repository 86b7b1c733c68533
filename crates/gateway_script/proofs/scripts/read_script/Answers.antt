use Rattle.std.proofs.Common.{◌≤◌, ◌<◌, ℕ, List, Option, Result, Ok, Err, Vec, Global, vec_len, arith}
use Rattle.std.specs.Prelude.{IfOk}
use Rattle.std.specs.Io.KnownBytes.{Consumes, IsAtEnd}
use Rattle.gateway_script.specs.Script.{IsScript}
use Rattle.gateway_script.specs.declared.faults.ScriptFault.{ScriptFault}
use Rattle.gateway_script.proofs.Taking.{script_read}
use Rattle.gateway_script.proofs.scripts.read_script.Goals as goal

read_well : (old new : Option (List ℕ)) (r : Result (Vec ℕ Global) ScriptFault) → IfOk r (λ v. Consumes old new v.items)
    → IfOk r (λ v. vec_len v ≤ 1073741825) → IfOk r (λ v. vec_len v < 1073741825 → IsAtEnd new)
    → IfOk r (λ v. IsScript old v.items)
read_well old new (Ok v) takes few end =
    script_read old new v.items takes (omega (arith, few, v.ok.0)) (λ less. end (omega (arith, less, v.ok.0)))
read_well old new (Err fault) takes few end = tt {0}

pub returns-clause-ok : goal.returns-clause-ok
returns-clause-ok g c = read_well _ _ c.read_up_to.result c.read_up_to.ensures.ok c.read_up_to.ensures.most
    c.read_up_to.ensures.end
