-- What is written where the disk is known to be honest is the history's own output.
use Rattle.std.proofs.Common.{◌≡◌, ℕ, true, List, [], ◌∷◌, ◌++◌, drop, inl, inr, ⊎_elim, ap, sym, ◌∙◌}
use Rattle.common.specs.declared.stop.Stop.TheVariants.{NoMemory, DiskFault}
use Rattle.tus_action.proofs.Pieces.{all_appended}
use Rattle.tus_session.specs.History.{State, Marked, Outcome, Gave, Done, Refused, step, history, conn_in}
use Rattle.gateway_script.specs.Script.{written}
use Rattle.gateway_script.specs.Outputs.{WritesAs, LastOutput, Outputs, BreaksOff, WroteMost, last_output, output_of}
use Rattle.gateway_script.specs.declared.faults.CallFault.{CallFault}
use Rattle.gateway_script.specs.declared.faults.CallFault.TheVariants.{Stop, Io}

writes_sure : (n : ℕ) (o : Outcome) (text out : List ℕ) → WritesAs true n o text out → out ≡ written n o
writes_sure n (Gave bytes taken closes more) text out wrote =
    wrote.2 ∙ ap (λ b. written n (Gave b taken closes more)) (all_appended [] wrote.0 bytes text wrote.1)
writes_sure n Done text out wrote = wrote
writes_sure n (Refused f) text out wrote = wrote

last_sure : (st : State) (past : List Marked) (out : List ℕ) → LastOutput true st past out → out ≡ last_output st past
last_sure st [] out wrote = wrote
last_sure st (e ∷ past) out wrote =
    let t = step (history st past) e.0 e.1 in writes_sure (conn_in e.0) t.outcome t.text out wrote

pub outputs_sure : (st : State) (past : List Marked) (out : List ℕ) → Outputs true st past out → out ≡ output_of st past
outputs_sure st [] out wrote = wrote
outputs_sure st (e ∷ past) out wrote =
    wrote.4 ∙ (ap (λ b. b ++ wrote.1) (outputs_sure st past wrote.0 wrote.2)
    ∙ ap (λ l. output_of st past ++ l) (last_sure st (e ∷ past) wrote.1 wrote.3))

pub breaks_sure : (fault : CallFault) (st : State) (past : List Marked) (out : List ℕ)
    → BreaksOff true fault st past out
    → WroteMost fault st past out
breaks_sure (Stop NoMemory) st past out wrote =
    ⊎_elim (λ all. inl (outputs_sure st past out all)) (λ rest. inr (outputs_sure st (drop 1 past) out rest)) wrote
breaks_sure (Stop DiskFault) st past out wrote = absurd wrote
breaks_sure Io st past out wrote = (
  wrote.1,
  wrote.2,
  sym (last_sure st past (wrote.1 ++ wrote.2) wrote.4),
  wrote.5 ∙ ap (λ b. b ++ wrote.1) (outputs_sure st (drop 1 past) wrote.0 wrote.3),
)
