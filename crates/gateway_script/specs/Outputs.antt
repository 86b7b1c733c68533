-- What is written of a list of events, and parts of it. Of each list the latest event is first.
use Rattle.std.specs.Prelude.{◌≡◌, ◌⊎◌, ℕ, Bool, List, [], ◌∷◌, ◌++◌, drop, codes, Option, Result, Ok, Err}
use Rattle.std.specs.Fmt.{decimal}
use Rattle.std.specs.Io.KnownBytes.{Appends}
use Rattle.common.specs.declared.stop.Stop.TheVariants.{NoMemory, DiskFault}
use Rattle.tus_action.specs.Serves as serves
use Rattle.tus_session.specs.History.{State, Marked, Outcome, Gave, step, history, conn_in}
use Rattle.gateway_script.specs.Script.{written}
use Rattle.gateway_script.specs.declared.faults.CallFault.{CallFault}
use Rattle.gateway_script.specs.declared.faults.CallFault.TheVariants.{Stop, Io}

-- THE OUTPUT of the latest event
abbrev pub last_output : State → List Marked → List ℕ
last_output st [] = []
last_output st (e ∷ past) = written (conn_in e.0) (step (history st past) e.0 e.1).outcome

-- the output of all events
abbrev pub output_of : State → List Marked → List ℕ
output_of st [] = []
output_of st (e ∷ past) = output_of st past ++ last_output st (e ∷ past)

-- WHAT IS WRITTEN of one outcome on any disk. If the bytes given end in a text, the text's bytes are as many as the
-- history's, and the same where that is sure. All else is the history's
abbrev pub WritesAs : Bool → ℕ → Outcome → List ℕ → List ℕ → Type 0
WritesAs sure n (Gave bytes taken closes more) text out =
    (given : List ℕ) × serves.Appends sure [] given bytes text × (out ≡ written n (Gave given taken closes more))
WritesAs sure n outcome text out = out ≡ written n outcome

-- the same of the latest event
abbrev pub LastOutput : Bool → State → List Marked → List ℕ → Type 0
LastOutput sure st [] out = out ≡ []
LastOutput sure st (e ∷ past) out =
    let t = step (history st past) e.0 e.1 in WritesAs sure (conn_in e.0) t.outcome t.text out

-- the same of all events
abbrev pub Outputs : Bool → State → List Marked → List ℕ → Type 0
Outputs sure st [] out = out ≡ []
Outputs sure st (e ∷ past) out =
    (before : List ℕ) × (last : List ℕ) × Outputs sure st past before × LastOutput sure st (e ∷ past) last
    × (out ≡ before ++ last)

-- these are the first of all events
abbrev pub IsFirst : List Marked → List Marked → Type 0
IsFirst first all = (later : List Marked) × (all ≡ later ++ first)

-- What was written of these events by a run that was broken off: all, or nothing of the latest, where it was out of
-- memory; and of the latest a prefix, where the writer failed
abbrev pub BreaksOff : Bool → CallFault → State → List Marked → List ℕ → Type 0
BreaksOff sure (Stop NoMemory) st past out = Outputs sure st past out ⊎ Outputs sure st (drop 1 past) out
BreaksOff sure Io st past out =
    (before : List ℕ) × (part : List ℕ) × (missing : List ℕ) × Outputs sure st (drop 1 past) before
    × LastOutput sure st past (part ++ missing) × (out ≡ before ++ part)
BreaksOff sure (Stop DiskFault) st past out = ⊥

-- the same by the history's own output
abbrev pub WroteMost : CallFault → State → List Marked → List ℕ → Type 0
WroteMost (Stop NoMemory) st past out = (out ≡ output_of st past) ⊎ (out ≡ output_of st (drop 1 past))
WroteMost Io st past out =
    (part : List ℕ) × (missing : List ℕ) × (last_output st past ≡ part ++ missing) × (out ≡ output_of st
    (drop 1 past) ++ part)
WroteMost (Stop DiskFault) st past out = ⊥

-- a prefix part of the bytes was put after what was there
abbrev pub AppendsPart : Option (List ℕ) → Option (List ℕ) → List ℕ → Type 0
AppendsPart old new bytes = (part : List ℕ) × (missing : List ℕ) × (bytes ≡ part ++ missing) × Appends old new part

-- a writer's fault is no other, and this is what it wrote
abbrev pub IsWriteFault : {T : Type 0} → Result T CallFault → Type 0 → Type 0
IsWriteFault (Ok x) wrote = Unit {0}
IsWriteFault (Err e) wrote = (e ≡ Io) × wrote

abbrev pub refusal_bytes : ℕ → ℕ → List ℕ
refusal_bytes n number = codes "! " ++ (decimal n ++ (32 ∷ (decimal number ++ (10 ∷ []))))

abbrev pub count_line : ℕ → ℕ → List ℕ
count_line n count = codes "< " ++ (decimal n ++ (32 ∷ (decimal count ++ (10 ∷ []))))
