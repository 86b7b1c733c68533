-- A script: its events, and what is written.
use Rattle.std.specs.Prelude.{◌≡◌, ℕ, zero, suc, ◌+◌, ◌-◌, Bool, true, false, ◌||◌, List, [], ◌∷◌, ◌++◌, length, take}
use Rattle.std.specs.Prelude.{drop, slice_get, codes, bytes_eq, nat_lt, nat_le, ◌==◌, if◌then◌else◌, Option, Some, None}
use Rattle.std.specs.Fmt.{decimal}
use Rattle.hex.specs.Hex.{decode_of}
use Rattle.common.specs.Numbers.{number_of}
use Rattle.common.specs.Splits.{before, rest_after}
use Rattle.tus_request.specs.Value.{answered}
use Rattle.tus_session.specs.declared.errors.SessionError.{SessionError}
use Rattle.tus_session.specs.declared.errors.SessionError.TheVariants.{Stop}
use Rattle.common.specs.declared.stop.Stop.TheVariants.{DiskFault}
use Rattle.tus_session.specs.Faults.{error_number}
use Rattle.tus_session.specs.History.{State, Event, Opened, Came, More, Ended, Mark, Served, Marked, Step, step}
use Rattle.gateway_script.specs.declared.runs.TheConstants.{MOST_LINE, MOST_SCRIPT}
use Rattle.tus_session.specs.declared.session.TheConstants.{MOST_OPEN}
use Rattle.tus_session.specs.History.{Outcome, Gave, Done, Refused, is_closed}

-- THE LINES, each with the LF that ends it. The last one may lack it
abbrev pub onto_line : ℕ → List (List ℕ) → List (List ℕ)
onto_line b [] = (b ∷ []) ∷ []
onto_line b (line ∷ lines) = (b ∷ line) ∷ lines

abbrev pub script_lines : List ℕ → List (List ℕ)
script_lines [] = []
script_lines (b ∷ bytes) = if b == 10 then (b ∷ []) ∷ script_lines bytes else onto_line b (script_lines bytes)

-- without a CR at the end
abbrev pub is_cr : Option ℕ → Bool
is_cr None = false
is_cr (Some b) = b == 13

abbrev pub bared : List ℕ → List ℕ
bared line = if is_cr (slice_get line (length line - 1)) then take (length line - 1) line else line

pub data Order : Type 0 where
  Skip : Order
  Open : ℕ → Order
  Give : ℕ → List ℕ → Order
  Hang : ℕ → Order
  Bad : Order

-- 1 to 9 digits
abbrev pub conn_number : List ℕ → Option ℕ
conn_number text = if nat_le (length text) 9 then number_of text else None

-- the bytes that a text of hex digits writes, two digits a byte, in either case
abbrev pub hex_bytes : List ℕ → Option (List ℕ)
hex_bytes text = answered (decode_of text)

abbrev pub order_with : (ℕ → Order) → Option ℕ → Order
order_with f None = Bad
order_with f (Some n) = f n

-- at least one byte
abbrev pub give_hex : Option (List ℕ) → ℕ → Order
give_hex None n = Bad
give_hex (Some []) n = Bad
give_hex (Some (b ∷ bytes)) n = Give n (b ∷ bytes)

abbrev pub order_of_word : List ℕ → List ℕ → Order
order_of_word word rest =
    if bytes_eq word (codes "open") then order_with Open (conn_number rest)
    else if bytes_eq word (codes "cut") then order_with Hang (conn_number rest)
    else if bytes_eq word (codes "say") then order_with (λ n. Give n (rest_after 32 rest ++ (13 ∷ 10 ∷ [])))
    (conn_number (before 32 rest))
    else if bytes_eq word (codes "came") then order_with (give_hex (hex_bytes (rest_after 32 rest)))
    (conn_number (before 32 rest))
    else Bad

-- empty lines and those that begin with `#` are skipped
abbrev pub order_of : List ℕ → Order
order_of [] = Skip
order_of (b ∷ line) = if b == 35 then Skip else order_of_word (before 32 (b ∷ line)) (rest_after 32 (b ∷ line))

-- of a line without its LF, and without a CR before that
abbrev pub order_in : List ℕ → Order
order_in line = order_of (bared (before 10 line))

-- A RUN: the history so far (its latest event first), the marks that are left, and what was written; and whether the
-- disk failed
pub record Run : Type 0 where
  pub state : State
  pub past : List Marked
  pub marks : List Mark
  pub out : List ℕ
  pub down : Bool

-- the mark of the next event. Where none is left it is served
abbrev pub next_mark : List Mark → Mark
next_mark [] = Served
next_mark (m ∷ marks) = m

-- what is written after a call
abbrev pub written_bytes : ℕ → List ℕ → List ℕ
written_bytes n [] = []
written_bytes n (b ∷ bytes) =
    codes "< " ++ (decimal n ++ (32 ∷ (decimal (length (b ∷ bytes)) ++ (10 ∷ ((b ∷ bytes) ++ (10 ∷ []))))))

abbrev pub written_close : ℕ → Bool → List ℕ
written_close n closes = if closes then codes "x " ++ (decimal n ++ (10 ∷ [])) else []

abbrev pub written_refusal : ℕ → SessionError → List ℕ
written_refusal n (Stop DiskFault) = []
written_refusal n f = codes "! " ++ (decimal n ++ (32 ∷ (decimal (error_number f) ++ (10 ∷ []))))

abbrev pub written : ℕ → Outcome → List ℕ
written n (Gave bytes taken closes more) = written_bytes n bytes ++ written_close n closes
written n Done = []
written n (Refused f) = written_refusal n f

abbrev pub is_fault : Outcome → Bool
is_fault (Refused (Stop DiskFault)) = true
is_fault _ = false

-- a run after a call, and what the call answered
pub record Called : Type 0 where
  pub run : Run
  pub outcome : Outcome

abbrev pub called : Run → ℕ → Event → Mark → Step → Called
called r n e m t = record {
  run = record {
    state = t.state;
    past = (e, m) ∷ r.past;
    marks = drop 1 r.marks;
    out = r.out ++ written n t.outcome;
    down = is_fault t.outcome;
  };
  outcome = t.outcome;
}

unfoldable pub call : Run → ℕ → Event → Called
call r n e = let m = next_mark r.marks in called r n e m (step r.state e m)

-- a run, and whether the line's bytes go on
pub record Flow : Type 0 where
  pub run : Run
  pub goes_on : Bool

abbrev pub flow : Run → Bool → Flow
flow r b = record { run = r; goes_on = b }

-- while an answer has `more`, the next call is `more`. A text has fewer than 2^64 bytes, so there are fewer such calls
abbrev pub mores_after : (Run → Flow) → Called → Flow
mores_after go c = elim c.outcome [
  | Gave bytes taken true more ↦ flow c.run false
  | Gave bytes taken false true ↦ go c.run
  | Gave bytes taken false false ↦ flow c.run true
  | Done ↦ flow c.run false
  | Refused f ↦ flow c.run false
]

unfoldable pub most_calls : ℕ
most_calls = 18446744073709551615

unfoldable pub mores : ℕ → ℕ → Run → Flow
mores zero n r = flow r true
mores (suc k) n r = mores_after (mores k n) (call r n (More n))

-- bytes are given until all are taken; a connection that closed or was refused drops the rest
abbrev pub onward : (Run → Run) → Flow → Run
onward go f = elim f.goes_on [ true ↦ go f.run | false ↦ f.run ]

abbrev pub after_given : (List ℕ → Run → Run) → ℕ → List ℕ → Called → Run
after_given go n bytes c = elim c.outcome [
  | Gave given taken closes more ↦ onward (go (drop taken bytes)) (mores_after (mores most_calls n) c)
  | Done ↦ c.run
  | Refused f ↦ c.run
]

unfoldable pub give_within : ℕ → ℕ → List ℕ → Run → Run
give_within zero n bytes r = r
give_within (suc k) n [] r = r
give_within (suc k) n (b ∷ bytes) r = after_given (give_within k n) n (b ∷ bytes) (call r n (Came n (b ∷ bytes)))

abbrev pub obeyed : Order → Run → Run
obeyed Skip r = r
obeyed (Open n) r = (call r n (Opened n)).run
obeyed (Give n bytes) r = give_within (length bytes) n bytes r
obeyed (Hang n) r = (call r n (Ended n)).run
obeyed Bad r = r

-- AT THE END the open connections are cut in order, from one on, so many
abbrev pub cut_next : (Run → Run) → Run → ℕ → Bool → Run
cut_next go r n true = go r
cut_next go r n false = go (call r n (Ended n)).run

unfoldable pub cut_from : ℕ → ℕ → Run → Run
cut_from zero n r = r
cut_from (suc k) n r = cut_next (cut_from k (n + 1)) r n (is_closed (r.state.conns n) || r.down)

-- how a script ends: well, at a line that is no order, or where the disk failed
pub data Exit : Type 0 where
  Ran : Exit
  AtLine : ℕ → Exit
  Faulted : Exit

pub record Result : Type 0 where
  pub run : Run
  pub exit : Exit

abbrev pub ended_as : Run → Exit → Result
ended_as r exit = record { run = r; exit = exit }

abbrev pub finished_run : Run → Result
finished_run r = ended_as r (if r.down then Faulted else Ran)

abbrev pub is_bad : Order → Bool
is_bad Bad = true
is_bad _ = false

-- more than MOST_LINE bytes in a line, not counting its LF, or more than MOST_SCRIPT in the script up to the line's
-- end, its LF among them
abbrev pub is_long : ℕ → List ℕ → Bool
is_long start line = nat_lt MOST_LINE (length (before 10 line)) || nat_lt MOST_SCRIPT (start + length line)

-- the lines from this one on, of which the first is this number and begins at this byte
unfoldable pub run_lines : ℕ → ℕ → List (List ℕ) → Run → Result
run_lines number start [] r = finished_run (cut_from MOST_OPEN 0 r)
run_lines number start (line ∷ lines) r =
    let order = order_in line in
    elim r.down [
      | true ↦ ended_as r Faulted
      | false ↦ elim (is_long start line || is_bad order) [
        | true ↦ ended_as r (AtLine number)
        | false ↦ run_lines (number + 1) (start + length line) lines (obeyed order r)
      ]
    ]

abbrev pub run_from : State → List Mark → Run
run_from st marks = record { state = st; past = []; marks = marks; out = []; down = false }

-- THE SCRIPT: its result over the marks of its calls
unfoldable pub script_result : State → List Mark → List ℕ → Result
script_result st marks bytes = run_lines 1 0 (script_lines bytes) (run_from st marks)

-- the script is what the reader had left, where that is known, up to one byte more than a script may have
abbrev pub IsScript : Option (List ℕ) → List ℕ → Type 0
IsScript None script = Unit {0}
IsScript (Some bytes) script = script ≡ take 1073741825 bytes
