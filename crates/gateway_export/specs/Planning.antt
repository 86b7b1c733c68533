-- Which texts are to be written, and the names of their files.
use Rattle.std.specs.Prelude.{ℕ, Bool, ◌&&◌, ◌||◌, List, ◌∷◌, ◌++◌, codes, decimal, length, map, nat_le}
use Rattle.std.specs.Prelude.{if◌then◌else◌, Option, Some, None, option_map, string_bytes}
use Rattle.upload_rules.specs.Store.{Store, Upload, is_complete}
use Rattle.gateway_texts.specs.Naming.{given_name, is_safe_name}
use Rattle.gateway_export.specs.declared.planning.Job as code

-- an upload's number, and its file's name where its text is to be written
abbrev pub Job : Type 0
Job = ℕ × Option (List ℕ)

-- the first name where the folder takes it, and else the second
abbrev pub taken_or : (List ℕ → Bool) → List ℕ → List ℕ → List ℕ
taken_or takes name plain = if takes name then name else plain

-- a job as the code has it, in a folder that takes these names
abbrev pub job_in : (List ℕ → Bool) → code.Job → Job
job_in takes job =
    (job.number, option_map (λ name. taken_or takes name (string_bytes job.plain)) (option_map string_bytes job.name))

-- the name by an upload's number, and the one by its number and a name that its metadata gives
abbrev pub number_name : ℕ → List ℕ
number_name n = decimal n ++ codes ".txt"

abbrev pub long_name : ℕ → List ℕ → List ℕ
long_name n name = decimal n ++ (45 ∷ name)

abbrev pub name_or : (List ℕ → Bool) → Option (List ℕ) → ℕ → List ℕ
name_or takes None n = number_name n
name_or takes (Some name) n = taken_or takes name (number_name n)

-- where that is safe, has at most 255 bytes, and is one that the folder takes
abbrev pub chosen : (List ℕ → Bool) → ℕ → Option (List ℕ) → List ℕ
chosen takes n None = number_name n
chosen takes n (Some name) =
    if is_safe_name name && (nat_le (length (long_name n name)) 255 && takes (long_name n name)) then long_name n name
    else number_name n

-- THE FILE OF AN UPLOAD, of this number and this metadata. No other upload is asked
abbrev pub file_name : (List ℕ → Bool) → ℕ → List ℕ → List ℕ
file_name takes n metadata = chosen takes n (given_name metadata)

-- the text is written where it is complete, or where all are
abbrev pub job_for : (List ℕ → Bool) → Bool → ℕ → Bool → List ℕ → Job
job_for takes all n complete metadata = (n, if all || complete then Some (file_name takes n metadata) else None)

abbrev pub job_of : (List ℕ → Bool) → Bool → ℕ × Upload → Job
job_of takes all e = job_for takes all e.0 (is_complete e.1) e.1.metadata

-- ALL UPLOADS, by number
abbrev pub jobs_of : (List ℕ → Bool) → Bool → Store → List Job
jobs_of takes all m = map (job_of takes all) m.uploads
