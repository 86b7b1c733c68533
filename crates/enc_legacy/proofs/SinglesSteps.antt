-- The steps of the single-byte decoders in one handler are those of each encoding's own.
use Rattle.std.proofs.Common.{◌++◌, ◌-◌, ◌<◌, None, Option, All, map, slice_index, sym, nat_lt, if◌then◌else◌, ℕ, zero}
use Rattle.std.proofs.Common.{suc, ◌≡◌, ◌+◌, ◌*◌, List, [], ◌∷◌, Bool, true, false, Some, Result, Ok, Err, OnOk, length}
use Rattle.std.proofs.Common.{refl, ap, ◌∙◌, arith, subst, take, get_or, Fits, w8}
use Rattle.std.proofs.lemmas.List.{length-take, get_or-take}
use Rattle.std.specs.Str.{chars}
use Rattle.std.proofs.lemmas.Bool.Decides.{nat_tests}
use Rattle.enc_model.specs.declared.Encoding.{Encoding}
use Rattle.enc_model.specs.Encode.{Tables}
use Rattle.std.specs.Prelude.{unwrap_or}
use Rattle.std.proofs.lemmas.List.Elements.{All-head, All-tail, All-from_get_or}
use Rattle.enc_model.specs.declared.Answer.TheVariants.{Point}
use Rattle.enc_feed.specs.Batches.{BatchTook}
use Rattle.enc_model.specs.Index.{Index, code}
use Rattle.enc_model.specs.Stream.{DecoderRun, points_of, text_then, steps, steps_within, all_bytes, byte_run}
use Rattle.enc_feed.proofs.Gathered.{from_nothing}
use Rattle.enc_model.proofs.Steps.{steps_bytes}
use Rattle.enc_index.specs.Bytes.{byte_char}
use Rattle.enc_model.specs.Japanese.{single, point_or_error}
use Rattle.enc_legacy.specs.Singles.{single_in, single_start}
use Rattle.enc_legacy.specs.SinglesCalm.{single_in_calm}

in_within : (t : Tables) (n : ℕ) (ended : Bool) (e : Encoding) (bytes : List ℕ) →
    steps_within n (single_in t) ended e bytes ≡ record {
      text = (steps_within n (single (t.single e)) ended single_start bytes).text;
      state = e;
    }
unfolding steps_within single_in single
in_within t zero ended e bytes = refl
in_within t (suc n) ended e (b ∷ bytes) =
    ap (text_then (points_of (single_in t e (Some b)).answer)) (in_within t n ended e bytes)
in_within t (suc n) false e [] = refl
in_within t (suc n) true e [] = refl

pub single_in_steps : (t : Tables) (ended : Bool) (e : Encoding) (bytes : List ℕ) →
    steps (single_in t) ended e bytes ≡ record {
      text = (steps (single (t.single e)) ended single_start bytes).text;
      state = e;
    }
unfolding steps
single_in_steps t ended e bytes = in_within t (3 * length bytes + 8) ended e bytes

-- a state that is what the handler gives is the encoding
pub same_encoding : {X E : Type 0} (t : Tables) (ended : Bool) (e new : Encoding) (bytes : List ℕ) (res : Result X E) →
    OnOk res (new ≡ (steps (single_in t) ended e bytes).state) → OnOk res (new ≡ e)
same_encoding t ended e new bytes (Ok x) is = is ∙ ap (λ run. run.state) (single_in_steps t ended e bytes)
same_encoding t ended e new bytes (Err x) is = tt

-- WHAT THE BYTES DECODE TO

char_points : (t : Bool) (b : ℕ) (o : Option ℕ) → points_of
    (if t then Point b else point_or_error o) ++ [] ≡ (if t then b else unwrap_or o 0xFFFD) ∷ []
char_points true b o = refl
char_points false b None = refl
char_points false b (Some c) = refl

byte_given : (t : Tables) (e : Encoding) (b : ℕ) → byte_run (single_in t) e b ≡ record {
  text = byte_char (t.single e) b ∷ [];
  state = e;
}
unfolding single_in
byte_given t e b = ap (λ z. record { text = z; state = e }) (char_points (nat_lt b 0x80) b
    (code (t.single e) (b - 0x80)))

-- where a table has at each byte its character
pub single_chars : (t : Tables) (e : Encoding) (chars bytes : List ℕ)
    → ((b : ℕ) → b < 256 → slice_index chars b ≡ byte_char (t.single e) b) →
    All (λ b. b < 256) bytes → map (λ b. slice_index chars b) bytes ≡ (steps (single_in t) false e bytes).text
single_chars t e chars bytes table all =
    sym (ap (λ run. run.text) (steps_bytes (single_in t) (single_in_calm t) e bytes) ∙ go bytes all)
  where
    go : (bytes : List ℕ) → All (λ b. b < 256) bytes → (all_bytes (byte_run (single_in t)) e bytes).text ≡ map
        (λ b. slice_index chars b) bytes
    go [] a = refl
    go (b ∷ bytes) a =
        let f = byte_run (single_in t) in
        ap (λ (r : DecoderRun Encoding). r.text ++ (all_bytes f r.state bytes).text) (byte_given t e b)
        ∙ ap (λ z. byte_char (t.single e) b ∷ z) (go bytes (All-tail (λ x. x < 256) b bytes a))
        ∙ ap (λ z. z ∷ map (λ x. slice_index chars x) bytes) (sym (table b (All-head (λ x. x < 256) b bytes a)))

-- the state stays
pub single_state : (t : Tables) (e : Encoding) (bytes : List ℕ) → e ≡ (steps (single_in t) false e bytes).state
single_state t e bytes = sym (ap (λ run. run.state) (single_in_steps t false e bytes))

byte_own : (index : Index) (b : ℕ) → b < 128 → byte_char index b ≡ b
byte_own index b l = grind (arith, nat_tests)

-- ASCII decodes to itself
pub own_chars : (index : Index) (chars : List ℕ) → ((b : ℕ) → b < 256 → slice_index chars b ≡ byte_char index b)
    → (b : ℕ) → b < 128 → slice_index chars b ≡ b
own_chars index chars table b l = table b (omega (arith, l)) ∙ byte_own index b l

-- what a batch that was empty holds of the first bytes
pub singles_gathered : (t : Tables) (e : Encoding) (table rest old new : List ℕ) (n : ℕ)
    → ((b : ℕ) → b < 256 → slice_index table b ≡ byte_char (t.single e) b) → ((k : ℕ) → Fits w8 (get_or rest k 0))
    → old ≡ [] → BatchTook old (map (λ b. slice_index table b) (take n rest)) new
    → chars new ≡ (steps (single_in t) false e (take n rest)).text
singles_gathered t e table rest old new n are fits none took =
    let bytes : All (λ b. b < 256) (take n rest) = All-from_get_or (λ b. b < 256) (take n rest) 0 (λ k l.
    let m : k < n = omega (arith, l, length-take n rest) in
    subst (λ b. b < 256) (sym (get_or-take n rest k 0 m)) (fits k).fits) in
    from_nothing old _ new none took ∙ single_chars t e table (take n rest) are bytes
