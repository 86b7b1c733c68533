-- Where ASCII decodes to itself.
use Rattle.std.proofs.Common.{ℕ, ◌<◌, ◌≤◌, ◌≡◌, List, [], Some, arith, take, length}
use Rattle.enc_model.specs.Stream.{Handler, IsCalm}
use Rattle.enc_model.proofs.Steps.{steps_run}
use Rattle.lane_kernels.proofs.Prefixes.{lanes_prefix}
use Rattle.std.proofs.lemmas.Bool.Decides.{nat_tests}
use Rattle.std.specs.List.{prefix_len}
use Rattle.std.specs.Char.{is_ascii}
use Rattle.enc_model.specs.declared.Answer.TheVariants.{Point}
use Rattle.enc_model.specs.declared.Encoding.{Encoding}
use Rattle.enc_model.specs.Index.{Index}
use Rattle.enc_model.specs.Encode.{Tables}
use Rattle.enc_feed.specs.AsciiPrefix.{IsAsciiPrefix}
use Rattle.enc_model.specs.Japanese.{shift_jis, euc_jp, euc_jp_start, EucJp}
use Rattle.enc_model.proofs.Calm.{shift_jis_calm, euc_jp_calm}
use Rattle.enc_feed.proofs.Prefixes.{prefix_ascii}
use Rattle.enc_legacy.specs.Singles.{single_in}
use Rattle.enc_legacy.specs.SinglesCalm.{single_in_calm}

pub sjis_own : (i : Index) (b : ℕ) → b < 128 → shift_jis i 0 (Some b) ≡ record {
  state = 0;
  answer = Point b;
  restored = [];
}
unfolding shift_jis
sjis_own i b l = grind (arith, nat_tests)

pub sjis_prefix : (i : Index) (s : ℕ) (bytes : List ℕ) (n : ℕ) → s ≡ 0 → n ≡ prefix_len is_ascii bytes
    → IsAsciiPrefix (shift_jis i) s bytes n
sjis_prefix i s bytes n e h = rw e (prefix_ascii (shift_jis i) (shift_jis_calm i) 0 bytes n h (sjis_own i))

pub euc_own : (i j : Index) (b : ℕ) → b < 128 → euc_jp i j euc_jp_start (Some b) ≡ record {
  state = euc_jp_start;
  answer = Point b;
  restored = [];
}
unfolding euc_jp
euc_own i j b l = grind (arith, nat_tests)

pub euc_prefix : (i j : Index) (s : EucJp) (bytes : List ℕ) (n : ℕ) → s ≡ euc_jp_start → n ≡ prefix_len is_ascii bytes
    → IsAsciiPrefix (euc_jp i j) s bytes n
euc_prefix i j s bytes n e h = rw e (prefix_ascii (euc_jp i j) (euc_jp_calm i j) euc_jp_start bytes n h (euc_own i j))

-- the same of lanes
lanes_are : {S : Type 0} (h : Handler S) → IsCalm h → (s : S) (bytes : List ℕ) (n : ℕ)
    → ((b : ℕ) → b < 128 → h s (Some b) ≡ record { state = s; answer = Point b; restored = [] }) → 32 ≤ length bytes
    → n ≡ prefix_len is_ascii (take 32 bytes) → IsAsciiPrefix h s bytes n
lanes_are h calm s bytes n plain many e =
    let f = lanes_prefix bytes n e in record {
      within = let few = f.0 in omega (arith, few, many);
      ascii = f.1;
      own = steps_run h calm (λ b. b < 128) s plain (take n bytes) f.1;
    }

pub sjis_lanes : (i : Index) (s : ℕ) (bytes : List ℕ) (n : ℕ) → s ≡ 0 → 32 ≤ length bytes
    → n ≡ prefix_len is_ascii (take 32 bytes) → IsAsciiPrefix (shift_jis i) s bytes n
sjis_lanes i s bytes n e many h = rw e (lanes_are (shift_jis i) (shift_jis_calm i) 0 bytes n (sjis_own i) many h)

pub euc_lanes : (i j : Index) (s : EucJp) (bytes : List ℕ) (n : ℕ) → s ≡ euc_jp_start → 32 ≤ length bytes
    → n ≡ prefix_len is_ascii (take 32 bytes) → IsAsciiPrefix (euc_jp i j) s bytes n
euc_lanes i j s bytes n e many h =
    rw e (lanes_are (euc_jp i j) (euc_jp_calm i j) euc_jp_start bytes n (euc_own i j) many h)

single_own : (t : Tables) (e : Encoding) (b : ℕ) → b < 128 → single_in t e (Some b) ≡ record {
  state = e;
  answer = Point b;
  restored = [];
}
unfolding single_in
single_own t e b l = grind (arith, nat_tests)

pub single_prefix : (t : Tables) (e : Encoding) (bytes : List ℕ) (n : ℕ) → n ≡ prefix_len is_ascii bytes
    → IsAsciiPrefix (single_in t) e bytes n
single_prefix t e bytes n h = prefix_ascii (single_in t) (single_in_calm t) e bytes n h (single_own t e)
