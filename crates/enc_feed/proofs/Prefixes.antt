-- Bytes that decode to themselves.
use Rattle.std.proofs.Common.{Result, ℕ, ◌<◌, ◌≡◌, ◌++◌, false, List, [], Some, All, sym, ap, subst, arith, take, drop}
use Rattle.std.proofs.Common.{take-append-drop, get_or}
use Rattle.std.proofs.lemmas.Bool.Decides.{nat_tests}
use Rattle.std.proofs.lemmas.List.Sums.{prefix_len-le-length, prefix_len_passes}
use Rattle.std.proofs.lemmas.List.Folds.{length-prefix_len}
use Rattle.std.proofs.lemmas.List.Elements.{All-from_get_or}
use Rattle.std.proofs.lemmas.List.{get_or-take}
use Rattle.std.specs.List.{prefix_len}
use Rattle.std.specs.Char.{is_ascii}
use Rattle.enc_model.specs.declared.Answer.TheVariants.{Point}
use Rattle.enc_model.specs.Stream.{Handler, IsCalm, steps}
use Rattle.enc_model.specs.Sink.{Given}
use Rattle.enc_feed.specs.AsciiPrefix.{IsAsciiPrefix}
use Rattle.enc_model.proofs.Steps.{steps_none, steps_run, steps_append}

none_short : (P : ℕ → Type 0) → All P []
none_short P k d l = absurd (omega (arith, l))

pub prefix_all : (bytes : List ℕ) → All (λ b. b < 128) (take (prefix_len is_ascii bytes) bytes)
prefix_all bytes =
    let n = prefix_len is_ascii bytes in
    All-from_get_or (λ b. b < 128) (take n bytes) 0 (λ k l.
    let m : k < n = let e = length-prefix_len is_ascii bytes in omega (arith, l, e) in
    let p = prefix_len_passes is_ascii bytes k 0 m in
    let q : get_or bytes k 0 < 128 = grind (arith, nat_tests, p) in
    subst (λ b. b < 128) (sym (get_or-take n bytes k 0 m)) q)

module _ {S : Type 0} (h : Handler S) where
  pub prefix_none : (s : S) (bytes : List ℕ) → IsAsciiPrefix h s bytes 0
  prefix_none s bytes = record { within = omega arith; ascii = none_short (λ b. b < 128); own = steps_none h s }

  pub prefix_ascii : IsCalm h → (s : S) (bytes : List ℕ) (n : ℕ) → n ≡ prefix_len is_ascii bytes →
      ((b : ℕ) → b < 128 → h s (Some b) ≡ record { state = s; answer = Point b; restored = [] })
      → IsAsciiPrefix h s bytes n
  prefix_ascii calm s bytes n e plain =
      let all = subst (λ k. All (λ b. b < 128) (take k bytes)) (sym e) (prefix_all bytes) in
      record {
        within = let l = prefix_len-le-length is_ascii bytes in omega (arith, e, l);
        ascii = all;
        own = steps_run h calm (λ b. b < 128) s plain (take n bytes) all;
      }

  -- a prefix that was given
  pub prefix_given : {X E A : Type 0} (takes : A → List ℕ → A → Type 0) (refuses : A → List ℕ → E → A → Type 0) (s : S)
      (bytes : List ℕ) (n : ℕ) (a b : A) (r : Result X E) →
      IsAsciiPrefix h s bytes n → Given takes refuses a (take n bytes) b r → Given takes refuses a
      (steps h false s (take n bytes)).text b r
  prefix_given takes refuses s bytes n a b r f g =
      subst (λ z. Given takes refuses a z b r) (ap (λ run. run.text) (sym f.own)) g

  -- a refusal of a prefix
  pub refused_prefix : {A E : Type 0} (refuses : A → List ℕ → E → A → Type 0)
      → ((a b : A) (x y : List ℕ) (e : E) → refuses a x e b → refuses a (x ++ y) e b) →
      IsCalm h → (s : S) (rest : List ℕ) (n : ℕ) (a b : A) (e : E) → refuses a (steps h false s (take n rest)).text e b
      → refuses a (steps h false s rest).text e b
  refused_prefix refuses more calm s rest n a b e r =
      let first = steps h false s (take n rest) in
      subst (λ p. refuses a (steps h false s p).text e b) (take-append-drop n rest)
      (subst (λ run. refuses a run.text e b) (sym (steps_append h calm false s (take n rest) (drop n rest)))
      (more a b first.text (steps h false first.state (drop n rest)).text e r))
