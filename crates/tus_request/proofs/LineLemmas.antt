-- The lines of a head, one after another.
use Rattle.std.specs.Prelude.{◌≡◌, ℕ, ◌+◌, ◌<◌, ◌≤◌, ◌⊎◌, Bool, true, false, List, [], ◌∷◌, length, take, drop}
use Rattle.std.specs.Prelude.{◌==◌, Option, Some, None, option_map}
use Rattle.std.proofs.Common.{arith, ◌∙◌, refl, zero, suc, get_or, inl, inr, add-one}
use Rattle.std.specs.List.{position}
use Rattle.std.proofs.lemmas.List.Quantifiers.{position-Some}
use Rattle.std.proofs.lemmas.List.{length-take, length-drop}
use Rattle.common.proofs.Splits.{none_passes}
use Rattle.tus_request.specs.Lines.{lines, is_empty_line, up_to_empty, head_lines, Extent, extent_of, head_extent}

pub true_or_false : (v : Bool) → (v ≡ true) ⊎ (v ≡ false)
true_or_false true = inl refl
true_or_false false = inr refl

no_line : (bytes : List ℕ) → ((k : ℕ) → k < length bytes → (get_or bytes k 0 == 10) ≡ false) → lines bytes ≡ []
no_line [] none = refl
no_line (b ∷ bytes) none =
    let rest : lines bytes ≡ [] = no_line bytes (λ k h. none (suc k) (omega arith)) in
    rw (none 0 (omega arith), rest)

one_line : (bytes : List ℕ) (i : ℕ) → i < length bytes → (get_or bytes i 0 == 10) ≡ true
    → ((k : ℕ) → k < i → (get_or bytes k 0 == 10) ≡ false) → lines bytes ≡ take (suc i) bytes ∷ lines
    (drop (suc i) bytes)
one_line [] i inside feed none = absurd (omega arith)
one_line (b ∷ bytes) zero inside feed none = rw feed
one_line (b ∷ bytes) (suc i) inside feed none =
    rw (none 0 (omega arith), one_line bytes i (omega arith) feed (λ k h. none (suc k) (omega arith)))

-- bytes with no LF have no whole line
pub lines_none : (bytes : List ℕ) → position (λ b. b == 10) bytes ≡ None → lines bytes ≡ []
lines_none bytes e = no_line bytes (none_passes (λ b. b == 10) bytes e)

-- the first LF ends the first line
pub lines_some : (bytes : List ℕ) (i : ℕ) → position (λ b. b == 10) bytes ≡ Some i
    → (i < length bytes) × (lines bytes ≡ take (i + 1) bytes ∷ lines (drop (i + 1) bytes))
lines_some bytes i e =
    let p = position-Some (λ b. b == 10) bytes i 0 e in
    (p.0, rw add-one (one_line bytes i p.0 p.1 p.2))

-- with the bytes and the lines at the start
abbrev pub further : ℕ → ℕ → Option Extent → Option Extent
further len texts o = option_map (λ e. record { len = len + e.len; texts = texts + e.texts }) o

-- what the lines that are left make of a head, after so many lines that aren't empty
abbrev pub extent_after : ℕ → List (List ℕ) → Option Extent
extent_after zero rest = option_map extent_of (head_lines rest)
extent_after (suc n) rest = option_map extent_of (up_to_empty rest)

further_none : (len texts n : ℕ) → further len texts (extent_after n []) ≡ None
further_none len texts n = grind arith

-- a line that isn't empty
pub after_text : (len texts : ℕ) (line : List ℕ) (rest : List (List ℕ)) → is_empty_line line ≡ false
    → further len texts (extent_after texts (line ∷ rest)) ≡ further (len + length line) (suc texts)
    (extent_after (suc texts) rest)
after_text len texts line rest e = grind arith

-- an empty line at the start
pub after_empty : (len : ℕ) (line : List ℕ) (rest : List (List ℕ)) → is_empty_line line ≡ true
    → further len 0 (extent_after 0 (line ∷ rest)) ≡ further (len + length line) 0 (extent_after 0 rest)
after_empty len line rest e = grind arith

-- the empty line that ends the head
pub at_end : (len texts : ℕ) (line : List ℕ) (rest : List (List ℕ)) → 0 < texts → is_empty_line line ≡ true
    → further len texts (extent_after texts (line ∷ rest)) ≡ Some (record { len = len + length line; texts = texts })
at_end len texts line rest some e = grind arith

-- what a loop over the lines knows
pub record IsSoFar (bytes rest : List ℕ) (len texts : ℕ) : Type 0 where
  pub extent : head_extent bytes ≡ further len texts (extent_after texts (lines rest))
  pub all : len + length rest ≡ length bytes
  pub few : texts ≤ len

pub further_zero : (o : Option Extent) → o ≡ further 0 0 o
further_zero o = grind arith

pub at_start : (bytes : List ℕ) → IsSoFar bytes bytes 0 0
at_start bytes = record { extent = further_zero (head_extent bytes); all = omega arith; few = omega arith }

-- one more line, which isn't empty
pub text_more : (bytes rest : List ℕ) (len texts last : ℕ) (line more : List ℕ) → IsSoFar bytes rest len texts
    → position (λ b. b == 10) rest ≡ Some last → line ≡ take (last + 1) rest → more ≡ drop (last + 1) rest
    → is_empty_line line ≡ false → IsSoFar bytes more (len + length line) (texts + 1)
text_more bytes rest len texts last line more was feed prefix back text =
    let s = lines_some rest last feed in
    let ls : lines rest ≡ line ∷ lines more = rw (prefix, back) s.1 in
    record {
      extent = rw add-one ((rw ls at was.extent) ∙ after_text len texts line (lines more) text);
      all = rw (prefix, back) (omega (arith, was.all, s.0, length-take (last + 1) rest, length-drop (last + 1) rest));
      few = rw prefix (omega (arith, was.few, s.0, length-take (last + 1) rest));
    }

-- an empty line at the start
pub empty_more : (bytes rest : List ℕ) (len texts last : ℕ) (line more : List ℕ) → IsSoFar bytes rest len texts
    → position (λ b. b == 10) rest ≡ Some last → line ≡ take (last + 1) rest → more ≡ drop (last + 1) rest
    → is_empty_line line ≡ true → texts ≡ 0 → IsSoFar bytes more (len + length line) texts
empty_more bytes rest len texts last line more was feed prefix back text none =
    let s = lines_some rest last feed in
    let ls : lines rest ≡ line ∷ lines more = rw (prefix, back) s.1 in
    record {
      extent = rw none ((rw (ls, none) at was.extent) ∙ after_empty len line (lines more) text);
      all = rw (prefix, back) (omega (arith, was.all, s.0, length-take (last + 1) rest, length-drop (last + 1) rest));
      few = rw prefix (omega (arith, was.few, s.0, length-take (last + 1) rest));
    }

-- the empty line that ends the head
pub ends_here : (bytes rest : List ℕ) (len texts last : ℕ) (line : List ℕ) → IsSoFar bytes rest len texts
    → position (λ b. b == 10) rest ≡ Some last → line ≡ take (last + 1) rest
    → is_empty_line line ≡ true → 0 < texts → head_extent bytes ≡ Some (record {
      len = len + length line;
      texts = texts;
    })
ends_here bytes rest len texts last line was feed prefix text some =
    let s = lines_some rest last feed in
    let ls : lines rest ≡ line ∷ lines (drop (last + 1) rest) = rw prefix s.1 in
    (rw ls at was.extent) ∙ at_end len texts line (lines (drop (last + 1) rest)) some text

-- no head is whole
pub not_whole : (bytes rest : List ℕ) (len texts : ℕ) → IsSoFar bytes rest len texts
    → position (λ b. b == 10) rest ≡ None → head_extent bytes ≡ None
not_whole bytes rest len texts was feed = (rw (lines_none rest feed) at was.extent) ∙ further_none len texts texts
