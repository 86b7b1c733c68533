-- Characters of two bytes in the Japanese encodings, by a table of the pointers of jis0208.
use Rattle.std.specs.Prelude.{ℕ, List, ◌≡◌, ◌<◌, Option, IfSome}
use Rattle.enc_index.specs.Entries.{found_pointer}
use Rattle.enc_model.specs.declared.Encoding.{Encoding}
use Rattle.enc_model.specs.declared.Encoding.TheVariants.{ShiftJis}
use Rattle.enc_model.specs.Encode.{Tables}
use Rattle.enc_model.specs.Index.{Index, pointer, pointer_sjis}

-- pointers of jis0208
abbrev pub JisPointers : List ℕ → Type 0
JisPointers at = (c : ℕ) → IfSome (found_pointer at c) (λ p. p < 11280)

-- the pointer of a character that an encoding looks up in jis0208
abbrev pub pair_pointer : Encoding → Index → ℕ → Option ℕ
pair_pointer ShiftJis = pointer_sjis
pair_pointer _ = pointer

-- a table gives the pointers that an encoding looks up
abbrev pub ArePairPointers : Tables → Encoding → List ℕ → Type 0
ArePairPointers t to at = (c : ℕ) → found_pointer at c ≡ pair_pointer to t.jis0208 c
