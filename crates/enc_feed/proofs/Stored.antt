-- Bytes and characters that are stored after others.
use Rattle.std.proofs.Common.{ℕ, ◌+◌, ◌-◌, ◌<◌, ◌≤◌, ◌≡◌, true, List, [], ◌∷◌, ◌++◌, refl, sym, ◌∙◌, ap, ap₂, subst}
use Rattle.std.proofs.Common.{arith, length, take, drop, map, get_or, slice_index, Fits}
use Rattle.std.proofs.Common.{w8, All, append_assoc, take-append-drop}
use Rattle.std.proofs.lemmas.List.{get_or_read_under, map-append, take_more, take_rest, take-take}
use Rattle.std.proofs.lemmas.List.{take_at, drop_at, length-take-le}
use Rattle.std.proofs.lemmas.List.Elements.{All-head, All-tail}
use Rattle.std.proofs.Math.Seq.{take-add}
use Rattle.std.specs.Str.{is_utf8}
use Rattle.enc_feed.specs.Batches.{ArePairs, BatchTook}
use Rattle.enc_feed.specs.BatchLaws.{batch_sink}
use Rattle.enc_model.proofs.Utf8Bytes.{ascii_chars, ascii_utf8}
use Rattle.enc_feed.proofs.Gathered.{text_more, took_text}

-- some of what was stored after the first n bytes
pub prefix_unchanged : (old new bytes : List ℕ) (n k m : ℕ) → n ≤ length old → k ≤ m → m ≤ length bytes
    → take (n + length (take m bytes)) new ≡ take n old ++ take m bytes → take (n + k) new ≡ take n old ++ take k bytes
prefix_unchanged old new bytes n k m long few many e =
    let first = take n old in
    let more = take m bytes in
    let count : length first ≡ n = length-take-le n old long in
    let size : length more ≡ m = length-take-le m bytes many in
    sym (take-take (n + k) (n + length more) new (omega (arith, few, size)))
    ∙ ap (take (n + k)) e
    ∙ take-add n k (first ++ more)
    ∙ ap₂ (λ a b. a ++ take k b) (take_at first more n count) (drop_at first more n count)
    ∙ ap (λ z. first ++ z) (take-take k m bytes few)

-- ASCII that was stored
pub took_prefix : (old new bytes : List ℕ) → is_utf8 old ≡ true → All (λ b. b < 128) bytes → new ≡ old ++ bytes
    → BatchTook old bytes new × (is_utf8 new ≡ true)
took_prefix old new bytes u a e =
    let v = ascii_utf8 bytes a in (
      subst (λ z. BatchTook old z new) (ascii_chars bytes a) (took_text old new bytes u v e),
      ap is_utf8 e ∙ text_more old bytes u v,
    )

-- bytes that decode to themselves
pub own_map : (char : ℕ → ℕ) (bytes : List ℕ) → ((b : ℕ) → b < 128 → char b ≡ b) → All (λ b. b < 128) bytes
    → bytes ≡ map char bytes
own_map char [] own a = refl
own_map char (b ∷ bytes) own a =
    ap₂ (λ x xs. x ∷ xs) (sym (own b (All-head (λ x. x < 128) b bytes a)))
    (own_map char bytes own (All-tail (λ x. x < 128) b bytes a))

-- the character that a table of all bytes has at one
pub char_read : (table : List ℕ) (b c : ℕ) → length table ≡ 256 → Fits w8 b → c ≡ get_or table b c
    → c ≡ slice_index table b
char_read table b c long small is =
    get_or_read_under table b (length table) c 0 is (let fits = small.fits in omega (arith, fits, long)) refl

-- the characters of some bytes, and that of the byte after them
pub map_more : (char : ℕ → ℕ) (bytes : List ℕ) (i : ℕ) → i < length bytes
    → map char (take i bytes) ++ char (get_or bytes i 0) ∷ [] ≡ map char (take (i + 1) bytes)
map_more char bytes i l =
    sym (map-append char (take i bytes) (get_or bytes i 0 ∷ [])) ∙ ap (map char) (sym (take_more bytes i 0 l))

-- the characters of some bytes, and those of some after them
pub map_parts : (char : ℕ → ℕ) (bytes rest : List ℕ) (i n : ℕ) → rest ≡ take (length bytes - i) (drop i bytes)
    → map char (take i bytes) ++ map char (take n rest) ≡ map char (take (i + n) bytes)
map_parts char bytes rest i n is =
    sym (map-append char (take i bytes) (take n rest))
    ∙ ap (map char) (ap (λ z. take i bytes ++ take n z) (is ∙ take_rest bytes i) ∙ sym (take-add i n bytes))

-- the characters of some bytes, and those of all after them
pub map_rest : (char : ℕ → ℕ) (bytes rest : List ℕ) (i : ℕ) → rest ≡ take (length bytes - i) (drop i bytes)
    → map char (take i bytes) ++ map char rest ≡ map char bytes
map_rest char bytes rest i is =
    sym (map-append char (take i bytes) rest)
    ∙ ap (map char) (ap (λ z. take i bytes ++ z) (is ∙ take_rest bytes i) ∙ take-append-drop i bytes)

-- two bytes more
pub two_more : (bytes : List ℕ) (i : ℕ) → i + 2 ≤ length bytes
    → take i bytes ++ get_or bytes i 0 ∷ get_or bytes (i + 1) 0 ∷ [] ≡ take (i + 2) bytes
two_more bytes i l =
    let a = get_or bytes i 0 in
    let b = get_or bytes (i + 1) 0 in
    let next : i + 1 + 1 ≡ i + 2 = omega arith in
    sym (append_assoc (take i bytes) (a ∷ []) (b ∷ []))
    ∙ ap (λ z. z ++ b ∷ []) (sym (take_more bytes i 0 (omega (arith, l))))
    ∙ sym (take_more bytes (i + 1) 0 (omega (arith, l)))
    ∙ ap (λ k. take k bytes) next

-- a batch took one text and then another
pub took_on : (old mid new a b c : List ℕ) → BatchTook old a mid → BatchTook mid b new → a ++ b ≡ c
    → BatchTook old c new
took_on old mid new a b c p q e =
    subst (λ z. BatchTook old z new) e ((batch_sink {E = ℕ}).both old mid new a b p q)

pub pairs_more : (P : ℕ → ℕ → ℕ → Type 0) (bytes given : List ℕ) (a b c : ℕ) → ArePairs P bytes given → P a b c
    → ArePairs P (bytes ++ a ∷ b ∷ []) (given ++ c ∷ [])
pairs_more P [] [] a b c all p = (p, tt)
pairs_more P [] (z ∷ given) a b c all p = absurd all
pairs_more P (x ∷ []) [] a b c all p = absurd all
pairs_more P (x ∷ []) (z ∷ given) a b c all p = absurd all
pairs_more P (x ∷ y ∷ bytes) [] a b c all p = absurd all
pairs_more P (x ∷ y ∷ bytes) (z ∷ given) a b c all p = (all.0, pairs_more P bytes given a b c all.1 p)
