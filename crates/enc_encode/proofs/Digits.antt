-- A reference that is made from its end.
use Rattle.std.proofs.Common.{ℕ, zero, suc, ◌≡◌, ◌<◌, ◌≤◌, ◌+◌, ◌-◌, ◌/◌, ◌%◌, ◌^◌, List, [], ◌∷◌, ◌++◌}
use Rattle.std.proofs.Common.{sym, ◌∙◌, ap, ap₂, subst, append_assoc, arith, length, length-append, take, drop, set}
use Rattle.std.proofs.Common.{replicate}
use Rattle.std.proofs.lemmas.Fmt.{decimal_digit, decimal_step}
use Rattle.std.proofs.lemmas.List.{drop-set, length-drop, length-replicate}
use Rattle.std.proofs.Math.Nat.{pow-succ'}
use Rattle.std.proofs.Math.Seq.{take-append_seam}
use Rattle.std.specs.Prelude.{decimal}
use Rattle.enc_model.specs.Encode.{reference}

-- a number of more than one digit has as many fewer tenths as its place allows
tenth : (k left : ℕ) → 10 ≤ left → left < 10 ^ suc k → (1 ≤ k) × (left / 10 < 10 ^ k)
tenth zero left l h = absurd (omega (arith, l, h))
tenth (suc j) left l h =
    let p = pow-succ' 10 (suc j) in (omega arith, omega (arith, h, p))

pub fewer : (place left : ℕ) → 9 ≤ place → 10 ≤ left → left < 10 ^ (place - 8)
    → (10 ≤ place) × (left / 10 < 10 ^ (place - 1 - 8))
fewer place left l m h =
    let k = place - 9 in
    let e : place - 8 ≡ suc k = omega (arith, l) in
    let f : place - 1 - 8 ≡ k = omega (arith, l) in
    let t = tenth k left m (subst (λ z. left < 10 ^ z) e h) in
    (let s = t.0 in omega (arith, l, s), subst (λ z. left / 10 < 10 ^ z) (sym f) t.1)

-- a byte before the others
before : (bytes : List ℕ) (place b : ℕ) → 1 ≤ place → place ≤ length bytes
    → drop (place - 1) (set bytes (place - 1) b) ≡ b ∷ drop place bytes
before bytes place b l m =
    let next : place - 1 + 1 ≡ place = omega (arith, l) in
    drop-set bytes (place - 1) b (omega (arith, l, m)) ∙ ap (λ k. b ∷ drop k bytes) next

-- one digit more
pub digit_more : (n left place : ℕ) (bytes rest : List ℕ) → 1 ≤ place → place ≤ length bytes → 10 ≤ left
    → left < 2 ^ 64 → decimal n ++ rest ≡ decimal left ++ drop place bytes →
    decimal n ++ rest ≡ decimal (left / 10) ++ drop (place - 1) (set bytes (place - 1) (48 + left % 10))
digit_more n left place bytes rest l m ten small e =
    e ∙ ap (λ z. z ++ drop place bytes) (decimal_step left ten small)
    ∙ append_assoc (decimal (left / 10)) ((48 + left % 10) ∷ []) (drop place bytes)
    ∙ ap (λ z. decimal (left / 10) ++ z) (sym (before bytes place (48 + left % 10) l m))

pub digit_last : (n left place : ℕ) (bytes rest : List ℕ) → 1 ≤ place → place ≤ length bytes → left < 10
    → decimal n ++ rest ≡ decimal left ++ drop place bytes →
    drop (place - 1) (set bytes (place - 1) (48 + left)) ≡ decimal n ++ rest
digit_last n left place bytes rest l m small e =
    before bytes place (48 + left) l m ∙ ap (λ z. z ++ drop place bytes) (sym (decimal_digit left small)) ∙ sym e

-- as many bytes as there are up to the sixteenth
pub reference_taken : (c place : ℕ) (bytes : List ℕ) → place ≤ 16 → length bytes ≡ 32
    → drop place bytes ≡ reference c ++ replicate 16 0x3B → take (16 - place) (drop place bytes) ≡ reference c
reference_taken c place bytes l m e =
    let r = reference c in
    let rest : List ℕ = replicate 16 0x3B in
    let all : length (drop place bytes) ≡ length (r ++ rest) = ap length e in
    let some = length-drop place bytes in
    let more = length-append r rest in
    let last = length-replicate {A = ℕ} 16 0x3B in
    let count : 16 - place ≡ length r = omega (arith, l, m, all, some, more, last) in
    ap (take (16 - place)) e ∙ ap (λ k. take k (r ++ rest)) count ∙ take-append_seam r rest

-- the digits of a number that has two, three, four or five
two : (n : ℕ) → 10 ≤ n → n < 100 → (48 + n / 10) ∷ (48 + n % 10) ∷ [] ≡ decimal n
two n l h = sym (decimal_step n l (omega (arith, h))
    ∙ ap (λ z. z ++ (48 + n % 10) ∷ []) (decimal_digit (n / 10) (omega (arith, h))))

-- one digit after those of the tenth
digit_after : (n : ℕ) (digits : List ℕ) → 10 ≤ n → n < 100000 → digits ≡ decimal (n / 10)
    → digits ++ (48 + n % 10) ∷ [] ≡ decimal n
digit_after n digits l h e = ap (λ z. z ++ (48 + n % 10) ∷ []) e ∙ sym (decimal_step n l (omega (arith, h)))

pub three : (n : ℕ) → 100 ≤ n → n < 1000
    → (48 + n / 100 % 10) ∷ (48 + n / 10 % 10) ∷ (48 + n % 10) ∷ [] ≡ decimal n
three n l h =
    let first : n / 100 % 10 ≡ n / 10 / 10 = omega (arith, h) in
    digit_after n ((48 + n / 100 % 10) ∷ (48 + n / 10 % 10) ∷ []) (omega (arith, l)) (omega (arith, h))
    (ap (λ i. (48 + i) ∷ (48 + n / 10 % 10) ∷ []) first ∙ two (n / 10) (omega (arith, l)) (omega (arith, h)))

pub four : (n : ℕ) → 1000 ≤ n → n < 10000
    → (48 + n / 1000 % 10) ∷ (48 + n / 100 % 10) ∷ (48 + n / 10 % 10) ∷ (48 + n % 10) ∷ [] ≡ decimal n
four n l h =
    let first : n / 1000 % 10 ≡ n / 10 / 100 % 10 = omega arith in
    let second : n / 100 % 10 ≡ n / 10 / 10 % 10 = omega arith in
    digit_after n ((48 + n / 1000 % 10) ∷ (48 + n / 100 % 10) ∷ (48 + n / 10 % 10) ∷ []) (omega (arith, l))
    (omega (arith, h)) (ap₂ (λ i k. (48 + i) ∷ (48 + k) ∷ (48 + n / 10 % 10) ∷ []) first second
    ∙ three (n / 10) (omega (arith, l)) (omega (arith, h)))

pub five : (n : ℕ) → 10000 ≤ n → n < 100000
    → (48 + n / 10000 % 10) ∷ (48 + n / 1000 % 10) ∷ (48 + n / 100 % 10) ∷ (48 + n / 10 % 10) ∷ (48 + n % 10) ∷ []
    ≡ decimal n
five n l h =
    let first : n / 10000 % 10 ≡ n / 10 / 1000 % 10 = omega arith in
    let second : n / 1000 % 10 ≡ n / 10 / 100 % 10 = omega arith in
    let third : n / 100 % 10 ≡ n / 10 / 10 % 10 = omega arith in
    digit_after n ((48 + n / 10000 % 10) ∷ (48 + n / 1000 % 10) ∷ (48 + n / 100 % 10) ∷ (48 + n / 10 % 10) ∷ [])
    (omega (arith, l)) h (ap₂ (λ i k. (48 + i) ∷ (48 + k) ∷ (48 + n / 100 % 10) ∷ (48 + n / 10 % 10) ∷ []) first second
    ∙ ap (λ i. (48 + n / 10 / 1000 % 10) ∷ (48 + n / 10 / 100 % 10) ∷ (48 + i) ∷ (48 + n / 10 % 10) ∷ []) third
    ∙ four (n / 10) (omega (arith, l)) (omega (arith, h)))

-- a reference, by its digits
pub reference_by : (c : ℕ) (digits : List ℕ) → digits ≡ decimal c
    → 0x26 ∷ 0x23 ∷ (digits ++ 0x3B ∷ []) ≡ reference c
reference_by c digits e = ap (λ z. 0x26 ∷ 0x23 ∷ (z ++ 0x3B ∷ [])) e
