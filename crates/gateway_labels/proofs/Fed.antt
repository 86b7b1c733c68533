-- Lists of trials, one trial on; and what they have read, one piece on.
use Rattle.std.proofs.Common.{◌≡◌, ◌∙◌, ◌≢◌, ◌++◌, ℕ, ◌+◌, ◌<◌, ◌≤◌, List, Option, length, take, get_or, ap, arith}
use Rattle.std.proofs.Common.{[], ◌∷◌, Bool, below_more, cond, false, length-append, map, subst, sym, true}
use Rattle.std.proofs.Math.ListN.{set, length-set}
use Rattle.std.proofs.KnownBytes.{Consumes-trans}
use Rattle.std.proofs.lemmas.List.Elements.{All-append, filter_more}
use Rattle.std.proofs.lemmas.List.{append-nil, get_or-set_other, get_or-set_same, length-take-le, map-set, map_push}
use Rattle.std.proofs.lemmas.List.{set-get_or}
use Rattle.std.specs.Io.KnownBytes.{Consumes}
use Rattle.std.specs.List.{All, AllWithin, filter}
use Rattle.enc_model.specs.Encode.{Tables}
use Rattle.enc_laws.specs.WellFormed.{AreBytes}
use Rattle.gateway_labels.specs.Labels.{HaveRead}
use Rattle.gateway_labels.specs.Trials.{IsTrialOf}
use Rattle.gateway_labels.specs.declared.trial.Trial.{Trial}

-- the elements before i have P, and those from there on have Q
pub record AreFed {X : Type 0} (P Q : X → Type 0) (xs : List X) (i : ℕ) : Type 0 where
  pub fed : AllWithin P xs 0 i
  pub left : AllWithin Q xs i (length xs)

pub fed_none : {X : Type 0} (P Q : X → Type 0) (xs : List X) → All Q xs → AreFed P Q xs 0
fed_none P Q xs all = record { fed = λ k d low high. absurd (omega arith); left = λ k d low high. all k d high }

fed_at : {X : Type 0} (P : X → Type 0) (xs : List X) (i : ℕ) (y : X) → i < length xs → AllWithin P xs 0 i → P y
    → AllWithin P (set xs i y) 0 (i + 1)
fed_at {X} P xs i y in_xs before one k d low high =
    below_more (λ (n : ℕ). (e : X) → P (get_or (set xs i y) n e)) i
    (λ n below e. let other : n ≢ i = omega arith in
    subst P (sym (get_or-set_other xs i n y e other)) (before n e (omega arith) below))
    (λ e. subst P (sym (get_or-set_same xs i y e in_xs)) one)
    k high d

left_at : {X : Type 0} (Q : X → Type 0) (xs : List X) (i : ℕ) (y : X) → AllWithin Q xs i (length xs)
    → AllWithin Q (set xs i y) (i + 1) (length (set xs i y))
left_at Q xs i y after k d low high =
    let other : k ≢ i = omega arith in
    subst Q (sym (get_or-set_other xs i k y d other))
    (after k d (omega arith) (subst (λ (n : ℕ). k < n) (length-set xs i y) high))

pub fed_more : {X : Type 0} (P Q : X → Type 0) (xs : List X) (i : ℕ) (y : X) → i < length xs → AreFed P Q xs i → P y
    → AreFed P Q (set xs i y) (i + 1)
fed_more P Q xs i y in_xs are one =
    record { fed = fed_at P xs i y in_xs are.fed one; left = left_at Q xs i y are.left }

pub fed_all : {X : Type 0} (P Q : X → Type 0) (xs : List X) (i : ℕ) → AreFed P Q xs i → length xs ≤ i → All P xs
fed_all P Q xs i are past k d high = are.fed k d (omega arith) (omega arith)

pub read_more : (t : Tables) (trials next : List Trial) (left mid left' : Option (List ℕ)) (bytes count : ℕ)
    (part piece : List ℕ) → HaveRead t trials left mid bytes → Consumes mid left' (take count part)
    → piece ≡ take count part → count ≤ length part → AreBytes piece
    → ((input : List ℕ) → All (λ trial. IsTrialOf t trial input) trials
    → All (λ trial. IsTrialOf t trial (input ++ piece)) next)
    → HaveRead t next left left' (bytes + count)
read_more t trials next left mid left' bytes count part piece have read is within of_bytes feed = record {
  input = have.input ++ piece;
  read =
      Consumes-trans left mid left' have.input piece have.read
      (subst (λ (x : List ℕ). Consumes mid left' x) (sym is) read);
  bytes_are = All-append (λ b. b < 0x100) have.input piece have.bytes_are of_bytes;
  many =
      ap (λ (n : ℕ). n + count) have.many
      ∙ ap (λ (n : ℕ). length have.input + n) (sym (ap length is ∙ length-take-le count part within))
      ∙ sym (length-append have.input piece);
  have = feed have.input have.have;
}

-- one that passes is added, or one that doesn't is passed over
pub kept_more : {X Y : Type 0} (f : X → Y) (p : Y → Bool) (xs : List X) (ys : List Y) (x : X) (i : ℕ) (d : Y)
    → map f xs ≡ filter p (take i ys) → i < length ys → f x ≡ get_or ys i d → p (get_or ys i d) ≡ true
    → map f (xs ++ x ∷ []) ≡ filter p (take (i + 1) ys)
kept_more {X} {Y} f p xs ys x i d have in_ys is passes =
    map_push f xs x ∙ ap (λ (zs : List Y). zs ++ f x ∷ []) have
    ∙ ap (λ (y : Y). filter p (take i ys) ++ y ∷ []) is
    ∙ ap (λ (b : Bool). filter p (take i ys) ++ cond b (get_or ys i d ∷ []) []) (sym passes)
    ∙ sym (filter_more p ys i d in_ys)

pub passed_more : {Y : Type 0} (p : Y → Bool) (zs ys : List Y) (i : ℕ) (d : Y) → zs ≡ filter p (take i ys)
    → i < length ys → p (get_or ys i d) ≡ false → zs ≡ filter p (take (i + 1) ys)
passed_more p zs ys i d have in_ys fails =
    have ∙ sym (append-nil (filter p (take i ys)))
    ∙ ap (λ (b : Bool). filter p (take i ys) ++ cond b (get_or ys i d ∷ []) []) (sym fails)
    ∙ sym (filter_more p ys i d in_ys)

-- an element that changes, and not by f
pub same_mapped : {X Y : Type 0} (f : X → Y) (xs : List X) (i : ℕ) (y d : X) → f y ≡ f (get_or xs i d)
    → map f (set xs i y) ≡ map f xs
same_mapped {X} {Y} f xs i y d same =
    map-set f xs i y ∙ ap (λ (z : Y). set (map f xs) i z) same ∙ sym (map-set f xs i (get_or xs i d))
    ∙ ap (map f) (set-get_or xs i d)
