-- The pieces of a text that is given.
use Rattle.std.proofs.Common.{◌≡◌, ◌≤◌, ◌<◌, ◌+◌, ◌-◌, min, arith, ℕ, Bool, true, false, List, [], ◌∷◌, ◌++◌, length}
use Rattle.std.proofs.Common.{take, drop, nat_le, Option, Some, None, Err, refl, sym, subst, ap, ◌∙◌, if◌then◌else◌}
use Rattle.std.proofs.Common.{append-nil}
use Rattle.std.proofs.lemmas.List.{length-take, length-drop, take_all, take-take, drop-drop, drop_all, drop-take}
use Rattle.std.proofs.lemmas.List.{length-take-le, nil_from_length}
use Rattle.std.proofs.lemmas.Bool.{leb-true, leb-false}
use Rattle.tus_action.specs.declared.reads.TheConstants.{PIECE}
use Rattle.upload_rules.specs.Store.{Store, Upload, upload_of, text_of}
use Rattle.upload_rules.specs.Reading.{no_such, text_at, IsRead}
use Rattle.upload_rules.specs.World.{World, is_there}
use Rattle.upload_rules.specs.Answers.{Answers, IsLate}
use Rattle.upload_rules.specs.declared.errors.UploadError.{UploadError}
use Rattle.upload_rules.specs.declared.errors.UploadError.TheVariants as errors
use Rattle.upload_rules.specs.declared.uploads.Uploads.{Ghosts}
use Rattle.common.specs.declared.stop.Stop.{Stop}
use Rattle.common.specs.declared.stop.Stop.TheVariants.{NoMemory, DiskFault}
use Rattle.tus_action.proofs.Answered.{memory_answer}
use Rattle.upload_rules.specs.declared.errors.UploadRefusal.{UploadRefusal}
use Rattle.tus_action.specs.Acts.{Giving, piece_of, pending_of, pending_after}
use Rattle.tus_action.specs.Serves.{Appends, AppendsPiece, AppendsText, GivesAs, IsGiving, GivingIs}
use Rattle.tus_action.specs.Serves.{IsGiven, GivesMore, given_after, left_of}
use Rattle.tus_action.specs.declared.acts.Giving as given
use Rattle.tus_action.specs.declared.acts.Given.{Given}
use Rattle.tus_action.specs.declared.acts.Given.TheVariants.{Piece, Last, Gone}

-- what is left of the first bytes of a text
pub left_is : (text : List ℕ) (l g : ℕ) → g ≤ l → drop g (take l text) ≡ take (l - g) (drop g text)
left_is text l g some =
    let e : l ≡ g + (l - g) = omega arith in
    ap (λ k. drop g (take k text)) e ∙ drop-take g (l - g) text

take_least : (n k : ℕ) (xs : List ℕ) (c : ℕ) (b : Bool) → nat_le k n ≡ b → c ≡ min k n → take c xs ≡ take n (take k xs)
take_least n k xs c true few e =
    let le : k ≤ n = leb-true k n few in
    let is : c ≡ k = omega arith in
    let l : length (take k xs) ≡ min k (length xs) = length-take k xs in
    ap (λ x. take x xs) is ∙ sym (take_all n (take k xs) (omega arith))
take_least n k xs c false more e =
    let lt : n < k = leb-false k n more in
    let is : c ≡ n = omega arith in
    ap (λ x. take x xs) is ∙ sym (take-take n k xs (omega arith))

-- the piece that is read is the next one
pub piece_is : (text : List ℕ) (l g c n : ℕ) (zeros piece : List ℕ) → g ≤ l → l ≤ length text → c ≡ min (l - g) PIECE
    → length zeros ≡ c
    → IsRead text g n zeros piece → piece ≡ take PIECE (drop g (take l text))
piece_is text l g c n zeros piece some within count size read =
    let ld : length (drop g text) ≡ length text - g = length-drop g text in
    let all : n ≡ c = read.count ∙ (omega arith) in
    let rest : drop n zeros ≡ [] = drop_all n zeros (omega arith) in
    read.bytes ∙ (ap (λ r. take n (drop g text) ++ r) rest
    ∙ (append-nil (take n (drop g text)) ∙ (ap (λ k. take k (drop g text)) all
    ∙ (take_least PIECE (l - g) (drop g text) c (nat_le (l - g) PIECE) refl count
    ∙ ap (take PIECE) (sym (left_is text l g some))))))

text_here : (m : Store) (n k : ℕ) (up : Upload) → n ≡ k → upload_of m k ≡ Some up
    → text_at m (upload_of m n) ≡ text_of m.indexes up
text_here m n k up is found = ap (λ x. text_at m (upload_of m x)) is ∙ ap (text_at m) found

-- what is read is the next piece
pub given_piece : (m : Store) (g : given.Giving) (h : Giving) (up : Upload) → GivesAs m g h up
    → (c n : ℕ) (zeros piece : List ℕ)
    → c ≡ min (g.length - g.given) PIECE → length zeros ≡ c → IsRead (text_at m (upload_of m g.number)) g.given n zeros
    piece → piece ≡ piece_of h
given_piece m g h up gives c n zeros piece count size read =
    let text : List ℕ = text_of m.indexes up in
    let here : text_at m (upload_of m g.number) ≡ text = text_here m g.number h.number up gives.number gives.found in
    piece_is text g.length g.given c n zeros piece gives.some gives.within count size
    (subst (λ t. IsRead t g.given n zeros piece) here read)
    ∙ ap (take PIECE) (sym gives.left)

-- and has so many bytes
pub piece_size_is : (m : Store) (g : given.Giving) (h : Giving) (up : Upload) → GivesAs m g h up → (c : ℕ)
    → c ≡ min (g.length - g.given) PIECE → length (piece_of h) ≡ c
piece_size_is m g h up gives c count =
    let text : List ℕ = text_of m.indexes up in
    let some : g.given ≤ g.length = gives.some in
    let within : g.length ≤ length text = gives.within in
    let lt : length (take g.length text) ≡ g.length = length-take-le g.length text within in
    let ld : length (drop g.given (take g.length text)) ≡ length (take g.length text) - g.given =
    length-drop g.given (take g.length text) in
    let ll : length h.left ≡ g.length - g.given = ap length gives.left ∙ (omega arith) in
    let size : length (take PIECE h.left) ≡ min PIECE (length h.left) = length-take PIECE h.left in
    omega (arith, size, ll, count)

-- bytes that end in those of a text, or in none
pub appends : {sure : Bool} (old new bytes text : List ℕ) → AppendsText sure old new bytes text
    → Appends sure old new bytes text
appends old new bytes [] is =
    let none : is.piece ≡ [] = nil_from_length is.piece is.are.size in
    is.appended ∙ ap (λ x. old ++ (is.reply ++ x)) none ∙ ap (λ x. old ++ x) (sym is.parts)
appends old new bytes (b ∷ text) is = is

-- a piece alone
pub piece_appends : {sure : Bool} (old new text : List ℕ) → AppendsPiece sure old new text
    → Appends sure old new text text
piece_appends old new text is = appends old new text text (record {
  reply = [];
  piece = is.0;
  parts = refl;
  appended = is.1;
  are = is.2;
})

-- where that is sure these are the bytes
pub all_appended : (old new bytes text : List ℕ) → Appends true old new bytes text → new ≡ old ++ bytes
all_appended old new bytes [] is = is
all_appended old new bytes (b ∷ text) is =
    is.appended ∙ ap (λ x. old ++ (is.reply ++ x)) (is.are.same refl) ∙ ap (λ x. old ++ x) (sym is.parts)

-- a list that isn't empty is pending
pending_some : (number : ℕ) (left : List ℕ) (closes : Bool) (b : ℕ) → 0 < b → length left ≡ b
    → pending_of number left closes ≡ Some (record { number = number; left = left; closes = closes })
pending_some number [] closes b some is = absurd (omega arith)
pending_some number (x ∷ left) closes b some is = refl

-- after a whole piece the rest of the text is left
left_after : (m : Store) (g : given.Giving) (h : Giving) (up : Upload) → GivesAs m g h up → g.given + PIECE < g.length
    → GivesAs m (record g { given = g.given + PIECE }) (record h { left = drop PIECE h.left }) up
left_after m g h up gives more =
    let text : List ℕ = text_of m.indexes up in record {
      number = gives.number;
      found = gives.found;
      some = omega arith;
      within = gives.within;
      left = ap (drop PIECE) gives.left ∙ drop-drop PIECE g.given (take g.length text);
      closes = gives.closes;
    }

after_case : (m : Store) (g : given.Giving) (h : Giving) (up : Upload) → GivesAs m g h up → IsGiving m g h → (c : ℕ)
    → c ≡ min (g.length - g.given) PIECE → (b : Bool) → nat_le g.length (g.given + c) ≡ b
    → GivingIs m (if b then None else Some
    (record { number = g.number; length = g.length; given = g.given + c; closes = g.closes })) (pending_after h)
after_case m g h up gives all c count true over =
    let text : List ℕ = text_of m.indexes up in
    let le : g.length ≤ g.given + c = leb-true g.length (g.given + c) over in
    let some : g.given ≤ g.length = gives.some in
    let within : g.length ≤ length text = gives.within in
    let lt : length (take g.length text) ≡ g.length = length-take-le g.length text within in
    let ld : length (drop g.given (take g.length text)) ≡ length (take g.length text) - g.given =
    length-drop g.given (take g.length text) in
    let ll : length h.left ≡ g.length - g.given = ap length gives.left ∙ (omega arith) in
    let none : drop PIECE h.left ≡ [] = drop_all PIECE h.left (omega arith) in
    subst (λ x. GivingIs m None (pending_of h.number x h.closes)) (sym none) (tt {0})
after_case m g h up gives all c count false under =
    let text : List ℕ = text_of m.indexes up in
    let lt : g.given + c < g.length = leb-false g.length (g.given + c) under in
    let some : g.given ≤ g.length = gives.some in
    let within : g.length ≤ length text = gives.within in
    let c_is : c ≡ PIECE = omega arith in
    let ltk : length (take g.length text) ≡ g.length = length-take-le g.length text within in
    let ld : length (drop g.given (take g.length text)) ≡ length (take g.length text) - g.given =
    length-drop g.given (take g.length text) in
    let ll : length h.left ≡ g.length - g.given = ap length gives.left ∙ (omega arith) in
    let lr : length (drop PIECE h.left) ≡ length h.left - PIECE = length-drop PIECE h.left in
    let pending = pending_some h.number (drop PIECE h.left) h.closes (g.length - g.given - PIECE) (omega arith)
    (omega arith) in
    let rest : IsGiving m (record g { given = g.given + PIECE }) (record h { left = drop PIECE h.left }) = record {
      number = all.number;
      below = all.below;
      closes = all.closes;
      there = λ v found. left_after m g h v (all.there v found) (omega (arith, c_is, lt));
    } in
    subst (λ x. GivingIs m (Some
    (record { number = g.number; length = g.length; given = g.given + c; closes = g.closes })) x) (sym pending)
    (subst (λ k. IsGiving m (record { number = g.number; length = g.length; given = g.given + k; closes = g.closes })
    (record h { left = drop PIECE h.left })) (sym c_is) rest)

-- the piece that was given, and what is left after it
pub piece_left : {sure : Bool} (m : Store) (g : given.Giving) (h : Giving) (up : Upload) → GivesAs m g h up
    → IsGiving m g h → (c : ℕ) → c ≡ min (g.length - g.given) PIECE → (old new : List ℕ)
    → AppendsPiece sure old new (piece_of h) → IsGiven sure m (given_after g c) old new h (Some up)
piece_left {sure = sure} m g h up gives all c count old new appended =
    by_end (nat_le g.length (g.given + c)) (after_case m g h up gives all c count (nat_le g.length (g.given + c)) refl)
  where
    none_is : (p : Option Giving) → GivingIs m None p → p ≡ None
    none_is None is = refl
    none_is (Some q) is = absurd is

    rest : given.Giving
    rest = record { number = g.number; length = g.length; given = g.given + c; closes = g.closes }

    by_end : (b : Bool) → GivingIs m (if b then None else Some rest) (pending_after h)
        → IsGiven sure m (if b then Last else Piece rest) old new h (Some up)
    by_end true is = (none_is (pending_after h) is, appended)
    by_end false is = (is, appended)

-- what is left of a text that is there
pub left_is_given : {sure : Bool} (m : Store) (given : Given) (old new : List ℕ) (h : Giving) (up : Upload)
    → IsGiven sure m given old new h (Some up)
    → GivingIs m (left_of given) (pending_after h) × AppendsPiece sure old new (piece_of h)
left_is_given m (Piece g) old new h up is = is
left_is_given m Last old new h up is = (subst (λ p. GivingIs m None p) (sym is.0) tt, is.1)
left_is_given m Gone old new h up is = absurd is

-- an upload whose text was read
pub read_there : (m : Store) (n k : ℕ) → n ≡ k → no_such (upload_of m n) ≡ None
    → (up : Upload) × (upload_of m k ≡ Some up)
read_there m n k same none = subst (λ i. (up : Upload) × (upload_of m i ≡ Some up)) same (of (upload_of m n) none)
  where
    of : (o : Option Upload) → no_such o ≡ None → (up : Upload) × (o ≡ Some up)
    of None none = absurd (cc)
    of (Some up) none = (up, refl)

-- one whose text couldn't be read is there, or gone
pub late_there : (m : Store) (n k : ℕ) → n ≡ k → IsLate (no_such (upload_of m n)) → is_there (upload_of m k) ≡ true
late_there m n k same late = subst (λ i. is_there (upload_of m i) ≡ true) same (of (upload_of m n) late)
  where
    of : (o : Option Upload) → IsLate (no_such o) → is_there o ≡ true
    of None late = absurd late
    of (Some up) late = refl

pub refused_gone : (sure : Bool) (m : Store) (n : ℕ) (h : Giving) (e : UploadRefusal) (old : List ℕ) → n ≡ h.number
    → no_such (upload_of m n) ≡ Some e → IsGiven sure m Gone old old h (upload_of m h.number)
refused_gone sure m n h e old same refused =
    subst (λ i. IsGiven sure m Gone old old h (upload_of m i)) same (of (upload_of m n) refused)
  where
    of : (o : Option Upload) → no_such o ≡ Some e → IsGiven sure m Gone old old h o
    of None refused = refl
    of (Some up) refused = absurd (cc)

-- a text whose read stopped
pub stops_read : {U B T : Type 0} (u : Ghosts U B) (sure : Bool) (store : U) (w : World) (n : ℕ) (h : Giving)
    (stop : Stop) (e : UploadError) (old : List ℕ) (done : T → Type 0) → n ≡ h.number → e ≡ errors.Stop stop
    → Answers {T = T} (no_such (upload_of w.store n)) (Err e) done (u.represents store sure w)
    → GivesMore u sure store (Err stop) old old w h
stops_read u sure store w n h NoMemory e old done same is answered =
    let a = memory_answer done (u.represents store sure w) (no_such (upload_of w.store n)) e is answered in
    (late_there w.store n h.number same a.0, a.1, refl)
stops_read {T = T} u sure store w n h DiskFault e old done same is answered = (
  late_there w.store n h.number same (subst (λ x. Answers {T = T} (no_such (upload_of w.store n)) (Err x) done
      (u.represents store sure w)) is answered),
  refl,
)
