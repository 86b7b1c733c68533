-- A request head of the grammar is a head by its lines.
use Rattle.std.specs.Prelude.{◌≡◌, ℕ, ◌+◌, ◌<◌, Bool, true, false, List, [], ◌∷◌, ◌++◌, length, ◌==◌, nat_eq}
use Rattle.std.specs.Prelude.{Some, All, IsTrue, map}
use Rattle.std.proofs.Common.{arith, ap, sym, ◌∙◌, refl, suc, append_assoc}
use Rattle.std.specs.List.{flat_map}
use Rattle.std.proofs.lemmas.List.{length-append, append-nil}
use Rattle.std.proofs.lemmas.List.Concat.{flat_map-cons}
use Rattle.std.proofs.lemmas.List.Elements.{All-head, All-tail}
use Rattle.std.proofs.lemmas.Bool.Decides.{nat_tests}
use Rattle.http_header.specs.Token as token
use Rattle.http_header.proofs.TokenLemmas.{token_byte_range}
use Rattle.httparse.specs.Grammar.{is_token_byte, is_uri_byte, is_value_byte, AllPass, LineEnd, crlf, lf, print_end}
use Rattle.httparse.specs.Grammar.{print_blank, print_version, Field, IsField, print_field, RequestHead, IsRequestHead}
use Rattle.httparse.specs.Grammar.{print_request}
use Rattle.httparse.proofs.GrammarLemmas.{print_request-append, cons-append}
use Rattle.tus_request.specs.Lines.{lines, is_empty_line, up_to_empty, head_lines, bytes_in, texts_in, head_extent}

-- no byte is the mark
abbrev pub Lacks : ℕ → List ℕ → Type 0
Lacks mark [] = Unit {0}
Lacks mark (b ∷ text) = ((b == mark) ≡ false) × Lacks mark text

line_at : (text rest : List ℕ) → Lacks 10 text → lines (text ++ 10 ∷ rest) ≡ (text ++ 10 ∷ []) ∷ lines rest
line_at [] rest none = refl
line_at (b ∷ text) rest none = rw (none.0, line_at text rest none.1)

pub lacks_append : (mark : ℕ) (a b : List ℕ) → Lacks mark a → Lacks mark b → Lacks mark (a ++ b)
lacks_append mark [] b x y = y
lacks_append mark (c ∷ a) b x y = (x.0, lacks_append mark a b x.1 y)

-- a text and the end of its line are the first line
pub ended_line : (text rest : List ℕ) (end : LineEnd) → Lacks 10 text
    → lines (text ++ (print_end end ++ rest)) ≡ (text ++ print_end end) ∷ lines rest
ended_line text rest crlf none =
    let e : text ++ (13 ∷ 10 ∷ rest) ≡ (text ++ 13 ∷ []) ++ 10 ∷ rest = sym (append_assoc text (13 ∷ []) (10 ∷ rest)) in
    let d : text ++ (13 ∷ 10 ∷ []) ≡ (text ++ 13 ∷ []) ++ 10 ∷ [] = sym (append_assoc text (13 ∷ []) (10 ∷ [])) in
    rw (e, d) (line_at (text ++ 13 ∷ []) rest (lacks_append 10 text (13 ∷ []) none (refl, tt)))
ended_line text rest lf none = line_at text rest none

pub lacks_from : (mark : ℕ) (test : ℕ → Bool) → ((b : ℕ) → IsTrue (test b) → (b == mark) ≡ false) → (text : List ℕ)
    → AllPass test text → Lacks mark text
lacks_from mark test none [] all = tt
lacks_from mark test none (b ∷ text) all = (
  none b (All-head (λ b. IsTrue (test b)) b text all),
  lacks_from mark test none text (All-tail (λ b. IsTrue (test b)) b text all),
)

pub same_token : (b : ℕ) → is_token_byte b ≡ token.is_token_byte b
unfolding is_token_byte token.is_token_byte
same_token b = refl

pub token_is_high : (b : ℕ) → IsTrue (is_token_byte b) → 32 < b
token_is_high b t = (token_byte_range b (rw (same_token b) at t)).0

token_no_feed : (b : ℕ) → IsTrue (is_token_byte b) → (b == 10) ≡ false
token_no_feed b t = let high = token_is_high b t in grind (arith, nat_tests)

uri_no_feed : (b : ℕ) → IsTrue (is_uri_byte b) → (b == 10) ≡ false
uri_no_feed b t = grind (arith, nat_tests)

value_no_feed : (b : ℕ) → IsTrue (is_value_byte b) → (b == 10) ≡ false
value_no_feed b t = grind (arith, nat_tests)

-- a line that begins with a token isn't empty
not_empty : (b : ℕ) (text : List ℕ) → 32 < b → is_empty_line (b ∷ text) ≡ false
not_empty b text high =
    let x : nat_eq b 10 ≡ false = grind (arith, nat_tests) in
    let y : nat_eq b 13 ≡ false = grind (arith, nat_tests) in
    rw (x, y)

token_line : (name more : List ℕ) → 0 < length name → AllPass is_token_byte name → is_empty_line (name ++ more) ≡ false
token_line [] more some all = absurd (omega arith)
token_line (b ∷ name) more some all =
    not_empty b (name ++ more) (token_is_high b (All-head (λ b. IsTrue (is_token_byte b)) b name all))

pub end_is_empty : (end : LineEnd) → is_empty_line (print_end end) ≡ true
end_is_empty crlf = refl
end_is_empty lf = refl

-- a field line is one line
pub field_line : (f : Field) (rest : List ℕ) → IsField f → lines (print_field f ++ rest) ≡ print_field f ∷ lines rest
field_line f rest is =
    let none : Lacks 10 (f.name ++ (58 ∷ f.raw)) =
    lacks_append 10 f.name (58 ∷ f.raw) (lacks_from 10 is_token_byte token_no_feed f.name is.name.1)
    (refl, lacks_from 10 is_value_byte value_no_feed f.raw is.raw) in
    let a : print_field f ++ rest ≡ (f.name ++ (58 ∷ f.raw)) ++ (print_end f.end ++ rest) =
    append_assoc (f.name ++ (58 ∷ f.raw)) (print_end f.end) rest in
    rw a (ended_line (f.name ++ (58 ∷ f.raw)) rest f.end none)

pub field_text : (f : Field) → IsField f → is_empty_line (print_field f) ≡ false
field_text f is =
    let a : print_field f ≡ f.name ++ ((58 ∷ f.raw) ++ print_end f.end) =
    append_assoc f.name (58 ∷ f.raw) (print_end f.end) in
    rw a (token_line f.name ((58 ∷ f.raw) ++ print_end f.end) is.name.0 is.name.1)

abbrev pub request_line : RequestHead → List ℕ
request_line h = h.method ++ 32 ∷ (h.target ++ 32 ∷ print_version h.minor)

-- a request line lacks the marks that its bytes lack
pub request_line_lacks : (mark : ℕ) (h : RequestHead) → IsRequestHead h → (32 == mark) ≡ false
    → ((b : ℕ) → IsTrue (is_token_byte b) → (b == mark) ≡ false)
    → ((b : ℕ) → IsTrue (is_uri_byte b) → (b == mark) ≡ false) → Lacks mark (print_version h.minor)
    → Lacks mark (request_line h)
request_line_lacks mark h is space token uri version =
    lacks_append mark h.method _ (lacks_from mark is_token_byte token h.method is.method.1) (
      space,
      lacks_append mark h.target _ (lacks_from mark is_uri_byte uri h.target is.target.1) (space, version),
    )

pub request_line_no_feed : (h : RequestHead) → IsRequestHead h → Lacks 10 (request_line h)
request_line_no_feed h is =
    let k : (48 + h.minor == 10) ≡ false = let low = is.minor in grind (arith, nat_tests) in
    request_line_lacks 10 h is refl token_no_feed uri_no_feed
    (refl, (refl, (refl, (refl, (refl, (refl, (refl, (k, tt))))))))

regroup : (m t v e f l r : List ℕ)
    → m ++ 32 ∷ (t ++ 32 ∷ (v ++ (e ++ ((f ++ l) ++ r)))) ≡ (m ++ 32 ∷ (t ++ 32 ∷ v)) ++ (e ++ (f ++ (l ++ r)))
regroup m t v e f l r = simp (append_assoc, cons-append)

pub whole : (h : RequestHead) (rest : List ℕ) → print_request h ++ rest
    ≡ print_blank h.blank ++ (request_line
    h ++ (print_end h.line_end ++ (flat_map print_field h.fields ++ (print_end h.last ++ rest))))
whole h rest =
    print_request-append h rest
    ∙ ap (λ t. print_blank h.blank ++ t)
    (regroup h.method h.target (print_version h.minor) (print_end h.line_end) (flat_map print_field h.fields)
    (print_end h.last) rest)

five : (b q e f l : List ℕ) → length b + length (q ++ e) + length f + length l ≡ length
    (b ++ (q ++ (e ++ (f ++ (l ++ [])))))
five b q e f l = omega (arith, length-append {A = ℕ})

pub whole_length : (h : RequestHead)
    → length (print_blank h.blank) + length (request_line h ++ print_end h.line_end) + length
    (flat_map print_field h.fields) + length (print_end h.last)
    ≡ length (print_request h)
whole_length h =
    five (print_blank h.blank) (request_line h) (print_end h.line_end) (flat_map print_field h.fields)
    (print_end h.last)
    ∙ ap length (sym (whole h []) ∙ append-nil (print_request h))

pub request_line_text : (h : RequestHead) (more : List ℕ) → IsRequestHead h
    → is_empty_line (request_line h ++ more) ≡ false
request_line_text h more is =
    let a : request_line h ++ more ≡ h.method ++ ((32 ∷ (h.target ++ 32 ∷ print_version h.minor)) ++ more) =
    append_assoc h.method (32 ∷ (h.target ++ 32 ∷ print_version h.minor)) more in
    rw a (token_line h.method _ is.method.0 is.method.1)

-- the lines of a head, as lists
blank_lines : (ends : List LineEnd) (rest : List ℕ) → lines (print_blank ends ++ rest) ≡ map print_end ends ++ lines
    rest
blank_lines [] rest = refl
blank_lines (end ∷ ends) rest =
    let p : print_blank (end ∷ ends) ≡ print_end end ++ print_blank ends = flat_map-cons print_end end ends in
    let a : (print_end end ++ print_blank ends) ++ rest ≡ print_end end ++ (print_blank ends ++ rest) =
    append_assoc (print_end end) (print_blank ends) rest in
    rw (p, a) (ended_line [] (print_blank ends ++ rest) end tt ∙ ap (λ t. print_end end ∷ t) (blank_lines ends rest))

fields_as_lines : (fields : List Field) (rest : List ℕ) → All IsField fields
    → lines (flat_map print_field fields ++ rest) ≡ map print_field fields ++ lines rest
fields_as_lines [] rest all = refl
fields_as_lines (f ∷ fields) rest all =
    let p : flat_map print_field (f ∷ fields) ≡ print_field f ++ flat_map print_field fields =
    flat_map-cons print_field f fields in
    let a : (print_field f ++ flat_map print_field fields) ++ rest ≡ print_field
    f ++ (flat_map print_field fields ++ rest) =
    append_assoc (print_field f) (flat_map print_field fields) rest in
    rw (p, a) (
    field_line f (flat_map print_field fields ++ rest) (All-head IsField f fields all)
    ∙ ap (λ t. print_field f ∷ t) (fields_as_lines fields rest (All-tail IsField f fields all))
    )

-- the lines of a head and of what follows it
pub head_as_lines : (h : RequestHead) (rest : List ℕ) → IsRequestHead h
    → lines (print_request h ++ rest) ≡ map print_end h.blank ++ (request_line h ++ print_end h.line_end)
    ∷ (map print_field h.fields ++ print_end h.last ∷ lines rest)
head_as_lines h rest is =
    rw (
      whole h rest,
      blank_lines h.blank _,
      ended_line (request_line h) _ h.line_end (request_line_no_feed h is),
      fields_as_lines h.fields _ is.fields,
      ended_line [] rest h.last tt,
    )

-- of these lines those up to the end are the head
up_fields : (fields : List Field) (last : LineEnd) (more : List (List ℕ)) → All IsField fields
    → up_to_empty (map print_field fields ++ print_end last ∷ more)
    ≡ Some (map print_field fields ++ print_end last ∷ [])
up_fields [] last more all = rw (end_is_empty last)
up_fields (f ∷ fields) last more all =
    rw (field_text f (All-head IsField f fields all), up_fields fields last more (All-tail IsField f fields all))

after_blank : (ends : List LineEnd) (line : List ℕ) (ls hs : List (List ℕ)) → is_empty_line line ≡ false
    → up_to_empty ls ≡ Some hs → head_lines (map print_end ends ++ line ∷ ls) ≡ Some (map print_end ends ++ line ∷ hs)
after_blank [] line ls hs text up = rw (text, up)
after_blank (end ∷ ends) line ls hs text up = rw (end_is_empty end, after_blank ends line ls hs text up)

-- their bytes, and those that aren't empty
bytes_append : (a b : List (List ℕ)) → bytes_in (a ++ b) ≡ bytes_in a + bytes_in b
bytes_append [] b = omega arith
bytes_append (l ∷ a) b = omega (arith, bytes_append a b)

bytes_map : {A : Type 0} (f : A → List ℕ) (xs : List A) → bytes_in (map f xs) ≡ length (flat_map f xs)
bytes_map f [] = refl
bytes_map f (x ∷ xs) =
    rw (flat_map-cons f x xs) (omega (arith, bytes_map f xs, length-append (f x) (flat_map f xs)))

texts_blank : (ends : List LineEnd) (ls : List (List ℕ)) → texts_in (map print_end ends ++ ls) ≡ texts_in ls
texts_blank [] ls = refl
texts_blank (end ∷ ends) ls = rw (end_is_empty end) (omega (arith, texts_blank ends ls))

texts_fields : (fields : List Field) (last : LineEnd) → All IsField fields
    → texts_in (map print_field fields ++ print_end last ∷ []) ≡ length fields
texts_fields [] last all = rw (end_is_empty last)
texts_fields (f ∷ fields) last all =
    rw (field_text f (All-head IsField f fields all))
    (omega (arith, texts_fields fields last (All-tail IsField f fields all)))

-- a request head is the head at the start of what it begins, and its lines that aren't empty are the
-- request line and the fields
pub request_extent : (h : RequestHead) (rest : List ℕ) → IsRequestHead h
    → head_extent (print_request h ++ rest) ≡ Some (record {
      len = length (print_request h);
      texts = suc (length h.fields);
    })
request_extent h rest is =
    let line = request_line h ++ print_end h.line_end in
    let fields = map print_field h.fields ++ print_end h.last ∷ [] in
    let text : is_empty_line (request_line h ++ print_end h.line_end) ≡ false =
    request_line_text h (print_end h.line_end) is in
    let len : bytes_in (map print_end h.blank ++ line ∷ fields) ≡ length (print_request h) =
    omega (
      arith,
      bytes_append (map print_end h.blank) (line ∷ fields),
      bytes_append (map print_field h.fields) (print_end h.last ∷ []),
      bytes_map print_end h.blank,
      bytes_map print_field h.fields,
      whole_length h,
    ) in
    let texts : texts_in (map print_end h.blank ++ line ∷ fields) ≡ suc (length h.fields) =
    rw (texts_blank h.blank (line ∷ fields), text) (omega (arith, texts_fields h.fields h.last is.fields)) in
    rw (head_as_lines h rest is, after_blank h.blank line _ fields text (up_fields h.fields h.last _ is.fields))
    (rw (len, texts))
