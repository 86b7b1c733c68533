-- The guess is the head, where there is one.
use Rattle.std.specs.Prelude.{◌≡◌, ℕ, ◌+◌, ◌-◌, ◌<◌, Bool, true, false, List, [], ◌∷◌, ◌++◌, length, map, ◌==◌, ◌&&◌}
use Rattle.std.specs.Prelude.{nat_lt, nat_le, All, IsTrue, bytes_eq, Some}
use Rattle.std.proofs.Common.{arith, sym, ◌∙◌, refl, append_assoc}
use Rattle.std.proofs.lemmas.List.Elements.{All-head, All-tail, All-cons}
use Rattle.std.specs.List.{list_all}
use Rattle.std.proofs.lemmas.List.Sums.{AllPass-from_list_all, list_all-from_AllPass}
use Rattle.std.proofs.lemmas.Str.{IsUtf8-from_is_utf8, is_utf8-from_IsUtf8}
use Rattle.std.proofs.lemmas.Slice.Eq.{bytes_eq-Decides}
use Rattle.tus_request.proofs.FieldLemmas.{bytes_eq_same}
use Rattle.std.proofs.lemmas.Bool.{and_parts, and_from, both_ways, false_from_ne_true}
use Rattle.std.proofs.lemmas.Bool.Decides.{nat_tests}
use Rattle.std.proofs.lemmas.List.{append-nil}
use Rattle.httparse.proofs.GrammarLemmas.{cons-append}
use Rattle.httparse.specs.Grammar.{is_token_byte, is_uri_byte, is_value_byte, AllPass, LineEnd, crlf, lf, print_end}
use Rattle.httparse.specs.Grammar.{print_version, Field, IsField, print_field, RequestHead, IsRequestHead}
use Rattle.httparse.specs.Grammar.{print_request, is_token, IsToken, ReadsRequest}
use Rattle.tus_request.specs.Lines.{is_empty_line}
use Rattle.common.specs.Splits.{before, rest_after}
use Rattle.tus_request.specs.Reading.{line_text, line_end_of, field_of, fields_of, last_of, blank_of, filled}
use Rattle.tus_request.specs.Reading.{guess, is_field, is_request_head, request_of}
use Rattle.tus_request.proofs.HeadLemmas.{field_text, end_is_empty, request_line, head_as_lines}
use Rattle.tus_request.proofs.HeadLemmas.{request_line_no_feed, request_line_text, token_is_high, Lacks}
use Rattle.tus_request.proofs.HeadLemmas.{lacks_append, lacks_from, request_line_lacks}

cut_mark : (mark : ℕ) (text rest : List ℕ) → Lacks mark text → (mark == mark) ≡ true
    → (before mark (text ++ mark ∷ rest) ≡ text) × (rest_after mark (text ++ mark ∷ rest) ≡ rest)
cut_mark mark [] rest none same = (rw same, rw same)
cut_mark mark (b ∷ text) rest none same =
    let more = cut_mark mark text rest none.1 same in (rw (none.0, more.0), rw (none.0, more.1))

-- no byte is a CR or a LF
abbrev pub IsInline : List ℕ → Type 0
IsInline text = Lacks 10 text × Lacks 13 text

inline_from : (test : ℕ → Bool) → ((b : ℕ) → IsTrue (test b) → ((b == 10) ≡ false) × ((b == 13) ≡ false))
    → (text : List ℕ) → AllPass test text → IsInline text
inline_from test none text all =
    (lacks_from 10 test (λ b t. (none b t).0) text all, lacks_from 13 test (λ b t. (none b t).1) text all)

line_back : (text : List ℕ) (end : LineEnd) → IsInline text
    → (line_text (text ++ print_end end) ≡ text) × (line_end_of (text ++ print_end end) ≡ end)
line_back [] crlf is = (refl, refl)
line_back [] lf is = (refl, refl)
line_back (b ∷ text) end is =
    let more = line_back text end (is.0.1, is.1.1) in
    let not_end : is_empty_line (b ∷ (text ++ print_end end)) ≡ false =
    let x = is.0.0 in let y = is.1.0 in grind (arith, nat_tests) in
    (rw (not_end, more.0), rw (not_end, more.1))

token_inline : (b : ℕ) → IsTrue (is_token_byte b) → ((b == 10) ≡ false) × ((b == 13) ≡ false)
token_inline b t = let h = token_is_high b t in grind (arith, nat_tests)

uri_inline : (b : ℕ) → IsTrue (is_uri_byte b) → ((b == 10) ≡ false) × ((b == 13) ≡ false)
uri_inline b t = grind (arith, nat_tests)

value_inline : (b : ℕ) → IsTrue (is_value_byte b) → ((b == 10) ≡ false) × ((b == 13) ≡ false)
value_inline b t = grind (arith, nat_tests)

uri_no_space : (b : ℕ) → IsTrue (is_uri_byte b) → (b == 32) ≡ false
uri_no_space b t = grind (arith, nat_tests)

token_no_space : (b : ℕ) → IsTrue (is_token_byte b) → (b == 32) ≡ false
token_no_space b t = let h = token_is_high b t in grind (arith, nat_tests)

colon_is_no_token : is_token_byte 58 ≡ false
unfolding is_token_byte
colon_is_no_token = refl

token_no_colon : (b : ℕ) → IsTrue (is_token_byte b) → (b == 58) ≡ false
token_no_colon b t = false_from_ne_true (b == 58) (λ e.
    let n : b ≡ 58 = grind (arith, nat_tests) in
    both_ways (is_token_byte b) (rw n colon_is_no_token) t)

pub field_back : (f : Field) → IsField f → field_of (print_field f) ≡ f
field_back f is =
    let a : print_field f ≡ f.name ++ 58 ∷ (f.raw ++ print_end f.end) =
    append_assoc f.name (58 ∷ f.raw) (print_end f.end) in
    let m = cut_mark 58 f.name (f.raw ++ print_end f.end)
    (lacks_from 58 is_token_byte token_no_colon f.name is.name.1) refl in
    let i = inline_from is_value_byte value_inline f.raw is.raw in
    let t = inline_from is_token_byte token_inline f.name is.name.1 in
    let e : line_end_of (print_field f) ≡ f.end = (line_back (f.name ++ 58 ∷ f.raw) f.end
    (lacks_append 10 f.name _ t.0 (refl, i.0), lacks_append 13 f.name _ t.1 (refl, i.1))).1 in
    rw (e, a, m.0, m.1, (line_back f.raw f.end i).0)

blank_back : (ends : List LineEnd) (line : List ℕ) (rest : List (List ℕ)) → is_empty_line line ≡ false
    → (blank_of (map print_end ends ++ line ∷ rest) ≡ ends) × (filled (map print_end ends ++ line ∷ rest) ≡ line ∷ rest)
blank_back [] line rest text = (rw text, rw text)
blank_back (end ∷ ends) line rest text =
    let more = blank_back ends line rest text in
    (rw (end_is_empty end, more.0, (line_back [] end (tt, tt)).1), rw (end_is_empty end, more.1))

fields_back : (fields : List Field) (last : LineEnd) → All IsField fields
    → (fields_of (map print_field fields ++ print_end last ∷ []) ≡ fields)
    × (last_of (map print_field fields ++ print_end last ∷ []) ≡ last)
fields_back [] last all = (rw (end_is_empty last), rw (end_is_empty last) (line_back [] last (tt, tt)).1)
fields_back (f ∷ fields) last all =
    let is = All-head IsField f fields all in
    let more = fields_back fields last (All-tail IsField f fields all) in
    (rw (field_text f is, field_back f is, more.0), rw (field_text f is, more.1))

line_parts : (m t v e : List ℕ) → (m ++ 32 ∷ (t ++ 32 ∷ v)) ++ e ≡ m ++ 32 ∷ (t ++ 32 ∷ (v ++ e))
line_parts m t v e = simp (append_assoc, cons-append)

request_line_inline : (h : RequestHead) → IsRequestHead h → IsInline (request_line h)
request_line_inline h is =
    let k : (48 + h.minor == 13) ≡ false = let low = is.minor in grind (arith, nat_tests) in (
      request_line_no_feed h is,
      request_line_lacks 13 h is refl (λ b t. (token_inline b t).1) (λ b t. (uri_inline b t).1)
          (refl, (refl, (refl, (refl, (refl, (refl, (refl, (k, tt)))))))),
    )

-- the guess of a head's bytes is the head
pub guess_back : (h : RequestHead) → IsRequestHead h → guess (print_request h) ≡ h
guess_back h is =
    let q = request_line h ++ print_end h.line_end in
    let text : is_empty_line (request_line h ++ print_end h.line_end) ≡ false =
    request_line_text h (print_end h.line_end) is in
    let rest = map print_field h.fields ++ print_end h.last ∷ [] in
    let parts = line_parts h.method h.target (print_version h.minor) (print_end h.line_end) in
    let lm = lacks_from 32 is_token_byte token_no_space h.method is.method.1 in
    let lt = lacks_from 32 is_uri_byte uri_no_space h.target is.target.1 in
    let m = cut_mark 32 h.method (h.target ++ 32 ∷ (print_version h.minor ++ print_end h.line_end)) lm refl in
    let bm : before 32 (request_line h ++ print_end h.line_end) ≡ h.method = rw parts m.0 in
    let hm : rest_after 32 (request_line h ++ print_end h.line_end) ≡ h.target ++ 32
    ∷ (print_version h.minor ++ print_end
    h.line_end) = rw parts m.1 in
    let t = cut_mark 32 h.target (print_version h.minor ++ print_end h.line_end) lt refl in
    let digit : 48 + h.minor - 48 ≡ h.minor = omega arith in
    let en : line_end_of (request_line h ++ print_end h.line_end) ≡ h.line_end =
    (line_back (request_line h) h.line_end (request_line_inline h is)).1 in
    let fs = fields_back h.fields h.last is.fields in
    let blank = blank_back h.blank q rest text in
    rw (
      rw (append-nil (print_request h)) at (head_as_lines h [] is),
      blank.0,
      blank.1,
      bm,
      hm,
      t.0,
      t.1,
      digit,
      en,
      fs.0,
      fs.1,
    )

nonempty : (text : List ℕ) → 0 < length text → nat_lt 0 (length text) ≡ true
nonempty text some = grind (arith, nat_tests)

some_of : (text : List ℕ) → nat_lt 0 (length text) ≡ true → 0 < length text
some_of text e = grind (arith, nat_tests)

token_test : (text : List ℕ) → IsToken text → is_token text ≡ true
token_test text is = and_from _ _ (nonempty text is.0) (list_all-from_AllPass is_token_byte text is.1)

token_of : (text : List ℕ) → is_token text ≡ true → IsToken text
token_of text e = let p = and_parts _ _ e in (some_of text p.0, AllPass-from_list_all is_token_byte text p.1)

fields_test : (fields : List Field) → All IsField fields → list_all is_field fields ≡ true
fields_test [] all = refl
fields_test (f ∷ fields) all =
    let is = All-head IsField f fields all in
    and_from _ _ (and_from _ _ (token_test f.name is.name) (list_all-from_AllPass is_value_byte f.raw is.raw))
    (fields_test fields (All-tail IsField f fields all))

fields_are : (fields : List Field) → list_all is_field fields ≡ true → All IsField fields
fields_are [] e = λ k d inside. absurd (omega arith)
fields_are (f ∷ fields) e =
    let p = and_parts _ _ e in
    let q = and_parts _ _ p.0 in
    All-cons IsField f fields (record {
      name = token_of f.name q.0;
      raw = AllPass-from_list_all is_value_byte f.raw q.1;
    }) (fields_are fields p.1)

head_test : (h : RequestHead) → IsRequestHead h → is_request_head h ≡ true
head_test h is =
    let m : nat_le h.minor 1 ≡ true = let k = is.minor in grind (arith, nat_tests) in
    let a = and_from _ _ (token_test h.method is.method) (nonempty h.target is.target.0) in
    let b = and_from _ _ a (list_all-from_AllPass is_uri_byte h.target is.target.1) in
    and_from _ _ (and_from _ _ (and_from _ _ b (is_utf8-from_IsUtf8 h.target is.target_text)) m)
    (fields_test h.fields is.fields)

head_is : (h : RequestHead) → is_request_head h ≡ true → IsRequestHead h
head_is h e =
    let a = and_parts _ _ e in
    let b = and_parts _ _ a.0 in
    let c = and_parts _ _ b.0 in
    let d = and_parts _ _ c.0 in
    let f = and_parts _ _ d.0 in
    record {
      method = token_of h.method f.0;
      target = (some_of h.target f.1, AllPass-from_list_all is_uri_byte h.target d.1);
      target_text = IsUtf8-from_is_utf8 h.target c.1;
      minor = let k = b.1 in grind (arith, nat_tests);
      fields = fields_are h.fields a.1;
    }

-- the function finds the head that the bytes are
pub finds : (head : List ℕ) (h : RequestHead) → ReadsRequest head h [] → request_of head ≡ Some h
finds head h reads =
    let e : head ≡ print_request h = reads.1 ∙ append-nil (print_request h) in
    let g : guess head ≡ h = rw e (guess_back h reads.0) in
    let t : (is_request_head (guess head) && bytes_eq head (print_request (guess head))) ≡ true =
    rw g (and_from _ _ (head_test h reads.0) (rw (← e) (bytes_eq_same head))) in
    rw (t, g)

-- and finds nothing else
pub found_reads : (head : List ℕ) (h : RequestHead) → request_of head ≡ Some h → ReadsRequest head h []
found_reads head h e = go (is_request_head (guess head) && bytes_eq head (print_request (guess head))) refl
  where
    go : (v : Bool) → (is_request_head (guess head) && bytes_eq head (print_request (guess head))) ≡ v
        → ReadsRequest head h []
    go false t = let k = rw t at e in absurd (cc)
    go true t =
        let k = rw t at e in
        let g : guess head ≡ h = cc in
        let p = and_parts _ _ t in
        let same : head ≡ print_request (guess head) = (bytes_eq-Decides head (print_request (guess head))).0 p.1 in
        (rw (← g) (head_is (guess head) p.0), rw (← g) (same ∙ sym (append-nil (print_request (guess head)))))
