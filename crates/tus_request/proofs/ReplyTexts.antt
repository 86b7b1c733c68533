-- The lines of a reply, one after the other, are the reply.
use Rattle.std.specs.Prelude.{◌≡◌, ℕ, ◌+◌, ◌≤◌, ◌<◌, Bool, List, [], ◌∷◌, ◌++◌, length, take, drop, Option, None}
use Rattle.std.specs.Prelude.{codes}
use Rattle.std.proofs.Common.{append_assoc, ap, sym, ◌∙◌, get_or, arith}
use Rattle.std.proofs.lemmas.List.{append-nil, length-append, take_more, at_drop_more}
use Rattle.tus_request.specs.Replies.{crlf, header, length_line}
use Rattle.tus_request.specs.Replies.{reply}
use Rattle.tus_request.specs.ReplyParts.{line_shown, lines_shown}
use Rattle.tus_request.specs.declared.replies.parts.Line.{Line}

-- one more line
lines_append : (lines : List Line) (line : Line)
    → lines_shown (lines ++ line ∷ []) ≡ lines_shown lines ++ line_shown line
lines_append [] line = append-nil (line_shown line)
lines_append (l ∷ lines) line =
    ap (λ t. line_shown l ++ t) (lines_append lines line)
    ∙ sym (append_assoc (line_shown l) (lines_shown lines) (line_shown line))

lines_more : (lines : List Line) (i : ℕ) (d : Line) → i < length lines
    → lines_shown (take (i + 1) lines) ≡ lines_shown (take i lines) ++ line_shown (get_or lines i d)
lines_more lines i d inside =
    ap lines_shown (take_more lines i d inside) ∙ lines_append (take i lines) (get_or lines i d)

-- the bytes of the lines from one on
pub rest_length : (lines : List Line) (i : ℕ) (d : Line) → i < length lines
    → length (lines_shown (drop i lines))
    ≡ length (line_shown (get_or lines i d)) + length (lines_shown (drop (i + 1) lines))
rest_length lines i d inside =
    ap length (at_drop_more lines_shown lines i d inside)
    ∙ length-append (line_shown (get_or lines i d)) (lines_shown (drop (i + 1) lines))

-- there is room for the rest of the lines after one more
pub room_unchanged : (lines : List Line) (i : ℕ) (d : Line) (last len new room more : ℕ) → i < length lines
    → len + (length (lines_shown (drop i lines)) + last) ≤ room
    → new ≡ len + length (line_shown (get_or lines i d)) → room ≤ more
    → new + (length (lines_shown (drop (i + 1) lines)) + last) ≤ more
room_unchanged lines i d last len new room more inside was is grown =
    omega (arith, rest_length lines i d inside, was, is, grown)

-- a reply's first line and what all replies have, and these lines
abbrev pub begun : List ℕ → List ℕ → List ℕ
begun status shown =
    codes "HTTP/1.1 " ++ (status ++ (crlf ++ (header (codes "Tus-Resumable") (codes "1.0.0")
    ++ (header (codes "Cache-Control") (codes "no-store") ++ shown))))

begun_more : (old status shown more new : List ℕ) → new ≡ (old ++ begun status shown) ++ more
    → new ≡ old ++ begun status (shown ++ more)
begun_more old status shown more new is = is ∙ simp append_assoc

-- one more line of a reply
pub print_more : (old status : List ℕ) (lines : List Line) (i : ℕ) (d : Line) (mid new : List ℕ) → i < length lines
    → mid ≡ old ++ begun status (lines_shown (take i lines)) → new ≡ mid ++ line_shown (get_or lines i d)
    → new ≡ old ++ begun status (lines_shown (take (i + 1) lines))
print_more old status lines i d mid new inside was is =
    begun_more old status (lines_shown (take i lines)) (line_shown (get_or lines i d)) new
    (is ∙ ap (λ t. t ++ line_shown (get_or lines i d)) was)
    ∙ ap (λ t. old ++ begun status t) (sym (lines_more lines i d inside))

-- the line of the body's length may be counted among a reply's own lines
pub with_length : (status own size : List ℕ) (n : Option ℕ) (closes : Bool) → size ≡ length_line n
    → reply status (own ++ (size ++ [])) None closes ≡ reply status own n closes
with_length status own size n closes is = rw is (simp (append_assoc, append-nil))

pub one_line : (status own line size : List ℕ) (n : Option ℕ) (closes : Bool) → own ≡ line → size ≡ length_line n
    → reply status (own ++ (size ++ [])) None closes ≡ reply status line n closes
one_line status own line size n closes same is = rw same (with_length status line size n closes is)

-- the same for two and for three lines of its own
pub two_lines : (status a b size : List ℕ) (n : Option ℕ) (closes : Bool) → size ≡ length_line n
    → reply status (a ++ (b ++ (size ++ []))) None closes ≡ reply status (a ++ b) n closes
two_lines status a b size n closes is = rw is (simp (append_assoc, append-nil))

pub three_lines : (status a b c size : List ℕ) (n : Option ℕ) (closes : Bool) → size ≡ length_line n
    → reply status (a ++ (b ++ (c ++ (size ++ [])))) None closes ≡ reply status (a ++ (b ++ c)) n closes
three_lines status a b c size n closes is = rw is (simp (append_assoc, append-nil))
