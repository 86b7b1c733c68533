-- Worked examples of heads and replies, by computation.
use Rattle.std.proofs.Common.{◌≡◌, Bool, true, false, [], ◌∷◌, ◌++◌, List, ℕ, refl, length, codes}
use Rattle.std.specs.Fmt.{digits}
use Rattle.enc_model.specs.declared.Encoding.{Encoding}
use Rattle.enc_model.specs.declared.Encoding.TheVariants.{Utf8, Utf16Le}
use Rattle.enc_model.specs.declared.Mode.TheVariants.{Html}
use Rattle.enc_labels.specs.Labels.{encoding_of, found_label, labels, stripped}
use Rattle.tus_request.specs.Metadata.{metadata_of, choice_of}
use Rattle.std.specs.Prelude.{Some, None}
use Rattle.base64.specs.Decode.{groups_error, scan_steps, groups_bytes}
use Rattle.std.specs.Str.{is_utf8, chars}
use Rattle.httparse.specs.Grammar.{print_request, trim_ows, is_token_byte}
use Rattle.tus_request.specs.declared.faults.Fault.{Fault}
use Rattle.tus_request.specs.declared.faults.Fault.TheVariants.{NoSuch, Offset, TusVersion, BadMethod}
use Rattle.tus_request.specs.declared.faults.Fault.TheVariants.{Malformed, NoRoute, BadLength}
use Rattle.tus_request.specs.Requests.{Verdict, Asks, Refuses, Action, Options, Patch, Delete}
use Rattle.tus_request.specs.Answers.{Judged, More, answer_of}
use Rattle.tus_request.specs.Replies.{crlf, reply_options, reply_created, reply_head, reply_patched, reply_deleted}
use Rattle.tus_request.specs.Replies.{reply_text, reply_refused, reply_continue}

abbrev all : Encoding → Bool
all e = true

-- a head of these lines
abbrev head : List (List ℕ) → List ℕ
head [] = crlf
head (text ∷ texts) = text ++ (crlf ++ head texts)

-- a request with a body of so many bytes
abbrev asked : Action → ℕ → Verdict
asked action length =
    Asks (record { action = action; length = length; bare = false; expects = false; closes = false })

-- a refusal of a request with no body
abbrev refused : Fault → Bool → Bool → Verdict
refused fault on_files closes =
    Refuses (record { fault = fault; length = 0; on_files = on_files; bare = false; closes = closes })

lengths_of_replies : (length (reply_options false) ≡ 179)
    × (length (reply_options true) ≡ 198)
    × (length (reply_created 1 false false) ≡ 110)
    × (length (reply_patched 5 false) ≡ 92)
    × (length (reply_deleted false) ≡ 74)
    × (length (reply_head 5 (Some 5) [] true false) ≡ 102)
    × (length (reply_head 0 None [] true false) ≡ 108)
    × (length (reply_text Utf8 5 false false) ≡ 126)
    × (length (reply_refused Offset false false false) ≡ 105)
    × (length (reply_refused TusVersion true false false) ≡ 137)
    × (length (reply_refused BadMethod true false false) ≡ 138)
    × (length (reply_refused BadMethod false false false) ≡ 158)
    × (length (reply_refused NoSuch false false false) ≡ 106)
    × (length (reply_refused NoSuch false true false) ≡ 87)
    × (length (reply_refused Malformed false false true) ≡ 128)
    × (length reply_continue ≡ 25)
unfolding digits
lengths_of_replies =
    (refl, refl, refl, refl, refl, refl, refl, refl, refl, refl, refl, refl, refl, refl, refl, refl)

-- among them a head that waits for its end, OPTIONS of an old version, a number with a zero before it, two lengths
answers_to_heads : (answer_of all
    (head (codes "PATCH /files/1 HTTP/1.1" ∷ codes "Tus-Resumable: 1.0.0" ∷ codes "Upload-Offset: 0"
    ∷ codes "Content-Type: application/offset+octet-stream" ∷ codes "Content-Length: 5" ∷ []) ++ codes "hel")
    ≡ Judged 133 (asked (Patch 1 0 None) 5))
    × (answer_of all (head (codes "DELETE /files/1 HTTP/1.1" ∷ codes "Tus-Resumable: 1.0.0" ∷ []))
    ≡ Judged 50 (asked (Delete 1) 0))
    × (answer_of all (codes "GET /files/1 HTTP/1.1") ≡ More)
    × (answer_of all (head (codes "OPTIONS /files HTTP/1.1" ∷ codes "Tus-Resumable: 0.2.2" ∷ []))
    ≡ Judged 49 (asked Options 0))
    × (answer_of all (head (codes "GET /files/01 HTTP/1.1" ∷ [])) ≡ Judged 26 (refused NoRoute false false))
    × (answer_of all (head (codes "GET /files HTTP/1.1" ∷ codes "Content-Length: 0" ∷ codes "Content-Length: 0" ∷ []))
    ≡ Judged 61 (refused BadLength true true))
    × (answer_of all (head (codes "BAD" ∷ [])) ≡ Judged 7 (refused Malformed false true))
unfolding answer_of print_request trim_ows is_token_byte is_utf8 chars lib.Utf8.encode
answers_to_heads = (refl, refl, refl, refl, refl, refl, refl)

-- a key alone, a value, a key that comes twice, a value with stray bits, a part with no key
metadata_read : (metadata_of (codes "note") ≡ Some ((codes "note", []) ∷ []))
    × (metadata_of (codes " from dXRmLTg= ") ≡ Some ((codes "from", codes "utf-8") ∷ []))
    × (metadata_of (codes "from dXRmLTg=,from dXRmLTg=") ≡ None)
    × (metadata_of (codes "note YR==") ≡ None)
    × (metadata_of (codes "note,,name") ≡ None)
unfolding groups_error scan_steps groups_bytes
metadata_read = (refl, refl, refl, refl, refl)

-- by default, UTF-16, and a label that names none
encodings_chosen : (choice_of [] ≡ Some (record { from = Utf8; to = Utf8; mode = Html }))
    × (choice_of ((codes "to", codes "UTF-16") ∷ (codes "from", codes "utf-16le") ∷ [])
    ≡ Some (record { from = Utf16Le; to = Utf8; mode = Html }))
    × (choice_of ((codes "from", codes "klingon") ∷ []) ≡ None)
unfolding encoding_of found_label labels stripped
encodings_chosen = (refl, refl, refl)
