-- The bytes of the replies (RFC 9112, section 4; tus 1.0.0).
use Rattle.std.specs.Prelude.{ℕ, ◌≤◌, ◌+◌, Bool, List, [], ◌∷◌, ◌++◌, length, if◌then◌else◌, Option, Some, None, codes}
use Rattle.std.specs.Fmt.{decimal}
use Rattle.common.specs.declared.limits.TheConstants.{MOST_LENGTH}
use Rattle.enc_model.specs.declared.Encoding.{Encoding}
use Rattle.enc_labels.specs.Labels.{name_of}
use Rattle.tus_request.specs.declared.faults.Fault.{Fault}
use Rattle.tus_request.specs.declared.faults.Fault.TheVariants.{Unencodable, NoSuch, Offset, TooLong, Slots, TooLarge}
use Rattle.tus_request.specs.declared.faults.Fault.TheVariants.{Full, HeadTooLong, Coding, TusVersion, NoRoute}
use Rattle.tus_request.specs.declared.faults.Fault.TheVariants.{BadMethod, MediaType}
use Rattle.tus_request.specs.Faults.{fault_number}

-- The end of a line.
abbrev pub crlf : List ℕ
crlf = 13 ∷ 10 ∷ []

-- A header line.
abbrev pub header : List ℕ → List ℕ → List ℕ
header name value = name ++ (codes ": " ++ (value ++ crlf))

-- The line of the body's length, if the reply has it.
abbrev pub length_line : Option ℕ → List ℕ
length_line None = []
length_line (Some n) = header (codes "Content-Length") (decimal n)

-- The line of the connection's close.
abbrev pub close_line : Bool → List ℕ
close_line closes = if closes then header (codes "Connection") (codes "close") else []

-- The line of an upload's metadata, if it has any.
abbrev pub metadata_line : List ℕ → List ℕ
metadata_line [] = []
metadata_line (b ∷ bytes) = header (codes "Upload-Metadata") (b ∷ bytes)

-- The line of an upload's length, or of its deferral.
abbrev pub declared_line : Option ℕ → List ℕ
declared_line None = header (codes "Upload-Defer-Length") (codes "1")
declared_line (Some n) = header (codes "Upload-Length") (decimal n)

-- A reply: the status line, two headers that all replies have, its own headers, the length, the close, and an empty
-- line.
abbrev pub reply : List ℕ → List ℕ → Option ℕ → Bool → List ℕ
reply status lines body_length closes =
    codes "HTTP/1.1 " ++ (status ++ (crlf ++ (header (codes "Tus-Resumable") (codes "1.0.0")
    ++ (header (codes "Cache-Control") (codes "no-store")
    ++ (lines ++ (length_line body_length ++ (close_line closes ++ crlf)))))))

-- The body's length, which a reply to HEAD leaves out.
abbrev pub unless_bare : Bool → ℕ → Option ℕ
unless_bare bare n = if bare then None else Some n

-- No reply has more bytes, without its body.
abbrev pub longest_reply : ℕ
longest_reply = 2048

-- The output grew by at most this many bytes.
abbrev pub GrowsBy : ℕ → List ℕ → List ℕ → Type 0
GrowsBy most old new = length new ≤ length old + most

-- The headers of the reply to OPTIONS.
abbrev pub options_lines : List ℕ
options_lines =
    header (codes "Tus-Version") (codes "1.0.0")
    ++ (header (codes "Tus-Extension") (codes "creation,creation-defer-length,termination")
    ++ header (codes "Tus-Max-Size") (decimal MOST_LENGTH))

abbrev pub reply_options : Bool → List ℕ
reply_options closes = reply (codes "204 No Content") options_lines None closes

-- The reply to a POST.
abbrev pub reply_created : ℕ → Bool → Bool → List ℕ
reply_created number bare closes =
    reply (codes "201 Created")
    (header (codes "Location") (codes "/files/" ++ decimal number))
    (unless_bare bare 0) closes

abbrev pub reply_head : ℕ → Option ℕ → List ℕ → Bool → Bool → List ℕ
reply_head offset declared metadata bare closes =
    reply (codes "200 OK")
    (header (codes "Upload-Offset") (decimal offset)
    ++ (declared_line declared ++ metadata_line metadata))
    (unless_bare bare 0) closes

-- The reply to a PATCH.
abbrev pub reply_patched : ℕ → Bool → List ℕ
reply_patched offset closes =
    reply (codes "204 No Content") (header (codes "Upload-Offset") (decimal offset)) None closes

-- The reply to a DELETE.
abbrev pub reply_deleted : Bool → List ℕ
reply_deleted closes = reply (codes "204 No Content") [] None closes

-- The head of the reply to a GET.
abbrev pub reply_text : Encoding → ℕ → Bool → Bool → List ℕ
reply_text to length bare closes =
    reply (codes "200 OK")
    (header (codes "Content-Type") (codes "text/plain; charset=" ++ name_of to))
    (unless_bare bare length) closes

-- The interim reply (RFC 9110, 15.2.1).
abbrev pub reply_continue : List ℕ
reply_continue = codes "HTTP/1.1 100 Continue" ++ (crlf ++ crlf)

-- The status of a refusal.
abbrev pub status_of : Fault → List ℕ
status_of Unencodable = codes "422 Unprocessable Entity"
status_of NoSuch = codes "404 Not Found"
status_of Offset = codes "409 Conflict"
status_of TooLong = codes "413 Payload Too Large"
status_of Slots = codes "507 Insufficient Storage"
status_of TooLarge = codes "413 Payload Too Large"
status_of Full = codes "507 Insufficient Storage"
status_of HeadTooLong = codes "431 Request Header Fields Too Large"
status_of Coding = codes "501 Not Implemented"
status_of TusVersion = codes "412 Precondition Failed"
status_of NoRoute = codes "404 Not Found"
status_of BadMethod = codes "405 Method Not Allowed"
status_of MediaType = codes "415 Unsupported Media Type"
status_of _ = codes "400 Bad Request"

-- The line of a refusal's number.
abbrev pub refusal_line : Fault → List ℕ
refusal_line f = header (codes "X-Refusal") (decimal (fault_number f))

-- The line before a refusal's number, if it has one.
abbrev pub refusal_lead : Fault → Bool → List ℕ
refusal_lead TusVersion on_files = header (codes "Tus-Version") (codes "1.0.0")
refusal_lead BadMethod on_files =
    header (codes "Allow") (if on_files then codes "OPTIONS, POST" else codes "OPTIONS, HEAD, PATCH, GET, DELETE")
refusal_lead f on_files = []

-- The headers of a refusal.
abbrev pub refusal_lines : Fault → Bool → List ℕ
refusal_lines f on_files = refusal_lead f on_files ++ refusal_line f

-- The reply to a refused request.
abbrev pub reply_refused : Fault → Bool → Bool → Bool → List ℕ
reply_refused f on_files bare closes = reply (status_of f) (refusal_lines f on_files) (unless_bare bare 0) closes
