-- The checks of a head, in their order.
use Rattle.std.specs.Prelude.{ℕ, Bool, true, false, not, ◌&&◌, ◌||◌, nat_lt, ◌==◌, if◌then◌else◌, Option, Some, None}
use Rattle.std.specs.Prelude.{List, [], ◌∷◌, map, codes, bytes_eq, option_map}
use Rattle.std.specs.List.{list_any}
use Rattle.httparse.specs.Grammar.{RequestHead}
use Rattle.httparse.specs.Spans.{name_and_value}
use Rattle.enc_model.specs.declared.Encoding.{Encoding}
use Rattle.common.specs.Numbers.{number_of}
use Rattle.common.specs.Splits.{before}
use Rattle.tus_request.specs.Fields.{values_in}
use Rattle.tus_request.specs.Texts.{any_case, lists_word}
use Rattle.tus_request.specs.Methods.{verb_of}
use Rattle.tus_request.specs.Places.{resource_of, is_files}
use Rattle.tus_request.specs.declared.methods.Verb.{Verb}
use Rattle.tus_request.specs.declared.methods.Verb.TheVariants as verb
use Rattle.tus_request.specs.declared.places.Place.{Place}
use Rattle.tus_request.specs.declared.places.Place.TheVariants as place
use Rattle.tus_request.specs.declared.faults.Fault.{Fault}
use Rattle.tus_request.specs.declared.faults.Fault.TheVariants.{Malformed, Coding, BadLength, TusVersion, NoRoute}
use Rattle.tus_request.specs.declared.faults.Fault.TheVariants.{BadMethod, MediaType, BadHeader, BadMetadata, BadLabel}
use Rattle.tus_request.specs.Metadata.{KeyValue, metadata_of, Choice, choice_of}
use Rattle.tus_request.specs.Requests.{Action, Options, Create, Head, Get, Patch, Delete, Verdict, Asks, Refuses}

-- What the checks read. A field's values are a list.

-- The field is given.
abbrev pub is_given : List (List ℕ) → Bool
is_given [] = false
is_given (value ∷ values) = true

-- The first value, or another text.
abbrev pub first_or : List (List ℕ) → List ℕ → List ℕ
first_or [] other = other
first_or (value ∷ values) other = value

-- The value, if there is exactly one.
abbrev pub only : List (List ℕ) → Option (List ℕ)
only [] = None
only (value ∷ []) = Some value
only (value ∷ other ∷ values) = None

-- The number in a value, if there is one.
abbrev pub number_when : Option (List ℕ) → Option ℕ
number_when None = None
number_when (Some value) = number_of value

-- The number in the value, if there is exactly one.
abbrev pub number_in : List (List ℕ) → Option ℕ
number_in values = number_when (only values)

-- The body's length, which is 0 without the field.
abbrev pub length_in : List (List ℕ) → Option ℕ
length_in [] = Some 0
length_in (value ∷ values) = number_in (value ∷ values)

-- The number in the value; none is fine, several aren't.
abbrev pub optional_number_in : List (List ℕ) → Option (Option ℕ)
optional_number_in [] = Some None
optional_number_in (value ∷ values) = option_map Some (number_in (value ∷ values))

-- There is exactly one value, and it is the word.
abbrev pub is_word_when : List ℕ → Option (List ℕ) → Bool
is_word_when word None = false
is_word_when word (Some value) = bytes_eq value word

-- The length of a new upload by the values of Upload-Length and of Upload-Defer-Length: a number, or the deferral `1`,
-- never both.
abbrev pub declared_in : List (List ℕ) → List (List ℕ) → Option (Option ℕ)
declared_in lengths [] = option_map Some (number_in lengths)
declared_in [] (deferral ∷ deferrals) =
    if is_word_when (codes "1") (only (deferral ∷ deferrals)) then Some None else None
declared_in (length ∷ lengths) (deferral ∷ deferrals) = None

-- A request line. `minor` is the digit after `HTTP/1.`.
pub record Line : Type 0 where
  pub method : List ℕ
  pub target : List ℕ
  pub minor : ℕ

-- What the checks read of a head. `given` gives the values of each name in lower case.
pub record Asking : Type 0 where
  pub verb : Verb
  pub place : Option Place
  pub given : List ℕ → List (List ℕ)
  pub length : ℕ
  pub bare : Bool
  pub expects : Bool
  pub closes : Bool

-- The resource of a request line: its path is the target up to the first `?`.
abbrev pub line_place : Line → Option Place
line_place line = resource_of (before 63 line.target)

-- The method is HEAD.
abbrev pub is_bare : Line → Bool
is_bare line = bytes_eq line.method (codes "HEAD")

-- The client awaits 100 Continue (RFC 9110, 10.1.1).
abbrev pub is_expecting : ℕ → ℕ → List (List ℕ) → Bool
is_expecting minor length values = minor == 1 && (nat_lt 0 length && list_any (any_case (codes "100-continue")) values)

-- The connection closes after the reply (RFC 9112, 9.3).
abbrev pub is_closing : ℕ → List (List ℕ) → Bool
is_closing minor values = minor == 0 || list_any (lists_word (codes "close")) values

-- The checks' input, by the request line, the fields and the length of the body.
abbrev pub asking : Line → (List ℕ → List (List ℕ)) → ℕ → Asking
asking line given length = record {
  verb = verb_of (first_or (given (codes "x-http-method-override")) line.method);
  place = line_place line;
  given = given;
  length = length;
  bare = is_bare line;
  expects = is_expecting line.minor length (given (codes "expect"));
  closes = is_closing line.minor (given (codes "connection"));
}

-- The checks (tus 1.0.0, Core Protocol and Creation), from the last to the first.

-- A request is refused. A client that awaits 100 Continue also gets a close.
abbrev pub refused : Asking → Fault → Verdict
refused x f = Refuses (record {
  fault = f;
  length = x.length;
  on_files = is_files x.place;
  bare = x.bare;
  closes = x.closes || x.expects;
})

-- A request other than PATCH is accepted.
abbrev pub accepted_request : Asking → Action → Verdict
accepted_request x action = Asks (record {
  action = action;
  length = x.length;
  bare = x.bare;
  expects = false;
  closes = x.closes || x.expects;
})

-- A PATCH is accepted.
abbrev pub passed_patch : Asking → ℕ → ℕ → Option ℕ → Verdict
passed_patch x number offset declare = Asks (record {
  action = Patch number offset declare;
  length = x.length;
  bare = x.bare;
  expects = x.expects;
  closes = x.closes;
})

-- The media type of a PATCH, up to a semicolon.
abbrev pub is_patch_media : Option (List ℕ) → Bool
is_patch_media None = false
is_patch_media (Some value) = any_case (codes "application/offset+octet-stream") (before 59 value)

-- A PATCH declares one length or none.
abbrev pub declaring : Asking → ℕ → ℕ → Option (Option ℕ) → Verdict
declaring x number offset None = refused x BadHeader
declaring x number offset (Some declare) = passed_patch x number offset declare

-- Before that: it has one offset.
abbrev pub at_offset : Asking → ℕ → Option ℕ → Verdict
at_offset x number None = refused x BadHeader
at_offset x number (Some offset) =
    declaring x number offset (optional_number_in (x.given (codes "upload-length")))

-- Before that: it has the media type of a PATCH.
abbrev pub patch_checked : Asking → ℕ → Verdict
patch_checked x number =
    if is_patch_media (only (x.given (codes "content-type")))
    then at_offset x number (number_in (x.given (codes "upload-offset")))
    else refused x MediaType

-- The encodings and the mode are known, and the index set offers the encodings.
abbrev pub with_choice : (Encoding → Bool) → Asking → Option ℕ → List ℕ → Option Choice → Verdict
with_choice offers x declared metadata None = refused x BadLabel
with_choice offers x declared metadata (Some c) =
    if offers c.from && offers c.to
    then accepted_request x (Create (record {
      declared = declared;
      from = c.from;
      to = c.to;
      mode = c.mode;
      metadata = metadata;
    }))
    else refused x BadLabel

-- Before that: the metadata is well-formed.
abbrev pub with_pairs : (Encoding → Bool) → Asking → Option ℕ → List ℕ → Option (List KeyValue) → Verdict
with_pairs offers x declared metadata None = refused x BadMetadata
with_pairs offers x declared metadata (Some pairs) = with_choice offers x declared metadata (choice_of pairs)

-- Before that: it is given at most once.
abbrev pub with_metadata : (Encoding → Bool) → Asking → Option ℕ → List (List ℕ) → Verdict
with_metadata offers x declared [] = with_pairs offers x declared [] (metadata_of [])
with_metadata offers x declared (value ∷ []) = with_pairs offers x declared value (metadata_of value)
with_metadata offers x declared (value ∷ other ∷ values) = refused x BadHeader

-- Before that: a POST gives a length or defers it.
abbrev pub with_declared : (Encoding → Bool) → Asking → Option (Option ℕ) → Verdict
with_declared offers x None = refused x BadHeader
with_declared offers x (Some declared) = with_metadata offers x declared (x.given (codes "upload-metadata"))

-- Before that: it has no body.
abbrev pub post_checked : (Encoding → Bool) → Asking → Verdict
post_checked offers x =
    if nat_lt 0 x.length then refused x BadHeader
    else with_declared offers x
    (declared_in (x.given (codes "upload-length")) (x.given (codes "upload-defer-length")))

-- The checks of a request for `/files`.
abbrev pub on_all : (Encoding → Bool) → Asking → Verb → Verdict
on_all offers x verb.Options = accepted_request x Options
on_all offers x verb.Post = post_checked offers x
on_all offers x verb.Head = refused x BadMethod
on_all offers x verb.Patch = refused x BadMethod
on_all offers x verb.Get = refused x BadMethod
on_all offers x verb.Delete = refused x BadMethod
on_all offers x verb.Other = refused x BadMethod

-- The checks of a request for one upload.
abbrev pub on_upload : Asking → ℕ → Verb → Verdict
on_upload x n verb.Options = accepted_request x Options
on_upload x n verb.Post = refused x BadMethod
on_upload x n verb.Head = accepted_request x (Head n)
on_upload x n verb.Patch = patch_checked x n
on_upload x n verb.Get = accepted_request x (Get n)
on_upload x n verb.Delete = accepted_request x (Delete n)
on_upload x n verb.Other = refused x BadMethod

-- The path has a resource.
abbrev pub on_place : (Encoding → Bool) → Asking → Option Place → Verdict
on_place offers x None = refused x NoRoute
on_place offers x (Some place.Files) = on_all offers x x.verb
on_place offers x (Some (place.Upload n)) = on_upload x n x.verb

-- OPTIONS and GET don't require the protocol's version (tus 1.0.0, Tus-Resumable).
abbrev pub needs_version : Verb → Bool
needs_version verb.Options = false
needs_version verb.Get = false
needs_version v = true

-- The version is required and missing.
abbrev pub lacks_version : Asking → Bool
lacks_version x = needs_version x.verb && not (is_word_when (codes "1.0.0") (only (x.given (codes "tus-resumable"))))

-- Before the resource: the version.
abbrev pub decided : (Encoding → Bool) → Asking → Verdict
decided offers x = if lacks_version x then refused x TusVersion else on_place offers x x.place

-- The refusal of a request whose body has no known end.
abbrev pub cut_off : Line → Fault → Verdict
cut_off line f = Refuses (record {
  fault = f;
  length = 0;
  on_files = is_files (line_place line);
  bare = is_bare line;
  closes = true;
})

-- Before that: the length of the body is known.
abbrev pub measured : (Encoding → Bool) → Line → (List ℕ → List (List ℕ)) → Option ℕ → Verdict
measured offers line given None = cut_off line BadLength
measured offers line given (Some length) = decided offers (asking line given length)

-- Before that: the body has no transfer coding.
abbrev pub checked : (Encoding → Bool) → Line → (List ℕ → List (List ℕ)) → Verdict
checked offers line given =
    if is_given (given (codes "transfer-encoding")) then cut_off line Coding
    else measured offers line given (length_in (given (codes "content-length")))

-- The request line of a head.
abbrev pub line_of : RequestHead → Line
line_of h = record { method = h.method; target = h.target; minor = h.minor }

-- The verdict on a head.
abbrev pub verdict_on : (Encoding → Bool) → RequestHead → Verdict
verdict_on offers h = checked offers (line_of h) (values_in (map name_and_value h.fields))

-- The refusal of bytes that aren't a head.
abbrev pub no_head : Fault → Verdict
no_head f = Refuses (record { fault = f; length = 0; on_files = false; bare = false; closes = true })

-- The verdict on a head that may be malformed.
abbrev pub judged : (Encoding → Bool) → Option RequestHead → Verdict
judged offers None = no_head Malformed
judged offers (Some h) = verdict_on offers h
