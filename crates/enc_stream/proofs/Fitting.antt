-- A transcoder's parts go on fitting one another.
use Rattle.std.proofs.Common.{ℕ, ◌≡◌, Bool, true, false, List, ◌++◌, refl, sym, ◌∙◌, subst, drop, inl, inr, rules}
use Rattle.std.proofs.Common.{if◌then◌else◌}
use Rattle.enc_model.specs.declared.Encoding.{Encoding}
use Rattle.enc_model.specs.declared.Encoding.TheVariants.{Utf8, Utf16Be, Utf16Le}
use Rattle.enc_model.specs.declared.Mode.{Mode}
use Rattle.enc_model.specs.Encode.{Tables, Shift, InAscii, coded, encoder}
use Rattle.enc_model.specs.Decode.{Decoding, OfUtf8, OfUtf16, OfShiftJis, OfEucJp, OfIso2022, OfSingle, decoding}
use Rattle.enc_model.specs.Decode.{decoding_start, sniffed, undecided, begins, bom8, bom_be, bom_le}
use Rattle.enc_model.specs.Transcode.{Transcoder, Phase, Before, During, Over, FedText, fed_text, stepped}
use Rattle.enc_stream.specs.StateBytes.{IsFitting, IsInEffect, IsOwn, IsPhaseOf, IsShiftIn, decoded_encoding}
use Rattle.enc_stream.proofs.Fed.{fed_held, fed_sniffed}
use Rattle.enc_stream.proofs.Shifts.{coded_nothing, coded_in_ascii}

-- THE DECODER

still_own : (t : Tables) (ended : Bool) (s : Decoding) (piece : List ℕ) → IsOwn s
    → IsOwn (decoding t ended s piece).state
unfolding decoding
still_own t ended (OfUtf8 s) piece own = tt
still_own t ended (OfUtf16 big s) piece own = tt
still_own t ended (OfShiftJis s) piece own = tt
still_own t ended (OfEucJp s) piece own = tt
still_own t ended (OfIso2022 s) piece own = tt
still_own t ended (OfSingle e s) piece own = own

still_of : (t : Tables) (ended : Bool) (s : Decoding) (piece : List ℕ) → decoded_encoding
    (decoding t ended s piece).state ≡ decoded_encoding s
unfolding decoding
still_of t ended (OfUtf8 s) piece = refl
still_of t ended (OfUtf16 big s) piece = refl
still_of t ended (OfShiftJis s) piece = refl
still_of t ended (OfEucJp s) piece = refl
still_of t ended (OfIso2022 s) piece = refl
still_of t ended (OfSingle e s) piece = refl

start_own : (e : Encoding) → IsOwn (decoding_start e)
start_own e = search rules

start_of : (e : Encoding) → decoded_encoding (decoding_start e) ≡ e
start_of e = search rules

abbrev HasInEffect : Encoding → Encoding × List ℕ → Type 0
HasInEffect from r = IsInEffect from r.0

sniffed_in_effect : (from : Encoding) (b : List ℕ) → IsInEffect from (sniffed from b).0
sniffed_in_effect from b = go (begins bom8 b) (begins bom_be b) (begins bom_le b)
  where
    go : (x y z : Bool) → HasInEffect from
        (if x then (Utf8, drop 3 b) else if y then (Utf16Be, drop 2 b) else if z then (Utf16Le, drop 2 b)
        else (from, b))
    go true y z = inr (inl refl)
    go false true z = inr (inr (inl refl))
    go false false true = inr (inr (inr refl))
    go false false false = inl refl

during_fits : (t : Tables) (from : Encoding) (s : Decoding) (piece : List ℕ) → IsOwn s
    → IsInEffect from (decoded_encoding s)
    →
    IsPhaseOf from (During (decoding t false s piece).state)
during_fits t from s piece own effect =
    (still_own t false s piece own, subst (IsInEffect from) (sym (still_of t false s piece)) effect)

-- THE PHASE AND THE ENCODER

-- what a piece leads to
abbrev Leads : Tables → Encoding → Encoding → Mode → Shift → FedText → Type 0
Leads t from to mode shift r =
    IsPhaseOf from r.phase × IsShiftIn r.phase to (coded (encoder t to) mode shift r.text).state

before_leads : (t : Tables) (from to : Encoding) (mode : Mode) (shift : Shift) (held piece : List ℕ) → shift ≡ InAscii →
    Leads t from to mode shift (fed_text t from (Before held) piece)
before_leads t from to mode shift held piece ascii = go (undecided (held ++ piece)) refl
  where
    go : (u : Bool) → undecided (held ++ piece) ≡ u → Leads t from to mode shift (fed_text t from (Before held) piece)
    go true h = rw (fed_held t from held piece h) (h, coded_nothing (encoder t to) mode shift ∙ ascii)
    go false h =
        let in_effect = (sniffed from (held ++ piece)).0 in
        let rest = (sniffed from (held ++ piece)).1 in
        let first = decoding_start in_effect in
        rw (fed_sniffed t from in_effect held piece rest h refl) (
          during_fits t from first rest (start_own in_effect)
              (subst (IsInEffect from) (sym (start_of in_effect)) (sniffed_in_effect from (held ++ piece))),
          coded_in_ascii t to mode shift (decoding t false first rest).text (inr ascii),
        )

leads : (t : Tables) (from to : Encoding) (mode : Mode) (phase : Phase) (shift : Shift) (piece : List ℕ)
    → IsPhaseOf from phase → IsShiftIn phase to shift →
    Leads t from to mode shift (fed_text t from phase piece)
unfolding fed_text
leads t from to mode (Before held) shift piece p q = before_leads t from to mode shift held piece q
leads t from to mode (During s) shift piece p q =
    (during_fits t from s piece p.0 p.1, coded_in_ascii t to mode shift (decoding t false s piece).text q)
leads t from to mode Over shift piece p q = (tt, coded_nothing (encoder t to) mode shift ∙ q)

-- after a piece they fit as before
stepped_fits : (t : Tables) (s : Transcoder) (piece : List ℕ) → IsFitting s → IsFitting (stepped t s piece)
stepped_fits t s piece h =
    let l = leads t s.from s.to s.mode s.phase s.shift piece h.phase h.shift in
    record { output = h.output; phase = l.0; shift = l.1 }

pub fits_after : (t : Tables) (s next : Transcoder) (piece : List ℕ) → IsFitting s → next ≡ stepped t s piece
    → IsFitting next
fits_after t s next piece before is = rw is (stepped_fits t s piece before)
