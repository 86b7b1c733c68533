-- Each valid view shows uploads: those that go on from what its slots have.
use Rattle.std.proofs.Common.{◌≡◌, ℕ, zero, suc, ◌+◌, ◌*◌, ◌/◌, ◌<◌, ◌≤◌, ◌==◌, Bool, true, false, List, [], ◌∷◌, ◌++◌}
use Rattle.std.proofs.Common.{Option, Some, None, length, map, get_or, take, slice_index, refl, sym, ◌∙◌, ap, subst}
use Rattle.std.proofs.Common.{arith}
use Rattle.std.proofs.Common.{append-nil, inl, inr, length-append, length-take}
use Rattle.std.proofs.lemmas.Bool.{cases_eq, eq-eqb, ne_eqb}
use Rattle.std.proofs.lemmas.Option.{same_Some}
use Rattle.common.specs.declared.limits.TheConstants.{SLOTS}
use Rattle.enc_model.specs.declared.Encoding.{Encoding}
use Rattle.enc_model.specs.declared.Encoding.TheVariants as encodings
use Rattle.enc_model.specs.declared.Mode.TheVariants.{Html}
use Rattle.enc_model.specs.Encode.{Tables, Shift, InAscii, Encoder, Coded, coded, encoder, ended_coded, led_by}
use Rattle.enc_model.specs.Decode.{Decoding, OfUtf8, OfUtf16, OfShiftJis, OfEucJp, OfIso2022, OfSingle, decoded}
use Rattle.enc_model.specs.Decode.{decoding}
use Rattle.enc_model.specs.Decode.{run_as, undecided}
use Rattle.enc_model.specs.Indexes.{IndexSet, tables}
use Rattle.enc_model.specs.Japanese.{euc_jp, iso2022, shift_jis, single}
use Rattle.enc_model.specs.Stream.{DecoderRun}
use Rattle.enc_model.specs.Transcode.{Phase, Before, During, Over, FedText, Transcoder, fed_text, fed_end, fed_of}
use Rattle.enc_model.specs.Utf16.{utf16}
use Rattle.enc_model.specs.Utf8.{utf8}
use Rattle.enc_model.proofs.Pieces.{decoded_held}
use Rattle.enc_model.proofs.Steps.{steps_none}
use Rattle.enc_model.proofs.Transcoding.{coded_none}
use Rattle.enc_stream.specs.StateBytes.{IsPhaseOf, IsShiftIn, IsValidState, state_bytes}
use Rattle.spool_blocks.specs.Chains.{OwnsOneEach, Owns}
use Rattle.spool_catalog.specs.Holding.{Holding, IsListedAt, Orders, Rises, number_at, numbered}
use Rattle.spool_catalog.specs.Catalog.{HasView}
use Rattle.spool_catalog.specs.Shows.{FitsPhase, HasSlot, HasState, IsRecordOf, IsRecorded, IsValid, Shows}
use Rattle.spool_catalog.specs.declared.order.NumberedSlot.{NumberedSlot}
use Rattle.spool_catalog.proofs.Valid.{in_use}
use Rattle.spool_texts.specs.Texts.{text_shown}
use Rattle.spool_texts.specs.TextOn.{blocks_on}
use Rattle.spool_texts.proofs.Shown.{length-blocks_on, shown}
use Rattle.spool_pages.specs.View.{SlotRecord, View, slot_at}
use Rattle.upload_rules.specs.Lengths.{is_length}
use Rattle.upload_rules.specs.Slots.{IsRising}
use Rattle.upload_rules.specs.States.{state_with, transcoder_with}
use Rattle.upload_rules.specs.Store.{Store, Upload, accepted_count, find, is_complete, text_of, text_with}

-- NO BYTES ADD NOTHING

decoding_none : (t : Tables) (s : Decoding) → decoding t false s [] ≡ record { text = []; state = s }
unfolding decoding
decoding_none t (OfUtf8 s) = ap (run_as OfUtf8) (steps_none utf8 s)
decoding_none t (OfUtf16 big s) = ap (run_as (OfUtf16 big)) (steps_none (utf16 big) s)
decoding_none t (OfShiftJis s) = ap (run_as OfShiftJis) (steps_none (shift_jis t.jis0208) s)
decoding_none t (OfEucJp s) = ap (run_as OfEucJp) (steps_none (euc_jp t.jis0208 t.jis0212) s)
decoding_none t (OfIso2022 s) = ap (run_as OfIso2022) (steps_none (iso2022 t.jis0208) s)
decoding_none t (OfSingle e s) = ap (run_as (OfSingle e)) (steps_none (single (t.single e)) s)

fed_none : (t : Tables) (e : Encoding) (p : Phase) → IsPhaseOf e p → fed_text t e p [] ≡ record { text = []; phase = p }
unfolding fed_text
fed_none t e (Before held) is =
    ap (λ (b : List ℕ). fed_of (decoded t e b false)) (append-nil held) ∙ ap fed_of (decoded_held t e held is)
fed_none t e (During s) is =
    ap (λ (r : DecoderRun Decoding). record { text = r.text; phase = During r.state }) (decoding_none t s)
fed_none t e Over is = refl

-- THE UPLOAD THAT A SLOT'S RECORD AND TEXT REPRESENT

abbrev found_upload : SlotRecord → Transcoder → List ℕ → Upload
found_upload r t text = record {
  from = t.from;
  to = t.to;
  mode = t.mode;
  declared = r.declared;
  metadata = r.metadata;
  origin = Some (record { count = r.accepted; text = text; phase = t.phase; shift = t.shift });
  accepted = [];
}

module _ (x : IndexSet) (r : SlotRecord) (text : List ℕ) (has : HasState r) (size : length text ≡ r.text_len) where
  abbrev t : Transcoder
  t = has.transcoder

  abbrev u : Upload
  u = found_upload r has.transcoder text

  abbrev f : Encoder
  f = encoder (tables x) has.transcoder.to

  count : accepted_count u ≡ r.accepted
  count = omega arith

  -- where bytes may come
  open_fed : fed_text (tables x) t.from t.phase [] ≡ record { text = []; phase = t.phase }
  open_fed = fed_none (tables x) t.from t.phase has.valid.fitting.phase

  open_text : text_with x u [] false ≡ record { bytes = text; state = t.shift; fault = None }
  open_text =
      ap (λ (z : FedText). led_by text (coded f t.mode t.shift z.text)) open_fed
      ∙ ap (led_by text) (coded_none f t.mode t.shift)
      ∙ ap (λ (b : List ℕ). record { bytes = b; state = t.shift; fault = None }) (append-nil text)

  with_both : (p : Phase) (s : Shift) → p ≡ t.phase → s ≡ t.shift → record {
    from = t.from;
    to = t.to;
    mode = t.mode;
    phase = p;
    shift = s;
  } ≡ t
  with_both p s e g = rw (e, g) refl

  open_state : transcoder_with x u [] false ≡ t
  open_state = with_both (fed_text (tables x) t.from t.phase []).phase (text_with x u [] false).state
      (ap (λ (z : FedText). z.phase) open_fed) (ap (λ (z : Coded). z.state) open_text)

  -- and after the end
  ended_text : t.phase ≡ Over → t.shift ≡ InAscii
      → text_with x u [] true ≡ record { bytes = text; state = InAscii; fault = None }
  unfolding fed_text fed_end
  ended_text over ascii =
      ap (λ (p : Phase). led_by text (ended_coded (coded f t.mode t.shift
      (let z = fed_text (tables x) t.from p [] in z.text ++
      fed_end (tables x) t.from z.phase)))) over
      ∙ ap (λ (s : Shift). led_by text (ended_coded (coded f t.mode s []))) ascii
      ∙ ap (λ (z : Coded). led_by text (ended_coded z)) (coded_none f t.mode InAscii)
      ∙ ap (λ (b : List ℕ). record { bytes = b; state = InAscii; fault = None }) (append-nil text)

  recorded_as : (done : Bool) → is_length r.declared r.accepted ≡ done → (text_with x u [] done).bytes ≡ text
      → (text_with x u [] done).fault ≡ None → transcoder_with x u [] done ≡ t → IsRecordOf x r text u
  unfolding text_of state_with
  recorded_as done is bytes fault same =
      let here : is_complete u ≡ done = ap (is_length r.declared) count ∙ is in
      let state = ap (transcoder_with x u []) here ∙ same in
      let all = ap (λ (b : Bool). (text_with x u [] b).bytes) here ∙ bytes in
      record {
        declared = refl;
        accepted = sym count;
        metadata = refl;
        text_len = sym size ∙ ap length (sym all);
        text = sym all;
        encodable = ap (λ (b : Bool). (text_with x u [] b).fault) here ∙ fault;
        valid = subst IsValidState (sym state) has.valid;
        phase = subst (λ (q : Transcoder). FitsPhase q.phase (accepted_count u) r.declared) (sym state)
            (subst (λ (k : ℕ). FitsPhase t.phase k r.declared) (sym count) has.phase);
        state = has.is ∙ ap state_bytes (sym state);
      }

  open_recorded : is_length r.declared r.accepted ≡ false → IsRecordOf x r text u
  open_recorded is = recorded_as false is (ap (λ (z : Coded). z.bytes) open_text)
      (ap (λ (z : Coded). z.fault) open_text)
      open_state

  by_phase : (p : Phase) → t.phase ≡ p → FitsPhase p r.accepted r.declared → IsShiftIn p t.to t.shift
      → IsRecordOf x r text u
  by_phase (Before held) is fits shift = open_recorded fits.1
  by_phase (During s) is fits shift = open_recorded fits.1
  by_phase Over is fits ascii =
      let text_is = ended_text is ascii in
      recorded_as true fits (ap (λ (z : Coded). z.bytes) text_is) (ap (λ (z : Coded). z.fault) text_is)
      (with_both Over InAscii (sym is) (sym ascii))

  found_recorded : IsRecordOf x r text u
  found_recorded = by_phase t.phase refl has.phase has.valid.fitting.shift

-- THE NUMBERS IN THEIR ORDER

module _ (f : ℕ → Upload) where
  abbrev entry : NumberedSlot → ℕ × Upload
  entry o = (o.number, f o.slot)

  rest_rises : (o : NumberedSlot) (order : List NumberedSlot) → Rises (o ∷ order) → Rises order
  rest_rises o order rises i k lt below = rises (suc i) (suc k) (omega (arith, lt)) (omega (arith, below))

  find_here : (order : List NumberedSlot) (n s place : ℕ) → Rises order → place < length order
      → get_or order place (numbered 0 0) ≡ numbered n s → find n (map entry order) ≡ Some (f s)
  find_here [] n s place rises below here = absurd (omega (arith, below))
  find_here (o ∷ order) n s zero rises below here =
      let number : o.number ≡ n = ap (λ (e : NumberedSlot). e.number) here in
      let slot : o.slot ≡ s = ap (λ (e : NumberedSlot). e.slot) here in
      rw (eq-eqb o.number n number, slot) refl
  find_here (o ∷ order) n s (suc place) rises below here =
      let less : o.number < number_at order place = rises 0 (suc place) (omega arith) below in
      let number : number_at order place ≡ n = ap (λ (e : NumberedSlot). e.number) here in
      rw (ne_eqb o.number n (λ same. omega (arith, less, number, same)))
      (find_here order n s place (rest_rises o order rises) (omega (arith, below)) here)

  listed_in : (order : List NumberedSlot) (n : ℕ) (u : Upload) → find n (map entry order) ≡ Some u
      → (s : ℕ) × IsListedAt order n s
  listed_in [] n u there = absurd cc
  listed_in (o ∷ order) n u there = elim (cases_eq o.number n) [
    | inl same ↦ (o.slot, record { place = 0; below = omega arith; here = rw same refl })
    | inr other ↦
        let rest = listed_in order n u (rw (ne_eqb o.number n other) at there) in
        (rest.0, record { place = suc rest.1.place; below = omega (arith, rest.1.below); here = rest.1.here })
  ]

  number_in : (order : List NumberedSlot) (k : ℕ) → k < length order
      → slice_index (map (λ e. e.0) (map entry order)) k ≡ number_at order k
  number_in [] k below = absurd (omega (arith, below))
  number_in (o ∷ order) zero below = refl
  number_in (o ∷ order) (suc k) below = number_in order k (omega (arith, below))

  as_long : (order : List NumberedSlot) → length (map (λ e. e.0) (map entry order)) ≡ length order
  as_long [] = refl
  as_long (o ∷ order) = ap suc (as_long order)

  in_order : (order : List NumberedSlot) → Rises order → IsRising (map (λ e. e.0) (map entry order))
  in_order order rises i k lt below =
      let within : k < length order = omega (arith, below, as_long order) in
      rw (number_in order i (omega (arith, lt, within)), number_in order k within) (rises i k lt within)

-- THE UPLOADS OF A VIEW

module _ (h : Holding) (v : View) (has_view : HasView h v) (valid : IsValid v) (image : ℕ → ℕ) (first : ℕ)
    (texts : (s : ℕ) (r : SlotRecord) → slot_at v s ≡ Some r → v.texts s ≡ text_shown image first v.rows s r.text_len)
  where
    -- each text has the length in its record
    sizes : (s : ℕ) (r : SlotRecord) → slot_at v s ≡ Some r → length (v.texts s) ≡ r.text_len
    sizes s r there =
        let list = get_or h.lists s [] in
        let size = has_view.sizes s r there in
        let same = shown image first v.rows s r.text_len list (has_view.listed s r there) size in
        omega (
          arith,
          ap length (texts s r there),
          ap length same,
          length-take r.text_len (blocks_on image first list),
          length-blocks_on image first list,
          size,
        )

    -- no upload, for a slot that isn't in use
    abbrev unused : Upload
    unused = record {
      from = encodings.Utf8;
      to = encodings.Utf8;
      mode = Html;
      declared = None;
      metadata = [];
      origin = None;
      accepted = [];
    }

    upload_by : (s : ℕ) (o : Option SlotRecord) → slot_at v s ≡ o → Upload
    upload_by s None e = unused
    upload_by s (Some r) e = found_upload r (valid.records s r e).state.transcoder (v.texts s)

    abbrev RepresentsAt : ℕ → Option SlotRecord → Upload → Type 0
    RepresentsAt s None u = Unit {0}
    RepresentsAt s (Some r) u = IsRecordOf v.indexes r (v.texts s) u

    recorded_by : (s : ℕ) (o : Option SlotRecord) (e : slot_at v s ≡ o) → RepresentsAt s o (upload_by s o e)
    unfolding upload_by
    recorded_by s None e = tt
    recorded_by s (Some r) e = found_recorded v.indexes r (v.texts s) (valid.records s r e).state (sizes s r e)

    abbrev upload_at : ℕ → Upload
    upload_at s = upload_by s (slot_at v s) refl

    abbrev store : Store
    store = record { uploads = map (entry upload_at) h.order; next = v.next; indexes = v.indexes }

    recorded : (s : ℕ) (r : SlotRecord) → slot_at v s ≡ Some r → IsRecorded store r (v.texts s)
    recorded s r there =
        let below = subst (λ (n : ℕ). s < n) valid.slot_count (in_use v.slots s r there) in
        let listed = has_view.ordered.all s r below there in
        record {
          upload = upload_at s;
          there = find_here upload_at h.order r.number s listed.place has_view.ordered.rises listed.below listed.here;
          represents = subst (λ (o : Option SlotRecord). RepresentsAt s o (upload_at s)) there
              (recorded_by s (slot_at v s) refl);
        }

    pub each_shows : (m : Store) × Shows v m
    each_shows = (
      store,
      record {
        valid = valid;
        next = refl;
        indexes = refl;
        rising = in_order upload_at h.order has_view.ordered.rises;
        recorded = recorded;
        all = λ n u there.
            let listed = listed_in upload_at h.order n u there in
            let used = has_view.ordered.names n listed.0 listed.1 in
            record { slot = listed.0; used = used.used; there = used.there; number = used.is };
      },
    )
