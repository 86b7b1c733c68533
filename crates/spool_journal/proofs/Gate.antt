-- Images while the gate opens, while pages are placed, and while it closes.
use Rattle.std.proofs.Common.{◌≡◌, ◌⊎◌, inl, inr, ℕ, suc, ◌+◌, ◌*◌, ◌/◌, ◌%◌, ◌<◌, ◌≤◌, Bool, cond, List, [], ◌∷◌}
use Rattle.std.proofs.Common.{length, refl, sym, ◌∙◌, ap, arith, ⊎_elim}
use Rattle.std.proofs.lemmas.Bool.{cases_eq}
use Rattle.spool_journal.specs.declared.TheConstants.{PAGE}
use Rattle.spool_disk.specs.Disk.{span, In, IsImage, Writes, Syncs}
use Rattle.spool_journal.specs.Image.{byte_of, count, journal_number, content, over, replayed, overlaid, laid}
use Rattle.spool_journal.specs.Image.{InJournal}
use Rattle.spool_journal.specs.Image.{Outside, InForm, page_number, page_byte}
use Rattle.spool_journal.specs.Phases.{Idle, ReadsAs, IsBefore, Ready, Opened, Hit, Placing, Upto, PagesPlaced, Settled}
use Rattle.spool_journal.proofs.Over.{over_hit, over_pass, over_none, over_same, yes, no}
use Rattle.spool_journal.proofs.Steps.{span_at, word_same, form_same, outside_journal}

pub open_view : (image : ℕ → ℕ) (p : ℕ) → image PAGE ≡ 165 → overlaid image p ≡ replayed image p
open_view image p e = ap (λ (b : Bool). cond b (replayed image p) (image p)) (yes (image PAGE) 165 e)

pub shut_view : (image : ℕ → ℕ) (p : ℕ) → (image PAGE ≡ 165 → ⊥) → overlaid image p ≡ image p
shut_view image p e = ap (λ (b : Bool). cond b (replayed image p) (image p)) (no (image PAGE) 165 e)

-- two images with the same journal
pub record SameJournal (j : ℕ) (a b : ℕ → ℕ) : Type 0 where
  pub same : (p : ℕ) → InJournal j p → a p ≡ b p

module _ {j : ℕ} {a b : ℕ → ℕ} where
  same_count : 1 ≤ j → SameJournal j a b → count a ≡ count b
  same_count some same = word_same a b 8192 8192 (λ i lt. same.same (8192 + i) (grind arith))

  same_number : j ≤ 385 → 1 ≤ j → SameJournal j a b → (k : ℕ) → k < j → journal_number a k ≡ journal_number b k
  same_number few some same k below =
      word_same a b (8196 + 4 * k) (8196 + 4 * k) (λ i lt. same.same (8196 + 4 * k + i) (grind arith))

  same_content : SameJournal j a b → (k x : ℕ) → k < j → x < PAGE → content a k x ≡ content b k x
  same_content same k x below lt = same.same (PAGE * (3 + k) + x) (grind arith)

  -- b's journal is in form; so is a's, and replayed it gives what b's gives where the two agree elsewhere
  pub form_on : j ≤ 385 → 1 ≤ j → SameJournal j a b → InForm j (count b) (journal_number b)
      → InForm j (count a) (journal_number a)
  form_on few some same form =
      form_same j (count b) (count a) (journal_number b) (journal_number a) (sym (same_count some same))
      (λ k lt. sym (same_number few some same k (omega (arith, lt, form.few)))) form

  pub replay_on : j ≤ 385 → SameJournal j a b → InForm j (count b) (journal_number b) → (p : ℕ)
      → (((k : ℕ) → k < count b → journal_number b k ≡ p / PAGE → ⊥) → a p ≡ b p) → replayed a p ≡ replayed b p
  replay_on few same form p misses =
      let some : 1 ≤ j = omega (arith, form.some, form.few) in
      let c : count a ≡ count b = same_count some same in
      ap (λ (n : ℕ). over (journal_number a) (content a) a n p) c
      ∙ over_same (journal_number a) (journal_number b) (content a) (content b) a b (count b) p
      (λ k lt. same_number few some same k (omega (arith, lt, form.few)))
      (λ k x lt below. same_content same k x (omega (arith, lt, form.few)) below)
      (λ none. misses (λ k lt e. none k lt (same_number few some same k (omega (arith, lt, form.few)) ∙ e)))

-- a place of a named page is in the metadata area
pub hit_from : (j : ℕ) (image : ℕ → ℕ) (p : ℕ) → InForm j (count image) (journal_number image) → Hit image p
    → PAGE * (25 + j) ≤ p
hit_from j image p form hit = let h = form.inside hit.k hit.below in omega (arith, h.from, hit.here)

-- a place outside is not the gate's byte
gateless : (j p : ℕ) → Outside j p → p ≡ PAGE → ⊥
gateless j p outside e = grind arith

-- but for the gate's byte the two agree
abbrev pub GateApart : (a b : ℕ → ℕ) → Type 0
GateApart a b = (p : ℕ) → (p ≡ PAGE → ⊥) → a p ≡ b p

journal_apart : {j : ℕ} {a b : ℕ → ℕ} → GateApart a b → SameJournal j a b
journal_apart same = record { same = λ p within. same p (λ e. omega (arith, e, within.from)) }

-- replayed, a staged journal lays its pages over what was there
laid_over : {j : ℕ} {pages : List (ℕ × List ℕ)} {was current image : ℕ → ℕ} {unsynced : ℕ → Type 0} → j ≤ 385
    → Ready j pages was current unsynced → GateApart image current → (p : ℕ) → Outside j p
    → replayed image p ≡ laid pages was p
laid_over {pages = pages} {was = was} {current = current} few ready same p outside =
    replay_on few (journal_apart same) ready.form p (λ _. same p (gateless _ p outside))
    ∙ ap (λ (n : ℕ). over (journal_number current) (content current) current n p) ready.matches.size
    ∙ over_same (journal_number current) (page_number pages) (content current) (page_byte pages) current was
    (length pages) p
    ready.matches.numbers ready.matches.contents (λ _. ready.same p (outside_journal _ p outside))

module _ {j : ℕ} {opened current image : ℕ → ℕ} {unsynced : ℕ → Type 0} where
  pub placing_image : j ≤ 385 → Placing j opened current unsynced → IsImage current unsynced image
      → ReadsAs j image (replayed opened)
  placing_image few placing is =
      record {
        form = λ e. form_on few (omega (arith, placing.form.some, placing.form.few)) journal placing.form;
        same = λ p outside. open_view image p gate ∙ replay_on few journal placing.form p
            (λ none. at p (λ hit. none hit.k hit.below hit.here));
      }
    where
      at : (p : ℕ) → (Hit opened p → ⊥) → image p ≡ opened p
      at p miss = is.same p (λ l. miss (placing.is_synced p l)) ∙ placing.same p miss

      gate : image PAGE ≡ 165
      gate = at PAGE (λ hit. omega (arith, hit_from j opened PAGE placing.form hit)) ∙ placing.gate

      journal : SameJournal j image opened
      journal = record {
        same = λ p within. at p (λ hit. omega (arith, hit_from j opened p placing.form hit, within.below));
      }

  pub closing_image : j ≤ 385 → PagesPlaced j opened current unsynced → ((p : ℕ) → (p ≡ PAGE → ⊥) → image p ≡ current p)
      → ReadsAs j image (replayed opened)
  closing_image few placed same =
      record {
        form = λ e. form_on few (omega (arith, placed.form.some, placed.form.few)) journal placed.form;
        same = λ p outside. ⊎_elim
            (λ (e : image PAGE ≡ 165). open_view image p e ∙ replay_on few journal placed.form p
            (λ none. at p (gateless _ p outside) (λ hit. none hit.k hit.below hit.here)))
            (λ (e : image PAGE ≡ 165 → ⊥). shut_view image p e ∙ same p (gateless _ p outside) ∙ placed.all p)
            (cases_eq (image PAGE) 165);
      }
    where
      at : (p : ℕ) → (p ≡ PAGE → ⊥) → (Hit opened p → ⊥) → image p ≡ opened p
      at p away miss = same p away ∙ placed.all p
          ∙ over_none (journal_number opened) (content opened) opened (count opened) p (λ k lt e. miss record {
            k = k;
            below = lt;
            here = e;
          })

      journal : SameJournal j image opened
      journal = record {
        same = λ p within. at p (λ e. omega (arith, e, within.from))
            (λ hit. omega (arith, hit_from j opened p placed.form hit, within.below));
      }

-- while the gate opens
pub opening_image : {j : ℕ} {pages : List (ℕ × List ℕ)} {was current image : ℕ → ℕ} {unsynced free : ℕ → Type 0}
    → j ≤ 385
    → Ready j pages was current unsynced → ((p : ℕ) → (p ≡ PAGE → ⊥) → image p ≡ current p)
    → IsBefore j was free image ⊎ ReadsAs j image (laid pages was)
opening_image {j = j} {pages = pages} {was = was} {current = current} {image = image} few ready same =
    ⊎_elim
    (λ (e : image PAGE ≡ 165). inr (record {
      form = λ _. form_on few (omega (arith, ready.form.some, ready.form.few)) (journal_apart same) ready.form;
      same = λ p outside. open_view image p e ∙ laid_over few ready same p outside;
    }))
    (λ (e : image PAGE ≡ 165 → ⊥). inl (record {
      closed = e;
      same = λ p outside _. same p (gateless _ p outside) ∙ ready.same p (outside_journal _ p outside);
    }))
    (cases_eq (image PAGE) 165)

-- the gate's byte alone was written
alone : (p : ℕ) → In PAGE 1 p → p ≡ PAGE
alone p here = omega (arith, here.from, here.below)

pub gate_image : {current current' image : ℕ → ℕ} {unsynced unsynced' : ℕ → Type 0} {done : Type 0} (v : ℕ)
    → ((p : ℕ) → unsynced p → ⊥) → Writes PAGE (v ∷ []) done current current' unsynced unsynced'
    → IsImage current' unsynced' image → GateApart image current
gate_image v is_synced writes is p away =
    is.same p (λ l. ⊎_elim (is_synced p) (λ here. away (alone p here)) (writes.unsyncs p l))
    ∙ writes.outside p (λ here. away (alone p here))

-- the gate's byte is this one, all is synced, and nothing else changed
pub record GateIs (v : ℕ) (current current' : ℕ → ℕ) (unsynced' : ℕ → Type 0) : Type 0 where
  pub same : GateApart current' current
  pub gate : current' PAGE ≡ v
  pub is_synced : (p : ℕ) → unsynced' p → ⊥

pub gate_now : {current current' current'' : ℕ → ℕ} {unsynced unsynced' unsynced'' : ℕ
    → Type 0} {done synced : Type 0} (v : ℕ)
    → Writes PAGE (v ∷ []) done current current' unsynced unsynced' → done
    → Syncs synced current' current'' unsynced' unsynced'' → synced → GateIs v current current'' unsynced''
unfolding span
gate_now {current' = current'} v writes wrote syncs synced = record {
  same = λ p away. syncs.same synced p ∙ writes.outside p (λ here. away (alone p here));
  gate = syncs.same synced PAGE ∙ span_at current' PAGE (v ∷ []) 0 (writes.inside wrote) (omega arith);
  is_synced = syncs.is_synced synced;
}

-- the gate is open
pub opened : {j : ℕ} {pages : List (ℕ × List ℕ)} {was current current' : ℕ → ℕ} {unsynced unsynced' : ℕ → Type 0}
    → j ≤ 385 → Ready j pages was current unsynced → GateIs 165 current current' unsynced'
    → Opened j pages was current' unsynced'
opened {j = j} {pages = pages} {current = current} {current' = current'} few ready now = record {
  gate = now.gate;
  form = form_on few some journal ready.form;
  is_synced = now.is_synced;
  matches = record {
    size = same_count some journal ∙ ready.matches.size;
    numbers = λ k lt. same_number few some journal k (omega (arith, lt, fits)) ∙ ready.matches.numbers k lt;
    contents = λ k x lt below. same_content journal k x (omega (arith, lt, fits)) below
        ∙ ready.matches.contents k x lt below;
  };
  laid_over = laid_over few ready now.same;
}
  where
    some : 1 ≤ j
    some = omega (arith, ready.form.some, ready.form.few)

    fits : length pages ≤ j
    fits = omega (arith, ready.form.few, ready.matches.size)

    journal : SameJournal j current' current
    journal = journal_apart now.same

pub settled : {j : ℕ} {opened current current' : ℕ → ℕ} {unsynced unsynced' : ℕ → Type 0}
    → PagesPlaced j opened current unsynced → GateIs 0 current current' unsynced'
    → Settled j (replayed opened) current' unsynced'
settled placed now = record {
  is_synced = now.is_synced;
  closed = λ e. omega (arith, e, now.gate);
  same = λ p outside. now.same p (gateless _ p outside) ∙ placed.all p;
}

module _ {j : ℕ} {opened current current' : ℕ → ℕ} {unsynced unsynced' : ℕ → Type 0} {done : Type 0} where
  pub placing_writes : (i page : ℕ) (bytes : List ℕ) → Placing j opened current unsynced → i < count opened
      → journal_number opened i ≡ page → length bytes ≡ PAGE
      → Writes (PAGE * page) bytes done current current' unsynced unsynced'
      → Placing j opened current' unsynced'
  placing_writes i page bytes placing lt e size writes = record {
    gate = placing.gate;
    form = placing.form;
    same = λ p miss. writes.outside p (λ here. miss (hit p here)) ∙ placing.same p miss;
    is_synced = λ p l. ⊎_elim (placing.is_synced p) (hit p) (writes.unsyncs p l);
  }
    where
      hit : (p : ℕ) → In (PAGE * page) (length bytes) p → Hit opened p
      hit p here = record { k = i; below = lt; here = omega (arith, here.from, here.below, e, size) }

pub upto_writes : {current current' : ℕ → ℕ} {unsynced unsynced' : ℕ → Type 0} {done : Type 0} (opened : ℕ
    → ℕ) (i page : ℕ)
    (bytes : List ℕ) → Upto opened current i → journal_number opened i ≡ page → length bytes ≡ PAGE
    → ((x : ℕ) → x < PAGE → content opened i x ≡ byte_of bytes x)
    → Writes (PAGE * page) bytes done current current' unsynced
    unsynced' → done → Upto opened current' (i + 1)
upto_writes {current' = current'} opened i page bytes upto e size same writes wrote p =
    let more : i + 1 ≡ suc i = omega arith in
    rw more (⊎_elim
    (λ (h : journal_number opened i ≡ p / PAGE).
    let at : PAGE * page + p % PAGE ≡ p = omega (arith, h, e) in
    (rw at at (span_at current' (PAGE * page) bytes (p % PAGE) (writes.inside wrote) (omega (arith, size))
    ∙ sym (same (p % PAGE) (omega arith)))) ∙ sym (over_hit (journal_number opened) (content opened) opened i p h))
    (λ (h : journal_number opened i ≡ p / PAGE → ⊥). writes.outside p
    (λ here. h (omega (arith, here.from, here.below, e, size))) ∙ upto p
    ∙ sym (over_pass (journal_number opened) (content opened) opened i p h))
    (cases_eq (journal_number opened i) (p / PAGE)))

pub placed_syncs : {j : ℕ} {opened current current' : ℕ → ℕ} {unsynced unsynced' : ℕ → Type 0} {done : Type 0}
    → Placing j opened current unsynced → Upto opened current (count opened)
    → Syncs done current current' unsynced unsynced' → done
    → PagesPlaced j opened current' unsynced'
placed_syncs placing upto syncs done = assumption (λ (p : ℕ). syncs.same done p ∙ upto p, syncs.is_synced done)

pub upto_none : (opened : ℕ → ℕ) → Upto opened opened 0
unfolding over
upto_none opened p = refl

pub opened_placing : {j : ℕ} {pages : List (ℕ × List ℕ)} {was current : ℕ → ℕ} {unsynced : ℕ → Type 0}
    → Opened j pages was current unsynced → Placing j current current unsynced
opened_placing opened = record {
  gate = opened.gate;
  form = opened.form;
  same = λ p miss. refl;
  is_synced = λ p l. absurd (opened.is_synced p l);
}

pub reads_more : {j : ℕ} {image a b : ℕ → ℕ} → ((p : ℕ) → Outside j p → a p ≡ b p) → ReadsAs j image a
    → ReadsAs j image b
reads_more same reads = record { form = reads.form; same = λ p outside. reads.same p outside ∙ same p outside }

pub settled_more : {j : ℕ} {current a b : ℕ → ℕ} {unsynced : ℕ → Type 0} → ((p : ℕ) → Outside j p → a p ≡ b p)
    → Settled j a current unsynced → Settled j b current unsynced
settled_more same s = record {
  is_synced = s.is_synced;
  closed = s.closed;
  same = λ p outside. s.same p outside ∙ same p outside;
}

-- where nothing was unsynced before the gate opened, the images before it are older images too
pub ready_before : {j : ℕ} {was image : ℕ → ℕ} {risk free : ℕ → Type 0} → ((p : ℕ) → free p → ⊥)
    → IsBefore j was free image → IsBefore j was risk image
ready_before none before = record { closed = before.closed; same = λ p outside _. before.same p outside (none p) }

-- where all is settled, the gate is closed and the metadata is what a read gives
pub settled_idle : {j : ℕ} {bytes current : ℕ → ℕ} {unsynced : ℕ → Type 0} → Settled j bytes current unsynced
    → Idle j current unsynced
settled_idle settled = record {
  gate = settled.is_synced PAGE;
  closed = settled.closed;
  area = λ p inside. settled.is_synced p;
}
