-- Why a disk is refused.
use Rattle.std.proofs.Common.{◌≡◌, inl, inr, ℕ, ◌+◌, ◌*◌, ◌^◌, ◌<◌, ◌≤◌, ◌++◌, List, length, get_or, IsTrue, ◌↔◌}
use Rattle.std.proofs.Common.{IfOk, IfErr, Option, Some, None, IfSome, IsNone, IsSomeAnd, MatchOption}
use Rattle.std.specs.Option.{ok_or}
use Rattle.std.proofs.Common.{refl, sym, ◌∙◌, ap, subst, arith}
use Rattle.std.specs.Int.{to_be_bytes, from_be_bytes, w32}
use Rattle.std.proofs.lemmas.Nat.{from_be_bytes-to_be_bytes_4}
use Rattle.common.specs.declared.stop.Stop.TheVariants.{NoMemory, DiskFault}
use Rattle.spool_journal.specs.declared.TheConstants.{PAGE}
use Rattle.spool_journal.specs.Image.{journal_pages, all_pages, byte_of, overlaid}
use Rattle.spool_journal.specs.Phases.{Settled}
use Rattle.spool_pages.specs.View.{View, AreAt, magic, first_page, state_page, state_place, version_number}
use Rattle.spool_pages.specs.declared.version.Version as code_version
use Rattle.spool_pages.specs.declared.version.Version.TheVariants.{One, Two}
use Rattle.spool_pages.proofs.Numbers.{four_at}
use Rattle.spool_pages.proofs.RecordBytes.{at_prefix, at_beyond}
use Rattle.spool_pages.proofs.Encodes.{encodes_same, some_journal}
use Rattle.spool_catalog.specs.declared.error.OpenFault.{OpenFault}
use Rattle.spool_catalog.specs.declared.error.OpenFault.TheVariants.{NotASpool, Damaged, Version, Stop}
use Rattle.spool_catalog.specs.Holding.{Holding}
use Rattle.spool_catalog.specs.Loads.{LoadsAs}
use Rattle.spool_catalog.specs.Shows.{IsValid}
use Rattle.spool_load.specs.Faults.{IsStopError, load_fault}
use Rattle.spool_load.specs.declared.error.LoadError.{LoadError}
use Rattle.spool_load.specs.declared.error.LoadError.TheVariants as loads
use Rattle.spool_load.specs.Loaded.{EncodesBy, FoundBy, FoundOn, IsFoundOf, LoadedFrom, OpenedFrom, IsFoundState}
use Rattle.spool_load.specs.Loaded.{FoundIsAt}
use Rattle.spool_load.specs.declared.finding.Found.{Found}
use Rattle.spool_load.specs.Reads.{IsReadAt, EncodesBlocks}
use Rattle.spool_load.proofs.Looks.{read_back, read_at_place}
use Rattle.spool_load.specs.Refusals.{HasJournal, NotFoundBy, RefusedAt, RefusedBy, RefusedHere}
use Rattle.spool_load.specs.Refusals.{EncodesKnownVersion, EncodesVersion}
use Rattle.spool_load.proofs.Opens.{prefix_plain}

-- NUMBERS IN FOUR BYTES

pub number_one : (f : ℕ → ℕ) (at n m : ℕ) → n < 2 ^ 32 → m < 2 ^ 32 → AreAt f at 4 (to_be_bytes w32 n)
    → AreAt f at 4 (to_be_bytes w32 m) → n ≡ m
number_one f at n m fits fits' a b =
    sym (from_be_bytes-to_be_bytes_4 n fits) ∙ ap (from_be_bytes w32) (sym (four_at f at n a) ∙ four_at f at m b)
    ∙ from_be_bytes-to_be_bytes_4 m fits'

number_at_place : (size : ℕ) (current : ℕ → ℕ) (n : ℕ) → EncodesBlocks size current n
    → AreAt current 8 4 (to_be_bytes w32 n)
unfolding first_page
number_at_place size current n encodes =
    let whole : AreAt current 0 12 (magic ++ to_be_bytes w32 n) = record {
      each = λ i lt.
          let at : i ≡ 0 + i = omega arith in
          subst (λ (p : ℕ). current p ≡ get_or (magic ++ to_be_bytes w32 n) i 0) at (encodes.prefix i lt);
    } in
    at_beyond magic (to_be_bytes w32 n) 8 4 refl (omega arith) whole

-- a disk encodes at most one number of blocks
pub encodes_one : (size : ℕ) (current : ℕ → ℕ) (n m : ℕ) → EncodesBlocks size current n → EncodesBlocks size current m
    → n ≡ m
encodes_one size current n m a b =
    number_one current 8 n m (omega (arith, a.most)) (omega (arith, b.most)) (number_at_place size current n a)
    (number_at_place size current m b)

pub version_at : (f : ℕ → ℕ) (at size : ℕ) (version : code_version.Version) (next : ℕ) → 4 ≤ size
    → AreAt f at size (state_page version next) → EncodesVersion f at version
unfolding state_page
version_at f at size version next room are_at =
    at_prefix (to_be_bytes w32 (version_number version)) _ 4 refl room are_at

pub known_version_at : (f : ℕ → ℕ) (at size : ℕ) (version : code_version.Version) (next : ℕ) → 4 ≤ size
    → AreAt f at size (state_page version next) → EncodesKnownVersion f at
known_version_at f at size version next room are_at =
    record { version = version; decoded = version_at f at size version next room are_at }

-- a place encodes at most one version
pub version_one : (f : ℕ → ℕ) (at : ℕ) (a b : code_version.Version) → EncodesVersion f at a → EncodesVersion f at b
    → version_number a ≡ version_number b
version_one f at a b = number_one f at (version_number a) (version_number b) (small a) (small b)
  where
    small : (version : code_version.Version) → version_number version < 2 ^ 32
    small One = omega arith
    small Two = omega arith

-- what was found in a page that was read
found_read : (bytes : ℕ → ℕ) (n place : ℕ) (buf : List ℕ) (found : Found) → IsReadAt bytes place buf
    → length buf ≡ PAGE → state_place n ≡ place + 0 → found.layout ≡ n
    → AreAt (byte_of buf) 0 12 (state_page found.version found.next)
    → (IsTrue found.is_rest_blank ↔ AreAt (byte_of buf) 0 PAGE (state_page found.version found.next))
    → FoundIsAt bytes found
found_read bytes n place buf found read long here same fields rest =
    let decoded = state_page found.version found.next in
    let S : ℕ → ℕ → Type 0 = λ many k. AreAt bytes (state_place k) many decoded in
    record {
      fields = subst (S 12) (sym same) (read_back bytes place (state_place n) 0 12 buf decoded read
          (omega (arith, long))
          here fields);
      rest = (
        λ blank. subst (S PAGE) (sym same) (read_back bytes place (state_place n) 0 PAGE buf decoded read
            (omega (arith, long)) here (rest.0 blank)),
        λ there. rest.1 (read_at_place bytes place (state_place n) 0 PAGE buf decoded read (omega (arith, long)) here
            (subst (S PAGE) same there)),
      );
    }

pub state_read : (bytes : ℕ → ℕ) (n place : ℕ) (buf : List ℕ) (decoded : Option Found) → IsReadAt bytes place buf
    → length buf ≡ PAGE → state_place n ≡ place + 0 → IfSome decoded (λ found. found.layout ≡ n)
    → IfSome decoded (λ found. AreAt (byte_of buf) 0 12 (state_page found.version found.next))
    → IfSome decoded (λ found. IsTrue found.is_rest_blank
    ↔ AreAt (byte_of buf) 0 PAGE (state_page found.version found.next))
    → (IsNone decoded → EncodesKnownVersion (byte_of buf) 0 → ⊥)
    → MatchOption decoded (EncodesKnownVersion bytes (state_place n) → ⊥) (FoundIsAt bytes)
state_read bytes n place buf (Some found) read long here same fields rest unknown =
    found_read bytes n place buf found read long here same fields rest
state_read bytes n place buf None read long here same fields rest unknown = λ known. unknown refl (record {
  version = known.version;
  decoded = read_at_place bytes place (state_place n) 0 4 buf _ read (omega (arith, long)) here known.decoded;
})

-- AFTER A RECOVERY

module _ (n : ℕ) (old current : ℕ → ℕ) (unsynced : ℕ
    → Type 0) (settled : Settled (journal_pages n) (overlaid old) current unsynced)
    (journal : HasJournal n old) where
  pub state_same : (i : ℕ) → current (state_place n + i) ≡ overlaid old (state_place n + i)
  state_same i = let j = some_journal n in settled.same (state_place n + i) (inr (omega arith))

  pub state_on : (size : ℕ) (xs : List ℕ) → AreAt current (state_place n) size xs
      → AreAt (overlaid old) (state_place n) size xs
  state_on size xs are_at = record { each = λ i lt. sym (state_same i) ∙ are_at.each i lt }

  pub state_back : (size : ℕ) (xs : List ℕ) → AreAt (overlaid old) (state_place n) size xs
      → AreAt current (state_place n) size xs
  state_back size xs are_at = record { each = λ i lt. state_same i ∙ are_at.each i lt }

  -- a state page without a known version is refused
  pub unrestored : (decoded : Option Found) → MatchOption decoded (EncodesKnownVersion current (state_place n) → ⊥)
      (FoundIsAt current) → IfErr (ok_or decoded Version) (RefusedAt n old)
  unrestored (Some found) shown = tt
  unrestored None shown =
      (journal, λ known. shown (record { version = known.version; decoded = state_back 4 _ known.decoded }))

  found_on : (size : ℕ) (found : Found) → found.layout ≡ n → EncodesBlocks size old n → FoundIsAt current found
      → FoundOn size old found
  found_on size found same encodes are_at =
      let decoded = state_page found.version found.next in
      let S : (ℕ → ℕ) → ℕ → ℕ → Type 0 = λ f many k. AreAt f (state_place k) many decoded in
      record {
        encodes = subst (EncodesBlocks size old) (sym same) encodes;
        journal = subst (λ (k : ℕ). HasJournal k old) (sym same) journal;
        state = record {
          fields = subst (S (overlaid old) 12) (sym same) (state_on 12 decoded
              (subst (S current 12) same are_at.fields));
          rest = (
            λ blank. subst (S (overlaid old) PAGE) (sym same)
                (state_on PAGE decoded (subst (S current PAGE) same (are_at.rest.0 blank))),
            λ there. are_at.rest.1 (subst (S current PAGE) (sym same)
                (state_back PAGE decoded (subst (S (overlaid old) PAGE) same there))),
          );
        };
      }

  pub restored : (size : ℕ) (decoded : Option Found) → IfSome decoded (λ found. found.layout ≡ n)
      → EncodesBlocks size old n
      → MatchOption decoded (EncodesKnownVersion current (state_place n) → ⊥) (FoundIsAt current)
      → IfOk (ok_or decoded Version) (FoundOn size old)
  restored size (Some found) same encodes are_at = found_on size found same encodes are_at
  restored size None same encodes shown = tt

  pub encodes_on : (size size' : ℕ) → size' ≡ size → EncodesBlocks size old n → EncodesBlocks size' current n
  encodes_on size size' same encodes = record {
    least = encodes.least;
    most = encodes.most;
    room = subst (λ (k : ℕ). PAGE * all_pages n ≤ k) (sym same) encodes.room;
    prefix = λ i lt.
        let inside : i < PAGE = omega (arith, lt) in
        settled.same i (inl inside) ∙ sym (prefix_plain (journal_pages n) old journal i inside) ∙ encodes.prefix i lt;
  }

  pub opened_on : (size : ℕ) (catalog : Holding) → EncodesBlocks size old n → LoadedFrom current n catalog
      → OpenedFrom size old catalog
  opened_on size catalog encodes loaded =
      let v = loaded.view in
      let J : ℕ → Type 0 = λ k. HasJournal k old in
      let S : ℕ → Type 0 = λ k. Settled (journal_pages k) (overlaid old) current unsynced in
      let here : Settled (journal_pages v.blocks) (overlaid old) current unsynced = subst S
      (sym loaded.blocks) settled in
      record {
        view = v;
        valid = loaded.valid;
        is = record {
          form = subst J (sym loaded.blocks) journal;
          encodes = encodes_same (overlaid old) current v (λ p outside. sym (here.same p outside)) loaded.encodes;
        };
        room = subst (λ (k : ℕ). PAGE * all_pages k ≤ size) (sym loaded.blocks) encodes.room;
        has_view = loaded.has_view;
      }

-- and of what was found
pub found_back : (size : ℕ) (found : Found) (old current : ℕ → ℕ) (unsynced : ℕ → Type 0)
    → Settled (journal_pages found.layout) (overlaid old) current unsynced → FoundOn size old found
    → FoundIsAt current found
found_back size found old current unsynced settled is =
    let n = found.layout in
    let decoded = state_page found.version found.next in
    let back = λ (many : ℕ). state_back n old current unsynced settled is.journal many decoded in
    let on = λ (many : ℕ). state_on n old current unsynced settled is.journal many decoded in
    record {
      fields = back 12 is.state.fields;
      rest = (λ blank. back PAGE (is.state.rest.0 blank), λ there. is.state.rest.1 (on PAGE there));
    }

-- what was found on the state page; an unknown version is refused
pub restored_layout : (n : ℕ) (decoded : Option Found) → IfSome decoded (λ found. found.layout ≡ n)
    → IfOk (ok_or decoded Version) (λ found. found.layout ≡ n)
restored_layout n (Some found) same = same
restored_layout n None same = tt

pub restored_view : (v : View) (n : ℕ) (decoded : Option Found) → n ≡ v.blocks
    → IsSomeAnd decoded (IsFoundState v.version v.next) → IfSome decoded (λ found. found.layout ≡ n)
    → LoadsAs (ok_or decoded Version) (IsFoundOf v)
restored_view v n (Some found) blocks encodes same = record { blocks = same ∙ blocks; state = encodes }
restored_view v n None blocks encodes same = absurd encodes

-- THE REASON OF A REFUSAL

module _ (size : ℕ) (before after : ℕ → ℕ) where
  pub found_reason : (n : ℕ) (e : OpenFault) → EncodesBlocks size before n → RefusedHere n before after e
      → NotFoundBy size before after e
  found_reason n NotASpool encodes why = absurd why
  found_reason n Version encodes why = record { blocks = n; encodes = encodes; journal = why.0; other = why.1 }
  found_reason n Damaged encodes why = record { blocks = n; encodes = encodes; bad = why }
  found_reason n (Stop NoMemory) encodes why = absurd why
  found_reason n (Stop DiskFault) encodes why = tt

  -- why it isn't found is why it isn't opened
  pub unfound_reason : (e : OpenFault) → NotFoundBy size before after e → RefusedBy size before after e
  unfound_reason NotASpool why = why
  unfound_reason Version why = why
  unfound_reason Damaged why = record {
    blocks = why.blocks;
    encodes = why.encodes;
    version = λ form. absurd (why.bad form);
    no_view = λ v valid journal encodes e. why.bad (subst (λ (k : ℕ). HasJournal k before) e journal);
  }
  unfound_reason (Stop NoMemory) why = absurd why
  unfound_reason (Stop DiskFault) why = tt

  -- and so is why what was found isn't read
  pub read_reason : (found : Found) (e : LoadError) → FoundBy size before after found
      → ((v : View) → IsValid v → EncodesBy size before after v → IsStopError e)
      → RefusedBy size before after (load_fault e)
  read_reason found (loads.Stop stop) is is_stop = tt
  read_reason found loads.Damaged is is_stop = record {
    blocks = found.layout;
    encodes = is.encodes;
    version = λ form. known_version_at after (state_place found.layout) 12 found.version found.next (omega arith)
        is.state.fields;
    no_view =
        λ v valid journal encodes e. is_stop v valid
        (record {
          begins = subst (EncodesBlocks size before) (sym e) is.encodes;
          journal = journal;
          encodes = encodes;
        });
  }
