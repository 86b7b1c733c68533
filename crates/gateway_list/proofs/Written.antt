-- The lines of uploads in JSON, written one after the other.
use Rattle.std.proofs.Common.{◌≡◌, ◌∙◌, ap, refl, subst, sym, ℕ, List, [], ◌++◌, Option, Some, None}
use Rattle.std.proofs.Common.{append_assoc, append-nil, Bor, option_copied}
use Rattle.std.proofs.KnownBytes.{Appends-nil, Appends-trans}
use Rattle.std.specs.Io.KnownBytes.{Appends}
use Rattle.enc_model.specs.Indexes.{IndexSet}
use Rattle.upload_rules.specs.Records.{Represents, RepresentsOf, above}
use Rattle.upload_rules.specs.Store.{Store, Upload}
use Rattle.upload_rules.specs.declared.records.Record.{Record}
use Rattle.gateway_outside.specs.Above.{after, all_above, none_above, none_represented, represented, some_above}
use Rattle.gateway_outside.specs.InOrder.{IsInOrder}
use Rattle.gateway_list.specs.Json.{AppendsLine, AreJsonLines, WritesLines, json_line, record_head, upload_head}

-- the line of a record begins as that of its upload
pub head_is : (x : IndexSet) (r : Record) (entry : ℕ × Upload) → Represents x entry.0 r entry.1
    → record_head r ≡ upload_head x entry
head_is x r entry t = rw (t.number_is, t.accepted, t.declared, t.text_len, t.from, t.to, t.mode, t.metadata) refl

-- whatever lines of the uploads that are left follow, they are lines of all
pub record SoFar (x : IndexSet) (left all : List (ℕ × Upload)) (before now : Option (List ℕ)) : Type 0 where
  pub out : List ℕ
  pub wrote : Appends before now out
  pub whole : (rest : List ℕ) → AreJsonLines x left rest → AreJsonLines x all (out ++ rest)

pub so_far_first : (m : Store) (before : Option (List ℕ)) → IsInOrder m
    → SoFar m.indexes (after 0 m.uploads) m.uploads before before
so_far_first m before order = record {
  out = [];
  wrote = Appends-nil before;
  whole = λ rest are. subst (λ left. AreJsonLines m.indexes left rest) (all_above m.uploads order.some) are;
}

module _ (m : Store) (n : ℕ) (r : Option (Bor Record)) (before b : Option (List ℕ))
    (t : RepresentsOf m.indexes (above n m.uploads) (option_copied r))
    (was : SoFar m.indexes (after n m.uploads) m.uploads before b) where
  pub so_far_all : r ≡ None → WritesLines before b m
  so_far_all e =
      let none = none_above n m.uploads (none_represented m.indexes (above n m.uploads) (option_copied r)
      (ap (λ o. option_copied o) e) t) in
      record {
        lines = was.out;
        are = subst (λ out. AreJsonLines m.indexes m.uploads out) (append-nil was.out)
            (was.whole [] (rw none refl));
        wrote = was.wrote;
      }

  pub so_far_next : (now : Bor Record) (c : Option (List ℕ)) (head : List ℕ) → IsInOrder m → r ≡ Some now
      → head ≡ record_head now.now → AppendsLine b c head
      → SoFar m.indexes (after now.now.number m.uploads) m.uploads before c
  so_far_next now c head order e same line =
      let it = represented m.indexes (above n m.uploads) now.now
      (subst (λ o. RepresentsOf m.indexes (above n m.uploads) (option_copied o)) e t) in
      let entry = it.0 in
      let is : json_line head line.0 ≡ json_line (upload_head m.indexes entry) line.0 =
      ap (λ h. json_line h line.0) (same ∙ head_is m.indexes now.now entry it.2) in
      let here = some_above n m.uploads entry order.rising it.1 in
      record {
        out = was.out ++ json_line head line.0;
        wrote = Appends-trans before b c was.out (json_line head line.0) was.wrote line.1;
        whole = λ rest are.
            subst (λ out. AreJsonLines m.indexes m.uploads out)
            (sym (append_assoc was.out (json_line head line.0) rest))
            (was.whole (json_line head line.0 ++ rest)
            (subst (λ left. AreJsonLines m.indexes left (json_line head line.0 ++ rest)) (sym here) (
              line.0,
              rest,
              ap (λ l. l ++ rest) is,
              subst (λ k. AreJsonLines m.indexes (after k m.uploads) rest) it.2.number_is are,
            )));
      }
