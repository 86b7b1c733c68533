-- The slots of a table.
use Rattle.std.specs.Prelude.{◌≡◌, ◌≤◌, ◌<◌, ℕ, List, [], ◌∷◌, None, map, length, slice_index}
use Rattle.enc_model.specs.Indexes.{IndexSet}
use Rattle.upload_rules.specs.Store.{Upload, text_of, text_with, is_complete}
use Rattle.upload_rules.specs.Records.{Represents}
use Rattle.upload_rules.specs.States.{IsKeptState, transcoder_with}
use Rattle.upload_rules.specs.declared.slot.Slot.{Slot}

-- The slot's number.
abbrev pub slot_number_of : Slot → ℕ
slot_number_of s = s.record.number

-- The numbers of the slots.
abbrev pub numbers : List Slot → List ℕ
numbers slots = map slot_number_of slots

-- Each number is above those before it.
abbrev pub IsRising : List ℕ → Type 0
IsRising ns = (i j : ℕ) → i < j → j < length ns → slice_index ns i < slice_index ns j

-- All numbers are below `top`.
abbrev pub IsBelow : List ℕ → ℕ → Type 0
IsBelow ns top = (k : ℕ) → k < length ns → slice_index ns k < top

-- The numbers before this place are at most n, those from it on are greater.
pub record IsDivided (ns : List ℕ) (n place : ℕ) : Type 0 where
  pub within : place ≤ length ns
  pub before : (k : ℕ) → k < place → slice_index ns k ≤ n
  pub after : (k : ℕ) → place ≤ k → k < length ns → n < slice_index ns k

-- This place is the first with the number.
pub record IsFirstAt (ns : List ℕ) (n place : ℕ) : Type 0 where
  pub within : place < length ns
  pub here : slice_index ns place ≡ n
  pub before : (k : ℕ) → k < place → slice_index ns k ≡ n → ⊥

-- No place has the number.
abbrev pub IsNowhere : List ℕ → ℕ → Type 0
IsNowhere ns n = (k : ℕ) → k < length ns → slice_index ns k ≡ n → ⊥

-- The slot represents the upload: its record does, and the text is stored.
pub record SlotRepresents (x : IndexSet) (n : ℕ) (u : Upload) (s : Slot) : Type 0 where
  pub represents : Represents x n s.record u
  pub text : s.text.items ≡ text_of x u
  pub encodable : (text_with x u [] (is_complete u)).fault ≡ None
  pub valid : IsKeptState (transcoder_with x u [] (is_complete u)) (is_complete u)

-- Each slot represents its upload.
abbrev pub AllRepresent : IndexSet → List (ℕ × Upload) → List Slot → Type 0
AllRepresent x [] [] = Unit {0}
AllRepresent x (entry ∷ entries) (s ∷ slots) = SlotRepresents x entry.0 entry.1 s × AllRepresent x entries slots
AllRepresent x _ _ = ⊥
