-- The text after a piece and after the end.
use Rattle.std.proofs.Common.{ℕ, ◌≡◌, true, List, ◌++◌, None, sym, ◌∙◌, ap, append_assoc}
use Rattle.enc_model.specs.Encode.{Tables}
use Rattle.enc_model.specs.Decode.{text}
use Rattle.enc_model.specs.Transcode.{Transcoder, IsStateAt, stepped, added, added_end, so_far}
use Rattle.enc_model.proofs.Transcoding.{text_added, at_next}
use Rattle.enc_stream.proofs.Ends.{text_ended}

-- what is at hand grows from the text so far to the text with the piece
pub grows : (t : Tables) (s next : Transcoder) (piece old new : List ℕ) → next ≡ stepped t s piece
    → (added t s piece).fault ≡ None → new ≡ old ++ (added t s piece).bytes →
    (b : List ℕ) → IsStateAt t s b →
    IsStateAt t next (b ++ piece) × ((before : List ℕ) → old ≡ before ++ (so_far t s b).bytes
    → new ≡ before ++ (so_far t s (b ++ piece)).bytes)
grows t s next piece old new step ok out b here = (
  rw step (at_next t s b piece here ok),
  λ before e. out ∙ ap (λ z. z ++ (added t s piece).bytes) e ∙ append_assoc before (so_far t s b).bytes
      (added t s piece).bytes
      ∙ ap (λ z. before ++ z) (sym (text_added t s b piece here)),
)

-- and to the text with the end
pub grows_end : (t : Tables) (s : Transcoder) (old new : List ℕ) → (added_end t s).fault ≡ None
    → new ≡ old ++ (added_end t s).bytes →
    (b : List ℕ) → IsStateAt t s b →
    ((text t s.from s.to s.mode b true).fault ≡ None) × ((before : List ℕ) → old ≡ before ++ (so_far t s b).bytes
    → new ≡ before ++ (text t s.from s.to s.mode b true).bytes)
grows_end t s old new ok out b here =
    let e = text_ended t s b here in (
      ap (λ z. z.fault) e ∙ ok,
      λ before h. out ∙ ap (λ z. z ++ (added_end t s).bytes) h ∙ append_assoc before (so_far t s b).bytes
          (added_end t s).bytes
          ∙ ap (λ z. before ++ z.bytes) (sym e),
    )
