use Rattle.std.proofs.Common.{◌∙◌, ap, inl, inr, refl, sym}
use Rattle.std.specs.Prelude.{option_map}
use Rattle.gateway_text.specs.Transcoding.{choice_in}
use Rattle.gateway_text.proofs.transcoding.text_in.Goals as goal

pub returns-in_default : goal.returns-in_default
returns-in_default g c = record {
  texts = inl (
    (refl, refl),
    inl (
      sym c.conversion_of.ensures.choice ∙ ap (option_map choice_in) c.in_default.is,
      refl,
      c.refused_text.ensures,
    ),
  );
}

pub returns-in-Err : goal.returns-in-Err
returns-in-Err g c = record { texts = inl ((refl, refl), inr (inl c.in-Err.ensures.refused)) }

pub returns-in-Err-refuse_lacking : goal.returns-in-Err-refuse_lacking
returns-in-Err-refuse_lacking g c = record {
  texts = inl (
    (refl, refl),
    inr (inr (record {
      set = _;
      files = _;
      read = c.in-Ok.ensures.read;
      conversion = c.in-Some.conversion;
      choice = sym c.conversion_of.ensures.choice ∙ ap (option_map choice_in) c.in-Some.is;
      lacks = c.in-Err-refuse_lacking.ensures.refused.1;
      refused = c.in-Err-refuse_lacking.ensures.refused.0;
    })),
  );
}

pub returns-in-Ok-refuse_lacking : goal.returns-in-Ok-refuse_lacking
returns-in-Ok-refuse_lacking g c = record {
  texts = inr (record {
    set = _;
    files = _;
    read = c.in-Ok.ensures.read;
    conversion = c.in-Some.conversion;
    choice = sym c.conversion_of.ensures.choice ∙ ap (option_map choice_in) c.in-Some.is;
    offered = c.in-Ok-refuse_lacking.ensures.offered refl;
    texts = c.text_by.ensures;
  });
}
