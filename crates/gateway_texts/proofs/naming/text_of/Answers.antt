use Rattle.std.proofs.Common.{ap}
use Rattle.std.proofs.lemmas.Str.{IsUtf8-had}
use Rattle.gateway_texts.proofs.Utf8.{text_none, text_some}
use Rattle.gateway_texts.proofs.naming.text_of.Goals as goal

pub returns-in-Ok : goal.returns-in-Ok
returns-in-Ok c =
    text_some c.args.bytes.items _ (ap (λ v. v.items) c.in-Ok.ensures.ok) (IsUtf8-had _ c.in-Ok.text.ok)

pub returns : goal.returns
returns c = text_none c.args.bytes.items (λ utf8. let bad = c.in-Err.ensures.succeeds utf8 in absurd (cc))
