use Rattle.std.proofs.Common.{◌≡◌, ◌∙◌, ◌++◌, [], ◌∷◌, ap, sym, subst, List, ℕ, append-nil}
use Rattle.std.specs.Prelude.{string_bytes}
use Rattle.std.proofs.lemmas.Iterator.{YieldsList-from_chars}
use Rattle.std.proofs.lemmas.Iterator.Consumers.{YieldsList-end}
use Rattle.std.proofs.lemmas.List.{flat_map_more, map-id}
use Rattle.gateway_list.specs.Json.{json_char, json_chars}
use Rattle.gateway_list.proofs.json_texts.push_chars.Goals as goal

-- one character more
more : (old now new : List ℕ) (cs : List ℕ) (c : ℕ) → now ≡ old ++ json_chars cs → new ≡ now ++ json_char c
    → new ≡ old ++ json_chars (cs ++ c ∷ [])
unfolding json_chars
more old now new cs c is one =
    one ∙ ap (λ l. l ++ json_char c) is ∙ flat_map_more json_char old cs c

pub loop-c-init : goal.loop-c-init
unfolding json_chars
loop-c-init c = sym (append-nil (string_bytes c.args.json.now))

pub loop-c-preserved : goal.loop-c-preserved
loop-c-preserved c = more _ _ _ c.loop-c.yielded c.in-Some.c c.loop-c.invariant c.in_ok-push_char.ensures

pub returns : goal.returns
returns c =
    let so_far = c.loop-c.yielded in
    let given = YieldsList-from_chars c.args.text.now c.utf8.text cc in
    let end = YieldsList-end given so_far _ c.loop-c.yielded_by _ _ c.in-None.is c.next.ensures.steps in
    subst (λ (cs : List ℕ). string_bytes c.loop-c.json ≡ string_bytes c.args.json.now ++ json_chars cs)
    (sym (map-id so_far) ∙ end.0) c.loop-c.invariant
