use Rattle.std.proofs.Common.{ℕ, ◌<◌, ◌+◌, ◌++◌, ◌∷◌, [], ◌∙◌, ap, ap₂, subst, arith, length, take, map}
use Rattle.std.proofs.Common.{get_or, slice_index}
use Rattle.std.proofs.lemmas.List.{length-take-le}
use Rattle.enc_feed.specs.Batches.{BatchTook}
use Rattle.enc_feed.proofs.Gathered.{still_text, took_char}
use Rattle.enc_feed.proofs.Stored.{char_read, map_more, own_map, took_on}
use Rattle.enc_feed.proofs.room.store_some.Goals as goal

pub store_each-requires-clause-room : goal.store_each-requires-clause-room
store_each-requires-clause-room g c =
    let l = length-take-le 32 c.args.bytes.now c.requires.many in
    let many = c.requires.many in
    let room = c.requires.room in
    omega (arith, l, many, room)

pub returns-in_default-clause-few : goal.returns-in_default-clause-few
returns-in_default-clause-few g c =
    let l = length-take-le 32 c.args.bytes.now c.requires.many in
    let few = c.store_each.ensures.few in
    omega (arith, l, few)

pub returns-then-prefix-eq-LANES-clause-took : goal.returns-then-prefix-eq-LANES-clause-took
returns-then-prefix-eq-LANES-clause-took g c =
    let bytes = c.args.bytes.now in
    let char : ℕ → ℕ = λ b. slice_index c.args.chars.now b in
    let own = own_map char (take c.in-Some.prefix bytes) c.requires.own c.in-Some.ensures.ascii in
    let new = take c.store_prefix-end.result c.store_prefix-end.new.room in
    subst (λ z. BatchTook (take c.args.from c.args.room.now) z new)
    (own ∙ ap (λ n. map char (take n bytes)) c.if-prefix-eq-LANES.true) c.store_prefix-end.ensures.took

pub returns-clause-took : goal.returns-clause-took
returns-clause-took g c =
    let bytes = c.args.bytes.now in
    let i = c.in-Some.prefix in
    let char : ℕ → ℕ = λ b. slice_index c.args.chars.now b in
    let code = c.index-chars-bytes.result in
    let is = char_read c.args.chars.now (get_or bytes i 0) code c.requires.long (c.type_inv.bytes i)
    c.index-chars-bytes.is in
    let inside : i < length bytes = let w = c.in-Some.ensures.within in let n = c.if-prefix-eq-LANES.false in let many =
    c.requires.many in omega (arith, w, n, many) in
    let own = own_map char (take i bytes) c.requires.own c.in-Some.ensures.ascii in
    let mid = take c.store_prefix-end.result c.store_prefix-end.new.room in
    let new = take c.store_code.result c.store_code.new.bytes in
    let e = c.store_code.ensures in
    let f = c.store_prefix-end.ensures in
    took_on (take c.args.from c.args.room.now) mid new (take i bytes) (code ∷ []) (map char (take (i + 1) bytes)) f.took
    (took_char mid new code f.text e.scalar e.code)
    (ap₂ (λ prefix c. prefix ++ c ∷ []) own is ∙ map_more char bytes i inside)

pub returns-clause-text : goal.returns-clause-text
returns-clause-text g c =
    let e = c.store_code.ensures in
    let old = take c.store_prefix-end.result c.store_prefix-end.new.room in
    still_text old (take c.store_code.result c.store_code.new.bytes)
    c.index-chars-bytes.result c.store_prefix-end.ensures.text e.scalar e.code
