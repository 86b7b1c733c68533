use Rattle.std.proofs.Common.{ap, sym, subst, length, refl, Some}
use Rattle.upload_rules.specs.Store.{upload_of}
use Rattle.upload_rules.specs.Records.{RepresentsOf, with_number}
use Rattle.tus_action.specs.Acts.{get}
use Rattle.tus_action.specs.Serves.{ActedAs}
use Rattle.tus_action.proofs.Texts.{get_acts_as, get_bare, get_stops}
use Rattle.tus_action.proofs.reads.give_text.Goals as goal

pub returns-in-Ok-give_more-clause-answer : goal.returns-in-Ok-give_more-clause-answer
returns-in-Ok-give_more-clause-answer g c = λ sure w r represents bare closes.
    let n = c.args.number in
    let rec = c.in-Some.record.now in
    let old = c.args.out.now.items in
    let is_record : RepresentsOf w.store.indexes (with_number n (upload_of w.store n)) (Some rec) =
    c.in-Some.ensures.recorded sure w represents in
    subst (λ a. ActedAs g.U.Uploads sure c.give_more.new.store a old c.give_more.new.out.items
    (get w r n (upload_of w.store n))) (sym c.giving.ensures)
    (get_acts_as g.U.Uploads c.give_more.new.store w r n rec c.in-Ok-give_more.given old c.reply_text.new.out.items
    c.give_more.new.out.items
    c.args.bare c.args.closes (upload_of w.store n) (λ v is. g.met.U.Uploads.below c.args.store.now sure w n v
    represents
    is)
    refl is_record bare c.if-bare.false closes c.in-Ok.ensures.ok
    (λ h is. c.in-Ok-give_more.ensures.answer sure w h represents is))

pub returns-in-Err-clause-answer : goal.returns-in-Err-clause-answer
returns-in-Err-clause-answer g c = λ sure w r represents bare closes.
    let n = c.args.number in
    let rec = c.in-Some.record.now in
    let old = c.args.out.now.items in
    let is_record : RepresentsOf w.store.indexes (with_number n (upload_of w.store n)) (Some rec) =
    c.in-Some.ensures.recorded sure w represents in
    get_stops g.U.Uploads sure c.give_more.new.store w c.args.closes n rec c.in-Err.stop old _
    c.reply_text.new.out.items
    c.give_more.new.out.items c.truncate.new.self.items
    (length c.as_slice-before.result.now) _ (upload_of w.store n)
    (λ v is. g.met.U.Uploads.below c.args.store.now sure w n v represents is) refl is_record c.in-Ok.ensures.ok
    (ap length c.as_slice-before.ensures.value) c.truncate.ensures.items
    (λ h is. c.in-Err.ensures.answer sure w h represents is)

pub returns-then-bare-clause-answer : goal.returns-then-bare-clause-answer
returns-then-bare-clause-answer g c = λ sure w r represents bare closes.
    let n = c.args.number in
    get_bare g.U.Uploads sure c.args.store.now w r n c.in-Some.record.now c.args.out.now.items
    c.reply_text.new.out.items
    c.args.bare c.args.closes (upload_of w.store n) (c.in-Some.ensures.recorded sure w represents) bare c.if-bare.true
    closes
    c.in-Ok.ensures.ok represents
