use Rattle.gateway_format.proofs.formatting.format_wanted.Goals as goal

pub returns-in-Some : goal.returns-in-Some
returns-in-Some g c = rw c.in-Some.is (record {
  too_large = λ big. let too_large = c.format_raised_in.ensures.too_large big in (
    (λ disks held. rw too_large.0 held),
    too_large.1,
  );
  untouched = c.format_raised_in.ensures.untouched;
  foreign = c.format_raised_in.ensures.foreign;
  made = c.format_raised_in.ensures.made;
  pages = c.format_raised_in.ensures.pages;
  others = c.format_raised_in.ensures.others;
  reasons = λ disks held honest same. absurd (cc);
})

pub returns-in-None : goal.returns-in-None
returns-in-None g c = rw c.in-None.is (record {
  too_large = tt;
  untouched = c.format_in.ensures.untouched;
  foreign = c.format_in.ensures.foreign;
  made = c.format_in.ensures.made;
  pages = c.format_in.ensures.pages;
  others = c.format_in.ensures.others;
  reasons = λ disks held honest same. c.format_in.ensures.reasons disks held honest;
})
