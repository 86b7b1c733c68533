-- The values of the checks' code, in the words of the definitions.
use Rattle.tus_request.specs.Fields.{values}
use Rattle.tus_request.specs.Requests.{Refusal, Verdict, Asks, Refuses}
use Rattle.tus_request.specs.Checks.{Asking, Line}
use Rattle.tus_request.specs.Shown.{request_shown}
use Rattle.tus_request.specs.declared.checks.Asking as code_asking
use Rattle.tus_request.specs.declared.checks.Line as code_line
use Rattle.tus_request.specs.declared.checks.Refusal as code_refusal
use Rattle.tus_request.specs.declared.checks.Verdict as code_verdict
use Rattle.tus_request.specs.declared.checks.Verdict.TheVariants as verdict

-- The request line.
abbrev pub line_shown : code_line.Line → Line
line_shown l = record { method = l.method.now; target = l.target.now; minor = l.minor }

-- What the checks read.
abbrev pub asking_shown : code_asking.Asking → Asking
asking_shown a = record {
  verb = a.verb;
  place = a.place;
  given = values a.fields.now;
  length = a.length;
  bare = a.bare;
  expects = a.expects;
  closes = a.closes;
}

abbrev pub refusal_shown : code_refusal.Refusal → Refusal
refusal_shown r = record { fault = r.fault; length = r.length; on_files = r.on_files; bare = r.bare; closes = r.closes }

abbrev pub verdict_shown : code_verdict.Verdict → Verdict
verdict_shown (verdict.Asks r) = Asks (request_shown r)
verdict_shown (verdict.Refuses r) = Refuses (refusal_shown r)
