-- The values of the code, in the words of the definitions.
use Rattle.std.specs.String.{string_bytes}
use Rattle.tus_request.specs.declared.requests.Action as code_action
use Rattle.tus_request.specs.declared.requests.Action.TheVariants as action
use Rattle.tus_request.specs.declared.requests.Request as code_request
use Rattle.tus_request.specs.declared.requests.Parsed as code_parsed
use Rattle.tus_request.specs.declared.requests.Parsed.TheVariants as parsed
use Rattle.tus_request.specs.Requests.{Action, Options, Create, Head, Get, Patch, Delete, Request, Asks, Refuses}
use Rattle.tus_request.specs.Answers.{Answer, More, Judged}

-- What a request asks for.
abbrev pub action_shown : code_action.Action → Action
action_shown action.Options = Options
action_shown (action.Create declared from to mode metadata) =
    Create (record { declared = declared; from = from; to = to; mode = mode; metadata = string_bytes metadata })
action_shown (action.Head number) = Head number
action_shown (action.Get number) = Get number
action_shown (action.Patch number offset declare) = Patch number offset declare
action_shown (action.Delete number) = Delete number

abbrev pub request_shown : code_request.Request → Request
request_shown r = record {
  action = action_shown r.action;
  length = r.length;
  bare = r.bare;
  expects = r.expects;
  closes = r.closes;
}

abbrev pub answer_shown : code_parsed.Parsed → Answer
answer_shown parsed.More = More
answer_shown (parsed.Head taken request) = Judged taken (Asks (request_shown request))
answer_shown (parsed.Refused taken length fault on_files bare closes) =
    Judged taken (Refuses (record {
      fault = fault;
      length = length;
      on_files = on_files;
      bare = bare;
      closes = closes;
    }))
