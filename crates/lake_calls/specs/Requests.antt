-- What a seat is asked: a call at a moment, or a request of no form that is read.
use Rattle.std.specs.Prelude.{ℕ, Option, Some, None}
use Rattle.lake_calls.specs.declared.call.Call.{Call}
use Rattle.lake_calls.specs.declared.reply.CallReply.{CallReply}
use Rattle.lake_calls.specs.declared.reply.CallReply.TheVariants as reply
use Rattle.lake_calls.specs.declared.reply.FormRefusal.{FormRefusal}

-- a call, or what is refused of a request before there is one
pub data Asked : Type 0 where
  Asks : Call → Asked
  Malformed : FormRefusal → Asked

-- it is asked at a moment, in seconds since 1970
pub record CallRequest : Type 0 where
  pub asked : Asked
  pub moment : ℕ

-- the refusal of a form, which depends on the request alone
abbrev pub form_of : Asked → Option CallReply
form_of (Asks call) = None
form_of (Malformed refusal) = Some (reply.Malformed refusal)
