-- Calls that read no object's bytes, and upload none.
use Rattle.lake_calls.specs.declared.call.Call.TheVariants as any
use Rattle.lake_calls.specs.declared.call.SettingCall.{SettingCall}
use Rattle.lake_calls.specs.declared.heads.HeadCall.{HeadCall}
use Rattle.lake_calls.specs.declared.names.NamingCall.{NamingCall}
use Rattle.lake_calls.specs.declared.objects.ListCall.{ListCall}
use Rattle.lake_calls.specs.declared.objects.ObjectCall.TheVariants as object
use Rattle.lake_calls.specs.declared.objects.ReadCall.{ReadCall}
use Rattle.call_heads.proofs.AnswerLemmas.{IsOtherCall}
use Rattle.lake_api.proofs.ChangeLemmas.{UploadsNone}

pub of_names : (call : NamingCall) → IsOtherCall (any.Names call)
of_names call c is = cc (is)

pub of_heads : (call : HeadCall) → IsOtherCall (any.Heads call)
of_heads call c is = cc (is)

pub of_settings : (call : SettingCall) → IsOtherCall (any.Settings call)
of_settings call c is = cc (is)

pub of_stat : (call : ReadCall) → IsOtherCall (any.Objects (object.Stat call))
of_stat call c is = cc (is)

pub of_list : (call : ListCall) → IsOtherCall (any.Objects (object.List call))
of_list call c is = cc (is)

pub names_none : (call : NamingCall) → UploadsNone (any.Names call)
names_none call u is = cc (is)

pub settings_none : (call : SettingCall) → UploadsNone (any.Settings call)
settings_none call u is = cc (is)
