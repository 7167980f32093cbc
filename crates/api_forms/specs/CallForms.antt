-- What a request asks: a call, or the first refusal of its form.
use Rattle.std.specs.Prelude.{◌≡◌, ◌⊎◌, ℕ, List, Result, Ok, Err}
use Rattle.form_urlencoded.specs.Form.{split_once}
use Rattle.http_wire.specs.declared.message.Field.{Field}
use Rattle.http_wire.specs.declared.message.Request.{Request}
use Rattle.lake_calls.specs.Requests.{Asked, Asks, Malformed}
use Rattle.lake_calls.specs.declared.call.Call.{Call}
use Rattle.lake_calls.specs.declared.call.Call.TheVariants as call
use Rattle.lake_calls.specs.declared.reply.FormRefusal.{FormRefusal}
use Rattle.api_routes.specs.declared.fault.FormFault.{FormFault}
use Rattle.api_routes.specs.declared.fault.FormFault.TheVariants.{Refused, NoMemory}
use Rattle.api_routes.specs.declared.routes.Route.{Route}
use Rattle.api_routes.specs.declared.routes.Route.TheVariants as route
use Rattle.api_routes.specs.FormSteps.{in_turn}
use Rattle.api_routes.specs.RouteTable.{FoundValue, found_route}
use Rattle.api_objects.specs.CallSteps.{made}
use Rattle.api_objects.specs.ObjectForms.{object_call}
use Rattle.api_forms.specs.HeadForms.{head_call}
use Rattle.api_forms.specs.NamingForms.{naming_call}
use Rattle.api_forms.specs.SettingCalls.{setting_call}

-- the call of a route of each kind
abbrev pub call_at : Route → FoundValue → (query : List ℕ) → List Field → (body : List ℕ) → Result Call FormRefusal
call_at (route.Names kind) found query fields body = made call.Names (naming_call kind found query body)
call_at (route.Objects kind) found query fields body = made call.Objects (object_call kind found query fields body)
call_at (route.Heads kind) found query fields body = made call.Heads (head_call kind found query fields body)
call_at (route.Settings kind) found query fields body = made call.Settings (setting_call kind found body)

-- the call of the route that was found
abbrev pub routed_call : FoundValue → (query : List ℕ) → List Field → (body : List ℕ) → Result Call FormRefusal
routed_call found query fields body = call_at found.route found query fields body

-- a request as a call: its path and its method, and then what the route asks of its segments, its query (behind the first `?`
-- of the target), its fields and its body
abbrev pub form_of_request : Request → Result Call FormRefusal
form_of_request request =
    in_turn (found_route request.method (split_once 63 request.target).0) (λ found.
    routed_call found (split_once 63 request.target).1 request.fields request.body)

-- what is asked
abbrev pub asked_by : Result Call FormRefusal → Asked
asked_by (Ok call) = Asks call
asked_by (Err refusal) = Malformed refusal

abbrev pub asked : Request → Asked
asked request = asked_by (form_of_request request)

-- a reader answered what is asked, unless memory ran out
abbrev pub IsAsked : Result Call FormFault → Asked → Type 0
IsAsked (Ok call) due = due ≡ Asks call
IsAsked (Err fault) due = (fault ≡ NoMemory) ⊎ ((refusal : FormRefusal) × (fault ≡ Refused refusal) × (due ≡ Malformed refusal))
