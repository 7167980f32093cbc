-- The field that holds metadata: an object of texts, within the limits of pairs.
use Rattle.std.specs.Prelude.{ℕ, List, [], is_none, codes, if◌then◌else◌, Option, Some, None, option_and_then, Result, Ok}
use Rattle.std.specs.FinMap.{put}
use Rattle.std.specs.Option.{unwrap_or}
use Rattle.serde_json.specs.Data.{Data, Members, no_members, member}
use Rattle.serde_json.specs.Find.{as_object, as_str}
use Rattle.lake_base.specs.Maps.{byte_order}
use Rattle.lake_values.specs.Pairs.{pair_fault}
use Rattle.lake_calls.specs.declared.reply.FormRefusal.{FormRefusal}
use Rattle.api_routes.specs.FormSteps.{in_turn}
use Rattle.api_bodies.specs.Bodies.{field_as}

-- the pairs with one more, where it is within the limits
abbrev pub with_pair : (key value : List ℕ) → List (List ℕ × List ℕ) → Option (List (List ℕ × List ℕ))
with_pair key value pairs = if is_none (pair_fault key value pairs) then Some (put byte_order key value pairs) else None

-- the pairs with those of an object, each of which is a text
abbrev pub metadata_from : List (List ℕ × List ℕ) → Members → Option (List (List ℕ × List ℕ))
metadata_from pairs no_members = Some pairs
metadata_from pairs (member key value members) =
    option_and_then (λ text. option_and_then (λ next. metadata_from next members) (with_pair key text pairs)) (as_str value)

-- an object of texts as metadata
abbrev pub metadata : Data → Option (List (List ℕ × List ℕ))
metadata value = option_and_then (metadata_from []) (as_object value)

-- the metadata of an object, empty where there is none
abbrev pub metadata_of : Data → Result (List (List ℕ × List ℕ)) FormRefusal
metadata_of given = in_turn (field_as metadata (codes "metadata") given) (λ pairs. Ok (unwrap_or pairs []))
