-- What the requests of commits ask, or the first refusal of their form.
use Rattle.std.specs.Prelude.{◌==◌, ◌≤◌, ℕ, Bool, nat_le, List, [], length, codes, if◌then◌else◌, Option, Some, None, Result, Ok, Err}
use Rattle.std.specs.Option.{unwrap_or}
use Rattle.std.specs.Str.{bytes_eq}
use Rattle.serde_json.specs.Data.{Data}
use Rattle.http_wire.specs.declared.message.Field.{Field}
use Rattle.lake_values.specs.declared.commit.Strategy.{Strategy}
use Rattle.lake_values.specs.declared.commit.Strategy.TheVariants.{Refuse, SourceWins, DestWins}
use Rattle.lake_calls.specs.Calls.{CommitCall, ExpressionValue, MergeCall, PickCall, merge_message}
use Rattle.lake_calls.specs.declared.heads.HeadCall.{HeadCall}
use Rattle.lake_calls.specs.declared.heads.HeadCall.TheVariants as head
use Rattle.lake_calls.specs.declared.heads.LogCall.{LogCall}
use Rattle.lake_calls.specs.declared.reply.FormRefusal.{FormRefusal}
use Rattle.lake_calls.specs.declared.reply.FormRefusal.TheVariants.{BadValue}
use Rattle.api_routes.specs.declared.routes.HeadRoute.{HeadRoute}
use Rattle.api_routes.specs.declared.routes.HeadRoute.TheVariants as route
use Rattle.api_routes.specs.FormNames.{checked}
use Rattle.api_routes.specs.FormSteps.{in_turn}
use Rattle.api_routes.specs.PathSegments.{repo_segment, ref_name_segment, digest_segment, expression_segment}
use Rattle.api_routes.specs.Queries.{amount_of, digest_at, moment_at}
use Rattle.api_routes.specs.RouteTable.{FoundValue}
use Rattle.api_bodies.specs.Bodies.{object_of_body, text_field, short_text, whole_field}
use Rattle.api_bodies.specs.HeadFields.{committer_of}
use Rattle.api_bodies.specs.MetadataFields.{metadata_of}
use Rattle.api_objects.specs.CallSteps.{made}
use Rattle.api_forms.specs.NamingForms.{expression_field}

-- the field `message` of at most 65,536 bytes, empty where it isn't there
abbrev pub commit_message : Data → Result (List ℕ) FormRefusal
commit_message given = in_turn (short_text (codes "message") 65536 given) (λ text. Ok (unwrap_or text []))

-- segments: r, b; committer; body: `message`, `metadata`
abbrev pub commit_call : (repo branch : List ℕ) → List Field → (body : List ℕ) → Result CommitCall FormRefusal
commit_call repo branch fields body =
    in_turn (repo_segment (codes "r") repo) (λ r.
    in_turn (ref_name_segment (codes "b") branch) (λ b.
    in_turn (committer_of fields) (λ committer.
    in_turn (object_of_body body) (λ given.
    in_turn (commit_message given) (λ message.
    in_turn (metadata_of given) (λ metadata.
    Ok (record { repo = r; branch = b; committer = committer; message = message; metadata = metadata })))))))

-- whether the message of a merge without one is within the limit of a commit's
abbrev pub fits_default : (source branch : List ℕ) → Bool
fits_default source branch = nat_le (length (merge_message source branch)) 65536

-- the message that the commit of a merge gets is within the limit
abbrev pub FitsMerge : (source branch : List ℕ) → Option (List ℕ) → Type 0
FitsMerge source branch message = length (unwrap_or message (merge_message source branch)) ≤ 65536

-- the field `message`, where it is there; a bad value where the message that the commit gets is too long
abbrev pub merge_message_of : (source branch : List ℕ) → Data → Result (Option (List ℕ)) FormRefusal
merge_message_of source branch given = in_turn (short_text (codes "message") 65536 given) or_default
  where
    or_default : Option (List ℕ) → Result (Option (List ℕ)) FormRefusal
    or_default None = checked (fits_default source branch) (codes "message") None
    or_default (Some text) = Ok (Some text)

-- a strategy's name
abbrev pub strategy_named : List ℕ → Result Strategy FormRefusal
strategy_named name =
    if bytes_eq name [] then Ok Refuse
    else if bytes_eq name (codes "source-wins") then Ok SourceWins
    else if bytes_eq name (codes "dest-wins") then Ok DestWins
    else Err (BadValue (codes "strategy"))

-- the field `strategy`, empty where it isn't there
abbrev pub strategy_of : Data → Result Strategy FormRefusal
strategy_of given = in_turn (text_field (codes "strategy") given) named
  where
    named : Option (List ℕ) → Result Strategy FormRefusal
    named None = Ok Refuse
    named (Some name) = strategy_named name

-- body: `message`, `metadata`, `strategy`
abbrev pub merge_body : (source branch body : List ℕ) → Result (Option (List ℕ) × List (List ℕ × List ℕ) × Strategy) FormRefusal
merge_body source branch body =
    in_turn (object_of_body body) (λ given.
    in_turn (merge_message_of source branch given) (λ message.
    in_turn (metadata_of given) (λ metadata.
    in_turn (strategy_of given) (λ strategy.
    Ok (message, metadata, strategy)))))

-- segments: r, src, dst; committer; body: as above
abbrev pub merge_call : FoundValue → List Field → (body : List ℕ) → Result MergeCall FormRefusal
merge_call found fields body =
    in_turn (repo_segment (codes "r") found.repo) (λ r.
    in_turn (expression_segment (codes "src") found.second) (λ source.
    in_turn (ref_name_segment (codes "dst") found.third) (λ branch.
    in_turn (committer_of fields) (λ committer.
    in_turn (merge_body source.text branch body) (λ said.
    Ok (record {
      repo = r;
      source = source;
      branch = branch;
      committer = committer;
      message = said.0;
      metadata = said.1;
      strategy = said.2;
    }))))))

-- the field `parent_number`: 0 is none, and so is a missing one; a number that 32 bits don't hold is a bad value
abbrev pub parent_of : Data → Result (Option ℕ) FormRefusal
parent_of given = in_turn (whole_field (codes "parent_number") given) parent
  where
    parent : Option ℕ → Result (Option ℕ) FormRefusal
    parent None = Ok None
    parent (Some number) = if number == 0 then Ok None else checked (nat_le number 4294967295) (codes "parent_number") (Some number)

-- body: `ref`, `parent_number`
abbrev pub pick_body : (body : List ℕ) → Result (ExpressionValue × Option ℕ) FormRefusal
pick_body body =
    in_turn (object_of_body body) (λ given.
    in_turn (expression_field (codes "ref") given) (λ e.
    in_turn (parent_of given) (λ parent.
    Ok (e, parent))))

-- segments: r, b; committer; body: as above
abbrev pub pick_call : (repo branch : List ℕ) → List Field → (body : List ℕ) → Result PickCall FormRefusal
pick_call repo branch fields body =
    in_turn (repo_segment (codes "r") repo) (λ r.
    in_turn (ref_name_segment (codes "b") branch) (λ b.
    in_turn (committer_of fields) (λ committer.
    in_turn (pick_body body) (λ said.
    Ok (record { repo = r; branch = b; committer = committer; at = said.0; parent = said.1 })))))

-- segments: r, ref; query: `after`, `amount`, `since`
abbrev pub log_call : (repo at query : List ℕ) → Result LogCall FormRefusal
log_call repo at query =
    in_turn (repo_segment (codes "r") repo) (λ r.
    in_turn (expression_segment (codes "ref") at) (λ e.
    in_turn (digest_at (codes "after") query) (λ after.
    in_turn (amount_of query) (λ amount.
    in_turn (moment_at (codes "since") query) (λ since.
    Ok (record { repo = r; at = e; after = after; amount = amount; since = since }))))))

-- segments: r, id
abbrev pub get_commit : (repo id : List ℕ) → Result HeadCall FormRefusal
get_commit repo id =
    in_turn (repo_segment (codes "r") repo) (λ r.
    in_turn (digest_segment (codes "id") id) (λ found.
    Ok (head.GetCommit r found)))

-- the call of a route
abbrev pub head_call : HeadRoute → FoundValue → (query : List ℕ) → List Field → (body : List ℕ) → Result HeadCall FormRefusal
head_call route.Commit found query fields body = made head.Commit (commit_call found.repo found.second fields body)
head_call route.Merge found query fields body = made head.Merge (merge_call found fields body)
head_call route.Revert found query fields body = made head.Revert (pick_call found.repo found.second fields body)
head_call route.CherryPick found query fields body = made head.CherryPick (pick_call found.repo found.second fields body)
head_call route.Log found query fields body = made head.Log (log_call found.repo found.second query)
head_call route.GetCommit found query fields body = get_commit found.repo found.second
