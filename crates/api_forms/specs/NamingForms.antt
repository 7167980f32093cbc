-- What the requests of repositories, branches and tags ask, or the first refusal of their form.
use Rattle.std.specs.Prelude.{ℕ, List, codes, if◌then◌else◌, Result, Ok, Err}
use Rattle.std.specs.Option.{unwrap_or}
use Rattle.std.specs.Str.{bytes_eq}
use Rattle.serde_json.specs.Data.{Data}
use Rattle.lake_values.specs.declared.commit.ResetWhat.{ResetWhat}
use Rattle.lake_values.specs.declared.commit.ResetWhat.TheVariants.{All, Object, Prefix}
use Rattle.lake_calls.specs.Calls.{ExpressionValue, NewNameCall, NewRepositoryCall}
use Rattle.lake_calls.specs.declared.names.NameCall.{NameCall}
use Rattle.lake_calls.specs.declared.names.NamesCall.{NamesCall}
use Rattle.lake_calls.specs.declared.names.NamingCall.{NamingCall}
use Rattle.lake_calls.specs.declared.names.NamingCall.TheVariants as naming
use Rattle.lake_calls.specs.declared.names.ResetCall.{ResetCall}
use Rattle.lake_calls.specs.declared.reply.FormRefusal.{FormRefusal}
use Rattle.lake_calls.specs.declared.reply.FormRefusal.TheVariants.{BadValue}
use Rattle.api_routes.specs.declared.routes.NamesRoute.{NamesRoute}
use Rattle.api_routes.specs.declared.routes.NamesRoute.TheVariants as route
use Rattle.api_routes.specs.ExpressionTexts.{expression_at}
use Rattle.api_routes.specs.FormNames.{repo_of, new_ref_name_of, path_of}
use Rattle.api_routes.specs.FormSteps.{in_turn}
use Rattle.api_routes.specs.PathSegments.{repo_segment, ref_name_segment}
use Rattle.api_routes.specs.Queries.{text_or_empty, amount_of}
use Rattle.api_routes.specs.RouteTable.{FoundValue}
use Rattle.api_bodies.specs.Bodies.{object_of_body, text_field, needed_text}
use Rattle.api_objects.specs.CallSteps.{made}

-- query: `after`, `amount`
abbrev pub list_repositories : (query : List ℕ) → Result NamingCall FormRefusal
list_repositories query =
    in_turn (text_or_empty (codes "after") query) (λ after.
    in_turn (amount_of query) (λ amount.
    Ok (naming.ListRepositories after amount)))

-- the field `default_branch`, and `main` without it
abbrev pub default_branch_of : Data → Result (List ℕ) FormRefusal
default_branch_of given =
    in_turn (text_field (codes "default_branch") given) (λ text. new_ref_name_of (codes "default_branch") (unwrap_or text (codes "main")))

-- body: `name`, `default_branch`, and `storage_namespace`, which is read and not kept
abbrev pub new_repository : (body : List ℕ) → Result NewRepositoryCall FormRefusal
new_repository body =
    in_turn (object_of_body body) (λ given.
    in_turn (needed_text (codes "name") given) (λ text.
    in_turn (repo_of (codes "name") text) (λ name.
    in_turn (default_branch_of given) (λ branch.
    in_turn (text_field (codes "storage_namespace") given) (λ namespace.
    Ok (record { name = name; default_branch = branch }))))))

-- segment: r; query: `after`, `amount`
abbrev pub names_call : (repo query : List ℕ) → Result NamesCall FormRefusal
names_call repo query =
    in_turn (repo_segment (codes "r") repo) (λ r.
    in_turn (text_or_empty (codes "after") query) (λ after.
    in_turn (amount_of query) (λ amount.
    Ok (record { repo = r; after = after; amount = amount }))))

-- segments: r, and the branch's or the tag's
abbrev pub name_call : (repo key name : List ℕ) → Result NameCall FormRefusal
name_call repo key name =
    in_turn (repo_segment (codes "r") repo) (λ r.
    in_turn (ref_name_segment key name) (λ found.
    Ok (record { repo = r; name = found })))

-- a field that holds an expression
abbrev pub expression_field : (name : List ℕ) → Data → Result ExpressionValue FormRefusal
expression_field name given = in_turn (needed_text name given) (expression_at name)

-- segment: r; body: the fields of the new name and of its source
abbrev pub new_name : (repo name source body : List ℕ) → Result NewNameCall FormRefusal
new_name repo name source body =
    in_turn (repo_segment (codes "r") repo) (λ r.
    in_turn (object_of_body body) (λ given.
    in_turn (needed_text name given) (λ text.
    in_turn (new_ref_name_of name text) (λ found.
    in_turn (expression_field source given) (λ e.
    Ok (record { repo = r; name = found; source = e }))))))

-- body: `type`, which is `reset`, `object` or `common_prefix`; and `path` of the last two
abbrev pub reset_what : Data → Result ResetWhat FormRefusal
reset_what given = in_turn (needed_text (codes "type") given) of_type
  where
    of_type : List ℕ → Result ResetWhat FormRefusal
    of_type type =
        if bytes_eq type (codes "reset") then Ok All
        else if bytes_eq type (codes "object") then
        in_turn (needed_text (codes "path") given) (λ text. in_turn (path_of (codes "path") text) (λ path. Ok (Object path)))
        else if bytes_eq type (codes "common_prefix") then in_turn (needed_text (codes "path") given) (λ text. Ok (Prefix text))
        else Err (BadValue (codes "type"))

-- segments: r, b; body: as above
abbrev pub reset_call : (repo branch body : List ℕ) → Result ResetCall FormRefusal
reset_call repo branch body =
    in_turn (repo_segment (codes "r") repo) (λ r.
    in_turn (ref_name_segment (codes "b") branch) (λ b.
    in_turn (object_of_body body) (λ given.
    in_turn (reset_what given) (λ what.
    Ok (record { repo = r; branch = b; what = what })))))

-- the call of a route
abbrev pub naming_call : NamesRoute → FoundValue → (query body : List ℕ) → Result NamingCall FormRefusal
naming_call route.ListRepositories found query body = list_repositories query
naming_call route.CreateRepository found query body = made naming.CreateRepository (new_repository body)
naming_call route.ListBranches found query body = made naming.ListBranches (names_call found.repo query)
naming_call route.CreateBranch found query body = made naming.CreateBranch (new_name found.repo (codes "name") (codes "source") body)
naming_call route.GetBranch found query body = made naming.GetBranch (name_call found.repo (codes "b") found.second)
naming_call route.DeleteBranch found query body = made naming.DeleteBranch (name_call found.repo (codes "b") found.second)
naming_call route.ResetBranch found query body = made naming.ResetBranch (reset_call found.repo found.second body)
naming_call route.ListTags found query body = made naming.ListTags (names_call found.repo query)
naming_call route.CreateTag found query body = made naming.CreateTag (new_name found.repo (codes "id") (codes "ref") body)
naming_call route.GetTag found query body = made naming.GetTag (name_call found.repo (codes "t") found.second)
naming_call route.DeleteTag found query body = made naming.DeleteTag (name_call found.repo (codes "t") found.second)
