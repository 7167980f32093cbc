-- The routes of the interface (this project's profile): a method at a path.
use Rattle.std.specs.Prelude.{ℕ, List, codes, if◌then◌else◌, Option, Some, None, ok_or, Result, Ok, Err}
use Rattle.std.specs.Str.{bytes_eq}
use Rattle.lake_calls.specs.declared.reply.FormRefusal.{FormRefusal}
use Rattle.lake_calls.specs.declared.reply.FormRefusal.TheVariants.{NoRoute, MethodNotAllowed}
use Rattle.api_routes.specs.declared.paths.ApiPath.{ApiPath}
use Rattle.api_routes.specs.declared.paths.ApiPath.TheVariants as path
use Rattle.api_routes.specs.declared.routes.Found.{Found}
use Rattle.api_routes.specs.declared.routes.Route.{Route}
use Rattle.api_routes.specs.declared.routes.Route.TheVariants.{Names, Objects, Heads, Settings}
use Rattle.api_routes.specs.declared.routes.NamesRoute.TheVariants as names
use Rattle.api_routes.specs.declared.routes.ObjectRoute.TheVariants as objects
use Rattle.api_routes.specs.declared.routes.HeadRoute.TheVariants as heads
use Rattle.api_routes.specs.declared.routes.SettingRoute.TheVariants as settings
use Rattle.api_routes.specs.ApiPaths.{place_of}
use Rattle.api_routes.specs.FormSteps.{in_turn}

-- a route, with the named segments of its path as they were sent: the repository, the second and the third; empty where
-- there is none
pub record FoundValue : Type 0 where
  pub route : Route
  pub repo : List ℕ
  pub second : List ℕ
  pub third : List ℕ

-- it as contracts see it
abbrev pub seen_found : Found → FoundValue
seen_found f = record { route = f.route; repo = f.repo.now; second = f.second.now; third = f.third.now }

-- GET
abbrev pub get_route : ApiPath → Option Route
get_route path.Repositories = Some (Names names.ListRepositories)
get_route path.Branches = Some (Names names.ListBranches)
get_route path.Branch = Some (Names names.GetBranch)
get_route path.RefCommits = Some (Heads heads.Log)
get_route path.RefObjects = Some (Objects objects.Read)
get_route path.RefStat = Some (Objects objects.Stat)
get_route path.RefList = Some (Objects objects.List)
get_route path.Commit = Some (Heads heads.GetCommit)
get_route path.Tags = Some (Names names.ListTags)
get_route path.Tag = Some (Names names.GetTag)
get_route path.Protection = Some (Settings settings.GetProtection)
get_route path.Hooks = Some (Settings settings.GetHooks)
get_route other = None

-- POST
abbrev pub post_route : ApiPath → Option Route
post_route path.Repositories = Some (Names names.CreateRepository)
post_route path.Branches = Some (Names names.CreateBranch)
post_route path.BranchCommits = Some (Heads heads.Commit)
post_route path.BranchObjects = Some (Objects objects.Upload)
post_route path.BranchCopy = Some (Objects objects.Copy)
post_route path.BranchRevert = Some (Heads heads.Revert)
post_route path.BranchCherryPick = Some (Heads heads.CherryPick)
post_route path.Merge = Some (Heads heads.Merge)
post_route path.Tags = Some (Names names.CreateTag)
post_route other = None

-- PUT
abbrev pub put_route : ApiPath → Option Route
put_route path.Branch = Some (Names names.ResetBranch)
put_route path.BranchObjects = Some (Objects objects.Link)
put_route path.Protection = Some (Settings settings.SetProtection)
put_route path.Hooks = Some (Settings settings.SetHooks)
put_route other = None

-- DELETE
abbrev pub delete_route : ApiPath → Option Route
delete_route path.Branch = Some (Names names.DeleteBranch)
delete_route path.BranchObjects = Some (Objects objects.Delete)
delete_route path.Tag = Some (Names names.DeleteTag)
delete_route other = None

-- the route of a method at a path
abbrev pub route_at : List ℕ → ApiPath → Option Route
route_at method path =
    if bytes_eq method (codes "GET") then get_route path
    else if bytes_eq method (codes "POST") then post_route path
    else if bytes_eq method (codes "PUT") then put_route path
    else if bytes_eq method (codes "DELETE") then delete_route path
    else None

-- the route of a method and a path: a path that the interface hasn't is refused first, and then a method that it doesn't take
abbrev pub found_route : (method path : List ℕ) → Result FoundValue FormRefusal
found_route method path =
    in_turn (ok_or (place_of path) NoRoute) (λ place.
    in_turn (ok_or (route_at method place.path) MethodNotAllowed) (λ route.
    Ok (record { route = route; repo = place.repo; second = place.second; third = place.third })))
