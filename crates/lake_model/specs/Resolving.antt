-- What an expression leads to in a repository.
use Rattle.std.specs.Prelude.{◌&&◌, ℕ, Bool, true, false, not, List, [], ◌∷◌, Option, Some, None, option_map, is_some, Result, Ok, Err}
use Rattle.std.specs.FinMap.{get}
use Rattle.std.specs.List.{find}
use Rattle.std.specs.Option.{option_map_or, option_or}
use Rattle.std.specs.Str.{bytes_eq}
use Rattle.lake_base.specs.Digest.{encode_lower}
use Rattle.lake_base.specs.declared.digest.Digest.{Digest}
use Rattle.lake_values.specs.Ancestry.{ids}
use Rattle.commit_graph.specs.Expressions.{RefExprValue}
use Rattle.commit_graph.specs.Moves.{moves_target}
use Rattle.lake_model.specs.declared.fault.StepFault.{StepFault}
use Rattle.lake_model.specs.declared.fault.StepFault.TheVariants.{NoRepo, NoRef, NoParent}
use Rattle.lake_model.specs.declared.fault.Reference.TheVariants.{Expression}
use Rattle.lake_model.specs.State.{Repository, State}

-- the commit whose id reads so
abbrev pub commit_named : Repository → List ℕ → Option Digest
commit_named r name = find (λ id. bytes_eq (encode_lower id.0) name) (ids r.commits)

-- what a name leads to: the head of the branch, else the commit of the tag, else the commit of the id
abbrev pub name_target : Repository → List ℕ → Option Digest
name_target r name =
    option_or (option_map (λ b. b.head) (get r.branches name)) (option_or (get r.tags name) (commit_named r name))

-- the id of a commit, as an expression, with `@` or without
abbrev pub by_id : Digest → Bool → RefExprValue
by_id id at = record { name = encode_lower id.0; at = at; moves = [] }

-- the number of the move that finds no parent
abbrev pub parent_fault : Result Digest ℕ → Result Digest StepFault
parent_fault (Ok id) = Ok id
parent_fault (Err number) = Err (NoParent number)

-- where moves lead from what a name leads to
abbrev pub moved_target : Repository → RefExprValue → Option Digest → Result Digest StepFault
moved_target r e None = Err (NoRef Expression)
moved_target r e (Some id) = parent_fault (moves_target r.commits 0 id e.moves)

-- the commit of an expression: its name's, and from there its moves
abbrev pub expression_target : Repository → RefExprValue → Result Digest StepFault
expression_target r e = moved_target r e (name_target r e.name)

-- whether there are no moves
abbrev pub is_unmoved : {X : Type 0} → List X → Bool
is_unmoved [] = true
is_unmoved (one ∷ moves) = false

-- whether an expression is a branch, without `@` and without moves
abbrev pub is_plain_branch : Repository → RefExprValue → Bool
is_plain_branch r e = not e.at && (is_unmoved e.moves && is_some (get r.branches e.name))

-- what comes of a repository, where it is there
abbrev pub in_repository_of : {X : Type 0} → State → List ℕ → (Repository → Result X StepFault) → Result X StepFault
in_repository_of state repo f = option_map_or f (get state.repositories repo) (Err NoRepo)
