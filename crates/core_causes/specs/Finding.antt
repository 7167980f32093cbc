-- What a copy finds.
use Rattle.std.specs.Prelude.{◌≡◌, ℕ, List, Option, Some, None}
use Rattle.lake_base.specs.declared.digest.Digest.{Digest}
use Rattle.lake_values.specs.Entry.{EntryValue}
use Rattle.commit_graph.specs.Expressions.{RefExprValue}
use Rattle.lake_model.specs.declared.history.CopySource.{CopySource}
use Rattle.lake_model.specs.declared.history.CopySource.TheVariants as from
use Rattle.lake_model.specs.State.{State}
use Rattle.lake_model.specs.Steps.{copied_entry, copy_source, in_it}

-- what is copied from: this commit, or else the branch of a name
abbrev pub source_of : List ℕ → Option Digest → CopySource
source_of name None = from.Branch name
source_of name (Some commit) = from.Commit commit

-- the entry that an expression has at a path, and what it is copied from
pub record FindsCopy (state : State) (repo : List ℕ) (e : RefExprValue) (path : List ℕ) (entry : EntryValue) (commit : Option Digest) : Type 0 where
  pub found : copied_entry state repo e path ≡ Some entry
  pub source : in_it state repo (λ r. copy_source r e) ≡ Some (source_of e.name commit)
