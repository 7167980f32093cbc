-- What clients ask of a lake: what contracts see of the parts of calls.
use Rattle.std.specs.Prelude.{◌≤◌, ◌++◌, ℕ, List, Option, codes, length}
use Rattle.lake_values.specs.declared.commit.Strategy.{Strategy}
use Rattle.commit_graph.specs.Expressions.{RefExprValue}

-- an expression, with its text as a client gave it
pub record ExpressionValue : Type 0 where
  pub e : RefExprValue
  pub text : List ℕ

-- a body that is to become an object at a path of a branch
pub record UploadCall : Type 0 where
  pub repo : List ℕ
  pub branch : List ℕ
  pub path : List ℕ
  pub content_type : List ℕ
  pub body : List ℕ

-- the limits of an upload
pub record IsUpload (content_type body : List ℕ) : Type 0 where
  pub short_type : length content_type ≤ 255
  pub short : length body ≤ 67108864

-- an object outside that is to stand at a path of a branch
pub record LinkCall : Type 0 where
  pub repo : List ℕ
  pub branch : List ℕ
  pub path : List ℕ
  pub address : List ℕ
  pub checksum : List ℕ
  pub size : ℕ
  pub mtime : Option ℕ
  pub content_type : List ℕ
  pub metadata : List (List ℕ × List ℕ)

-- a branch or a tag that is to be made at the commit of an expression
pub record NewNameCall : Type 0 where
  pub repo : List ℕ
  pub name : List ℕ
  pub source : ExpressionValue

-- a repository that is to be made
pub record NewRepositoryCall : Type 0 where
  pub name : List ℕ
  pub default_branch : List ℕ

-- sealed changes that are to be committed
pub record CommitCall : Type 0 where
  pub repo : List ℕ
  pub branch : List ℕ
  pub committer : List ℕ
  pub message : List ℕ
  pub metadata : List (List ℕ × List ℕ)

-- a commit that is to be merged into a branch
pub record MergeCall : Type 0 where
  pub repo : List ℕ
  pub source : ExpressionValue
  pub branch : List ℕ
  pub committer : List ℕ
  pub message : Option (List ℕ)
  pub metadata : List (List ℕ × List ℕ)
  pub strategy : Strategy

-- the message of a merge without one: Merge 'SOURCE' into 'BRANCH'
abbrev pub merge_message : (source branch : List ℕ) → List ℕ
merge_message source branch = codes "Merge '" ++ source ++ codes "' into '" ++ branch ++ codes "'"

-- a commit that is to be taken into a branch over one of its parents, or to be undone there
pub record PickCall : Type 0 where
  pub repo : List ℕ
  pub branch : List ℕ
  pub committer : List ℕ
  pub at : ExpressionValue
  pub parent : Option ℕ
