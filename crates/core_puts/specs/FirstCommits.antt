-- The first commit of a repository, in the hands of the code.
use Rattle.std.specs.Prelude.{◌≡◌}
use Rattle.lake_base.specs.declared.digest.Digest.{Digest}
use Rattle.lake_values.specs.Commit.{CommitRecordValue}
use Rattle.lake_format.specs.declared.cut.Cut.{Cut}
use Rattle.meta_range.specs.Ranges.{TreeValue}
use Rattle.core_state.specs.FirstStates.{first_id, first_record, first_tree}

-- it is that of the date that it bears, with its id and its tree
pub record IsFirstCommit (cut : Cut) (commit : CommitRecordValue) (id : Digest) (tree : TreeValue) : Type 0 where
  pub content : commit ≡ first_record cut commit.date
  pub name : id ≡ first_id cut commit.date
  pub files : tree ≡ first_tree cut
