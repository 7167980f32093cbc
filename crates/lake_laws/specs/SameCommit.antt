-- A commit that two repositories have.
use Rattle.std.specs.Prelude.{◌≡◌}
use Rattle.lake_base.specs.declared.digest.Digest.{Digest}
use Rattle.lake_values.specs.Ancestry.{commit_of}
use Rattle.lake_model.specs.State.{Repository, HasCommit, map_of}

-- a repository has the commit, with the record and the map that another has for it
pub record HasSameCommit (old : Repository) (id : Digest) (r : Repository) : Type 0 where
  pub there : HasCommit r id
  pub commit : commit_of r.commits id ≡ commit_of old.commits id
  pub map : map_of r id ≡ map_of old id
