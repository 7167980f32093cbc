-- Graphs whose commits are known by their bytes.
use Rattle.std.specs.Prelude.{◌≡◌, Some}
use Rattle.lake_base.specs.declared.digest.Digest.{Digest}
use Rattle.lake_values.specs.Commit.{CommitRecordValue}
use Rattle.lake_values.specs.Ancestry.{Graph, IsGraph, commit_of}
use Rattle.lake_format.specs.Spelling.{commit_id, IsSpelledCommit}

-- a commit that is known by the SHA-256 of its spelling
pub record IsNamed (id : Digest) (c : CommitRecordValue) : Type 0 where
  pub limits : IsSpelledCommit c
  pub named : commit_id c ≡ id

-- a graph: each commit has its parents there and the generation that is due, and is known by its bytes
pub record IsSound (graph : Graph) : Type 0 where
  pub due : IsGraph graph
  pub names : (id : Digest) (c : CommitRecordValue) → commit_of graph id ≡ Some c → IsNamed id c
