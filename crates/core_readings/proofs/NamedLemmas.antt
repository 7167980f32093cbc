-- A name that no id of a graph reads as.
use Rattle.std.proofs.Common.{◌≡◌, ℕ, List, Some, None, Option, refl, sym, ap, subst, ◌∙◌}
use Rattle.std.specs.Option.{IsSome}
use Rattle.std.specs.List.{find}
use Rattle.std.proofs.lemmas.Slice.Eq.{bytes_eq-Decides}
use Rattle.hex.specs.Hex.{encode_lower}
use Rattle.lake_base.specs.Names.{digest_fault}
use Rattle.lake_base.specs.declared.digest.Digest.{Digest}
use Rattle.lake_values.specs.Ancestry.{Graph, commit_of, ids}
use Rattle.lake_values.specs.Commit.{CommitRecordValue}
use Rattle.lake_values.proofs.AncestryOrderLemmas.{ids_from}
use Rattle.lake_format.specs.Spelling.{IsDigest, commit_spelling}
use Rattle.meta_range.proofs.RangesLemmas.{is_digest}
use Rattle.commit_graph.specs.Graphs.{IsSound}
use Rattle.lake_laws.proofs.HexLemmas.{digest_reads}
use Rattle.lake_laws.proofs.IdTextLemmas.{find_nothing, reads}

module _ (g : Graph) (sound : IsSound g) where
  id_digest : (id : Digest) (o : Option CommitRecordValue) → commit_of g id ≡ o → IsSome o → IsDigest id.0
  id_digest id None is there = absurd cc
  id_digest id (Some c) is there =
      subst IsDigest (ap (λ (d : Digest). d.0) (sound.names id c is).named) (is_digest (commit_spelling c))

  -- the ids of a graph read without a fault, so none reads as a name that has one
  pub named_never : (name : List ℕ) (place : ℕ) → digest_fault name ≡ Some place → None ≡ find (reads name) (ids g)
  named_never name place fault =
      sym (find_nothing (reads name) (ids g) (λ other within passes.
      let same = (bytes_eq-Decides (encode_lower other.0) name).0 passes in
      let reads : digest_fault name ≡ None =
      ap digest_fault (sym same) ∙ digest_reads other.0 (id_digest other (commit_of g other) refl (ids_from g other within)) in
      cc))
