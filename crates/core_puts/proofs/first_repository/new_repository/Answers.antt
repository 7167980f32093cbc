use Rattle.std.proofs.Common.{◌<◌, length, ap, sym, subst, ◌∙◌}
use Rattle.lake_format.specs.Cutting.{files}
use Rattle.meta_range.specs.Files.{file_at}
use Rattle.meta_range.specs.Ranges.{TreeValue}
use Rattle.core_changes.proofs.FoundingLemmas.{file_named, one_file}
use Rattle.core_state.specs.FilePlaces.{FilePlaceValue}
use Rattle.core_state.specs.LakeStates.{lake_value}
use Rattle.core_puts.proofs.FoundingLemmas.{has_file, is_first_commit}
use Rattle.core_puts.proofs.first_repository.new_repository.Goals as goal

pub of-place-requires : goal.of-place-requires
of-place-requires c =
    subst (λ (t : TreeValue). 0 < length t.files) (sym (c.in_ok-clone.ensures.cases ∙ c.requires.tree)) (has_file (lake_value c.args.lake.now).cut)

pub returns-clause-new : goal.returns-clause-new
unfolding lake_value
returns-clause-new c =
    let cut = (lake_value c.args.lake.now).cut in
    let is = is_first_commit cut c.args.first.commit.date c.args.first c.requires in
    record {
      repository = c.in_ok-repository.ensures cut is;
      commit = is.name;
      home = c.in_ok-home.ensures.equal;
      file = ap (λ file. file.name) c.requires.metarange ∙ file_named cut;
      place =
          ap (λ (p : FilePlaceValue). p.bytes) c.of-place.ensures ∙ ap (λ (t : TreeValue). file_at t.files 0) (c.in_ok-clone.ensures.cases ∙ c.requires.tree)
          ∙ ap (λ all. file_at all 0) (one_file cut);
    }

pub returns-clause-kind : goal.returns-clause-kind
returns-clause-kind c = ap (λ (p : FilePlaceValue). p.is_metarange) c.of-place.ensures
