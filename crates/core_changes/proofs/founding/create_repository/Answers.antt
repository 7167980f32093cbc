use Rattle.std.proofs.Common.{Some, [], ◌∷◌, ap, subst, sym, ◌∙◌}
use Rattle.std.specs.Prelude.{option_map}
use Rattle.std.specs.FinMap.{empty, insert}
use Rattle.lake_base.specs.declared.digest.Digest.{Digest}
use Rattle.lake_format.specs.Cutting.{files}
use Rattle.lake_format.specs.Spelling.{file_name}
use Rattle.meta_range.specs.Ranges.{first_file}
use Rattle.byte_map.specs.Values.{some_values}
use Rattle.byte_map.proofs.ValuesLemmas.{some_values_insert}
use Rattle.core_state.specs.FirstStates.{first_tree}
use Rattle.core_state.specs.NameIndexes.{bytes_in}
use Rattle.core_state.specs.RepositoryStates.{repository_value}
use Rattle.core_state.specs.LakeStates.{lake_value}
use Rattle.core_changes.specs.LakeChanges.{after_repository_create}
use Rattle.core_changes.specs.NewPlaces.{IsFileAs}
use Rattle.core_changes.proofs.FoundingLemmas.{file_named, one_file}
use Rattle.core_changes.proofs.NewPlaceLemmas.{place_put}
use Rattle.core_changes.proofs.founding.create_repository.Goals as goal

pub returns-clause-made : goal.returns-clause-made
unfolding lake_value
returns-clause-made c branch date is =
    let l = c.args.lake.now in
    let repo = c.args.repo.now in
    let new = c.args.new in
    let after = after_repository_create repo branch date (lake_value l) in
    let said = option_map repository_value in
    let repositories =
    ap (some_values said) c.put_in_place.ensures
    ∙ some_values_insert said l.repositories repo (Some new.repository) _ (ap Some is.repository) in
    let homes =
    ap (some_values (λ home. home)) c.put_in_place-2.ensures
    ∙ some_values_insert (λ home. home) l.names.homes new.commit.0 (Some new.home) repo (ap Some is.home)
    ∙ ap (λ (id : Digest). insert (lake_value l).names.homes id.0 repo) is.commit in
    let first = first_file (files l.cut empty) in
    let places =
    ap (some_values bytes_in) c.put_in_place-3.ensures
    ∙ some_values_insert bytes_in l.names.files new.file.0 (Some new.place) first (ap Some is.place)
    ∙ ap (λ (name : Digest). insert (lake_value l).names.files name.0 first) is.file in
    λ i. record after { repositories = repositories i; names = record { homes = homes i; files = places i } }

pub returns-clause-places : goal.returns-clause-places
unfolding lake_value
returns-clause-places c branch date is kind named =
    let lake = c.args.lake.now in
    let new = c.args.new in
    let under = ap (λ bytes. (file_name bytes).0) is.place ∙ ap (λ (d : Digest). d.0) (file_named lake.cut ∙ sym is.file) in
    let within = subst (λ b. IsFileAs (first_tree lake.cut) b new.place.bytes) (sym kind) ([], one_file lake.cut ∙ ap (λ file. file ∷ []) (sym is.place)) in
    place_put lake.names.files new.file.0 new.place c.put_in_place-3.new.places (first_tree lake.cut) c.put_in_place-3.ensures named under within
