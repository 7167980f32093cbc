use Rattle.std.proofs.Common.{◌≡◌, ap, sym, subst, ◌∙◌}
use Rattle.lake_format.specs.declared.cut.Cut.{Cut}
use Rattle.core_changes.specs.LakeChanges.{after_repository_create}
use Rattle.core_changes.specs.NewPlaces.{HasNewPlaces}
use Rattle.core_changes.specs.NewRepositories.{IsNew}
use Rattle.core_changes.proofs.NewPlaceLemmas.{same_stands}
use Rattle.core_state.specs.FirstStates.{first_tree}
use Rattle.core_state.specs.declared.names.NameIndex.{NameIndex}
use Rattle.core_state.specs.LakeStates.{LakeStateValue, lake_value}
use Rattle.core_puts.proofs.FoundingLemmas.{at_date, dated}
use Rattle.core_puts.proofs.FreshPlaceLemmas.{no_places, only_new}
use Rattle.core_puts.proofs.lakes.fresh_lake.Goals as goal

pub new_repository-requires : goal.new_repository-requires
new_repository-requires c =
    let cut = (lake_value c.bare_lake-lake.result).cut in
    at_date cut 0 c.in_ok-first.first (c.in_ok-first.ensures cut)

pub returns-clause-lake : goal.returns-clause-lake
returns-clause-lake c =
    let cut = (lake_value c.bare_lake-lake.result).cut in
    let date = dated cut 0 c.in_ok-first.first (c.in_ok-first.ensures cut) in
    let same = c.in_ok-make_repository_room.ensures.same in
    let is = subst (λ (l : LakeStateValue). IsNew c.in_ok-repo.repo c.in_ok-branch.branch c.in_ok-first.first.commit.date l c.in_ok-new.new)
    (sym same) c.in_ok-new.ensures.new in
    let made = c.create_repository.ensures.made c.in_ok-branch.branch c.in_ok-first.first.commit.date is in
    let now = same ∙ c.bare_lake-lake.ensures in
    c.begin_history.ensures.history ∙ ap (λ (l : LakeStateValue). record l { entries = 0; references = 0 }) (made
    ∙ (λ i. after_repository_create (c.in_ok-repo.ensures i) (c.in_ok-branch.ensures i) (date i) (now i)))

pub returns-clause-places : goal.returns-clause-places
returns-clause-places c =
    let cut = (lake_value c.bare_lake-lake.result).cut in
    let same = c.in_ok-make_repository_room.ensures.same in
    let is = subst (λ (l : LakeStateValue). IsNew c.in_ok-repo.repo c.in_ok-branch.branch c.in_ok-first.first.commit.date l c.in_ok-new.new)
    (sym same) c.in_ok-new.ensures.new in
    let without = no_places c.args.cut c.bare_lake-lake.result c.bare_lake-lake.ensures in
    let before = same_stands c.bare_lake-lake.result.names.files c.make_repository_room.new.lake.names.files c.in_ok-make_repository_room.ensures.places in
    let places = c.create_repository.ensures.places c.in_ok-branch.branch c.in_ok-first.first.commit.date is c.in_ok-new.ensures.kind
    (λ name place there. absurd (without name place (before name place there))) in
    let cuts : (lake_value c.make_repository_room.new.lake).cut ≡ c.args.cut = ap (λ (l : LakeStateValue). l.cut) (same ∙ c.bare_lake-lake.ensures) in
    only_new _ _ _ (λ name place there. without name place (before name place there))
    (subst (λ (i : NameIndex). HasNewPlaces c.make_repository_room.new.lake.names.files i.files (first_tree c.args.cut)) (sym c.begin_history.ensures.names)
    (subst (λ (cut : Cut). HasNewPlaces c.make_repository_room.new.lake.names.files c.create_repository.new.lake.names.files (first_tree cut)) cuts places))
