use Rattle.std.proofs.Common.{ap, sym, subst, ◌∙◌}
use Rattle.core_changes.proofs.FoundingLemmas.{file_named}
use Rattle.core_puts.proofs.FoundingLemmas.{is_first_commit}
use Rattle.core_puts.specs.FreshLakes.{IsFirst}
use Rattle.core_state.specs.LakeStates.{LakeStateValue, lake_value}
use Rattle.lake_core.proofs.RepositoryLemmas.{room_again}
use Rattle.lake_core.proofs.repositories.parts_of_repository.Goals as goal

pub returns-clause-room : goal.returns-clause-room
returns-clause-room c =
    let first = c.args.first in
    let l = lake_value c.make_repository_room.new.lake in
    let is = subst (λ (l : LakeStateValue). IsFirst l.cut first.commit.date first) (sym c.in_ok-make_repository_room.ensures.same) c.requires.first in
    room_again c.args.repo first.content.name first.metarange.name c.in_ok-new.new.commit c.in_ok-new.new.file c.make_repository_room.new.lake
    c.in_ok-make_repository_room.ensures.room
    (c.in_ok-new.ensures.new.commit ∙ sym (is_first_commit l.cut first.commit.date first is).name)
    (c.in_ok-new.ensures.new.file ∙ sym (ap (λ file. file.name) is.metarange ∙ file_named l.cut))
