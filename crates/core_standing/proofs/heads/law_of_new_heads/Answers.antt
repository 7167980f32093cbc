use Rattle.std.proofs.Common.{sym, subst, ◌∙◌}
use Rattle.lake_model.specs.Commits.{MayBecomeHead}
use Rattle.lake_model.specs.Steps.{swap_operation, swap_rule}
use Rattle.core_state.specs.BranchStates.{branch_of}
use Rattle.core_state.specs.Counts.{HasVersions}
use Rattle.core_state.specs.Index.{HasIndex}
use Rattle.core_state.specs.RepositoryStates.{repository_of}
use Rattle.core_state.specs.LakeStates.{state_of}
use Rattle.core_changes.specs.FreshTokens.{AreTokensBelow}
use Rattle.core_standing.specs.Standing.{versions_since}
use Rattle.core_standing.proofs.MakingLemmas.{may_make}
use Rattle.core_standing.proofs.PresentLemmas.{present_sound}
use Rattle.core_changes.specs.LakeChanges.{after_new_head}
use Rattle.core_standing.proofs.CountLemmas.{counts_stay, tokens_stay, versions_rise}
use Rattle.core_standing.proofs.IndexLemmas.{index_has}
use Rattle.core_standing.proofs.KindLemmas.{kind_asks, kind_changes, kind_counts}
use Rattle.core_standing.proofs.PlaceLemmas.{branch_there, by_parts, lake_is, new_in, place_of, repository_there}
use Rattle.core_standing.proofs.StateLemmas.{new_head_seen}
use Rattle.core_standing.proofs.heads.law_of_new_heads.Goals as goal

pub returns : goal.returns
returns c opened history l by repo branch version settings swap about new stands none clash prepared commit =
    let given = versions_since opened history in
    let draft = (swap_rule swap about).draft in
    let allowed = c.law_of_swap_steps.ensures.swap (state_of l) given by repo branch version settings swap about none clash prepared in
    let at = place_of l repo branch (λ r b. MayBecomeHead (state_of l) branch r b (draft r b))
    (kind_asks by repo branch about (state_of l) swap allowed) in
    let place = at.0 in
    let of = by_parts l.cut place.r.commits (draft (repository_of place.r) (branch_of place.b)) new
    (commit (repository_of place.r) (branch_of place.b) (repository_there l repo branch place) (branch_there l repo branch place)) in
    let fresh = new_in l place.r (draft (repository_of place.r) (branch_of place.b)) new of at.1.admissible in
    let sound = present_sound c.law_of_soundness.ensures.replay opened history l stands in
    let is = sym (lake_is l repo branch place new) in
    may_make opened history l by (swap_operation repo branch swap about) stands allowed (after_new_head repo branch new)
    (new_head_seen l repo branch place draft new of (stands.tokens repo place.r branch place.b place.in_lake place.in_repository).distinct
    ∙ sym (kind_changes by repo branch about (state_of l) swap))
    (λ has. subst (λ v. HasVersions v (after_new_head repo branch new l)) (sym (kind_counts by repo branch about given swap))
    (subst (HasVersions _) is (versions_rise l repo branch place new given has)))
    (λ below. subst AreTokensBelow is (tokens_stay l repo branch place new below))
    (counts_stay l repo branch new)
    (c.laws_of_few.ensures.fault l)
    (λ has. subst HasIndex is (index_has l repo branch place new has sound fresh))
    (c.laws_of_indexes.ensures.fault l)
