use Rattle.lake_model.specs.Steps.{IsSwapReply, swap_rule}
use Rattle.core_state.specs.LakeStates.{lake_value}
use Rattle.core_standing.specs.Standing.{versions_since}
use Rattle.core_commits.specs.Making.{head_answer, head_making}
use Rattle.lake_core.specs.HeadConditions.{IsReadyFor}
use Rattle.lake_core.proofs.FaultLemmas.{kept_left}
use Rattle.lake_core.proofs.HeadLemmas.{leaves_lake, stands_after, tree_for}
use Rattle.lake_core.proofs.HeadPairLemmas.{pairs_after_head}
use Rattle.lake_core.proofs.StepLemmas.{held_then, holds_now}
use Rattle.lake_core.proofs.lake.Lake.swap.Goals as goal

pub swap-requires-clause-tree : goal.swap-requires-clause-tree
swap-requires-clause-tree g c =
    let ready =
    held_then (λ s given. IsReadyFor s given c.args.repo.now c.args.branch.now c.args.version c.args.settings c.args.kind c.args.about c.args.tree)
    c.self.view_is c.self.invariant.stands.replayed c.requires in
    tree_for (lake_value c.self.inside.present) (versions_since (lake_value c.self.inside.opened.value) c.self.inside.history.items)
    c.self.invariant.stands.versions c.args.repo.now c.args.branch.now c.args.version c.args.settings c.args.kind c.args.about c.args.tree ready

pub invariant_of-self : goal.invariant_of-self
invariant_of-self g c =
    let ready =
    held_then (λ s given. IsReadyFor s given c.args.repo.now c.args.branch.now c.args.version c.args.settings c.args.kind c.args.about c.args.tree)
    c.self.view_is c.self.invariant.stands.replayed c.requires in
    record {
      stands = stands_after (record { kept = g.K.Keeper.kept; faults = g.K.Keeper.faults; calls = g.K.Keeper.calls; successes = g.K.Keeper.successes })
          c.law_of_new_heads.ensures
          (lake_value c.self.inside.opened.value) c.args.by c.args.repo.now c.args.branch.now c.args.version c.args.settings c.args.kind c.args.about
          c.args.tree
          (record { keeper = c.self.inside.keeper; history = c.self.inside.history.items; present = c.self.inside.present })
          c.self.invariant.stands ready c.swap.result (c.swap.ensures.reply _ c.self.invariant.stands.versions)
          (record { keeper = c.swap.new.keeper; history = c.swap.new.history.items; present = c.swap.new.present }) c.swap.ensures.leaves c.swap.ensures.may;
      keeper = kept_left _ _ _ _ _ c.self.invariant.keeper _ _ c.swap.ensures.leaves;
      pairs = pairs_after_head (record { kept = g.K.Keeper.kept; faults = g.K.Keeper.faults; calls = g.K.Keeper.calls; successes = g.K.Keeper.successes })
          c.law_of_new_heads.ensures c.laws_of_followed_heads.ensures.kept c.laws_of_followed_heads.ensures.followed
          (lake_value c.self.inside.opened.value) c.args.by c.args.repo.now c.args.branch.now c.args.version c.args.settings c.args.kind c.args.about
          c.args.tree
          (record { keeper = c.self.inside.keeper; history = c.self.inside.history.items; present = c.self.inside.present })
          c.self.invariant.stands ready c.swap.result (c.swap.ensures.reply _ c.self.invariant.stands.versions)
          (record { keeper = c.swap.new.keeper; history = c.swap.new.history.items; present = c.swap.new.present }) c.swap.ensures.leaves c.swap.ensures.may
          c.swap.ensures.limits c.swap.ensures.places c.self.invariant.pairs;
    }

pub returns-clause-leaves : goal.returns-clause-leaves
returns-clause-leaves g c =
    leaves_lake (record { kept = g.K.Keeper.kept; faults = g.K.Keeper.faults; calls = g.K.Keeper.calls; successes = g.K.Keeper.successes })
    c.args.by (head_making c.args.repo.now c.args.branch.now c.args.kind c.args.about) c.self.inside.opened.value c.self.inside.first.value
    (record { keeper = c.self.inside.keeper; history = c.self.inside.history.items; present = c.self.inside.present })
    (record { keeper = c.swap.new.keeper; history = c.swap.new.history.items; present = c.swap.new.present })
    c.args.self.now c.self.view_is c.swap.result c.swap.ensures.leaves

pub returns-clause-reply : goal.returns-clause-reply
returns-clause-reply g c =
    holds_now (λ s given. IsSwapReply s given c.args.repo.now c.args.branch.now c.args.version c.args.settings (swap_rule c.args.kind c.args.about)
    (head_answer c.swap.result)) c.self.view_is c.self.invariant.stands.replayed (c.swap.ensures.reply _ c.self.invariant.stands.versions)
