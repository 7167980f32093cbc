use Rattle.std.proofs.Common.{◌≡◌, Bool, true, false}
use Rattle.pair_ties.proofs.NamesLemmas.{stale_branch, right_branch}
use Rattle.pair_ties.proofs.names.is_right_branch.Goals as goal

no : {b : Bool} → b ≡ true → b ≡ false → ⊥
no x y = cc

pub returns-then-not-are_fresh : goal.returns-then-not-are_fresh
returns-then-not-are_fresh c = (
  λ e. absurd cc,
  λ right. absurd (stale_branch c.args.pairs.now c.args.tables.now c.requires.tables c.args.at c.args.repo.now c.args.version c.args.head.now c.args.staging
      c.args.sealed.now c.requires.here (λ fresh. no (c.are_fresh.ensures.1 fresh) c.if-not-are_fresh.true) right),
)

pub returns : goal.returns
returns c =
    right_branch c.args.pairs.now c.args.tables.now c.requires.tables c.args.at c.args.repo.now c.args.version c.args.head.now c.args.staging c.args.sealed.now
    c.requires.here (c.is_given_version.ensures.0 c.if-not-is_given_version.false) (c.are_fresh.ensures.0 c.if-not-are_fresh.false)
    (c.in_ok-are_distinct.ensures.0 c.if-not-branch.false) c.isnt_expired.result c.isnt_expired.ensures
