use Rattle.std.proofs.Common.{◌≡◌, ℕ, eqb, Bool, true, false, get_or, take, ◌+◌, ◌||◌, ap, refl, subst, sym, ◌∙◌}
use Rattle.std.proofs.lemmas.Bool.{eqb-true}
use Rattle.pair_ties.proofs.HiddenLemmas.{IsLookedAt, looked_here, looked_more}
use Rattle.pair_ties.proofs.TokensLemmas.{own_item}
use Rattle.pair_ties.proofs.changes.is_hidden.Goals as goal
use Rattle.pair_ties.proofs.changes.is_hidden.Goals.{then-branch, else-branch}

differ : (a b : ℕ) → (a ≡ b → ⊥) → eqb a b ≡ false
differ a b apart = by (eqb a b) refl
  where
    by : (x : Bool) → eqb a b ≡ x → eqb a b ≡ false
    by true e = absurd (apart (eqb-true a b e))
    by false e = e

pub returns-then-newer-token : goal.returns-then-newer-token
returns-then-newer-token c =
    let sealed = c.args.sealed.now in
    let i = c.loop-newer.newer-index in
    let lt = c.loop-newer-test.true in
    looked_here c.args.raw.now sealed c.args.token c.args.path.now i (get_or sealed i 0) lt (own_item sealed i 0 lt) c.loop-newer.found c.loop-newer.invariant
    c.if-newer-token.true

pub loop-newer-preserved : goal.loop-newer-preserved
loop-newer-preserved c =
    let sealed = c.args.sealed.now in
    let i = c.loop-newer.newer-index in
    let lt = c.loop-newer-test.true in
    let there = c.in_ok-found.found in
    let more = looked_more c.args.raw.now sealed c.args.token c.args.path.now i (get_or sealed i 0) lt (own_item sealed i 0 lt) c.loop-newer.found
    c.loop-newer.invariant there (differ (get_or sealed i 0) c.args.token c.if-newer-token.false) c.in_ok-found.ensures in
    elim c.if-branch.branch [
      | then-branch w ↦
          subst (IsLookedAt c.args.raw.now (take (i + 1) sealed) c.args.token c.args.path.now)
          (ap (λ b. b || c.loop-newer.found) w.if-branch.true ∙ sym w.if-branch.true ∙ sym w.found-is) more
      | else-branch w ↦
          subst (IsLookedAt c.args.raw.now (take (i + 1) sealed) c.args.token c.args.path.now)
          (ap (λ b. b || c.loop-newer.found) w.if-branch.false ∙ sym w.found-is) more
    ]
