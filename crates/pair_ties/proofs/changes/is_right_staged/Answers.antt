use Rattle.std.proofs.Common.{◌≡◌, Bool, true, false, refl, sym, ◌∙◌}
use Rattle.pair_format.specs.declared.stored.Stored.TheVariants as stored
use Rattle.pair_ties.proofs.HiddenLemmas.{gone_hidden, hidden_same, no_number, not_gone, not_held}
use Rattle.pair_ties.proofs.changes.is_right_staged.Goals as goal

contra : {x : Bool} → x ≡ true → x ≡ false → ⊥
contra x y = cc

pub returns-in_default : goal.returns-in_default
returns-in_default c =
    not_held c.args.raw.now c.args.pairs.now c.args.tables.now c.requires.tables c.args.token c.args.path.now c.args.change.now (sym c.in_default.ensures.value)

pub returns-in_default-put_number : goal.returns-in_default-put_number
returns-in_default-put_number c =
    no_number c.args.raw.now c.args.pairs.now c.args.tables.now c.requires.tables c.args.token c.args.path.now c.args.change.now c.in-Some.first.now
    (sym c.in-Some.ensures.value)
    (sym c.put_number.ensures ∙ c.in_default-put_number.is)

pub returns-then-not-branch : goal.returns-then-not-branch
returns-then-not-branch c =
    not_gone c.args.raw.now c.args.pairs.now c.args.tables.now c.requires.tables c.args.token c.args.path.now c.args.change.now c.in-Some.first.now
    (sym c.in-Some.ensures.value)
    c.in-Some-put_number.number (sym c.put_number.ensures ∙ c.in-Some-put_number.is) (c.is_given_number.ensures.0 c.if-not-is_given_number.false)
    (λ gone. contra (c.in_ok-has.ensures.1 gone) c.if-not-branch.true)

pub returns : goal.returns
returns c =
    gone_hidden c.args.raw.now c.args.pairs.now c.args.tables.now c.requires.tables c.args.token c.args.path.now c.args.change.now c.in-Some.first.now
    (sym c.in-Some.ensures.value)
    c.in-Some-put_number.number (sym c.put_number.ensures ∙ c.in-Some-put_number.is) (c.is_given_number.ensures.0 c.if-not-is_given_number.false) _
    (c.in_ok-has.ensures.0 c.if-not-branch.false)
    (hidden_same c.args.tables.now.cut c.args.raw.now c.args.pairs.now c.as_slice.ensures.order c.args.at c.requires.before
    (stored.Staged c.args.token c.args.path.now c.args.change.now) c.requires.here refl c.args.token c.args.path.now c.in-Some.first.now
    (sym (c.requires.tables.tokens c.args.token) ∙ sym c.in-Some.ensures.value))
    c.is_hidden_at.result c.is_hidden_at.ensures
