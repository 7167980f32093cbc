use Rattle.std.proofs.Common.{◌≡◌, true, false, ap, sym, ◌∙◌}
use Rattle.std.specs.FinMap.{contains_key}
use Rattle.branch_record.specs.Record.{BranchRecordValue, record_after_seal}
use Rattle.branch_record.specs.Overlay.{staged_changes, sealed_changes}
use Rattle.branch_record.proofs.TokensLemmas.{under_none}
use Rattle.branch_record.proofs.LayersLemmas.{sealed_some, sealed_other, sealed_then, staged_then}
use Rattle.branch_record.proofs.record.BranchRecord.seal.Goals as goal
use Rattle.branch_record.proofs.record.BranchRecord.seal.Goals.{In_ok-put_fresh, Else-has_changes}

abbrev with_room : BranchRecordValue → BranchRecordValue → BranchRecordValue
with_room new r = record r { spare = new.spare }

fresh_record : (c : In_ok-put_fresh)
    → c.put_fresh.new.self ≡ with_room c.put_fresh.new.self (record_after_seal c.args.self.now c.args.tokens.now.changes c.args.fresh)
fresh_record c =
    let r = c.args.self.now in
    let t = c.args.tokens.now.changes in
    let there : contains_key t r.staging ≡ true = ap (contains_key t) (sym c.staging.ensures.token) ∙ sym c.has_changes.ensures.there ∙ c.if-has_changes.true in
    c.in_ok-put_fresh.ensures.put ∙ ap (with_room c.put_fresh.new.self) (sym (sealed_some r t c.args.fresh there))

pub returns-in_ok-put_fresh-clause-branch : goal.returns-in_ok-put_fresh-clause-branch
returns-in_ok-put_fresh-clause-branch c = fresh_record c

pub returns-in_ok-put_fresh-clause-sealed : goal.returns-in_ok-put_fresh-clause-sealed
returns-in_ok-put_fresh-clause-sealed c =
    ap (λ (x : BranchRecordValue). sealed_changes x c.args.tokens.now.changes) (fresh_record c)
    ∙ sealed_then c.args.self.now c.args.tokens.now.changes c.args.fresh

pub returns-in_ok-put_fresh-clause-staged : goal.returns-in_ok-put_fresh-clause-staged
returns-in_ok-put_fresh-clause-staged c =
    let t = c.args.tokens.now.changes in
    ap (λ (x : BranchRecordValue). staged_changes x t) (fresh_record c)
    ∙ staged_then c.args.self.now t c.args.fresh (under_none t c.args.fresh c.requires.unused)

absent : (c : Else-has_changes) → contains_key c.args.tokens.now.changes c.args.self.now.staging ≡ false
absent c = ap (contains_key c.args.tokens.now.changes) (sym c.staging.ensures.token) ∙ sym c.has_changes.ensures.there ∙ c.if-has_changes.false

pub returns-else-has_changes-clause-branch : goal.returns-else-has_changes-clause-branch
returns-else-has_changes-clause-branch c =
    sym (ap (with_room c.args.self.now) (sealed_other c.args.self.now c.args.tokens.now.changes c.args.fresh (absent c)))

pub returns-else-has_changes-clause-sealed : goal.returns-else-has_changes-clause-sealed
returns-else-has_changes-clause-sealed c =
    let r = c.args.self.now in
    let t = c.args.tokens.now.changes in
    ap (λ (x : BranchRecordValue). sealed_changes x t) (sym (sealed_other r t c.args.fresh (absent c))) ∙ sealed_then r t c.args.fresh

pub returns-else-has_changes-clause-staged : goal.returns-else-has_changes-clause-staged
returns-else-has_changes-clause-staged c = under_none c.args.tokens.now.changes c.args.self.now.staging (absent c)
