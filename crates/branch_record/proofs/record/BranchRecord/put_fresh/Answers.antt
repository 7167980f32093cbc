use Rattle.std.proofs.Common.{◌∷◌, ap, sym, subst, ◌∙◌}
use Rattle.branch_record.specs.Record.{BranchRecordValue, AreDistinct, named_tokens, is_among}
use Rattle.branch_record.proofs.TokensLemmas.{distinct_more}
use Rattle.branch_record.proofs.record.BranchRecord.put_fresh.Goals as goal

pub invariant_of-self-2 : goal.invariant_of-self-2
invariant_of-self-2 c =
    let out = ap (λ (x : BranchRecordValue). is_among (named_tokens x) c.args.fresh) c.self.view_is ∙ c.requires in
    subst (λ l. AreDistinct (c.args.fresh ∷ l)) (sym c.in_ok-insert.ensures.items)
    (distinct_more c.args.fresh (c.self.inside.staging ∷ c.self.inside.sealed.items) out c.self.invariant)
