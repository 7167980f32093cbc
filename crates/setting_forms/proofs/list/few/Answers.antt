use Rattle.std.proofs.Common.{inr}
use Rattle.setting_forms.proofs.FormsLemmas.{few_of-many, few_of-few}
use Rattle.setting_forms.proofs.list.few.Goals as goal

pub returns-then-list-gt-SETTING_LIMIT-clause-members : goal.returns-then-list-gt-SETTING_LIMIT-clause-members
returns-then-list-gt-SETTING_LIMIT-clause-members c = inr (few_of-many c.args.list.now c.if-list-gt-SETTING_LIMIT.true)

pub returns-clause-members : goal.returns-clause-members
returns-clause-members c = few_of-few c.args.list.now c.if-list-gt-SETTING_LIMIT.false
