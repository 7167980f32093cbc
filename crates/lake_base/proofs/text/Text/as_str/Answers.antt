use Rattle.std.proofs.Common.{subst, ◌∙◌}
use Rattle.std.specs.Str.{IsUtf8}
use Rattle.std.proofs.lemmas.Str.{is_utf8-from_IsUtf8}
use Rattle.lake_base.proofs.text.Text.as_str.Goals as goal

pub returns-clause-utf8 : goal.returns-clause-utf8
returns-clause-utf8 c = is_utf8-from_IsUtf8 _ (subst IsUtf8 (c.as_str.ensures.value ∙ c.self.view_is) c.as_str.utf8)
