-- What a text reads as.
use Rattle.std.proofs.Common.{◌≡◌, ℕ, cond, List, Some, None, sym, ap, ◌∙◌, inl, inr}
use Rattle.std.specs.Str.{is_utf8, IsUtf8}
use Rattle.std.proofs.lemmas.Bool.{cases_Bool}
use Rattle.std.proofs.lemmas.Str.{IsUtf8-from_is_utf8, is_utf8-from_IsUtf8}
use Rattle.serde_json.specs.Data.{Data}
use Rattle.serde_json.specs.Read.{read}
use Rattle.pair_trees.specs.SettingTexts.{data_of}

pub reads : (text : List ℕ) (json : Data) → IsUtf8 text → read text ≡ Some json → Some json ≡ data_of text
reads text json is e = sym (ap (λ b. cond b (read text) None) (is_utf8-from_IsUtf8 text is) ∙ e)

pub unread : (text : List ℕ) → (IsUtf8 text → read text ≡ None) → None ≡ data_of text
unread text h = elim (cases_Bool (is_utf8 text)) [
  | inl is ↦ sym (ap (λ b. cond b (read text) None) is ∙ h (IsUtf8-from_is_utf8 text is))
  | inr not ↦ sym (ap (λ b. cond b (read text) None) not)
]
