-- Which texts are those of a setting that is kept.
use Rattle.std.specs.Prelude.{◌≡◌, ℕ, List, Option, None, Some, option_and_then, option_map, if◌then◌else◌}
use Rattle.std.specs.Result.{result_ok}
use Rattle.std.specs.Str.{is_utf8}
use Rattle.serde_json.specs.Data.{Data}
use Rattle.serde_json.specs.Read.{read}
use Rattle.lake_values.specs.declared.settings.Note.{Note}
use Rattle.lake_values.specs.declared.settings.Note.TheVariants as setting
use Rattle.lake_values.specs.declared.settings.NoteName.{NoteName}
use Rattle.lake_values.specs.declared.settings.NoteName.TheVariants.{Hooks, Protection, Retention}
use Rattle.hook_rules.specs.HookForms.{hooks_of, hooks_text, protection_of, protection_text}

-- what a text reads as, as JSON
abbrev pub data_of : List ℕ → Option Data
data_of text = if is_utf8 text then read text else None

-- the setting of a name that JSON is; retention has no text yet
abbrev pub setting_of : NoteName → Data → Option Note
setting_of Retention value = None
setting_of Protection value = option_map setting.Protection (result_ok (protection_of value))
setting_of Hooks value = option_map setting.Hooks (result_ok (hooks_of value))

-- a text is that in which a setting is kept
abbrev pub IsKeptText : Note → List ℕ → Type 0
IsKeptText (setting.Retention rules) text = ⊥
IsKeptText (setting.Protection patterns) text = protection_text patterns ≡ text
IsKeptText (setting.Hooks rules) text = hooks_text rules ≡ text

-- the text of this setting, which has this name: it reads as the setting, and is the text in which that is kept
pub record IsTextOf (name : NoteName) (text : List ℕ) (note : Note) : Type 0 where
  pub reads : option_and_then (setting_of name) (data_of text) ≡ Some note
  pub kept : IsKeptText note text

-- the text of a setting of this name
abbrev pub IsSettingText : NoteName → List ℕ → Type 0
IsSettingText name text = (note : Note) × IsTextOf name text note
