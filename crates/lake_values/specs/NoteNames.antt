-- Which of the three settings a note is.
use Rattle.lake_values.specs.declared.settings.Note.{Note}
use Rattle.lake_values.specs.declared.settings.Note.TheVariants.{Retention, Protection, Hooks}
use Rattle.lake_values.specs.declared.settings.NoteName.{NoteName}
use Rattle.lake_values.specs.declared.settings.NoteName.TheVariants as name

-- the name of a setting
abbrev pub note_name : Note → NoteName
note_name (Retention rules) = name.Retention
note_name (Protection protection) = name.Protection
note_name (Hooks hooks) = name.Hooks
