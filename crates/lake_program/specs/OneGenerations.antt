-- Two runs of the generator.
use Rattle.std.specs.Prelude.{◌≡◌, ℕ, false, List}
use Rattle.batch_lines.specs.ServedLines.{any_starved}
use Rattle.seat_laws.specs.Clashes.{NoneClashes}
use Rattle.batch_laws.specs.ToldReplies.{told_in}
use Rattle.program_words.specs.declared.generator.Generator.{Generator}
use Rattle.lake_generator.specs.Generated.{IsTold}
use Rattle.lake_generator.specs.GeneratedLines.{generated_lines}

-- THE GENERATOR TOLD TWICE of its lines; memory ran out at none of them, and no two contents have one name
pub record IsToldTwice (asked : Generator) (text other_text : List ℕ) (told : IsTold asked text) (other : IsTold asked other_text) : Type 0 where
  pub memory : any_starved told.lines.effects ≡ false
  pub other_memory : any_starved other.lines.effects ≡ false
  pub apart : NoneClashes
      (told_in (generated_lines asked.number asked.objects) told.lines.run.begin told.lines.effects told.lines.run.end told.lines.run.each)
      (told_in (generated_lines asked.number asked.objects) other.lines.run.begin other.lines.effects other.lines.run.end other.lines.run.each)

-- WHAT IT TELLS IS ONE TEXT
abbrev pub HasOneText : Generator → Type 0
HasOneText asked =
    (text other_text : List ℕ) (told : IsTold asked text) (other : IsTold asked other_text) → IsToldTwice asked text other_text told other
    → text ≡ other_text
