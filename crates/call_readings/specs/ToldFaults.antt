-- What a client is told of a step that was refused.
use Rattle.std.specs.Prelude.{◌≡◌, ◌⊎◌, ℕ, List, [], Option, IfSome}
use Rattle.std.specs.Option.{option_map_or}
use Rattle.lake_base.specs.Digest.{encode_lower}
use Rattle.lake_base.specs.declared.digest.Digest.{Digest}
use Rattle.lake_model.specs.declared.fault.Reference.{Reference}
use Rattle.lake_model.specs.declared.fault.Reference.TheVariants as reference
use Rattle.lake_model.specs.declared.fault.StepFault.{StepFault}
use Rattle.lake_model.specs.declared.fault.StepFault.TheVariants as step
use Rattle.lake_calls.specs.CallRefusals.{CallNames, IsToldOf}
use Rattle.lake_calls.specs.declared.reply.CallReply.{CallReply}
use Rattle.lake_calls.specs.declared.reply.CallReply.TheVariants as reply
use Rattle.lake_calls.specs.declared.reply.Refusal.{Refusal}
use Rattle.lake_calls.specs.declared.reply.Refusal.TheVariants as refusal

-- what refusals of a call may name, as its parts have it: the repository; the branch or the tag, or what is to be made; the
-- text of the expression; the path, where it has one; and the commit after which a log is to begin
pub record NamesValue : Type 0 where
  pub repo : List ℕ
  pub named : List ℕ
  pub expression : List ℕ
  pub path : Option (List ℕ)
  pub after : Option Digest

-- the text of one of the references
abbrev pub reference_text : NamesValue → Reference → List ℕ
reference_text given reference.Named = given.named
reference_text given reference.Expression = given.expression
reference_text given reference.After = option_map_or (λ (id : Digest). encode_lower id.0) given.after []

-- they are the names of a call
pub record AreNames (given : NamesValue) (names : CallNames) : Type 0 where
  pub repo : given.repo ≡ names.repo
  pub named : given.named ≡ names.named
  pub expression : given.expression ≡ names.expression.text
  pub path : IfSome given.path (λ path. path ≡ names.path)
  pub after : reference_text given reference.After ≡ names.after

-- a refusal is told, unless no memory was left for its text
abbrev pub IsTextTold : Refusal → CallReply → Type 0
IsTextTold refused told = (told ≡ reply.Refused refused) ⊎ (told ≡ reply.NoMemory)

-- what is told of it names a text of the call's
abbrev pub TakesText : StepFault → Type 0
TakesText step.NoRepo = Unit {0}
TakesText (step.NoRef which) = Unit {0}
TakesText (step.NoParent number) = Unit {0}
TakesText step.Exists = Unit {0}
TakesText step.NoPath = Unit {0}
TakesText fault = ⊥

-- THE REPLY TO A STEP'S FAULT: to a refusal what is told of it, unless it takes a text and no memory was left for that; and that
-- the store failed, that versions changed too often, or that memory ran out.
abbrev pub IsFaultTold : CallNames → StepFault → CallReply → Type 0
IsFaultTold names step.StoreFault told = told ≡ reply.Refused refusal.StoreFault
IsFaultTold names (step.Changed version settings) told = told ≡ reply.Refused refusal.TooManyTries
IsFaultTold names step.NoMemory told = told ≡ reply.NoMemory
IsFaultTold names fault told = IsToldOf names fault told ⊎ (TakesText fault × (told ≡ reply.NoMemory))
