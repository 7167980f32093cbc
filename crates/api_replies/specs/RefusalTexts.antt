-- THE STATUS AND THE TEXT OF EACH REFUSAL (this project's profile).
use Rattle.std.specs.Prelude.{ℕ, List, ◌++◌, codes, decimal}
use Rattle.lake_calls.specs.declared.reply.FormRefusal.{FormRefusal}
use Rattle.lake_calls.specs.declared.reply.FormRefusal.TheVariants.{NoRoute, MethodNotAllowed, Missing, BadValue, BadBody, BadRule, BadRules}
use Rattle.lake_calls.specs.declared.reply.MissingParent.{MissingParent}
use Rattle.lake_calls.specs.declared.reply.MissingParent.TheVariants.{OfExpression, OfNumber}
use Rattle.lake_calls.specs.declared.reply.Refusal.{Refusal}
use Rattle.lake_calls.specs.declared.reply.Refusal.TheVariants.{NoRepo, NoRef, NoParent, NoPath, NoNote, Exists, DefaultBranch, Protected, NoChanges, Dirty}
use Rattle.lake_calls.specs.declared.reply.Refusal.TheVariants.{Conflicts, HookDenied, NeedsParentNumber, Expired, Gone, NotHeld, TooManyTries, Lost}
use Rattle.lake_calls.specs.declared.reply.Refusal.TheVariants.{Damaged, NameClash, BlockFault, StoreFault, Stopped, HistoryFull}
use Rattle.api_replies.specs.ReplyForms.{id_text}

-- what a client is told of a refusal
pub record Told : Type 0 where
  pub status : ℕ
  pub message : List ℕ

abbrev pub told : ℕ → List ℕ → Told
told status message = record { status = status; message = message }

-- the expression, or the number, that finds no parent
abbrev pub parent_text : MissingParent → List ℕ
parent_text (OfExpression text) = text
parent_text (OfNumber number) = decimal number

-- of a call
abbrev pub refusal_told : Refusal → Told
refusal_told (NoRepo repo) = told 404 (codes "repository not found: " ++ repo)
refusal_told (NoRef reference) = told 404 (codes "reference not found: " ++ reference)
refusal_told (NoParent missing) = told 404 (codes "no such parent: " ++ parent_text missing)
refusal_told (NoPath path) = told 404 (codes "path not found: " ++ path)
refusal_told NoNote = told 404 (codes "no such setting")
refusal_told (Exists name) = told 409 (codes "already exists: " ++ name)
refusal_told DefaultBranch = told 400 (codes "default branch can't be deleted")
refusal_told (Protected rule) = told 403 (codes "branch protected by rule " ++ decimal rule)
refusal_told NoChanges = told 400 (codes "no changes")
refusal_told (Dirty path) = told 400 (codes "uncommitted changes: " ++ path)
refusal_told (Conflicts total) = told 409 (codes "conflicts: " ++ decimal total)
refusal_told (HookDenied rule) = told 412 (codes "denied by hook rule " ++ decimal rule)
refusal_told NeedsParentNumber = told 400 (codes "parent number needed")
refusal_told (Expired id) = told 410 (codes "commit expired: " ++ id_text id)
refusal_told (Gone path) = told 410 (codes "object gone: " ++ path)
refusal_told (NotHeld path) = told 422 (codes "object held outside: " ++ path)
refusal_told TooManyTries = told 423 (codes "too many tries")
refusal_told (Lost path) = told 500 (codes "object lost: " ++ path)
refusal_told (Damaged path) = told 500 (codes "object damaged: " ++ path)
refusal_told (NameClash id) = told 500 (codes "two contents for name " ++ id_text id)
refusal_told BlockFault = told 503 (codes "block store failed")
refusal_told StoreFault = told 503 (codes "store failed")
refusal_told Stopped = told 503 (codes "store stopped")
refusal_told HistoryFull = told 503 (codes "history full")

-- of a request of no form that is read
abbrev pub malformed_told : FormRefusal → Told
malformed_told NoRoute = told 404 (codes "no such route")
malformed_told MethodNotAllowed = told 405 (codes "method not allowed")
malformed_told (Missing name) = told 400 (codes "missing: " ++ name)
malformed_told (BadValue name) = told 400 (codes "bad value: " ++ name)
malformed_told BadBody = told 400 (codes "bad body")
malformed_told (BadRule rule field) = told 400 (codes "bad rule " ++ decimal rule ++ codes ": " ++ field)
malformed_told BadRules = told 400 (codes "bad rules")

-- where no memory was left
abbrev pub no_memory_told : Told
no_memory_told = told 507 (codes "out of memory")
