use Rattle.std.proofs.Common.{ℕ, List, Option, sym, subst}
use Rattle.lakectl_commands.specs.SavedReplies.{MayHaveSaved}
use Rattle.lakectl_commands.proofs.SavingLemmas.{on_error, saved_in_part}
use Rattle.lakectl_commands.proofs.showing.save.Goals as goal

pub returns-in-Some-Some-clause-stopped : goal.returns-in-Some-Some-clause-stopped
returns-in-Some-Some-clause-stopped g c =
    on_error c.write_file.result _ _
    (λ failed. subst (λ (name : Option (List ℕ)). MayHaveSaved name (g.F.Files.files c.args.files.now) (g.F.Files.files c.write_file.new.self))
    (sym c.in-Some-Some.is-0) (saved_in_part c.in-Some-Some.name _ _ failed c.write_file.ensures.told)) c.write_file.ensures.failed
