use Rattle.std.proofs.Common.{sym}
use Rattle.core_state.specs.RepositoryStates.{repository_value}
use Rattle.core_puts.proofs.notes.set_note_puts.Goals as goal

pub push_repository-requires : goal.push_repository-requires
push_repository-requires c = c.requires.plain (repository_value c.in-Some.repository.now) (sym c.in-Some.ensures)
