-- Words on the puts of a lake, handed on to who stands on the laws of its pairs.
pub use Rattle.core_puts.specs.FreshLakes.{bare_lake, fresh_puts}
pub use Rattle.core_puts.specs.Puts.{branch_at, branch_put, commit_put, counts_put, create_branch_puts, create_repository_puts}
pub use Rattle.core_puts.specs.Puts.{create_tag_puts, delete_branch_puts, delete_tag_puts, file_puts, is_kept_metarange, is_kept_range}
pub use Rattle.core_puts.specs.Puts.{metarange_put, new_file_puts, new_head_puts, note_text, range_put, repository_put, reset_puts}
pub use Rattle.core_puts.specs.Puts.{seal_puts, sealed_removals, set_note_puts, stage_puts, ticket_puts}
unfoldable pub use Rattle.core_puts.specs.Puts.{spelled_put}
