use Rattle.std.proofs.Common.{sym}
use Rattle.lake_base.proofs.NamesLemmas.{repo_text}
use Rattle.lake_base.proofs.names.RepoName.read.Goals as goal

pub of_utf8-requires : goal.of_utf8-requires
of_utf8-requires c = repo_text c.args.bytes.now (sym c.in_default.ensures)
