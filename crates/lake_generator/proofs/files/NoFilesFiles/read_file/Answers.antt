use Rattle.std.proofs.Common.{sym}
use Rattle.std.specs.FinMap.{get-empty}
use Rattle.lake_generator.proofs.files.NoFilesFiles.read_file.Goals as goal

pub returns-clause-read : goal.returns-clause-read
returns-clause-read c = sym (get-empty _ c.args._name.now)
