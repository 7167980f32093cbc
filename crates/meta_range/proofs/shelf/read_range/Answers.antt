use Rattle.std.proofs.Common.{◌≡◌, ◌∙◌, cond, Bool, true, false, Result, Ok, Err, List, ap, refl, sym}
use Rattle.lake_format.specs.Spelling.{range_spelling}
use Rattle.range_file.specs.Rows.{RowValue}
use Rattle.meta_range.specs.TreeReading.{is_said}
use Rattle.meta_range.specs.declared.fault.TreeFault.{TreeFault}
use Rattle.meta_range.specs.declared.fault.TreeFault.TheVariants.{Mismatch}
use Rattle.meta_range.proofs.ReadingLemmas.{is_read, shelved_read}
use Rattle.meta_range.proofs.shelf.read_range.Goals as goal

answered : List RowValue → TreeFault → Bool → Result (List RowValue) TreeFault
answered rows fault said = cond said (Ok rows) (Err fault)

pub returns-then-not-is_said-clause-reads : goal.returns-then-not-is_said-clause-reads
unfolding answered
returns-then-not-is_said-clause-reads c =
    let line = c.args.line.now in
    let rows = c.in_ok-range.range in
    let said : is_said line rows ≡ false = sym (c.is_said.ensures ∙ ap (is_said line) c.rows.ensures.rows) ∙ c.if-not-is_said.true in
    shelved_read c.args.given.now c.args.at line rows c.in_ok-range.ensures.found ∙ ap (answered rows (Mismatch c.args.at)) said

pub returns-clause-reads : goal.returns-clause-reads
unfolding answered
returns-clause-reads c =
    let line = c.args.line.now in
    let rows = c.in_ok-range.range in
    let said : is_said line rows ≡ true = sym (c.is_said.ensures ∙ ap (is_said line) c.rows.ensures.rows) ∙ c.if-not-is_said.false in
    shelved_read c.args.given.now c.args.at line rows c.in_ok-range.ensures.found ∙ ap (answered rows (Mismatch c.args.at)) said

pub returns-clause-found : goal.returns-clause-found
returns-clause-found c =
    let line = c.args.line.now in
    let rows = c.in_ok-range.range in
    let said : is_said line rows ≡ true = sym (c.is_said.ensures ∙ ap (is_said line) c.rows.ensures.rows) ∙ c.if-not-is_said.false in
    let found = c.in_ok-range.ensures.found in
    is_read c.args.given.now line (range_spelling rows) rows found.file (found.valid, refl) said
