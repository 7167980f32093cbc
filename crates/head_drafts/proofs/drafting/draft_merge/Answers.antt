use Rattle.std.proofs.Common.{List, [], ap, refl, sym, ◌∙◌, option_map}
use Rattle.std.specs.FinMap.{keys}
use Rattle.lake_values.specs.HookDecisions.{denying_rule}
use Rattle.lake_values.specs.KeyMap.{ChangesValue, apply, differences}
use Rattle.lake_values.specs.declared.settings.HookRule.{HookRule}
use Rattle.lake_values.proofs.KeyMapLemmas.{apply_differences}
use Rattle.lake_format.specs.Cutting.{files}
use Rattle.lake_values.specs.Merging.{merged_map}
use Rattle.meta_range.specs.Ranges.{TreeValue}
use Rattle.lake_model.specs.HeadRefusals.{conflicts_refusal, first_path, no_changes}
use Rattle.lake_model.specs.declared.fault.HeadRefusal.TheVariants.{Dirty, HookDenied}
use Rattle.lake_laws.proofs.HeadRefusalLemmas.{passes}
use Rattle.head_drafts.specs.Drafts.{sides_by}
use Rattle.head_drafts.proofs.drafting.draft_merge.Goals as goal

pub returns : goal.returns
returns c =
    let base = c.args.trio.now.base.map in
    let source = c.args.trio.now.source.map in
    let head = c.args.prepared.now.tree.value.map in
    let merged = merged_map c.args.strategy base source head in
    let taken = c.in_ok-taken.ensures ∙ ap (λ (t : TreeValue). differences t.map c.base.result.now.map) c.source.ensures.tree
    ∙ ap (λ (t : TreeValue). differences source t.map) c.base.ensures.tree in
    let clean = ap (λ (changes : ChangesValue). option_map Dirty (first_path (keys changes))) (sym c.requires.uncommitted) ∙ c.in_ok-test_clean.ensures in
    let unchanged =
    ap (λ (changes : ChangesValue). no_changes c.args.prepared.now.head (first_path (keys changes))) (sym taken) ∙ c.in_ok-test_changed.ensures in
    let dest = ap (λ (t : TreeValue). t.map) c.requires.dest in
    let open_ones = ap (conflicts_refusal (sides_by c.args.strategy (base, source))) (sym dest) ∙ c.in_ok-changes.ensures.test in
    let changed = c.in_ok-changes.ensures.changes ∙ ap (λ d. differences (merged_map c.args.strategy base source d) d) dest in
    let denied = λ (rules : List HookRule) (changes : ChangesValue). option_map HookDenied (denying_rule rules c.args.branch.now c.args.metadata.now changes) in
    let allowed = ap (denied c.args.prepared.now.rules.value) (sym changed) ∙ ap (λ rules. denied rules c.in_ok-changes.changes) (sym c.deref.ensures)
    ∙ c.in_ok-test_hooks.ensures in
    let objects = c.in_ok-objects.ensures ∙ ap (λ changes. apply changes c.args.head.now) changed ∙ ap (apply (differences merged head)) c.requires.head
    ∙ apply_differences merged head in (
      passes _ _ clean (passes _ _ unchanged (passes _ _ open_ones (passes _ [] allowed refl))),
      record {
        map = c.in_ok-build.ensures.map ∙ objects;
        files = c.in_ok-build.ensures.files ∙ ap (files c.args.prepared.now.cut) objects;
      },
    )
