use Rattle.std.proofs.Common.{◌≡◌, None, ap, sym, subst, not, ◌∙◌, rules}
use Rattle.std.specs.FinMap.{from_sorted}
use Rattle.std.specs.FinMap.Entries.{where_key, is_sorted-where_key}
use Rattle.std.proofs.lemmas.Fn.{filter_same}
use Rattle.lake_values.specs.KeyMap.{HasPathKeys}
use Rattle.lake_base.specs.Maps.{byte_order, HasAscendingKeys}
use Rattle.lake_base.specs.Names.{path_fault}
use Rattle.lake_values.specs.Reset.{drops_path, changes_after_reset}
use Rattle.lake_base.proofs.MapsLemmas.{all_where}
use Rattle.lake_values.proofs.ResetLemmas.{reset_list}
use Rattle.lake_values.proofs.changes.Changes.reset.Goals as goal

left : (c : goal.After-retain) → c.retain.new.self.items ≡ where_key byte_order (λ path. not (drops_path c.args.what.now path)) c.self.inside.changes.items
left c = filter_same _ (λ change. not (drops_path c.args.what.now change.0)) _ (λ x b q h. search rules) _ _ c.retain.ensures.filtered

pub invariant_of-self : goal.invariant_of-self
invariant_of-self c = (
  subst HasAscendingKeys (sym (left c))
      (is_sorted-where_key byte_order (λ path. not (drops_path c.args.what.now path)) c.self.inside.changes.items c.self.invariant.0),
  subst HasPathKeys (sym (left c))
      (all_where (λ key. path_fault key ≡ None) (λ path. not (drops_path c.args.what.now path)) c.self.inside.changes.items c.self.invariant.1),
)

pub returns : goal.returns
returns c =
    ap (from_sorted {R = byte_order}) (left c) ∙ reset_list c.args.what.now c.self.inside.changes.items c.self.invariant.0
    ∙ ap (changes_after_reset c.args.what.now) c.self.view_is
