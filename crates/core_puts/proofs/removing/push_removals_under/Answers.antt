use Rattle.std.proofs.Common.{◌≡◌, ◌++◌, ◌∷◌, true, false, map, ap, sym, subst, ◌∙◌}
use Rattle.std.proofs.lemmas.List.{append-nil}
use Rattle.std.specs.FinMap.{entries, entries_sorted}
use Rattle.std.specs.List.{AllByRecursion}
use Rattle.std.specs.Ordering.{is_lt}
use Rattle.lake_base.specs.Maps.{HasAscendingKeys, byte_order}
use Rattle.lake_base.proofs.MapsLemmas.{tail_ascends}
use Rattle.lake_values.specs.Cursor.{entries_from}
use Rattle.lake_values.specs.Reset.{drops_path}
use Rattle.lake_values.proofs.CursorLemmas.{ascends_from}
use Rattle.branch_record.specs.Tokens.{changes_under}
use Rattle.core_puts.specs.Puts.{removals_at}
use Rattle.core_puts.specs.Removing.{reset_start}
use Rattle.core_puts.proofs.RemovalsLemmas.{Row, Rows, all_above, removals_dropped, removals_end, removals_from, removals_next, removals_none}
use Rattle.core_puts.proofs.removing.push_removals_under.Goals as goal

pub loop-path-init : goal.loop-path-init
loop-path-init c =
    let start = reset_start c.args.what.now in
    let under = changes_under c.args.tokens.now.changes c.args.token in
    let is : c.seek.new.self ≡ entries_from start (entries under) =
    c.seek.ensures ∙ (λ i. entries_from (c.reset_start.ensures i) (c.changes_of-changes.ensures i)) in
    record {
      removals =
          ap (λ (rows : Rows). c.args.puts.now.items ++ removals_at c.args.what.now c.args.token (map (λ row. row.0) rows)) is
          ∙ ap (λ puts. c.args.puts.now.items ++ puts) (removals_from c.args.what.now c.args.token (entries under));
      ascend = subst HasAscendingKeys (sym is) (ascends_from start (entries under) (entries_sorted under));
      from = subst (AllByRecursion (λ row. is_lt (byte_order row.0 start) ≡ false)) (sym is) (all_above start (entries under));
    }

pub loop-path-preserved : goal.loop-path-preserved
loop-path-preserved c =
    let start = reset_start c.args.what.now in
    let row : Row = (c.in-Some.path.now, c.in-Some.field-0-1.now) in
    let drops : drops_path c.args.what.now row.0 ≡ true = cc in
    record {
      removals =
          removals_next c.args.what.now c.args.token c.loop-path.puts.items c.push_removed.new.puts.items _ row.0 row.1 c.loop-path.changes c.next.new.self
          c.in-Some.ensures
          (c.in_ok-push_removed.ensures.puts ∙ ap (λ puts. c.loop-path.puts.items ++ puts) (sym (removals_dropped c.args.what.now c.args.token row.0 drops)))
          c.loop-path.invariant.removals;
      ascend = tail_ascends row c.next.new.self (subst HasAscendingKeys c.in-Some.ensures c.loop-path.invariant.ascend);
      from = (subst (AllByRecursion (λ row. is_lt (byte_order row.0 start) ≡ false)) c.in-Some.ensures c.loop-path.invariant.from).1;
    }

pub returns-then-not-drops_path : goal.returns-then-not-drops_path
returns-then-not-drops_path c =
    let start = reset_start c.args.what.now in
    let row : Row = (c.in-Some.path.now, c.in-Some.field-0-1.now) in
    let stays : drops_path c.args.what.now row.0 ≡ false = cc in
    let ascend : HasAscendingKeys (row ∷ c.next.new.self) = subst HasAscendingKeys c.in-Some.ensures c.loop-path.invariant.ascend in
    let above = (subst (AllByRecursion (λ (row : Row). is_lt (byte_order row.0 start) ≡ false)) c.in-Some.ensures c.loop-path.invariant.from).0 in
    sym (append-nil c.loop-path.puts.items)
    ∙ ap (λ puts. c.loop-path.puts.items ++ puts)
    (sym (ap (λ (rows : Rows). removals_at c.args.what.now c.args.token (map (λ row. row.0) rows)) c.in-Some.ensures
    ∙ removals_end c.args.what.now c.args.token row c.next.new.self ascend above stays))
    ∙ c.loop-path.invariant.removals

pub returns : goal.returns
returns c =
    sym (append-nil c.loop-path.puts.items)
    ∙ ap (λ puts. c.loop-path.puts.items ++ puts)
    (sym (ap (λ rows. removals_at c.args.what.now c.args.token (map (λ row. row.0) rows)) c.in_default.ensures.0 ∙ removals_none c.args.what.now c.args.token))
    ∙ c.loop-path.invariant.removals
