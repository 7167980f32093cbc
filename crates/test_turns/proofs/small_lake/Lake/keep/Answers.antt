use Rattle.std.proofs.Common.{arith, ◌≡◌, ◌<◌, ◌≤◌, [], ◌∷◌, ◌++◌, Some, None, map, ap, ◌∙◌}
use Rattle.std.proofs.lemmas.List.{map-append}
use Rattle.std.proofs.lemmas.Grind.{common_steps}
use Rattle.test_turns.specs.declared.small_lake.Entry.{Entry}
use Rattle.test_turns.proofs.SmallLakeLemmas.{noted_after, put_after}
use Rattle.test_turns.proofs.small_lake.Lake.keep.Goals as goal

pub invariant_of-self-then-is_err : goal.invariant_of-self-then-is_err
invariant_of-self-then-is_err g c =
    let e : Entry = record { by = c.args.by; number = None; remark = c.args.remark } in
    let pushed : c.push_reserved.new.self.items ≡ c.self.inside.entries.items ++ e ∷ [] = grind (arith, common_steps) in
    let more : g.K.Keeper.faults c.self.inside.keeper < g.K.Keeper.faults c.keep.new.self = grind (arith, common_steps) in
    noted_after _ _ _ _ _ _ c.self.invariant more
    (ap (map (λ (x : Entry). x.number)) pushed ∙ map-append (λ (x : Entry). x.number) c.self.inside.entries.items (e ∷ []))

pub invariant_of-self-2 : goal.invariant_of-self-2
invariant_of-self-2 g c =
    let e : Entry = record { by = c.args.by; number = Some c.args.number; remark = c.args.remark } in
    let pushed : c.push_reserved-2.new.self.items ≡ c.self.inside.entries.items ++ e ∷ [] = grind (arith, common_steps) in
    let same : g.K.Keeper.faults c.keep.new.self ≡ g.K.Keeper.faults c.self.inside.keeper = grind (arith, common_steps) in
    let low : c.self.inside.present.number ≤ c.args.number = grind (arith, common_steps) in
    put_after _ _ c.args.number _ _ _ _ c.self.invariant same low
    (ap (map (λ (x : Entry). x.number)) pushed ∙ map-append (λ (x : Entry). x.number) c.self.inside.entries.items (e ∷ []))
