-- What holds at the end: which commits are there, which expire, and which numbers are named.
use Rattle.std.proofs.Common.{◌≡◌, ℕ, Bool, true, false, cond, List, refl, sym, ap, subst, ◌∙◌, arith, ◌⊎◌, inl, inr}
use Rattle.std.specs.Prelude.{Option, Some, None, is_some}
use Rattle.std.specs.Option.{unwrap_or}
use Rattle.std.specs.FinMap.{get, insert, empty, get-insert, get-remove, get-empty}
use Rattle.std.specs.Cmp.{nat_cmp_total}
use Rattle.std.specs.Cmp.Lexicographic.{nat_list_cmp_total}
use Rattle.std.specs.Ordering.{eq_by_cmp}
use Rattle.lake_base.specs.Maps.{byte_order}
use Rattle.lake_base.specs.declared.digest.Digest.{Digest}
use Rattle.lake_values.specs.Ancestry.{Graph}
use Rattle.lake_values.specs.Commit.{CommitRecordValue}
use Rattle.lake_values.specs.Entry.{EntryValue}
use Rattle.lake_values.specs.KeyMap.{KeyMapValue, value_after}
use Rattle.lake_values.specs.declared.entry.Change.{Change}
use Rattle.lake_values.specs.declared.entry.Change.TheVariants.{Put, Delete}
use Rattle.lake_format.specs.declared.cut.Cut.{Cut}
use Rattle.lake_model.specs.State.{Repository, HasLiveCommit, is_expired, map_of, sealed_map}
use Rattle.lake_model.specs.Commits.{first_draft, record_of}
use Rattle.lake_model.specs.Naming.{IsGarbage, IsInMap, IsNamed, IsPut}
use Rattle.lake_model.specs.Removal.{with_expired}
use Rattle.lake_model.specs.Uncommitted.{own_number, put_number}
use Rattle.law_examples.specs.HistoryWords.{first, own}
use Rattle.law_examples.specs.Days.{x, y, z}
use Rattle.law_examples.proofs.SceneLemmas.{scene, counted, get_one}
use Rattle.law_examples.proofs.MapsLemmas.{get_put}
use Rattle.law_examples.proofs.NamingLemmas.{empty_puts_none, named_committed, named_sealed, only_one, unnamed}
use Rattle.law_examples.proofs.GraphsLemmas.{AreDatedBy, dated_empty, dated_more}
use Rattle.law_examples.proofs.InsertsLemmas.{get_other, same_digest, stands, stood}
use Rattle.law_examples.proofs.KeepingLemmas.{keeping}
use Rattle.law_examples.proofs.DaysLemmas.{r0, before_first, x_in_first, r1, r2, one, two, end, last, sealed_first, sealed_second, sealed_last, second_has}
use Rattle.law_examples.proofs.DaysLemmas.{y_in_second}

-- a change of a path that was put with this number, before one that was deleted
puts : (by bx : Bool) (digest : Digest) (entry : EntryValue)
    → value_after (cond by (Some (Put (own digest 1))) (cond bx (Some Delete) None)) (value_after (cond bx (Some (Put (own digest 0))) None) None) ≡ Some entry
    → own_number entry.place ≡ Some 0 → ⊥
puts true bx digest entry is names =
    let n : ◌≡◌ {A = Option ℕ} (Some 1) (own_number entry.place) = ap (λ (o : Option EntryValue). own_number (unwrap_or o entry).place) is in
    let e : ◌≡◌ {A = ℕ} 1 0 = ap (λ (o : Option ℕ). unwrap_or o 5) (n ∙ names) in absurd (omega (arith, e))
puts false true digest entry is names = absurd cc
puts false false digest entry is names = absurd cc

module _ (cut : Cut) (digest : Digest) where
  abbrev r : Repository
  r = keeping (r2 cut digest)

  abbrev k1 : Digest
  k1 = one cut digest

  abbrev k2 : Digest
  k2 = two cut digest

  abbrev commits0 : Graph
  commits0 = insert empty (first cut).0 (record_of cut empty (first_draft 0))

  abbrev graph1 : Graph
  graph1 = (r1 cut digest).commits

  pub dated : AreDatedBy 1100000 r.commits
  dated = dated_more 1100000 graph1 k2 _ (omega arith) (dated_more 1100000 commits0 k1 _ (omega arith)
      (dated_more 1100000 empty (first cut) (record_of cut empty (first_draft 0)) (omega arith) (dated_empty 1100000)))

  not_expired : (id : Digest) → is_expired r id ≡ false
  not_expired id = ap is_some (get-empty {X = Unit {0}} byte_order id.0)

  pub live_first : HasLiveCommit r (first cut)
  live_first = (
    stands graph1 k2.0 _ (first cut).0
        (stands commits0 k1.0 _ (first cut).0 (ap is_some (get_put empty (first cut).0 (record_of cut empty (first_draft 0))))),
    not_expired (first cut),
  )

  pub live_one : HasLiveCommit r k1
  live_one = (stands graph1 k2.0 _ k1.0 (ap is_some (get_put commits0 k1.0 _)), not_expired k1)

  pub only : (id : Digest) → HasLiveCommit r id → (id ≡ first cut) ⊎ ((id ≡ k1) ⊎ (id ≡ k2))
  only id live = elim (stood graph1 k2.0 _ id.0 live.0) [
    | inl is ↦ inr (inr (same_digest id k2 is))
    | inr there ↦ elim (stood commits0 k1.0 _ id.0 there) [
      | inl is ↦ inr (inl (same_digest id k1 is))
      | inr first_there ↦ elim (stood empty (first cut).0 (record_of cut empty (first_draft 0)) id.0 first_there) [
        | inl is ↦ inl (same_digest id (first cut) is)
        | inr in_empty ↦ absurd (cc (sym (ap is_some (get-empty {X = CommitRecordValue} byte_order id.0)) ∙ in_empty))
      ]
    ]
  ]

  -- the maps of the two commits
  pub map_two : map_of r k2 ≡ sealed_map (r1 cut digest) (record { head = k1; sealed = sealed_second cut digest; staged = empty })
  map_two = ap (λ (o : Option KeyMapValue). unwrap_or o empty) (get_put (r1 cut digest).maps k2.0 _)

  map_one : (k1 ≡ k2 → ⊥) → map_of r k1 ≡ sealed_map (r0 cut digest) (before_first cut digest)
  map_one apart = ap (λ (o : Option KeyMapValue). unwrap_or o empty)
      (get_other (r1 cut digest).maps k2.0 _ k1.0 (λ is. apart (same_digest k1 k2 is)) ∙ get_put (r0 cut digest).maps k1.0 _)

  pub zero_named : (k1 ≡ k2 → ⊥) → IsNamed (scene (end cut digest) r (last cut digest)) 0
  zero_named apart = named_committed (end cut digest) r (last cut digest) 0 k1 live_one
      (record { path = x; entry = own digest 0; stands = ap (λ (m : KeyMapValue). get m x) (map_one apart) ∙ x_in_first cut digest; names = refl })

  -- after the two older commits expired
  abbrev pub left : Repository
  left = with_expired (first cut) (with_expired k1 r)

  pub only_two : (id : Digest) → HasLiveCommit left id → id ≡ k2
  only_two id live = elim (only id (live.0, not_expired id)) [
    | inl is ↦ absurd (gone id (ap is_some (get_put _ (first cut).0 tt)) is live.1)
    | inr others ↦ elim others [
      | inl is ↦ absurd (gone_one id (stands _ (first cut).0 tt k1.0 (ap is_some (get_put empty k1.0 tt))) is live.1)
      | inr is ↦ is
    ]
  ]
    where
      gone : (id : Digest) → is_expired left (first cut) ≡ true → id ≡ first cut → is_expired left id ≡ false → ⊥
      gone id lost is kept = let e = ap (is_expired left) is in absurd (cc (sym kept ∙ (e ∙ lost)))

      gone_one : (id : Digest) → is_expired left k1 ≡ true → id ≡ k1 → is_expired left id ≡ false → ⊥
      gone_one id lost is kept = let e = ap (is_expired left) is in absurd (cc (sym kept ∙ (e ∙ lost)))

  pub live_two : (first cut ≡ k2 → ⊥) → (k1 ≡ k2 → ⊥) → HasLiveCommit left k2
  live_two ends late = (
    ap is_some (get_put graph1 k2.0 _),
    ap is_some (get_other _ (first cut).0 tt k2.0 (λ is. ends (sym (same_digest k2 (first cut) is)))
        ∙ (get_other empty k1.0 tt k2.0 (λ is. late (sym (same_digest k2 k1 is))) ∙ get-empty byte_order k2.0)),
  )

  pub one_named : (first cut ≡ k2 → ⊥) → (k1 ≡ k2 → ⊥) → IsNamed (scene (counted (end cut digest)) left (last cut digest)) 1
  one_named ends late = named_committed (counted (end cut digest)) left (last cut digest) 1 k2 (live_two ends late)
      (record { path = y; entry = own digest 1; stands = ap (λ (m : KeyMapValue). get m y) map_two ∙ y_in_second cut digest; names = refl })

  pub two_named : IsNamed (scene (counted (end cut digest)) left (last cut digest)) 2
  two_named = named_sealed (counted (end cut digest)) left (last cut digest) 2
      (record { path = z; change = Put (own digest 2); stands = get_one z (Put (own digest 2)) z; names = refl })

  pub three_named : IsNamed (scene (counted (end cut digest)) left (last cut digest)) 3
  three_named = inr (ap is_some (get-insert nat_cmp_total _ 3 1 3))

  pub zero_garbage : IsGarbage (scene (counted (end cut digest)) left (last cut digest)) 0
  zero_garbage = record {
    given_out = omega arith;
    unnamed = unnamed (counted (end cut digest)) left (last cut digest) 0 uncommitted unsealed (empty_puts_none empty 0 (get-empty byte_order)) no_ticket;
  }
    where
      no_ticket : get (end cut digest).tickets 0 ≡ None
      no_ticket = simp (get-insert {X = ℕ} nat_cmp_total, get-remove {X = ℕ} nat_cmp_total)

      unsealed : IsPut (sealed_last cut digest) 0 → ⊥
      unsealed put =
          let same : put.change ≡ Put (own digest 2) = only_one z (Put (own digest 2)) put.path put.change put.stands in
          let n = sym (ap put_number same) ∙ put.names in
          let e : ◌≡◌ {A = ℕ} 2 0 = ap (λ (o : Option ℕ). unwrap_or o 5) n in absurd (omega (arith, e))

      found : (q : List ℕ) → get (map_of left k2) q ≡ value_after (cond (eq_by_cmp byte_order q y) (Some (Put (own digest 1)))
          (cond (eq_by_cmp byte_order q x) (Some Delete) None)) (value_after (cond (eq_by_cmp byte_order q x) (Some (Put (own digest 0))) None) None)
      found q =
          ap (λ (m : KeyMapValue). get m q) map_two
          ∙ second_has cut digest q
          ∙ ap (λ (o : Option Change). value_after o (value_after (get (sealed_first cut digest) q) None)) (get-insert nat_list_cmp_total
          (insert empty x Delete) y (Put (own digest 1)) q ∙ ap (cond (eq_by_cmp byte_order q y) (Some (Put (own digest 1)))) (get_one x Delete q))
          ∙ ap (λ (o : Option Change). value_after (cond (eq_by_cmp byte_order q y) (Some (Put (own digest 1)))
          (cond (eq_by_cmp byte_order q x) (Some Delete) None)) (value_after o None)) (get_one x (Put (own digest 0)) q)

      uncommitted : (id : Digest) → HasLiveCommit left id → IsInMap (map_of left id) 0 → ⊥
      uncommitted id live has =
          let there : get (map_of left k2) has.path ≡ Some has.entry =
          subst (λ (k : Digest). get (map_of left k) has.path ≡ Some has.entry) (only_two id live) has.stands in
          puts (eq_by_cmp byte_order has.path y) (eq_by_cmp byte_order has.path x) digest has.entry (sym (found has.path) ∙ there) has.names
