-- The changes of a lake in order are tied among the pairs that stand for it.
use Rattle.std.proofs.Common.{◌≡◌, ◌⊎◌, inl, inr, ℕ, Bool, true, false, ◌||◌, List, [], ◌∷◌, ◌++◌, Option, Some}
use Rattle.std.proofs.Common.{None, IfSome, refl, sym, ap, subst, ◌∙◌, arith}
use Rattle.std.specs.Prelude.{nat_eq, option_map}
use Rattle.std.specs.List.{Contains}
use Rattle.std.specs.Option.{option_or}
use Rattle.std.specs.FinMap.{contains_key, get}
use Rattle.std.proofs.lemmas.Bool.{eqb-true}
use Rattle.lake_base.specs.Maps.{HasAscendingKeys}
use Rattle.lake_values.proofs.OrderLemmas.{first_or_later}
use Rattle.lake_values.specs.declared.entry.Change.{Change}
use Rattle.lake_format.specs.declared.cut.Cut.{Cut}
use Rattle.branch_record.specs.Looking.{first_change}
use Rattle.branch_record.specs.Record.{is_among}
use Rattle.branch_record.specs.Tokens.{TokenMap, changes_under}
use Rattle.branch_record.proofs.LayersLemmas.{get_layered, said_next}
use Rattle.byte_map.proofs.ValuesLemmas.{get_map_values}
use Rattle.lake_model.specs.Naming.{IsNamed, IsPut}
use Rattle.lake_model.specs.Uncommitted.{put_number}
use Rattle.pair_format.specs.declared.pair.Pair.{Pair}
use Rattle.pair_format.specs.declared.stored.Stored.TheVariants as stored
use Rattle.keeper.specs.Keepers.{entries_of}
use Rattle.pair_trees.specs.Things.{IsGivenNumber, IsGone, IsThere, Things, kept_of, things_of, tokens_named}
use Rattle.pair_trees.proofs.ThingsLemmas.{there_spells}
use Rattle.pair_ties.specs.PairTies.{IsHidden, IsTiedStaged}
use Rattle.core_state.specs.BranchStates.{branch_of, tokens_of}
use Rattle.core_state.specs.RepositoryStates.{repository_of}
use Rattle.core_state.specs.LakeStates.{LakeStateValue, state_of}
use Rattle.core_pairs.specs.LakePairs.{StandFor, StandsIn}
use Rattle.core_pairs.proofs.ThingLemmas.{HasChange, IsBranchThere, branch_closed, branch_opened}
use Rattle.opening_laws.proofs.LayerLemmas.{behind, held}
use Rattle.opening_laws.proofs.PairLemmas.{stands_there}
use Rattle.reading_again.specs.ReadableLakes.{CanBeRead, IsInOrder}
use Rattle.reading_again.proofs.FileTieLemmas.{gone_is}
use Rattle.reading_again.proofs.KindLemmas.{branch_there, number_told}
use Rattle.reading_again.proofs.PlaceLemmas.{named_there}

-- ---- tokens

those_among : (tokens : List ℕ) (token : ℕ) → is_among tokens token ≡ true → Contains tokens token
those_among [] token e = absurd cc
those_among (x ∷ tokens) token e = by (nat_eq x token) refl e (those_among tokens token)
  where
    by : (b : Bool) → nat_eq x token ≡ b → (b || is_among tokens token) ≡ true → (is_among tokens token ≡ true → Contains tokens token)
        → Contains (x ∷ tokens) token
    by true same either more = (0, omega arith, eqb-true x token same)
    by false apart either more = behind x tokens token (more either)

-- the tokens before one of them, and those after it
record IsSplitAt (these : List ℕ) (token : ℕ) : Type 0 where
  newer : List ℕ
  older : List ℕ
  is : these ≡ newer ++ token ∷ older

split_at : (these : List ℕ) (token : ℕ) → Contains these token → IsSplitAt these token
split_at [] token has = absurd (omega (arith, has.1))
split_at (x ∷ these) token has = by (first_or_later x token these has) (split_at these token)
  where
    by : (x ≡ token) ⊎ Contains these token → (Contains these token → IsSplitAt these token) → IsSplitAt (x ∷ these) token
    by (inl is) more = record { newer = []; older = these; is = ap (λ t. t ∷ these) is }
    by (inr later) more = let rest = more later in record { newer = x ∷ rest.newer; older = rest.older; is = ap (λ l. x ∷ l) rest.is }

-- ---- changes under some of them

record IsUnderOne (tokens : TokenMap) (these : List ℕ) (path : List ℕ) : Type 0 where
  over : ℕ
  among : Contains these over
  change : Change
  at : get (changes_under tokens over) path ≡ Some change

abbrev IsUnderNone : TokenMap → List ℕ → List ℕ → Type 0
IsUnderNone tokens these path = (over : ℕ) → Contains these over → get (changes_under tokens over) path ≡ None

under_some : (tokens : TokenMap) (these : List ℕ) (path : List ℕ) → IsUnderOne tokens these path ⊎ IsUnderNone tokens these path
under_some tokens [] path = inr (λ over has. absurd (omega (arith, has.1)))
under_some tokens (x ∷ these) path = by (get (changes_under tokens x) path) refl (under_some tokens these path)
  where
    none_of : get (changes_under tokens x) path ≡ None → IsUnderNone tokens these path → (over : ℕ) → (x ≡ over) ⊎ Contains these over
        → get (changes_under tokens over) path ≡ None
    none_of none rest over (inl is) = subst (λ t. get (changes_under tokens t) path ≡ None) is none
    none_of none rest over (inr later) = rest over later

    by : (o : Option Change) → get (changes_under tokens x) path ≡ o → IsUnderOne tokens these path ⊎ IsUnderNone tokens these path
        → IsUnderOne tokens (x ∷ these) path ⊎ IsUnderNone tokens (x ∷ these) path
    by (Some change) at rest = inl (record { over = x; among = (0, omega arith, refl); change = change; at = at })
    by None at (inl one) = inl (record { over = one.over; among = behind x these one.over one.among; change = one.change; at = one.at })
    by None at (inr none) = inr (λ over has. none_of at none over (first_or_later x over these has))

-- what no newer token hides is said
said_through : (tokens : TokenMap) (newer older : List ℕ) (token : ℕ) (path : List ℕ) (change : Change)
    → get (changes_under tokens token) path ≡ Some change → IsUnderNone tokens newer path → first_change tokens (newer ++ token ∷ older) path ≡ Some change
said_through tokens [] older token path change at none = said_next tokens token older path ∙ ap (λ o. option_or o (first_change tokens older path)) at
said_through tokens (x ∷ newer) older token path change at none =
    said_next tokens x (newer ++ token ∷ older) path
    ∙ ap (λ o. option_or o (first_change tokens (newer ++ token ∷ older) path)) (none x (0, omega arith, refl))
    ∙ said_through tokens newer older token path change at (λ over has. none over (behind x newer over has))

module _ (cut : Cut) (pairs : List Pair) (l : LakeStateValue) (ascend : HasAscendingKeys (entries_of pairs)) (stand : StandFor (kept_of pairs) l)
    (order : IsInOrder l) (can : CanBeRead cut l) (token : ℕ) (path : List ℕ) (change : Change) (h : StandsIn l (stored.Staged token path change))
    (x : IsBranchThere l h.0 h.1.0 (HasChange token path change)) where
  abbrev things : Things
  things = things_of pairs

  among : is_among (tokens_of x.b) token ≡ true
  among =
      let named = branch_opened l h.0 h.1.0 (λ b. is_among (tokens_of b) token ≡ true)
      (order.apart.named token h.0 h.1.0
      (branch_closed l h.0 h.1.0 (λ b. contains_key b.tokens token ≡ true) x.r x.b x.in_lake x.in_it (held x.b.tokens token path change x.holds))) in
      subst (λ b. is_among (tokens_of b) token ≡ true) (same_branch named) named.holds
    where
      some_is : {X : Type 0} {a b : X} → Some a ≡ Some b → a ≡ b
      some_is e = cc

      same_branch : (named : IsBranchThere l h.0 h.1.0 (λ b. is_among (tokens_of b) token ≡ true)) → named.b ≡ x.b
      same_branch named =
          let home : named.r ≡ x.r = some_is (sym named.in_lake ∙ x.in_lake) in
          some_is (sym named.in_it ∙ ap (λ r. get r.branches h.1.0) home ∙ x.in_it)

  held_so : is_among (tokens_named things) token ≡ true
  held_so =
      let place = there_spells things (stored.Branch h.0 h.1.0 x.b.version x.b.head x.b.staging x.b.sealed)
      (branch_there cut pairs l ascend stand order can h.0 x.r x.in_lake h.1.0 x.b x.in_it) in
      named_there things place.0 (stored.Branch h.0 h.1.0 x.b.version x.b.head x.b.staging x.b.sealed) token place.1 among

  -- ---- a number that is gone

  module _ (number : ℕ) (names : put_number change ≡ Some number) where
    -- what a reading of the branch finds is named
    named_so : IsPut (branch_of x.b).sealed number ⊎ IsPut (branch_of x.b).staged number → IsNamed (state_of l) number
    named_so puts = inl (record {
      name = h.0;
      repository = repository_of x.r;
      stands = get_map_values repository_of l.repositories h.0 ∙ ap (option_map repository_of) x.in_lake;
      names = inr (record {
        name = h.1.0;
        branch = branch_of x.b;
        stands = get_map_values branch_of x.r.branches h.1.0 ∙ ap (option_map branch_of) x.in_it;
        names = puts;
      });
    })

    hidden_at : IsGone things number → (split : IsSplitAt x.b.sealed token) → IsUnderOne x.b.tokens split.newer path ⊎ IsUnderNone x.b.tokens split.newer path
        → IsHidden things token path
    hidden_at gone split (inl one) = record {
      repo = h.0;
      branch = h.1.0;
      version = x.b.version;
      head = x.b.head;
      staging = x.b.staging;
      newer = split.newer;
      older = split.older;
      there =
          subst (λ sealed. IsThere things (stored.Branch h.0 h.1.0 x.b.version x.b.head x.b.staging sealed)) split.is
          (branch_there cut pairs l ascend stand order can h.0 x.r x.in_lake h.1.0 x.b x.in_it);
      over = one.over;
      among = one.among;
      changed = record {
        thing = stored.Staged one.over path one.change;
        there =
            stands_there pairs l ascend stand (stored.Staged one.over path one.change)
            (h.0, (h.1.0, branch_closed l h.0 h.1.0 (HasChange one.over path one.change) x.r x.b x.in_lake x.in_it one.at));
        under = refl;
      };
    }
    hidden_at gone split (inr none) =
        absurd (order.sound.apart number (gone_is cut pairs l ascend stand order can number gone) (named_so (inl (record {
          path = path;
          change = change;
          stands =
              get_layered x.b.tokens x.b.sealed path
              ∙ ap (λ sealed. first_change x.b.tokens sealed path) split.is
              ∙ said_through x.b.tokens split.newer split.older token path change x.holds none;
          names = names;
        }))))

    hidden_so : IsGone things number → (x.b.staging ≡ token) ⊎ Contains x.b.sealed token → IsHidden things token path
    hidden_so gone (inl staged) =
        absurd (order.sound.apart number (gone_is cut pairs l ascend stand order can number gone) (named_so (inr (record {
          path = path;
          change = change;
          stands = subst (λ t. get (changes_under x.b.tokens t) path ≡ Some change) (sym staged) x.holds;
          names = names;
        }))))
    hidden_so gone (inr sealed) =
        let split = split_at x.b.sealed token sealed in hidden_at gone split (under_some x.b.tokens split.newer path)

  staged_so : IsTiedStaged things token path change
  staged_so = record {
    held = held_so;
    given = if_some (put_number change) (λ number. IsGivenNumber things number)
        (λ number names. number_told cut pairs l ascend stand order can number
        ((can.numbers h.0 x.r x.in_lake).changes h.1.0 x.b x.in_it token path change number x.holds names));
    apart = if_some (put_number change) (λ number. IsGone things number → IsHidden things token path)
        (λ number names gone. hidden_so number names gone
        (first_or_later x.b.staging token x.b.sealed (those_among (tokens_of x.b) token among)));
  }
    where
      if_some : (o : Option ℕ) (P : ℕ → Type 0) → ((number : ℕ) → o ≡ Some number → P number) → IfSome o P
      if_some None P each = tt
      if_some (Some number) P each = each number refl

module _ (cut : Cut) (pairs : List Pair) (l : LakeStateValue) (ascend : HasAscendingKeys (entries_of pairs)) (stand : StandFor (kept_of pairs) l)
    (order : IsInOrder l) (can : CanBeRead cut l) where
  pub staged_tied : (token : ℕ) (path : List ℕ) (change : Change) → StandsIn l (stored.Staged token path change)
      → IsTiedStaged (things_of pairs) token path change
  staged_tied token path change h =
      staged_so cut pairs l ascend stand order can token path change h (branch_opened l h.0 h.1.0 (HasChange token path change) h.1.1)
