-- Maps to which some things put a value each, the last of them first.
use Rattle.std.proofs.Common.{◌≡◌, ◌⊎◌, inl, inr, ℕ, List, [], ◌∷◌, ◌++◌, Option, Some, None, refl, sym, ap, subst, ◌∙◌}
use Rattle.std.specs.FinMap.{get, insert}
use Rattle.std.specs.List.{Contains}
use Rattle.lake_base.specs.Maps.{ByteMap}
use Rattle.lake_values.proofs.OrderLemmas.{Contains-first, Contains-later, Contains-nothing, first_or_later}
use Rattle.byte_map.proofs.ByteMapLemmas.{get_inserted}
use Rattle.core_pairs.proofs.PlaceLemmas.{decide, found, get_other}

-- a map with what is put, if anything is
abbrev pub put_in : {X : Type 0} → Option (List ℕ × X) → ByteMap X → ByteMap X
put_in None m = m
put_in (Some (k, x)) m = insert m k x

module _ {C X : Type 0} where
  -- what each of these puts, the last first
  abbrev pub puts : (C → Option (List ℕ × X)) → List C → ByteMap X → ByteMap X
  puts at [] m = m
  puts at (c ∷ cs) m = put_in (at c) (puts at cs m)

  -- one of these put this
  pub record HasPut (at : C → Option (List ℕ × X)) (cs : List C) (k : List ℕ) (x : X) : Type 0 where
    pub one : C
    pub among : Contains cs one
    pub is : at one ≡ Some (k, x)

  module _ (at : C → Option (List ℕ × X)) (m : ByteMap X) where
    more : (c : C) (cs : List C) (k : List ℕ) (x : X) → (get m k ≡ Some x) ⊎ HasPut at cs k x → (get m k ≡ Some x) ⊎ HasPut at (c ∷ cs) k x
    more c cs k x (inl old) = inl old
    more c cs k x (inr put) = inr (record { one = put.one; among = Contains-later c put.one cs put.among; is = put.is })

    one_back : (c : C) (cs : List C) (k : List ℕ) (x : X) → (o : Option (List ℕ × X)) → at c ≡ o → get (put_in o (puts at cs m)) k ≡ Some x
        → ((y : X) → get (puts at cs m) k ≡ Some y → (get m k ≡ Some y) ⊎ HasPut at cs k y) → (get m k ≡ Some x) ⊎ HasPut at (c ∷ cs) k x
    one_back c cs k x None is there rest = more c cs k x (rest x there)
    one_back c cs k x (Some (j, y)) is there rest = by (found (puts at cs m) j y k x there)
      where
        by : ((k ≡ j) × (y ≡ x)) ⊎ ((k ≡ j → ⊥) × (get (puts at cs m) k ≡ Some x)) → (get m k ≡ Some x) ⊎ HasPut at (c ∷ cs) k x
        by (inl (named, same)) =
            inr (record { one = c; among = Contains-first c cs; is = is ∙ (λ i. Some (sym named i, same i)) })
        by (inr (other, was)) = more c cs k x (rest x was)

    -- what is found was there, or one of these put it
    pub puts_back : (cs : List C) (k : List ℕ) (x : X) → get (puts at cs m) k ≡ Some x → (get m k ≡ Some x) ⊎ HasPut at cs k x
    puts_back [] k x there = inl there
    puts_back (c ∷ cs) k x there = one_back c cs k x (at c) refl there (λ y. puts_back cs k y)

    -- what one of these put is found, where none of them puts another value there
    module _ (k : List ℕ) (x : X) where
      abbrev IsOnly : List C → Type 0
      IsOnly cs = (c : C) (y : X) → Contains cs c → at c ≡ Some (k, y) → y ≡ x

      over : (c : C) (cs : List C) (o : Option (List ℕ × X)) → at c ≡ o → IsOnly (c ∷ cs) → get (puts at cs m) k ≡ Some x
          → get (put_in o (puts at cs m)) k ≡ Some x
      over c cs None is only there = there
      over c cs (Some (j, y)) is only there = by (decide k j)
        where
          by : (k ≡ j) ⊎ (k ≡ j → ⊥) → get (insert (puts at cs m) j y) k ≡ Some x
          by (inl named) =
              let same = only c y (Contains-first c cs) (is ∙ (λ i. Some (sym named i, y))) in
              ap (get (insert (puts at cs m) j y)) named ∙ get_inserted (puts at cs m) j y ∙ ap Some same
          by (inr other) = get_other (puts at cs m) j y k other ∙ there

      first : (c : C) (cs : List C) → at c ≡ Some (k, x) → get (put_in (at c) (puts at cs m)) k ≡ Some x
      first c cs is = ap (λ o. get (put_in o (puts at cs m)) k) is ∙ get_inserted (puts at cs m) k x

      pub puts_there : (cs : List C) → IsOnly cs → (c : C) → Contains cs c → at c ≡ Some (k, x) → get (puts at cs m) k ≡ Some x
      puts_there [] only c has is = absurd (Contains-nothing c has)
      puts_there (d ∷ cs) only c has is =
          by (puts_there cs (λ e y among. only e y (Contains-later d e cs among)) c) (first_or_later d c cs has)
        where
          by : (Contains cs c → at c ≡ Some (k, x) → get (puts at cs m) k ≡ Some x) → (d ≡ c) ⊎ Contains cs c → get (put_in (at d) (puts at cs m)) k ≡ Some x
          by rest (inl same) = first d cs (ap at same ∙ is)
          by rest (inr later) = over d cs (at d) refl only (rest later is)

  -- some and then others
  pub puts_both : (at : C → Option (List ℕ × X)) (cs ds : List C) (m : ByteMap X) → puts at (cs ++ ds) m ≡ puts at cs (puts at ds m)
  puts_both at [] ds m = refl
  puts_both at (c ∷ cs) ds m = ap (put_in (at c)) (puts_both at cs ds m)

module _ {C X : Type 0} (at : C → Option (List ℕ × X)) (m : ByteMap X) where
  -- something is found where one of these put
  pub record IsFound (cs : List C) (k : List ℕ) : Type 0 where
    pub x : X
    pub is : get (puts at cs m) k ≡ Some x

  still : (c : C) (cs : List C) (k : List ℕ) (o : Option (List ℕ × X)) → at c ≡ o → IsFound cs k → IsFound (c ∷ cs) k
  still c cs k None is found_there =
      record { x = found_there.x; is = ap (λ o. get (put_in o (puts at cs m)) k) is ∙ found_there.is }
  still c cs k (Some (j, y)) is found_there = by (decide k j)
    where
      by : (k ≡ j) ⊎ (k ≡ j → ⊥) → IsFound (c ∷ cs) k
      by (inl named) =
          record {
            x = y;
            is = ap (λ o. get (put_in o (puts at cs m)) k) is ∙ ap (get (insert (puts at cs m) j y)) named ∙ get_inserted (puts at cs m) j y;
          }
      by (inr other) =
          record {
            x = found_there.x;
            is = ap (λ o. get (put_in o (puts at cs m)) k) is ∙ get_other (puts at cs m) j y k other ∙ found_there.is;
          }

  pub puts_some : (cs : List C) (c : C) (k : List ℕ) (x : X) → Contains cs c → at c ≡ Some (k, x) → IsFound cs k
  puts_some [] c k x has is = absurd (Contains-nothing c has)
  puts_some (d ∷ cs) c k x has is = by (puts_some cs c k x) (first_or_later d c cs has)
    where
      by : (Contains cs c → at c ≡ Some (k, x) → IsFound cs k) → (d ≡ c) ⊎ Contains cs c → IsFound (d ∷ cs) k
      by rest (inl same) =
          record { x = x; is = ap (λ o. get (put_in o (puts at cs m)) k) (ap at same ∙ is) ∙ get_inserted (puts at cs m) k x }
      by rest (inr later) = still d cs k (at d) refl (rest later is)
