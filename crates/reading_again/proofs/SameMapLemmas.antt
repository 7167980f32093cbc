-- Maps that say the same.
use Rattle.std.proofs.Common.{◌≡◌, ℕ, Bool, true, false, List, [], ◌∷◌, Option, Some, None, arith, refl, sym, ap, ◌∙◌}
use Rattle.std.specs.Prelude.{is_some, option_map}
use Rattle.std.specs.Cmp.{nat_cmp_total}
use Rattle.std.specs.Ordering.{nat_cmp}
use Rattle.std.specs.FinMap.{FinMap, contains_key, get, nat_cmp-IsAntisymmetric, same_map}
use Rattle.lake_base.specs.Maps.{ByteMap}
use Rattle.lake_values.specs.KeyMap.{over}
use Rattle.branch_record.specs.Overlay.{layers_of}
use Rattle.branch_record.specs.Tokens.{TokenMap, changes_under}
use Rattle.branch_record.proofs.LayersLemmas.{layers_next, layers_none}
use Rattle.byte_map.specs.Values.{map_values}
use Rattle.byte_map.proofs.ByteMapLemmas.{same_maps}
use Rattle.byte_map.proofs.ValuesLemmas.{get_map_values}
use Rattle.std.specs.List.{Contains}
use Rattle.opening_laws.proofs.LayerLemmas.{behind}

-- ---- of what is there

module _ {X : Type 0} where
  pub alike : (a b : Option X) → ((x : X) → a ≡ Some x → b ≡ Some x) → ((x : X) → b ≡ Some x → a ≡ Some x) → a ≡ b
  alike None None forth back = refl
  alike None (Some x) forth back = back x refl
  alike (Some x) b forth back = sym (forth x refl)

  pub same_found : (m n : ByteMap X) → ((q : List ℕ) (x : X) → get m q ≡ Some x → get n q ≡ Some x)
      → ((q : List ℕ) (x : X) → get n q ≡ Some x → get m q ≡ Some x) → m ≡ n
  same_found m n forth back = same_maps m n (λ q. alike (get m q) (get n q) (forth q) (back q))

-- marks
unit_alike : (a b : Option (Unit {0})) → is_some a ≡ is_some b → a ≡ b
unit_alike None None e = refl
unit_alike None (Some y) e = absurd cc
unit_alike (Some x) None e = absurd cc
unit_alike (Some x) (Some y) e = refl

pub same_marks : (m n : ByteMap (Unit {0})) → ((q : List ℕ) → contains_key m q ≡ contains_key n q) → m ≡ n
same_marks m n same = same_maps m n (λ q. unit_alike (get m q) (get n q) (same q))

pub same_numbers : (m n : FinMap nat_cmp (Unit {0})) → ((q : ℕ) → contains_key m q ≡ contains_key n q) → m ≡ n
same_numbers m n same = same_map nat_cmp_total nat_cmp-IsAntisymmetric m n (λ q. unit_alike (get m q) (get n q) (same q))

pub same_tests : (a b : Bool) → (a ≡ true → b ≡ true) → (b ≡ true → a ≡ true) → a ≡ b
same_tests true b forth back = sym (forth refl)
same_tests false true forth back = back refl
same_tests false false forth back = refl

-- ---- of maps with other values

-- what stands under a key in the other map comes to the same
pub record IsAlike {X Y : Type 0} (f : X → Y) (n : ByteMap X) (q : List ℕ) (x : X) : Type 0 where
  pub one : X
  pub is : get n q ≡ Some one
  pub same : f x ≡ f one

module _ {X Y : Type 0} (f : X → Y) (m n : ByteMap X) (forth : (q : List ℕ) (x : X) → get m q ≡ Some x → IsAlike f n q x)
    (back : (q : List ℕ) (x : X) → get n q ≡ Some x → IsAlike f m q x) where
  mapped_forth : (q : List ℕ) (a b : Option X) → get m q ≡ a → get n q ≡ b → option_map f a ≡ option_map f b
  mapped_forth q None None is are = refl
  mapped_forth q None (Some x) is are = absurd (none_some (sym (back q x are).is ∙ is))
    where
      none_some : {x : X} → Some x ≡ None → ⊥
      none_some e = cc
  mapped_forth q (Some x) b is are = let other = forth q x is in ap (λ y. Some y) other.same ∙ ap (option_map f) (sym other.is ∙ are)

  pub same_values : map_values f m ≡ map_values f n
  same_values =
      same_maps (map_values f m) (map_values f n)
      (λ q. get_map_values f m q ∙ mapped_forth q (get m q) (get n q) refl refl ∙ sym (get_map_values f n q))

-- ---- of layers

pub same_layers : (a b : TokenMap) (these : List ℕ) → ((token : ℕ) → Contains these token → changes_under a token ≡ changes_under b token)
    → layers_of a these ≡ layers_of b these
same_layers a b [] same = layers_none a ∙ sym (layers_none b)
same_layers a b (token ∷ older) same =
    layers_next a token older
    ∙ (λ i. over (same token (0, omega arith, refl) i) (same_layers a b older (λ t has. same t (behind token older t has)) i))
    ∙ sym (layers_next b token older)
