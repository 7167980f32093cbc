-- What stands under a name after something there was changed.
use Rattle.std.proofs.Common.{◌≡◌, ℕ, Bool, true, false, cond, List, refl, sym, ap, ◌∙◌}
use Rattle.std.specs.Prelude.{Option, Some, None, option_map}
use Rattle.std.specs.Option.{option_map_or}
use Rattle.std.specs.FinMap.{get, insert, get-insert, get_tied}
use Rattle.std.specs.Ordering.{eq_by_cmp}
use Rattle.std.proofs.lemmas.Cmp.{nat_list_cmp_total}
use Rattle.lake_base.specs.Maps.{byte_order, ByteMap}
use Rattle.lake_base.proofs.MapsLemmas.{same_key, tied}
use Rattle.lake_model.specs.Parts.{changed_at}

-- names that tie in byte order
abbrev pub ties : List ℕ → List ℕ → Bool
ties = eq_by_cmp byte_order

pub names_tied : (q name : List ℕ) → ties q name ≡ true → q ≡ name
names_tied q name tie = same_key q name (tied _ tie)

-- names that tie have the same in a map
pub tied_stands : {X : Type 0} (map : ByteMap X) (q name : List ℕ) → ties q name ≡ true → get map name ≡ get map q
tied_stands map q name tie = get_tied nat_list_cmp_total map q name (tied _ tie)

-- a change where a test holds
abbrev pub changed_if : {X : Type 0} → Bool → (X → X) → X → X
changed_if test change x = cond test (change x) x

pub option_map_itself : {X : Type 0} (o : Option X) → option_map (λ x. x) o ≡ o
option_map_itself None = refl
option_map_itself (Some x) = refl

changed_here : {X : Type 0} (change : X → X) (there here : Option X) → there ≡ here
    → option_map_or (λ x. Some (change x)) there here ≡ option_map change here
changed_here change None None tie = refl
changed_here change None (Some y) tie = absurd cc
changed_here change (Some x) None tie = absurd cc
changed_here change (Some x) (Some y) tie = let same : x ≡ y = cc in ap (λ z. Some (change z)) same

unchanged_here : {X : Type 0} (there here : Option X) → option_map_or (λ x. here) there here ≡ here
unchanged_here None here = refl
unchanged_here (Some x) here = refl

changed_or_not : {X : Type 0} (change : X → X) (test : Bool) (there here : Option X) → (test ≡ true → there ≡ here)
    → option_map_or (λ x. cond test (Some (change x)) here) there here ≡ option_map (changed_if test change) here
changed_or_not change true there here tie = changed_here change there here (tie refl)
changed_or_not change false there here tie = unchanged_here there here ∙ sym (option_map_itself here)

get_into : {X : Type 0} (map : ByteMap X) (name : List ℕ) (change : X → X) (q : List ℕ) (there : Option X)
    → get (option_map_or (λ x. insert map name (change x)) there map) q
    ≡ option_map_or (λ x. cond (ties q name) (Some (change x)) (get map q)) there (get map q)
get_into map name change q None = refl
get_into map name change q (Some x) = get-insert nat_list_cmp_total map name (change x) q

-- what stands under a name is the change of what stood there, if it is the name where something was changed
pub get_changed_at : {X : Type 0} (name : List ℕ) (change : X → X) (map : ByteMap X) (q : List ℕ)
    → get (changed_at name change map) q ≡ option_map (changed_if (ties q name) change) (get map q)
get_changed_at name change map q =
    get_into map name change q (get map name) ∙ changed_or_not change (ties q name) (get map name) (get map q) (tied_stands map q name)

map_again : {X Y : Type 0} (f : X → Y) (change : X → X) (test : Bool) (o : Option X) → ((x : X) → f (change x) ≡ f x)
    → option_map f (option_map (changed_if test change) o) ≡ option_map f o
map_again f change test None again = refl
map_again f change true (Some x) again = ap Some (again x)
map_again f change false (Some x) again = refl

-- a change that doesn't show leaves what is seen of the thing under a name
pub seen_again : {X Y : Type 0} (f : X → Y) (name : List ℕ) (change : X → X) (map : ByteMap X) (q : List ℕ)
    → ((x : X) → f (change x) ≡ f x) → option_map f (get (changed_at name change map) q) ≡ option_map f (get map q)
seen_again f name change map q again =
    ap (option_map f) (get_changed_at name change map q) ∙ map_again f change (ties q name) (get map q) again

-- at another name there is what was there before
pub get_changed_elsewhere : {X : Type 0} (name : List ℕ) (change : X → X) (map : ByteMap X) (q : List ℕ) → ties q name ≡ false
    → get (changed_at name change map) q ≡ get map q
get_changed_elsewhere name change map q other =
    get_changed_at name change map q ∙ ap (λ test. option_map (changed_if test change) (get map q)) other ∙ option_map_itself (get map q)

pub get_inserted_elsewhere : {X : Type 0} (map : ByteMap X) (name : List ℕ) (x : X) (q : List ℕ) → ties q name ≡ false
    → get (insert map name x) q ≡ get map q
get_inserted_elsewhere map name x q other = get-insert nat_list_cmp_total map name x q ∙ ap (λ test. cond test (Some x) (get map q)) other
