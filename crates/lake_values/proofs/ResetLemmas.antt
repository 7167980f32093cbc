-- What a reset leaves at each path.
use Rattle.std.proofs.Common.{◌≡◌, ℕ, not, Bool, true, false, cond, List, [], None, sym, ap, refl, ◌∙◌}
use Rattle.std.specs.FinMap.{get, from_sorted, get-from_sorted, get-retain_keys, get-empty, get-remove, empty, remove}
use Rattle.std.specs.FinMap.Entries.{where_key, is_sorted-where_key, find-where_key}
use Rattle.std.specs.Cmp.Lexicographic.{texts_ties}
use Rattle.std.proofs.lemmas.Cmp.{nat_list_cmp_total}
use Rattle.lake_values.specs.KeyMap.{ChangesValue}
use Rattle.lake_base.specs.Maps.{byte_order, HasAscendingKeys}
use Rattle.lake_values.specs.Reset.{drops_path, changes_after_reset}
use Rattle.lake_values.specs.declared.commit.ResetWhat.{ResetWhat}
use Rattle.lake_values.specs.declared.commit.ResetWhat.TheVariants.{All, Object, Prefix}
use Rattle.lake_values.specs.declared.entry.Change.{Change}
use Rattle.lake_base.proofs.MapsLemmas.{same_key}
use Rattle.lake_values.proofs.KeyMapLemmas.{same}

turned_test : {X : Type 0} (b : Bool) (x y : X) → cond (not b) x y ≡ cond b y x
turned_test true x y = refl
turned_test false x y = refl

-- what stands at a path after a reset
pub get_reset : (what : ResetWhat) (changes : ChangesValue) (q : List ℕ)
    → get (changes_after_reset what changes) q ≡ cond (drops_path what q) None (get changes q)
unfolding changes_after_reset
get_reset what changes q =
    get-retain_keys changes (λ path. not (drops_path what path)) q (λ x t. ap (λ k. not (drops_path what k)) (sym (same_key q x t)))
    ∙ turned_test (drops_path what q) _ _

pub reset_all : (changes : ChangesValue) → changes_after_reset All changes ≡ empty
reset_all changes = same _ _ (λ q. get_reset All changes q ∙ sym (get-empty byte_order q))

pub reset_empty : (changes : ChangesValue) → changes_after_reset (Prefix []) changes ≡ empty
reset_empty changes = same _ _ (λ q. get_reset (Prefix []) changes q ∙ sym (get-empty byte_order q))

pub reset_object : (path : List ℕ) (changes : ChangesValue) → changes_after_reset (Object path) changes ≡ remove changes path
reset_object path changes = same _ _ (λ q.
    get_reset (Object path) changes q ∙ ap (λ b. cond b None (get changes q)) (texts_ties q path) ∙ sym (get-remove nat_list_cmp_total changes path q))

-- what is left of a list is what is left of its map
pub reset_list : (what : ResetWhat) (es : List (List ℕ × Change)) → HasAscendingKeys es
    → from_sorted {R = byte_order} (where_key byte_order (λ path. not (drops_path what path)) es) ≡ changes_after_reset what (from_sorted es)
reset_list what es h = same _ _ (λ q.
    get-from_sorted byte_order _ q (is_sorted-where_key byte_order _ es h)
    ∙ find-where_key byte_order (λ path. not (drops_path what path)) q (λ x t. ap (λ k. not (drops_path what k)) (sym (same_key q x t))) es
    ∙ turned_test (drops_path what q) _ _
    ∙ sym (get_reset what (from_sorted es) q ∙ ap (cond (drops_path what q) None) (get-from_sorted byte_order es q h)))
