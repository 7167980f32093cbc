-- Which keys metadata lacks.
use Rattle.std.proofs.Common.{◌≡◌, ℕ, Bool, true, false, not, cond, Some, List, [], ◌∷◌, ◌&&◌, refl, sym, ap, ◌∙◌}
use Rattle.std.specs.FinMap.{find}
use Rattle.std.specs.List.{list_all}
use Rattle.std.specs.Option.{is_none}
use Rattle.std.specs.Ordering.{eq_by_cmp}
use Rattle.std.specs.Str.{bytes_eq}
use Rattle.std.proofs.lemmas.Bool.Decides.{same_from_decides}
use Rattle.std.proofs.lemmas.Map.Text.{is_eq-slice_cmp}
use Rattle.std.proofs.lemmas.Slice.Eq.{bytes_eq-Decides}
use Rattle.lake_base.specs.Maps.{byte_order}

same_either : (a b : List ℕ) → bytes_eq a b ≡ bytes_eq b a
same_either a b =
    same_from_decides (bytes_eq a b) (bytes_eq b a) (bytes_eq-Decides a b) (λ t. sym ((bytes_eq-Decides b a).0 t), λ e. (bytes_eq-Decides b a).1 (sym e))

abbrev lacked : List ℕ → List (List ℕ × List ℕ) → Bool
lacked key pairs = list_all (λ pair. not (bytes_eq pair.0 key)) pairs

pub none_is : (key : List ℕ) (pairs : List (List ℕ × List ℕ)) → list_all (λ pair. not (bytes_eq pair.0 key)) pairs ≡ is_none (find byte_order key pairs)
none_is key [] = refl
none_is key (p ∷ ps) = step (eq_by_cmp byte_order key p.0) (is_eq-slice_cmp key p.0 ∙ same_either key p.0) (none_is key ps)
  where
    step : (b : Bool) → b ≡ bytes_eq p.0 key → lacked key ps ≡ is_none (find byte_order key ps)
        → not (bytes_eq p.0 key) && lacked key ps ≡ is_none (cond b (Some p.1) (find byte_order key ps))
    step true e rest = ap (λ t. not t && lacked key ps) (sym e)
    step false e rest = ap (λ t. not t && lacked key ps) (sym e) ∙ rest
