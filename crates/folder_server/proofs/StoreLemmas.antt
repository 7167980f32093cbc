-- Stores are taken one after the other, and given back.
use native.Mathlib.Omega.{arith}
use Rattle.std.proofs.Common.{◌≡◌, ◌≤◌, ◌++◌, ℕ, Bool, true, false, List, [], ◌∷◌, Option, Some, None, IfSome, IsSome, refl, sym, ◌∙◌, ap, subst}
use Rattle.std.proofs.lemmas.Bool.{false≢true}
use Rattle.std.proofs.lemmas.List.{append-nil, append_assoc}
use Rattle.lake_base.specs.declared.outside.Trouble.{Trouble}
use Rattle.lake_base.specs.declared.outside.Trouble.TheVariants.{Failed, NoMemory}
use Rattle.lake_folders.specs.Folders.{FoldersView, StoreShow}
use Rattle.folder_server.specs.Stores.{AreBack, AreNoStores, AreStoresOut, IsStoreOut}

-- ---- taken

-- one more was taken
pub one_more_out : (folder : List ℕ) (stores : List StoreShow) (store : StoreShow) (before now after : FoldersView)
    → AreStoresOut folder stores before now → IsStoreOut folder store now after → AreStoresOut folder (stores ++ store ∷ []) before after
one_more_out folder [] store before now after none out = (after, subst (λ (v : FoldersView). IsStoreOut folder store v after) none out, refl)
one_more_out folder (first ∷ others) store before now after some out =
    (some.0, some.1, one_more_out folder others store some.0 now after some.2 out)

-- ---- given back

-- the first of these were given back, and these are left
pub record BackSoFar (all rest : List StoreShow) (before now : FoldersView) : Type 0 where
  pub done : List StoreShow
  pub split : done ++ rest ≡ all
  pub back : AreBack done before now

none_shown : (found : Option (List StoreShow)) → IfSome found (λ now. IfSome found (λ old. now ≡ old ++ []))
none_shown None = tt
none_shown (Some old) = sym (append-nil old)

none_told : (found : Option (List StoreShow)) → IfSome found (λ _. IsSome found)
none_told None = tt
none_told (Some old) = refl

-- none was
pub none_back : (view : FoldersView) → AreBack [] view view
none_back view = record { shown = none_shown view.stores_back; told = none_told view.stores_back; keepers = refl; faults = refl }

-- what is told of one more
more_shown : (new old now : Option (List StoreShow)) (done : List StoreShow) (store : StoreShow)
    → IfSome now (λ then. IfSome old (λ first. then ≡ first ++ done)) → IfSome new (λ then. IfSome now (λ before. then ≡ before ++ store ∷ []))
    → IfSome new (λ _. IsSome now) → IfSome new (λ then. IfSome old (λ first. then ≡ first ++ (done ++ store ∷ [])))
more_shown None old now done store shown more told = tt
more_shown (Some then) None now done store shown more told = tt
more_shown (Some then) (Some first) None done store shown more told = absurd (false≢true told)
more_shown (Some then) (Some first) (Some before) done store shown more told =
    more ∙ ap (λ l. l ++ store ∷ []) shown ∙ append_assoc first done (store ∷ [])

more_told : (new old now : Option (List StoreShow)) → IfSome new (λ _. IsSome now) → IfSome now (λ _. IsSome old) → IfSome new (λ _. IsSome old)
more_told None old now told earlier = tt
more_told (Some then) old None told earlier = absurd (false≢true told)
more_told (Some then) old (Some before) told earlier = earlier

-- one more was given back
pub one_more_back : (all rest left : List StoreShow) (store : StoreShow) (before now after : FoldersView) → BackSoFar all rest before now
    → rest ≡ store ∷ left
    → IfSome after.stores_back (λ then. IfSome now.stores_back (λ old. then ≡ old ++ store ∷ []))
    → IfSome after.stores_back (λ _. IsSome now.stores_back) → after.keepers_back ≡ now.keepers_back → after.faults ≡ now.faults
    → BackSoFar all left before after
one_more_back all rest left store before now after far one shown told keepers faults = record {
  done = far.done ++ store ∷ [];
  split = append_assoc far.done (store ∷ []) left ∙ ap (λ l. far.done ++ l) (sym one) ∙ far.split;
  back = record {
    shown = more_shown after.stores_back before.stores_back now.stores_back far.done store far.back.shown shown told;
    told = more_told after.stores_back before.stores_back now.stores_back told far.back.told;
    keepers = keepers ∙ far.back.keepers;
    faults = faults ∙ far.back.faults;
  };
}

-- all were
pub all_back : (all rest : List StoreShow) (before now : FoldersView) → BackSoFar all rest before now → rest ≡ [] → AreBack all before now
all_back all rest before now far none =
    subst (λ (l : List StoreShow). AreBack l before now) (sym (append-nil far.done) ∙ ap (λ l. far.done ++ l) (sym none) ∙ far.split) far.back

-- ---- refused

abbrev is_failed : Trouble → Bool
is_failed Failed = true
is_failed NoMemory = false

-- no room was made for them
pub no_room : (folder : List ℕ) (view : FoldersView) → AreNoStores folder NoMemory view view
no_room folder view = record {
  taken = [];
  out = view;
  are = refl;
  refused = view;
  nothing = record { keepers = refl; stores = refl };
  later = omega arith;
  failed = λ same. absurd (false≢true (ap is_failed same));
  back = none_back view;
}

-- ---- no count of failures falls

pub out_later : (folder : List ℕ) (stores : List StoreShow) (before after : FoldersView) → AreStoresOut folder stores before after
    → before.faults ≤ after.faults
out_later folder [] before after none = let same : after.faults ≡ before.faults = ap (λ (v : FoldersView). v.faults) none in omega (arith, same)
out_later folder (store ∷ others) before after some =
    let one = some.1.faults in let more = out_later folder others some.0 after some.2 in omega (arith, one, more)

pub refused_later : (folder : List ℕ) (trouble : Trouble) (before after : FoldersView) → AreNoStores folder trouble before after
    → before.faults ≤ after.faults
refused_later folder trouble before after none =
    let taken = out_later folder none.taken before none.out none.are in omega (arith, taken, none.later, none.back.faults)
