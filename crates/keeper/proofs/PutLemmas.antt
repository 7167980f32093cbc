-- What puts leave under a key.
use Rattle.std.proofs.Common.{reverse, find, ◌≡◌, ℕ, Bool, true, false, cond, List, [], ◌∷◌, Some, None, Option, refl, sym, ap, ◌∙◌}
use Rattle.std.specs.Option.{option_map_or, option_or}
use Rattle.std.specs.Str.{bytes_eq}
use Rattle.std.specs.Cmp.Lexicographic.{texts_ties}
use Rattle.std.proofs.lemmas.List.{reverse-append}
use Rattle.std.proofs.lemmas.List.Folds.{find-append}
use Rattle.std.proofs.lemmas.Cmp.{nat_list_cmp_total}
use Rattle.std.specs.FinMap.{get, insert, remove, get-insert, get-remove}
use Rattle.keeper.specs.declared.put.Put.{Put}
use Rattle.keeper.specs.Keepers.{KeptPairs, pairs_with, pairs_after, last_put}

-- what stands under a key after a put
put_under : (put : Put) (before : KeptPairs) (key : List ℕ) → get (pairs_with put before) key ≡ cond (bytes_eq key put.key) put.value (get before key)
put_under put before key = by put.value
  where
    by : (value : Option (List ℕ))
        → get (option_map_or (λ v. insert before put.key v) value (remove before put.key)) key ≡ cond (bytes_eq key put.key) value (get before key)
    by None = get-remove nat_list_cmp_total before put.key key ∙ ap (λ b. cond b None (get before key)) (sym (texts_ties key put.key))
    by (Some v) = get-insert nat_list_cmp_total before put.key v key ∙ ap (λ b. cond b (Some v) (get before key)) (sym (texts_ties key put.key))

abbrev is_of : List ℕ → Put → Bool
is_of key put = bytes_eq key put.key

-- the last of puts behind one more is the last of them, or that one
last_more : (key : List ℕ) (put : Put) (puts : List Put) → last_put key (put ∷ puts) ≡ option_or (last_put key puts) (find (is_of key) (put ∷ []))
last_more key put puts = ap (find (is_of key)) (reverse-append (put ∷ []) puts) ∙ find-append (is_of key) (reverse puts) (put ∷ [])

either : (last : Option Put) (put : Put) (b : Bool) (before : Option (List ℕ))
    → option_map_or (λ p. p.value) last (cond b put.value before) ≡ option_map_or (λ p. p.value) (option_or last (cond b (Some put) None)) before
either (Some p) put b before = refl
either None put true before = refl
either None put false before = refl

pub get_after : (puts : List Put) (before : KeptPairs) (key : List ℕ)
    → get (pairs_after puts before) key ≡ option_map_or (λ put. put.value) (last_put key puts) (get before key)
unfolding pairs_after
get_after [] before key = refl
get_after (put ∷ puts) before key =
    get_after puts (pairs_with put before) key
    ∙ ap (option_map_or (λ p. p.value) (last_put key puts)) (put_under put before key)
    ∙ either (last_put key puts) put (bytes_eq key put.key) (get before key)
    ∙ ap (λ last. option_map_or (λ p. p.value) last (get before key)) (sym (last_more key put puts))
