-- What a map ends as, once a `&mut` to one of its values has ended.
use Rattle.std.proofs.Common.{◌≡◌, ℕ, List, Some, None, Option, is_some, sym, ap, inl, inr}
use borrow.Follows.Closed.{read_of}
use Rattle.std.specs.Option.{ghost_name_of, option_copied_mut}
use Rattle.std.specs.Borrow.{MutBor}
use Rattle.std.specs.declared.cmp.Ordering.{Ordering}
use Rattle.std.specs.BTreeMap.{BTreeMap, get_by, WritesThrough}
use Rattle.std.specs.FinMap.{insert}
use Rattle.lake_base.specs.Maps.{byte_order}
use Rattle.byte_map.proofs.RowsLemmas.{seen, seen_insert}

module _ {K X : Type 0} (cmp : K → K → Ordering) (bytes : K → List ℕ) (law : (a b : K) → cmp a b ≡ byte_order (bytes a) (bytes b)) where
  -- the rows of m end as F w, where w is the last value behind r, and as n at `None`; so the map ends with w under the key
  pub lent : (r : Option (MutBor X)) (m n : BTreeMap K X) (k : K) (F : X → BTreeMap K X) → option_copied_mut r ≡ get_by (cmp k) m
      → ((w : X) → WritesThrough cmp (cmp k) m w (F w)) → n ≡ m
      → read_of (ghost_name_of r) (λ w. seen cmp bytes law (F w).entries) (seen cmp bytes law n.entries)
      ≡ read_of (ghost_name_of r) (insert (seen cmp bytes law m.entries) (bytes k)) (seen cmp bytes law m.entries)
  lent None m n k F value writes same = ap (λ (b : BTreeMap K X). inr (seen cmp bytes law b.entries)) same
  lent (Some x) m n k F value writes same =
      λ i. inl (x.ghost_name, λ w. seen_insert cmp bytes law m (F w) k w ((writes w).3 (sym (ap is_some value))) i)
