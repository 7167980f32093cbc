-- What a map ends as, where a `&mut` to one of its values is returned.
use Rattle.std.specs.Prelude.{ℕ, Bool, List, Option}
use Rattle.std.specs.Borrow.{LendsIf, Fml, RattleType, MutBor}
use Rattle.std.specs.FinMap.{insert}
use Rattle.std.specs.declared.cmp.Ordering.{Ordering}
use Rattle.lake_base.specs.Maps.{ByteMap}
use Rattle.byte_map.specs.contracts.rows.ByteMap.{the_row}

-- what a clause has as K.ByteKey
abbrev pub KeyMembers : Type 0 → Type 0
KeyMembers K = record { partial_cmp : K → K → Option Ordering; eq : K → K → Bool; cmp : K → K → Ordering; bytes : K → List ℕ }

-- the map's type, as the logic holds it
abbrev pub map_row : (K V : RattleType) → KeyMembers K.Denot → RattleType
map_row K V key = the_row K V (record { bytes = key.bytes }) (record { cmp = key.cmp }) (record { eq = key.eq }) (record { partial_cmp = key.partial_cmp })

-- once the borrow r ends, the key has the last value written through r; at `None` the map stays as it is
abbrev pub LendsValue : (K V : RattleType) → KeyMembers K.Denot → MutBor (ByteMap V.Denot) → List ℕ → Option (MutBor V.Denot) → Fml
LendsValue K V members m key r = LendsIf (map_row K V members) V m r (insert m.now key) m.now
