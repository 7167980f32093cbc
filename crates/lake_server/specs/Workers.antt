-- Workers that have served, each its own connections, over one lake.
use Rattle.std.specs.Prelude.{List, [], ◌∷◌, ⊤}
use Rattle.lake_server.specs.ServedConnections.{HasServed, WorkerView}

-- EACH WORKER HAS SERVED ITS CONNECTIONS, and there are as many workers as before, in the same order.
abbrev pub HaveServed : (old now : List WorkerView) → Type 0
HaveServed [] [] = ⊤
HaveServed (old ∷ others) (now ∷ more) = HasServed old now × HaveServed others more
HaveServed [] (now ∷ more) = ⊥
HaveServed (old ∷ others) [] = ⊥
