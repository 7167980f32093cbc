use Rattle.turn_lock.proofs.turn.Turn.with_change.Given as goal

-- the list of the value that is stored
abbrev pub ghosts-store_length : goal.ghosts-store_length
ghosts-store_length g a = record { next_list = g.S.Standing.list a._value.now }
