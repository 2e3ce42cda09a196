use Rattle.fastbloom.proofs.atomic.AtomicBloomFilter.insert_in_turn.Goals as goal

pub returns : goal.returns
returns g c =
    rw (← c.self.view_is) (rw (c.lent.ensures) at c.insert_in_turn.ensures)
