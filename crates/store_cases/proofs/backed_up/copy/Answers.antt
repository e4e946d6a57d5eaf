use Rattle.store_cases.proofs.backed_up.copy.Goals as goal

pub copy_extents-requires-clause-there : goal.copy_extents-requires-clause-there
copy_extents-requires-clause-there c = rw c.deref.ensures.value c.in_ok-extents.ensures.there
