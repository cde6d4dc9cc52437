use Rattle.std.proofs.Common.{refl}
use Rattle.gv_natives.proofs.table.RowTable.find.Goals as goal

pub returns-in-Some-clause-found : goal.returns-in-Some-clause-found
returns-in-Some-clause-found g c = rw (← c.self.view_is, ← c.in-Some.ensures.place) refl

pub returns-in-None-clause-found : goal.returns-in-None-clause-found
returns-in-None-clause-found g c = rw (← c.self.view_is, ← c.in-None.ensures.place) c.place_of-in-None.ensures.place
