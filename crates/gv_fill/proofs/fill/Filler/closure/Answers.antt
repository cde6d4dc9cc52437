use Rattle.std.proofs.Common.{◌<◌, ◌≤◌, ◌-◌, length, rules}
use Rattle.gv_fill.proofs.Nodes.{its_place, of_none, read_closure}
use Rattle.gv_fill.proofs.Layers.{closure_unread_places, closure_unread_filled, closure_read_places, closure_read_filled}
use Rattle.gv_fill.proofs.fill.Filler.closure.Goals.{in-Unread, in-Read}
use Rattle.gv_fill.proofs.fill.Filler.closure.Goals as goal

pub body-requires : goal.body-requires
body-requires g c =
    let h = its_place (closure_unread_places c.in-Unread.is) in
    let a : c.in-Unread.from ≤ c.in-Unread.to = c.requires.within.ordered _ _ h in
    let b : c.in-Unread.to ≤ length c.args.self.now.tokens.now = c.requires.within.inside _ _ h in
    let d : length c.args.self.now.tokens.now - c.in-Unread.from < c.args.self.now.below = c.requires.within.fewer _ _ h in
    search (rules, c.requires.bodies.callable)

pub returns : goal.returns
returns g c = elim c.match-x.branch [
  | in-Unread w ↦ rw w.result-is (read_closure c.args.self.now.tokens.now w.body.result (closure_unread_places w.in-Unread.is) (closure_unread_filled w.in-Unread.is) (c.requires.bodies.reads _ _ _ _ _ _ _ w.body.ensures))
  | in-Read w ↦ rw (w.result-is, w.new.ensures) (of_none c.args.self.now.tokens.now (closure_read_places _ _ w.in-Read.is) (closure_read_filled _ _ w.in-Read.is))
]
