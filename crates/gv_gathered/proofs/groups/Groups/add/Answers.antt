use Rattle.std.proofs.Common.{◌∙◌, ap, sym}
use Rattle.gv_gathered.specs.Groups.{with_member}
use Rattle.gv_gathered.proofs.Growing.{add_known}
use Rattle.gv_gathered.proofs.groups.Groups.add.Goals as goal
use Rattle.gv_gathered.proofs.groups.Groups.add.Goals.{in-Text-3, in-GText-3, in-Null-3}

pub returns-in_ok-push-in-Some : goal.returns-in_ok-push-in-Some
returns-in_ok-push-in-Some c =
    let known = add_known c.self.inside.map.entries _ c.args.key c.args.shown c.args.element c.in-Some.members.now c.push.new.self (sym c.in-Some.ensures.value) c.in_ok-push-in-Some.ensures.ok (c.get_mut.follows.holds _).0 in
    let all = known ∙ ap (λ groups. with_member groups c.args.key c.args.shown c.args.element) c.self.view_is in
    elim c.match-key-2.branch [ in-Text-3 w ↦ w.self-is ∙ all | in-GText-3 w ↦ w.self-is ∙ all | in-Null-3 w ↦ w.self-is ∙ all ]
