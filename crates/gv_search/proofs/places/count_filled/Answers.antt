use Rattle.std.proofs.Common.{arith}
use Rattle.gv_search.proofs.Found.{count_step, count_end, count_fits, count_places-le, shorter}
use Rattle.gv_search.proofs.places.count_filled.Goals as goal

pub loop-found-init : goal.loop-found-init
loop-found-init c = (c.utf8.text, omega arith)

pub overflow_add-count : goal.overflow_add-count
overflow_add-count c =
    let cut = rw (c.in-Some.is, c.new-finder.ensures, c.as_bytes.ensures.value) at c.cut_first.ensures in
    let more = count_fits c.loop-found.rest.now c.args.part.now c.utf8.part c.requires c.in-Some.field-0-0.now c.in-Some.found.now cut in
    let most = count_places-le c.args.text.now c.args.part.now c.utf8.part c.requires c.utf8.text in
    let all = c.loop-found.invariant.1 in
    let sizes = c.well_formed in
    omega arith

pub loop-found-smaller : goal.loop-found-smaller
loop-found-smaller c =
    let cut = rw (c.in-Some.is, c.new-finder.ensures, c.as_bytes.ensures.value) at c.cut_first.ensures in
    shorter c.loop-found.rest.now c.args.part.now c.utf8.part c.requires c.in-Some.field-0-0.now c.in-Some.found.now c.behind_first-rest.result.now cut.0 c.behind_first-rest.ensures.shorter

pub loop-found-preserved : goal.loop-found-preserved
loop-found-preserved c =
    let cut = rw (c.in-Some.is, c.new-finder.ensures, c.as_bytes.ensures.value) at c.cut_first.ensures in
    (c.behind_first-rest.utf8, count_step c.loop-found.rest.now c.args.part.now c.utf8.part c.requires c.in-Some.field-0-0.now c.in-Some.found.now c.behind_first-rest.result.now c.loop-found.count _ cut c.behind_first-rest.ensures.rest c.loop-found.invariant.1)

pub returns : goal.returns
returns c =
    let none = rw (c.in_default.is, c.new-finder.ensures, c.as_bytes.ensures.value) at c.cut_first.ensures in
    count_end c.loop-found.rest.now c.args.part.now c.utf8.part c.requires c.loop-found.count _ none c.loop-found.invariant.1
