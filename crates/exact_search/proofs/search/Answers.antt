use Rattle.exact_search.proofs.Searched.{small, searched-none, can-hand, searched-found}
use Rattle.exact_search.proofs.search.Goals as goal

pub bounds-levels-all : goal.bounds-levels-all
bounds-levels-all c = small c.requires c.all_items-all.result c.all_items-all.ensures

pub returns-then-levels-all : goal.returns-then-levels-all
returns-then-levels-all c =
    let all = c.all_items-all in
    let levels = c.rank-levels in
    searched-none c.requires all.result all.ensures levels.result levels.ensures c.if-levels-all.true

pub hand_out-requires : goal.hand_out-requires
hand_out-requires c =
    let all = c.all_items-all in
    let levels = c.rank-levels in
    can-hand c.requires all.result all.ensures levels.result levels.ensures c.if-levels-all.false

pub returns : goal.returns
returns c =
    let all = c.all_items-all in
    let levels = c.rank-levels in
    searched-found c.requires all.result all.ensures levels.result levels.ensures c.if-levels-all.false
    c.hand_out.result c.hand_out.ensures
