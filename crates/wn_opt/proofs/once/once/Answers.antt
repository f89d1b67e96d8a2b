use Rattle.std.proofs.Common.{refl, sym, ◌∙◌}
use Rattle.wn_opt.proofs.Onces.{adds_added, adds_found, once_added, once_found, shows_added, shows_found}
use Rattle.wn_opt.proofs.once.once.Goals as goal

pub returns-in-Some-clause-once : goal.returns-in-Some-clause-once
returns-in-Some-clause-once c =
    once_found c.args.net.now c.args.net.now c.args.table.now c.args.node c.in-Some.id c.requires.table
    (sym c.find.ensures ∙ c.in-Some.is) refl

pub returns-in-Some-clause-shows : goal.returns-in-Some-clause-shows
returns-in-Some-clause-shows c =
    shows_found c.args.net.now c.args.net.now c.args.table.now c.args.node c.in-Some.id c.requires.table
    (sym c.find.ensures ∙ c.in-Some.is) refl c.whole.ensures

pub returns-in-Some-clause-adds : goal.returns-in-Some-clause-adds
returns-in-Some-clause-adds c =
    adds_found c.args.net.now c.args.net.now c.args.table.now c.args.node c.in-Some.id c.requires.table
    (sym c.find.ensures ∙ c.in-Some.is) refl

pub add-requires-clause-absent : goal.add-requires-clause-absent
add-requires-clause-absent c = sym c.find.ensures ∙ c.in-None.is

pub returns-in_ok-add-in-None-clause-once : goal.returns-in_ok-add-in-None-clause-once
returns-in_ok-add-in-None-clause-once c =
    once_added c.args.net.now c.add.new.net c.args.table.now c.args.node c.in_ok-add-in-None.field-0 c.requires.table
    c.requires.operator (sym c.find.ensures ∙ c.in-None.is) c.in_ok-add-in-None.ensures.last
    c.in_ok-add-in-None.ensures.new

pub returns-in_ok-add-in-None-clause-shows : goal.returns-in_ok-add-in-None-clause-shows
returns-in_ok-add-in-None-clause-shows c =
    shows_added c.args.net.now c.add.new.net c.args.table.now c.args.node c.in_ok-add-in-None.field-0 c.requires.table
    c.requires.operator (sym c.find.ensures ∙ c.in-None.is) c.in_ok-add-in-None.ensures.last
    c.in_ok-add-in-None.ensures.new

pub returns-in_ok-add-in-None-clause-adds : goal.returns-in_ok-add-in-None-clause-adds
returns-in_ok-add-in-None-clause-adds c =
    adds_added c.args.net.now c.add.new.net c.args.table.now c.args.node c.in_ok-add-in-None.field-0 c.requires.table
    c.requires.operator (sym c.find.ensures ∙ c.in-None.is) c.in_ok-add-in-None.ensures.last
    c.in_ok-add-in-None.ensures.new
