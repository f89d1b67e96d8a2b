use Rattle.std.proofs.Common.{◌++◌, ◌∙◌, ap, sym, not}
use Rattle.std.specs.List.{filter, position}
use Rattle.std.proofs.lemmas.List.{append-nil}
use Rattle.ck_cfg.specs.Checks.{is_named}
use Rattle.ck_cfg.proofs.Lists.{taken, none_left}
use Rattle.ck_cfg.proofs.sort.move_named.Goals as goal

pub loop-index-preserved : goal.loop-index-preserved
loop-index-preserved c =
    let t = taken (is_named c.args.name.now) c.loop-index.rest.items c.in-Some.index c.remove.result
    c.loop-index.front.items c.push.new.self.items c.remove.new.self.items
    (c.in-Some.ensures ∙ ap (position (is_named c.args.name.now)) c.as_slice.ensures.value)
    c.remove.ensures.value
    c.in_ok-push.ensures.items
    c.remove.ensures.items
    (c.args.front.now.items ++ filter (is_named c.args.name.now) c.args.rest.now.items)
    (filter (λ y. not (is_named c.args.name.now y)) c.args.rest.now.items)
    c.loop-index.invariant.moved
    c.loop-index.invariant.left in
    record { moved = t.0; left = t.1 }

pub returns-clause-front : goal.returns-clause-front
returns-clause-front c =
    let n = none_left (is_named c.args.name.now) c.loop-index.rest.items
    (c.in_default.ensures ∙ ap (position (is_named c.args.name.now)) c.as_slice.ensures.value) in
    sym (append-nil c.loop-index.front.items) ∙ ap (λ t. c.loop-index.front.items ++ t) (sym n.0)
    ∙ c.loop-index.invariant.moved

pub returns-clause-rest : goal.returns-clause-rest
returns-clause-rest c =
    let n = none_left (is_named c.args.name.now) c.loop-index.rest.items
    (c.in_default.ensures ∙ ap (position (is_named c.args.name.now)) c.as_slice.ensures.value) in
    sym n.1 ∙ c.loop-index.invariant.left
