use Rattle.std.proofs.Common.{ap, sym, subst, ◌∙◌, min}
use Rattle.sat_trail.specs.Trail.{oldest}
use Rattle.sat_propagate.specs.Watches.{State, Keeps}
use Rattle.sat_propagate.proofs.Keeping.{headed, put_on}
use Rattle.sat_propagate.proofs.Steps.{oldest_min}
use Rattle.sat_propagate.proofs.watches.Watches.resume.Goals as goal

pub visit-requires-clause-keeps : goal.visit-requires-clause-keeps
visit-requires-clause-keeps c =
    let i = c.self.inside in
    let w : State = record { store = i.store; lists = i.lists; head = i.head; code = i.code; rest = i.rest.items } in
    let k : Keeps w c.args.trail.now = subst (λ z. Keeps z c.args.trail.now) (sym c.self.view_is) c.requires in
    headed w c.args.trail.now c.min-self-inside.result k
    (ap (λ n. oldest n c.args.trail.now) (c.min-self-inside.ensures ∙ ap (min i.head) c.len.ensures)
    ∙ oldest_min i.head c.args.trail.now)

pub returns-clause-keeps : goal.returns-clause-keeps
returns-clause-keeps c =
    let i = c.self.inside in
    let w : State = record { store = i.store; lists = i.lists; head = i.head; code = i.code; rest = i.rest.items } in
    let k : Keeps w c.args.trail.now = subst (λ z. Keeps z c.args.trail.now) (sym c.self.view_is) c.requires in
    let h : State = record {
      store = i.store;
      lists = i.lists;
      head = c.min-self-inside.result;
      code = i.code;
      rest = i.rest.items;
    } in
    put_on h c.args.trail.now c.put_back.new.self c.put_back.new.watches.items
    (headed w c.args.trail.now c.min-self-inside.result k
    (ap (λ n. oldest n c.args.trail.now) (c.min-self-inside.ensures ∙ ap (min i.head) c.len.ensures)
    ∙ oldest_min i.head c.args.trail.now))
    (sym c.is_false.ensures ∙ c.if-is_false.false) c.in_ok-put_back.ensures.none c.in_ok-put_back.ensures.lists
