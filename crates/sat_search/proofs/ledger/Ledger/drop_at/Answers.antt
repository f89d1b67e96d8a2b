use Rattle.std.proofs.Common.{◌≡◌, ◌-◌, ◌<◌, ◌≤◌, ◌∙◌, ◌||◌, [], ◌∷◌, ◌++◌, vec_len, length, refl, ap, sym, subst}
use Rattle.std.proofs.Common.{arith}
use Rattle.lrat_check.specs.declared.step.Step.TheVariants.{Delete}
use Rattle.lrat_check.specs.Sets.{same_set}
use Rattle.sat_trail.specs.Known.{contains}
use Rattle.sat_search.specs.Ledger.{State, IsLedger, StaysTold}
use Rattle.sat_search.proofs.Dropping.{stays_told}
use Rattle.sat_search.proofs.Places.{takes_out, found}
use Rattle.sat_search.proofs.ledger.Ledger.drop_at.Goals as goal

pub returns-clause-told : goal.returns-clause-told
returns-clause-told c =
    let i = c.self.inside in
    let s : State = record {
      clauses = i.clauses;
      ids = i.ids.items;
      first = i.first;
      top = i.top;
      steps = i.steps;
      dropped = i.dropped;
    } in
    let k : IsLedger s = subst IsLedger (sym c.self.view_is) c.requires.ledger in
    let p = c.args.place in
    let n = length i.clauses - 1 in
    let id = c.swap_remove-id.result in
    let gone = c.in-Some.clause in
    let within : p < length i.clauses =
    subst (λ z. p < length z.clauses) (sym c.self.view_is) c.requires.within in
    let many = k.3.holds.many in
    let here : p < length i.ids.items = omega (arith, within, many) in
    let x = takes_out p n (vec_len i.ids) (vec_len c.swap_remove-id.new.self) i.ids.items c.swap_remove-id.new.self.items
    i.ids.ok.0 c.swap_remove-id.new.self.ok.0 c.swap_remove-id.ensures.len (omega (arith, within, many))
    c.swap_remove-id.ensures.by_index in
    let t = c.in-Some.ensures in
    let y = takes_out p n (length i.clauses) (length c.swap_remove.new.self) i.clauses
    c.swap_remove.new.self refl refl t.many (omega (arith, within)) t.by_place in
    let ids_are : c.from_vec.result ≡ id ∷ [] =
    c.from_vec.ensures ∙ c.in_ok-push.ensures.items ∙ ap (λ z. z ++ id ∷ []) c.in_ok-ids.ensures.items in
    subst (λ z. StaysTold z (record {
      clauses = c.swap_remove.new.self;
      ids = c.swap_remove-id.new.self.items;
      first = i.first;
      top = i.top;
      steps = c.push-2.new.self;
      dropped = c.insert.new.self;
    })) c.self.view_is
    (stays_told s c.swap_remove.new.self c.swap_remove-id.new.self.items c.insert.new.self p n id gone
    (omega (arith, within)) (subst (λ z. z.first ≤ p) (sym c.self.view_is) c.requires.learnt) x y
    (found i.ids.items p id here c.swap_remove-id.ensures.value)
    (found i.clauses p gone within t.is)
    (λ d. c.in_ok-insert.ensures d ∙ ap (λ z. same_set d z || contains i.dropped d) c.as_slice.ensures)
    c.push-2.new.self
    (c.in_ok-push-2.ensures.ok ∙ ap (λ z. i.steps ++ Delete i.top z ∷ []) ids_are))
