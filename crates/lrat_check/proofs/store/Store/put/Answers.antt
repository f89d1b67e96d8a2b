use Rattle.std.proofs.Common.{◌≡◌, ◌≤◌, ◌∷◌, ◌++◌, [], true, length, ap, ◌∙◌, arith}
use Rattle.lrat_check.specs.Codes.{codes_of}
use Rattle.lrat_check.specs.Store.{coded, next, above, with_code}
use Rattle.lrat_check.proofs.Rows.{lies_pushed, holds_pushed}
use Rattle.lrat_check.proofs.store.Store.put.Goals as goal

pub invariant_of-self-2 : goal.invariant_of-self-2
invariant_of-self-2 c =
    let all = c.self.inside.codes.items in
    let ids = c.self.inside.ids in
    let starts = c.self.inside.starts.items in
    let held = c.self.inside.held.items in
    let top = above c.self.inside.last in
    let more = codes_of c.args.lits.now in
    let start = c.in-Ok.start in
    let a : c.push_codes.new.codes.items ≡ all ++ more =
    c.push_codes.ensures ∙ ap (λ z. z ++ more) c.make_room.ensures.items in
    let b : c.push_reserved.new.self.items ≡ starts ++ start ∷ [] =
    c.push_reserved.ensures.items ∙ ap (λ z. z ++ start ∷ []) c.make_room-2.ensures.items in
    let m : c.push_reserved-2.new.self.items ≡ held ++ true ∷ [] =
    c.push_reserved-2.ensures.items ∙ ap (λ z. z ++ true ∷ []) c.make_room-3.ensures.items in
    let up : top ≤ c.args.id = omega (arith, c.requires.above, ap next c.self.view_is) in
    let s : start ≡ length all = c.in-Ok.ensures.1 ∙ c.len.ensures ∙ c.self.inside.codes.ok.0 in
    lies_pushed ids starts held all top c.args.id start c.self.invariant s up more c.push_codes.new.codes.items
    c.add.new.self c.push_reserved.new.self.items c.push_reserved-2.new.self.items a c.in_ok-add.ensures.ok b m

pub returns-clause-ok : goal.returns-clause-ok
returns-clause-ok c =
    let all = c.self.inside.codes.items in
    let ids = c.self.inside.ids in
    let starts = c.self.inside.starts.items in
    let held = c.self.inside.held.items in
    let top = above c.self.inside.last in
    let more = codes_of c.args.lits.now in
    let start = c.in-Ok.start in
    let a : c.push_codes.new.codes.items ≡ all ++ more =
    c.push_codes.ensures ∙ ap (λ z. z ++ more) c.make_room.ensures.items in
    let b : c.push_reserved.new.self.items ≡ starts ++ start ∷ [] =
    c.push_reserved.ensures.items ∙ ap (λ z. z ++ start ∷ []) c.make_room-2.ensures.items in
    let m : c.push_reserved-2.new.self.items ≡ held ++ true ∷ [] =
    c.push_reserved-2.ensures.items ∙ ap (λ z. z ++ true ∷ []) c.make_room-3.ensures.items in
    let up : top ≤ c.args.id = omega (arith, c.requires.above, ap next c.self.view_is) in
    let s : start ≡ length all = c.in-Ok.ensures.1 ∙ c.len.ensures ∙ c.self.inside.codes.ok.0 in
    holds_pushed ids starts held all top c.args.id start c.self.invariant s up more c.push_codes.new.codes.items
    c.add.new.self c.push_reserved.new.self.items c.push_reserved-2.new.self.items a c.in_ok-add.ensures.ok b m
    ∙ ap (λ s. with_code (coded s) c.args.id more) c.self.view_is
