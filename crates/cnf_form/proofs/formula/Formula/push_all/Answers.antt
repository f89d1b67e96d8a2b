use Rattle.std.proofs.Common.{◌≡◌, ◌+◌, ◌<◌, ◌≤◌, ◌^◌, ◌++◌, length, arith, ap, sym, subst, ◌∙◌}
use Rattle.std.specs.List.{AllByRecursion}
use Rattle.cnf_form.specs.Flat.{clauses_from}
use Rattle.cnf_form.proofs.Joined.{shifted, fit, joined_of, joins, clauses_more}
use Rattle.cnf_form.proofs.formula.Formula.push_all.Goals as goal

pub push_starts-requires-clause-fits : goal.push_starts-requires-clause-fits
push_starts-requires-clause-fits c =
    let begun = c.other.inside.starts.items in
    let more = c.other.inside.literals.items in
    let o : length c.other.inside.literals.items ≡ c.len.result = sym (c.len.ensures ∙ c.other.inside.literals.ok.0) in
    let l : c.len-end.result + length more < 2 ^ 32 =
    omega (arith, o, c.if-saturating_add.false, c.saturating_add.ensures) in
    subst (λ s. AllByRecursion (λ start. c.len-end.result + start < 2 ^ 32) s) (sym c.deref-2.ensures.value)
    (fit begun (length more) c.len-end.result c.other.invariant.2.1 l)

pub invariant_of-self-2 : goal.invariant_of-self-2
invariant_of-self-2 c =
    let all = c.self.inside.literals.items in
    let starts = c.self.inside.starts.items in
    let more = c.other.inside.literals.items in
    let begun = c.other.inside.starts.items in
    let end = c.len-end.result in
    let a : c.extend_from_slice.new.self.items ≡ all ++ more =
    c.in_ok-extend_from_slice.ensures.items ∙ ap (λ z. all ++ z) c.deref.ensures.value in
    let e : end ≡ length all = c.len-end.ensures ∙ c.self.inside.literals.ok.0 in
    let p : c.push_starts.new.starts.items ≡ starts ++ shifted begun end =
    c.push_starts.ensures ∙ ap (λ z. z ++ shifted c.deref-2.result.now end) c.reserve.ensures.items
    ∙ ap (λ z. starts ++ shifted z end) c.deref-2.ensures.value in
    let v : c.other.inside.vars ≤ c.self.inside.vars =
    omega (arith, c.requires, ap (λ f. f.vars) c.self.view_is, ap (λ f. f.vars) c.other.view_is) in
    joins c.self.inside.vars all more starts begun end c.extend_from_slice.new.self.items
    c.push_starts.new.starts.items a e p
    (clauses_more c.other.inside.vars c.self.inside.vars (clauses_from more begun) v c.other.invariant.1)
    c.other.invariant.2 c.self.invariant

pub returns-clause-ok : goal.returns-clause-ok
returns-clause-ok c =
    let all = c.self.inside.literals.items in
    let starts = c.self.inside.starts.items in
    let more = c.other.inside.literals.items in
    let begun = c.other.inside.starts.items in
    let end = c.len-end.result in
    let a : c.extend_from_slice.new.self.items ≡ all ++ more =
    c.in_ok-extend_from_slice.ensures.items ∙ ap (λ z. all ++ z) c.deref.ensures.value in
    let e : end ≡ length all = c.len-end.ensures ∙ c.self.inside.literals.ok.0 in
    let p : c.push_starts.new.starts.items ≡ starts ++ shifted begun end =
    c.push_starts.ensures ∙ ap (λ z. z ++ shifted c.deref-2.result.now end) c.reserve.ensures.items
    ∙ ap (λ z. starts ++ shifted z end) c.deref-2.ensures.value in
    joined_of all more starts begun end c.extend_from_slice.new.self.items c.push_starts.new.starts.items a e p
    c.self.invariant.2.1 c.other.invariant.2.0
    ∙ ap (λ f. f.clauses ++ clauses_from more begun) c.self.view_is
    ∙ ap (λ f. c.args.self.now.clauses ++ f.clauses) c.other.view_is
