use Rattle.std.proofs.Common.{◌≡◌, [], ◌∷◌, ◌++◌, length, ap, sym, subst, ◌∙◌}
use Rattle.cnf_form.specs.Cnf.{AreLiterals}
use Rattle.cnf_form.proofs.Pushed.{pushed_of, pushes}
use Rattle.cnf_form.proofs.formula.Formula.push.Goals as goal

pub invariant_of-self-2 : goal.invariant_of-self-2
invariant_of-self-2 c =
    let all = c.self.inside.literals.items in
    let starts = c.self.inside.starts.items in
    let lits = c.args.lits.now in
    let a : c.extend_from_slice.new.self.items ≡ all ++ lits = c.in_ok-extend_from_slice.ensures.items in
    let s : c.in-Ok.start ≡ length all = c.in-Ok.ensures.1 ∙ c.len.ensures ∙ c.self.inside.literals.ok.0 in
    let b : c.push_reserved.new.self.items ≡ starts ++ c.in-Ok.start ∷ [] =
    c.push_reserved.ensures.items ∙ ap (λ z. z ++ c.in-Ok.start ∷ []) c.reserve.ensures.items in
    let l : AreLiterals c.self.inside.vars lits = subst (λ f. AreLiterals f.vars lits) (sym c.self.view_is) c.requires in
    pushes c.self.inside.vars all lits starts c.in-Ok.start c.extend_from_slice.new.self.items
    c.push_reserved.new.self.items a s b l c.self.invariant

pub returns-clause-ok : goal.returns-clause-ok
returns-clause-ok c =
    let all = c.self.inside.literals.items in
    let starts = c.self.inside.starts.items in
    let lits = c.args.lits.now in
    let a : c.extend_from_slice.new.self.items ≡ all ++ lits = c.in_ok-extend_from_slice.ensures.items in
    let s : c.in-Ok.start ≡ length all = c.in-Ok.ensures.1 ∙ c.len.ensures ∙ c.self.inside.literals.ok.0 in
    let b : c.push_reserved.new.self.items ≡ starts ++ c.in-Ok.start ∷ [] =
    c.push_reserved.ensures.items ∙ ap (λ z. z ++ c.in-Ok.start ∷ []) c.reserve.ensures.items in
    pushed_of all lits starts c.in-Ok.start c.extend_from_slice.new.self.items c.push_reserved.new.self.items a s b
    c.self.invariant.2.1
    ∙ ap (λ f. f.clauses ++ lits ∷ []) c.self.view_is
