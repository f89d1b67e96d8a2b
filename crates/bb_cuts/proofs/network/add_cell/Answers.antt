use Rattle.std.specs.Prelude.{◌≡◌, Option, ℕ, List, IfSome, length}
use Rattle.std.proofs.Common.{ap, sym, subst, ◌∙◌}
use Rattle.bb_cuts.specs.Variables.{AreNamed, IsTable}
use Rattle.bb_cuts.proofs.Standing.{told_next}
use Rattle.bb_cuts.proofs.network.add_cell.Goals as goal

pub returns-clause-told : goal.returns-clause-told
returns-clause-told c = λ done told.
    let graph = c.args.aig.now in
    let nodes = c.args.nodes.now.items in
    let cell = c.args.cell.now in
    let cover = c.in-Some-cover.cover.now in
    let vars = c.in-Some-named.vars in
    let T : Option (ℕ × ℕ) → Type 0 = λ o. IfSome o (λ t. IsTable graph cell.leaves cell.node t.0) in
    let table = subst T c.in-Some.is c.in_ok-table.ensures in
    let N : List ℕ → Type 0 = λ ns. AreNamed ns vars cell.leaves in
    let named = subst N c.as_slice.ensures.value c.in-Some-named.ensures in
    let place : c.len-var.result ≡ length nodes =
    c.len-var.ensures ∙ sym c.as_slice.ensures.len ∙ ap length c.as_slice.ensures.value in
    told_next graph nodes c.push.new.self.items c.args.formula.now.clauses c.push_covers.new.formula.clauses vars
    cell.leaves c.len-var.result cell.node c.in-Some.table cover.on.items cover.off.items named table
    c.if-not-covers_table.ensures place c.in_ok-push.ensures.items c.in_ok-push_covers.ensures.clauses told
