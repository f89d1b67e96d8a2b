use Rattle.std.proofs.Common.{sym, ◌∙◌, ap, subst, arith}
use Rattle.std.specs.Prelude.{length, ◌<◌, ◌^◌, List}
use Rattle.std.proofs.lemmas.List.{length-map}
use Rattle.vl_size.specs.declared.decl.Decl.{Decl}
use Rattle.vl_size.specs.Entries.{Entry}
use Rattle.vl_size.specs.Table.{AreDifferent}
use Rattle.vl_size.proofs.Entries.{different}
use Rattle.vl_size.proofs.decls.Decls.len.Goals as goal

pub returns-clause-value : goal.returns-clause-value
returns-clause-value c =
    c.len.ensures.len ∙ sym (length-map c.self.inside.map.entries (λ (e : Entry). e.1)) ∙ ap length c.self.view_is

pub returns-clause-few : goal.returns-clause-few
returns-clause-few c =
    let l = length-map c.self.inside.map.entries (λ (e : Entry). e.1) in
    let P : List Decl → Type 0 = λ ds. length ds < 2 ^ 32 in
    subst P c.self.view_is (omega (arith, l, c.self.invariant.short))

pub returns-clause-different : goal.returns-clause-different
returns-clause-different c =
    subst AreDifferent c.self.view_is (different c.self.inside.map.entries c.self.invariant.keyed c.len.ensures.unique)
