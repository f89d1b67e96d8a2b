use Rattle.std.proofs.Common.{◌∙◌, ap, sym, subst}
use Rattle.std.specs.Prelude.{All, IfSome, Option, List}
use Rattle.vl_size.proofs.Entries.{named-keyed, named_shaped}
use Rattle.vl_size.specs.declared.decl.Decl.{Decl}
use Rattle.vl_size.specs.Entries.{decls_of}
use Rattle.vl_size.specs.Table.{declared_as, IsShaped}
use Rattle.vl_size.proofs.decls.Decls.named.Goals as goal

pub returns-clause-value : goal.returns-clause-value
returns-clause-value c =
    c.get.ensures.value ∙ named-keyed c.bytes.result.now c.self.inside.map.entries c.self.invariant.keyed
    ∙ ap (λ n. declared_as (decls_of c.self.inside.map.entries) n) c.bytes.ensures
    ∙ ap (λ ds. declared_as ds c.args.name.now) c.self.view_is

pub returns-clause-shaped : goal.returns-clause-shaped
returns-clause-shaped c =
    let P : Option Decl → Type 0 = λ r. IfSome r IsShaped in
    let Q : List Decl → Type 0 = λ ds. All IsShaped ds in
    subst P (sym (returns-clause-value c)) (named_shaped c.args.name.now c.args.self.now
    (subst Q c.self.view_is c.self.invariant.shaped))
