use Rattle.std.proofs.Common.{◌∙◌, ap, subst, sym}
use Rattle.std.specs.Prelude.{◌++◌, ◌∷◌, [], length, ◌<◌, ◌^◌, ◌-◌, List}
use Rattle.vl_size.specs.declared.decl.Decl.{Decl}
use Rattle.vl_size.specs.Table.{is_declared, AreApart}
use Rattle.vl_size.proofs.Entries.{lookup-fresh, table-append, table-after}
use Rattle.vl_size.proofs.decls.Decls.push.Goals as goal

pub put-requires : goal.put-requires
put-requires c =
    lookup-fresh c.in-Ok.key.items c.self.inside.map.entries c.self.invariant.keyed
    (ap (λ ds. is_declared ds c.in-Ok.key.items) c.self.view_is
    ∙ ap (λ n. is_declared c.args.self.now n) (c.in-Ok.ensures.items ∙ c.bytes.ensures) ∙ c.requires.fresh)

pub invariant_of-self : goal.invariant_of-self
invariant_of-self c =
    let P : List Decl → Type 0 = λ ds. AreApart (ds ++ c.args.decl ∷ []) in
    let Q : List Decl → Type 0 = λ ds. length ds < 2 ^ 32 - 1 in
    table-after c.put.result c.self.inside.map.entries c.put.new.map.entries
    (c.in-Ok.key, c.args.decl) c.put.ensures.ok c.put.ensures.err
    c.self.invariant
    (table-append c.self.inside.map.entries c.in-Ok.key c.args.decl c.self.invariant
    (c.in-Ok.ensures.items ∙ c.bytes.ensures) c.requires.shaped
    (subst P (sym c.self.view_is) c.requires.apart) (subst Q (sym c.self.view_is) c.requires.few))
