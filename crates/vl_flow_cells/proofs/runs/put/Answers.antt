use Rattle.std.proofs.Common.{rules, ◌≡◌, ◌++◌, ◌∷◌, [], ap, sym, ◌∙◌, ◌||◌}
use Rattle.vl_flow_cells.specs.Numbered.{any_takes, some_takes}
use Rattle.vl_flow_cells.proofs.RunLists.{any_more}
use Rattle.vl_flow_cells.proofs.runs.put.Goals as goal

pub returns-else-is_err : goal.returns-else-is_err
returns-else-is_err c x i =
    let runs = c.args.runs.now.items in
    let items : c.push.new.self.items ≡ runs ++ c.in-Some.run' ∷ [] = search rules in
    ap (λ rs. any_takes rs x i) items ∙ any_more runs c.in-Some.run' x i
    ∙ ap (λ o. any_takes runs x i || some_takes o x i) (sym c.in-Some.is)
