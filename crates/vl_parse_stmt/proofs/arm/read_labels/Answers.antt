-- Behind a comma comes one label more.
use Rattle.std.proofs.Common.{◌≡◌, [], ◌∷◌, ◌++◌, sym, ap, ◌∙◌, subst, arith}
use Rattle.vl_tree.specs.DeclarationWellFormed.{AreSome}
use Rattle.vl_tree.specs.Phrase.{Spells, between_commas}
use Rattle.vl_tree.specs.StmtSpelling as spec
use Rattle.vl_tree.specs.StmtWellFormed as formed
use Rattle.vl_parse_grammar.specs.Machine.{then}
use Rattle.vl_parse_grammar.specs.Grammar as grammar
use Rattle.vl_parse_cursor.specs.Next.{kinds_in}
use Rattle.vl_parse_stmt.proofs.ArmRows.{labels_comma}
use Rattle.vl_parse_decl.proofs.ListLaws.{between_pushed, some_pushed}
use Rattle.vl_parse_stmt.proofs.arm.read_labels.Goals as goal

pub loop-behind-preserved : goal.loop-behind-preserved
loop-behind-preserved c =
    let all = c.loop-behind.all in
    let x = c.in_ok-label.label in
    let rest = c.in_ok-label.behind.now in
    let before = c.loop-behind.invariant in
    let added : c.add-in-Some.new.items ≡ all ++ x ∷ [] = c.in_ok-add-2.ensures.added in
    record {
      found = subst (λ xs. Spells (between_commas spec.spell_one_label xs) c.args.tokens.now rest) (sym added)
          (between_pushed spec.spell_one_label all x c.args.tokens.now c.loop-behind.rest.now c.in-Some.behind.now
          rest before.formed.0 before.found
          c.in-Some.ensures.found c.in_ok-label.ensures.found);
      formed = subst (λ xs. AreSome (λ e. formed.IsLabel c.args.kind e) xs) (sym added)
          (some_pushed (λ e. formed.IsLabel c.args.kind e) all x before.formed c.in_ok-label.ensures.formed);
      shorter = omega (arith, before.shorter, c.in-Some.ensures.shorter, c.in_ok-label.ensures.shorter);
      goes = before.goes
          ∙ ap (λ ts. grammar.read (grammar.labels c.args.kind) c.args.room ts) c.in-Some.ensures.read
          ∙ labels_comma c.args.kind c.args.room (kinds_in c.in-Some.behind.now)
          ∙ ap (λ o. then o (λ r. grammar.read (grammar.labels c.args.kind) c.args.room r)) c.in_ok-label.ensures.goes;
    }
