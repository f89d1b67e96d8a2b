-- Behind a comma comes one element more.
use Rattle.std.proofs.Common.{◌≡◌, [], ◌∷◌, ◌++◌, sym, ap, ◌∙◌, subst, arith}
use Rattle.vl_tree.specs.DeclarationWellFormed.{AreSome}
use Rattle.vl_tree.specs.Phrase.{Spells, between_commas}
use Rattle.vl_parse_grammar.specs.Machine.{then}
use Rattle.vl_parse_grammar.specs.Grammar as grammar
use Rattle.vl_parse_decl.specs.Lists.{BeginsWith}
use Rattle.vl_parse_cursor.specs.Next.{kinds_in}
use Rattle.vl_parse_decl.proofs.ListLaws.{between_pushed, begins_pushed, some_pushed}
use Rattle.vl_parse_decl.proofs.list.read_list_behind.Goals as goal

pub loop-behind-preserved : goal.loop-behind-preserved
loop-behind-preserved g c =
    let T = g.T.Element in
    let all = c.loop-behind.all in
    let x = c.in_ok-element.element in
    let rest = c.in_ok-element.behind.now in
    let before = c.loop-behind.invariant in
    let added : c.add-in-Some.new.items ≡ all ++ x ∷ [] = c.in_ok-add-2.ensures.added in
    record {
      found = λ start h. subst (λ xs. Spells (between_commas T.phrase xs) start rest) (sym added)
          (between_pushed T.phrase all x start c.loop-behind.rest.now c.in-Some.behind.now rest before.formed.0
          (before.found start h)
          c.in-Some.ensures.found c.in_ok-element.ensures.found);
      first = subst (λ xs. BeginsWith c.args.first xs) (sym added) (begins_pushed c.args.first all x before.first);
      formed = subst (λ xs. AreSome T.fits xs) (sym added)
          (some_pushed T.fits all x before.formed c.in_ok-element.ensures.formed);
      shorter = omega (arith, before.shorter, c.in-Some.ensures.shorter, c.in_ok-element.ensures.shorter);
      goes = before.goes
          ∙ ap (λ ts. grammar.read T.tail c.args.room ts) c.in-Some.ensures.read
          ∙ g.met.T.Element.comma c.args.room (kinds_in c.in-Some.behind.now)
          ∙ ap (λ o. then o (λ r. grammar.read T.tail c.args.room r)) c.in_ok-element.ensures.goes;
    }
