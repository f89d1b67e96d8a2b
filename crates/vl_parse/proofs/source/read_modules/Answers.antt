-- A module more is read, or nothing is left.
use Rattle.std.proofs.Common.{◌≡◌, [], ◌∷◌, ◌++◌, length, sym, ◌∙◌, subst, arith}
use Rattle.std.specs.Prelude.{All}
use Rattle.vl_tree.specs.Phrase.{Spells, each}
use Rattle.vl_tree.specs.ItemSpelling.{spell_module}
use Rattle.vl_tree.specs.WellFormed.{IsModule}
use Rattle.vl_parse.proofs.SourceSpelled.{modules_pushed, modules_formed, modules_over, none_left}
use Rattle.vl_parse.proofs.source.read_modules.Goals as goal

pub loop-rest-preserved : goal.loop-rest-preserved
loop-rest-preserved c =
    let all = c.loop-rest.modules in
    let x = c.in_ok-module.module in
    let rest = c.in_ok-module.behind.now in
    let before = c.loop-rest.invariant in
    let added : c.add.new.items ≡ all ++ x ∷ [] = c.in_ok-add.ensures.added in
    record {
      found = subst (λ ms. Spells (each spell_module ms) c.args.tokens.now rest) (sym added)
          (modules_pushed all x c.args.tokens.now c.loop-rest.rest.now rest before.found c.in_ok-module.ensures.found);
      formed = subst (λ ms. All IsModule ms) (sym added)
          (modules_formed all x before.formed c.in_ok-module.ensures.formed);
      shorter = omega (arith, before.shorter, c.in_ok-module.ensures.shorter);
      goes = before.goes ∙ c.in_ok-module.ensures.goes;
    }

pub returns : goal.returns
returns c =
    let over : length c.loop-rest.rest.now ≡ 0 = grind (arith, c.is_empty.ensures, c.loop-rest-test.false) in
    record {
      found = subst (λ ts. Spells (each spell_module c.loop-rest.modules) c.args.tokens.now ts)
          (none_left c.loop-rest.rest.now over) c.loop-rest.invariant.found;
      formed = c.loop-rest.invariant.formed;
      goes = c.loop-rest.invariant.goes ∙ modules_over c.args.room c.loop-rest.rest.now over;
    }
