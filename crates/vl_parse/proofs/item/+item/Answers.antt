use Rattle.std.proofs.Common.{◌≡◌, ℕ, ◌<◌, ◌∷◌, refl, sym, ap, ◌∙◌, subst, rules, arith}
use Rattle.std.proofs.lemmas.Grind.{common_steps}
use Rattle.fv_text.specs.declared.kind.Kind.TheVariants as k
use Rattle.fv_text.specs.declared.keyword.Keyword.{Keyword}
use Rattle.fv_text.specs.declared.keyword.Keyword.TheVariants as w
use Rattle.vl_tree.specs.Phrase.{Spells, word}
use Rattle.vl_tree.specs.Item.{items}
use Rattle.vl_tree.specs.ItemSpelling.{spell, spell_all}
use Rattle.vl_tree.specs.ItemView.{block}
use Rattle.vl_parse_grammar.specs.Machine.{then}
use Rattle.vl_parse.specs.declared.reading.Ending.{Ending}
use Rattle.vl_parse.specs.Items.{word_of, innermost, still, AreOpen}
use Rattle.vl_parse_cursor.specs.Next.{kinds_in, IsOther}
use Rattle.vl_parse.proofs.ItemSpelled.{for_found, if_found, if_else_found}
use Rattle.vl_parse.proofs.ItemsSpelled.{inner_word, still_more, still_closed}
use Rattle.vl_parse.proofs.item.+item.Goals as goal

pub read_for-returns-clause-found : goal.read_for-returns-clause-found
read_for-returns-clause-found n c start here word =
    subst (λ x. Spells (spell x) start c.in_ok-body.rest.now) (sym c.bare.ensures)
    (for_found c.in_ok-head.head
    (block c.in_ok-body.body) c.args.pos start c.args.tokens.now c.in_ok-head.rest.now c.in_ok-body.rest.now here
    word
    c.in_ok-head.ensures.found c.in_ok-body.ensures.found)

pub read_if-returns-in-None-clause-found : goal.read_if-returns-in-None-clause-found
read_if-returns-in-None-clause-found n c start here word =
    subst (λ x. Spells (spell x) start c.in_ok-first.rest.now) (sym c.bare.ensures)
    (if_found c.in_ok-condition.condition
    (block c.in_ok-first.first) c.args.pos start c.args.tokens.now c.in_ok-condition.rest.now c.in_ok-first.rest.now
    here word c.in_ok-condition.ensures.found c.in_ok-first.ensures.found)

pub read_if-returns-in_ok-second-in-Some-clause-found : goal.read_if-returns-in_ok-second-in-Some-clause-found
read_if-returns-in_ok-second-in-Some-clause-found n c start here word =
    subst (λ x. Spells (spell x) start c.in_ok-second-in-Some.rest.now) (sym c.bare-in-Some.ensures)
    (if_else_found c.in_ok-condition.condition (block c.in_ok-first.first)
    (block c.in_ok-second-in-Some.second) c.args.pos start c.args.tokens.now
    c.in_ok-condition.rest.now c.in_ok-first.rest.now c.in-Some.rest.now c.in_ok-second-in-Some.rest.now here word
    c.in_ok-condition.ensures.found
    c.in_ok-first.ensures.found c.in-Some.ensures.found c.in_ok-second-in-Some.ensures.found)

-- the word that ends a region that is still open
word_inside : (m : ℕ) (outer inner : Ending) (found : Keyword) → inner ≡ innermost m outer → found ≡ word_of inner
    → 0 < m → found ≡ w.Endgenerate
word_inside m outer inner found e f h = f ∙ ap word_of e ∙ inner_word m outer h

pub read_items-loop-behind-init : goal.read_items-loop-behind-init
read_items-loop-behind-init n c =
    let tokens = c.args.tokens.now in
    record {
      found = subst (λ xs. Spells (spell_all (items xs)) tokens tokens) (sym c.new.ensures) refl;
      formed = subst (λ xs. AreOpen xs 0) (sym c.new.ensures) (refl, tt);
      shorter = omega arith;
      goes = refl;
    }

pub read_items-loop-behind-preserved-in-Some : goal.read_items-loop-behind-preserved-in-Some
read_items-loop-behind-preserved-in-Some n c =
    let regions = c.loop-behind.reading.regions in
    let outer = c.args.ending in
    let room = c.args.room in
    let rest = c.loop-behind.rest.now in
    let behind = c.in-Some.behind.now in
    let some : 0 < regions = grind (arith, common_steps) in
    let same = word_inside regions outer c.ending.result c.word.result c.ending.ensures c.word.ensures some in
    record {
      found = c.in_ok-reading.ensures.found c.args.tokens.now rest behind c.loop-behind.invariant.found
          c.in_ok-pos.ensures.here
          (subst (λ q. Spells (word q) rest behind) same c.in-Some.ensures.found);
      formed = c.in_ok-reading.ensures.formed;
      shorter = omega (arith, c.loop-behind.invariant.shorter, c.in-Some.ensures.shorter);
      goes = c.loop-behind.invariant.goes
          ∙ ap (λ ts. still regions outer room ts)
          (c.in-Some.ensures.read ∙ ap (λ q. k.Keyword q ∷ kinds_in behind) same)
          ∙ still_closed c.in_ok-reading.reading.regions regions outer room
          (kinds_in behind) c.in_ok-reading.ensures.regions;
    }

pub read_items-loop-behind-preserved : goal.read_items-loop-behind-preserved
read_items-loop-behind-preserved n c =
    let regions = c.loop-behind.reading.regions in
    let outer = c.args.ending in
    let room = c.args.room in
    let rest = c.loop-behind.rest.now in
    let behind = c.in_ok-front.behind.now in
    let none : IsOther (k.Keyword c.word.result) (kinds_in rest) = search rules in
    record {
      found = c.in_ok-reading-2.ensures.found c.args.tokens.now rest behind c.loop-behind.invariant.found
          c.in_ok-front.ensures.found;
      formed = c.in_ok-reading-2.ensures.formed;
      shorter = omega (arith, c.loop-behind.invariant.shorter, c.in_ok-front.ensures.shorter);
      goes = c.loop-behind.invariant.goes
          ∙ still_more regions outer room (kinds_in rest)
          (subst (λ q. IsOther (k.Keyword q) (kinds_in rest)) (c.word.ensures ∙ ap word_of c.ending.ensures) none)
          ∙ ap (λ o. then o (λ r. still regions outer room r)) c.in_ok-front.ensures.goes
          ∙ c.in_ok-reading-2.ensures.goes outer room (kinds_in behind);
    }
