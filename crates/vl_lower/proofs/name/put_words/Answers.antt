use Rattle.std.specs.Prelude.{◌≡◌, refl, ◌+◌, ◌++◌, List, [], ◌∷◌, int_le, length, slice_index}
use Rattle.std.proofs.Common.{rules, ap, sym, ◌∙◌, arith}
use Rattle.vl_size.specs.Table.{span, word_name}
use Rattle.vl_mean.specs.Cells.{cells, cells_of}
use Rattle.vl_flow_cells.specs.Places.{index_at}
use Rattle.vl_flow_cells.proofs.Words.{words_length}
use Rattle.wn_net.specs.declared.names.NetName.{NetName}
use Rattle.vl_lower_cell_laws.specs.Entries.{node_entries}
use Rattle.vl_lower.proofs.Rest.{no_words_left, word_more, words_after, words_whole}
use Rattle.vl_lower.proofs.name.put_words.Goals as goal

pub loop-word-init : goal.loop-word-init
loop-word-init c =
    let d = c.args.decl.now in
    let none : c.args.first + 0 ≡ c.args.first = omega arith in
    (λ j. c.args.list.now ++ node_entries d c.args.nodes.now (none j) (words_after d.name (c.requires.words j) 0))
    ∙ ap (λ ts. c.args.list.now ++ node_entries d c.args.nodes.now c.args.first ts)
    (words_whole d.name (c.args.left, c.args.right)
    ∙ ap (λ w. cells_of d.name w) (sym c.requires.words))

pub loop-word-preserved : goal.loop-word-preserved
loop-word-preserved c =
    let d = c.args.decl.now in
    let up = int_le c.args.left c.args.right in
    let n = span c.args.left c.args.right in
    let count : c.cell_count-count.result ≡ n =
    c.cell_count-count.ensures.value ∙ ap (λ w. length (cells_of d.name w)) c.requires.words
    ∙ words_length d.name n up c.args.left in
    let text : c.in_ok-text.text ≡ word_name d.name (index_at up c.args.left c.loop-word.word) =
    search (rules, c.in_ok-text.ensures, c.index_at.ensures) in
    let whole : List NetName = c.args.list.now ++ node_entries d c.args.nodes.now c.args.first (cells d) in
    let so = ap (λ w. c.loop-word.list ++ node_entries d c.args.nodes.now (c.args.first + c.loop-word.word)
    (words_after d.name w c.loop-word.word)) (sym c.requires.words) ∙ c.loop-word.invariant in
    ap (λ w. c.push.new.self ++ node_entries d c.args.nodes.now (c.args.first + (c.loop-word.word + 1))
    (words_after d.name w (c.loop-word.word + 1))) c.requires.words
    ∙ word_more d c.args.nodes.now c.loop-word.list c.push.new.self whole c.args.first n c.loop-word.word
    (slice_index c.args.nodes.now (c.args.first + c.loop-word.word)) c.in_ok-text.text up c.args.left so
    (omega (arith, c.loop-word-test.true, count))
    text refl
    (c.in_ok-push.ensures.ok ∙ ap (λ x. c.loop-word.list ++ x ∷ []) c.node_entry.ensures)

pub returns : goal.returns
returns c =
    let d = c.args.decl.now in
    let up = int_le c.args.left c.args.right in
    let n = span c.args.left c.args.right in
    let count : c.cell_count-count.result ≡ n =
    c.cell_count-count.ensures.value ∙ ap (λ w. length (cells_of d.name w)) c.requires.words
    ∙ words_length d.name n up c.args.left in
    let so = ap (λ w. c.loop-word.list ++ node_entries d c.args.nodes.now (c.args.first + c.loop-word.word)
    (words_after d.name w c.loop-word.word)) (sym c.requires.words) ∙ c.loop-word.invariant in
    no_words_left d c.args.nodes.now c.loop-word.list
    (c.args.list.now ++ node_entries d c.args.nodes.now c.args.first (cells d)) c.args.first n c.loop-word.word up
    c.args.left so (omega (arith, c.loop-word-test.false, count))
