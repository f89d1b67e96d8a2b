use Rattle.std.specs.Prelude.{◌≡◌, ◌<◌, length, slice_index}
use Rattle.std.proofs.Common.{ap, append-nil, arith, subst, ◌∙◌}
use Rattle.vl_mean.specs.Cells.{cells}
use Rattle.vl_lower.specs.Added.{Adds, word_added, words_added}
use Rattle.vl_lower.proofs.Following.{word_more, words_end}
use Rattle.vl_lower.proofs.Sums.{many_mems, so_far_none}
use Rattle.vl_lower.proofs.sources.Sources.add_words.Goals as goal

pub loop-word-init : goal.loop-word-init
loop-word-init c = record {
  so_far = so_far_none c.args.self.now (words_added c.args.decl.now.width c.args.mem 0 (cells c.args.decl.now));
  mem = c.requires.mem;
  width = c.requires.width;
}

pub loop-word-preserved : goal.loop-word-preserved
loop-word-preserved c =
    let mid = c.loop-word.self in
    let new = c.add_word.new.self in
    let d = c.args.decl.now in
    let k = c.loop-word.word in
    let less : k < length (cells d) = omega (arith, c.loop-word-test.true, c.cell_count-count.ensures.value) in
    let own : Adds mid new (word_added d.width c.args.mem k) =
    subst (λ w. Adds mid new (word_added w c.args.mem k)) c.loop-word.invariant.width c.in_ok-add_word.ensures in
    record {
      so_far =
          word_more c.args.self.now mid new d.width c.args.mem k (cells d) (words_added d.width c.args.mem 0 (cells d))
          less c.loop-word.invariant.so_far own;
      mem = omega (arith, c.loop-word.invariant.mem, many_mems mid new (word_added d.width c.args.mem k) own);
      width =
          ap (λ ws. slice_index ws c.args.mem) (own.mem_widths ∙ append-nil _) ∙ c.loop-word.invariant.width;
    }

pub returns : goal.returns
returns c =
    let d = c.args.decl.now in
    let past : length (cells d) ≡ c.loop-word.word =
    omega (arith, c.loop-word-test.false, c.loop-word.auto.word-end, c.cell_count-count.ensures.value) in
    words_end c.args.self.now c.loop-word.self d.width c.args.mem c.loop-word.word (cells d)
    (words_added d.width c.args.mem 0 (cells d)) past c.loop-word.invariant.so_far
