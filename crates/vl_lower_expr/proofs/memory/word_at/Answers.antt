use Rattle.std.specs.Prelude.{◌≡◌, ◌+◌, ◌<◌, ℕ, ℤ, length, map, int_le, slice_index}
use Rattle.std.specs.Prelude.{slice_range}
use mir.Syntax.{w64}
use mir.Val.{to_z, of_z}
use Rattle.std.proofs.Common.{ap, sym, ◌∙◌, subst, arith}
use Rattle.std.proofs.lemmas.Int.{ints}
use Rattle.std.proofs.lemmas.Option.{slice_get_within}
use Rattle.fv_bits.specs.Bits.{as_int}
use Rattle.vl_size.specs.Size.{is_bound, memory_word}
use Rattle.vl_size.specs.Table.{span}
use Rattle.wn_net.specs.Value.{word_at, words_of}
use Rattle.wn_net.specs.Net.{AreNodesOf, width_at, value_at}
use Rattle.wn_net.proofs.Laws.{adds_on, nodes_on, given_on, value_on, built_node}
use Rattle.wn_mem.specs.Words.{numbers_of}
use Rattle.vl_lower_nodes.specs.Points.{IsAddress, distance, is_base}
use Rattle.vl_lower_expr.proofs.Compose.{cell_node}
use Rattle.vl_lower_expr.proofs.Finding.{bound_base}
use Rattle.vl_lower_expr.proofs.Words.{is_memory, in_cells, cells_have, is_stored, memory_has, no_vector, word_is}
use Rattle.vl_lower_expr.proofs.Words.{words_within, number_in, number_out, memory_words, memory_width, index_past}
use Rattle.vl_lower_expr.proofs.Words.{words_width_is, are_words}
use Rattle.vl_lower_expr.specs.Bound.{HasCell}
use Rattle.vl_lower_expr.proofs.memory.word_at.Goals as goal

pub address-requires-clause-base : goal.address-requires-clause-base
address-requires-clause-base c =
    let l_is : to_z w64 (of_z w64 c.in-Some.left) ≡ c.in-Some.left = omega (arith, ints) in
    let own = c.requires.bound.placed c.args.decl.now c.args.place c.requires.place in
    let bounds = is_memory _ _ c.args.decl.now c.args.place c.in-Some.left c.in-Some.right own c.in-Some.is in
    ap is_base l_is ∙ bound_base c.in-Some.left bounds.left

pub word_count-count-requires-clause-left : goal.word_count-count-requires-clause-left
word_count-count-requires-clause-left c =
    let l_is : to_z w64 (of_z w64 c.in-Some.left) ≡ c.in-Some.left = omega (arith, ints) in
    let own = c.requires.bound.placed c.args.decl.now c.args.place c.requires.place in
    ap is_bound l_is
    ∙ (is_memory _ _ c.args.decl.now c.args.place c.in-Some.left c.in-Some.right own c.in-Some.is).left

pub word_count-count-requires-clause-right : goal.word_count-count-requires-clause-right
word_count-count-requires-clause-right c =
    let r_is : to_z w64 (of_z w64 c.in-Some.right) ≡ c.in-Some.right = omega (arith, ints) in
    let own = c.requires.bound.placed c.args.decl.now c.args.place c.requires.place in
    ap is_bound r_is
    ∙ (is_memory _ _ c.args.decl.now c.args.place c.in-Some.left c.in-Some.right own c.in-Some.is).right

pub unreachable-requires-in-Vector : goal.unreachable-requires-in-Vector
unreachable-requires-in-Vector c =
    let own = c.requires.bound.placed c.args.decl.now c.args.place c.requires.place in
    no_vector c.args.net.now c.args.names.cells.now c.args.decl.now c.args.place c.in-Vector.field-0 own.fits
    c.in-Vector.is
    c.requires.memory

pub read-requires-clause-mem : goal.read-requires-clause-mem
read-requires-clause-mem c =
    let own = c.requires.bound.placed c.args.decl.now c.args.place c.requires.place in
    let net = c.args.net.now in
    let s = is_stored net c.args.names.cells.now c.args.decl.now c.args.place c.in-Some.left c.in-Some.right
    c.in-Memory.memory own.fits c.in-Memory.is c.in-Some.is in
    let less = slice_get_within net.mems c.in-Memory.memory s.memory s.there in
    omega (arith, less, ap length c.in_ok-address.ensures.adds.mems)

pub word_among-requires-clause-within : goal.word_among-requires-clause-within
word_among-requires-clause-within c =
    let d = c.args.decl.now in
    let l = c.in-Some.left in
    let r = c.in-Some.right in
    let l_is : to_z w64 (of_z w64 l) ≡ l = omega (arith, ints) in
    let r_is : to_z w64 (of_z w64 r) ≡ r = omega (arith, ints) in
    let own = c.requires.bound.placed d c.args.place c.requires.place in
    let cells = c.args.names.cells.now in
    let count = c.word_count-count.ensures.value ∙ (λ j. span (l_is j) (r_is j)) in
    let within = words_within c.args.net.now cells d.width c.in-Words.at (span l r) (omega (
      arith,
      count,
      c.word_count-count.ensures.some,
    ))
    (in_cells c.args.net.now cells d c.args.place l r c.in-Words.at own.fits c.in-Words.is c.in-Some.is) in
    omega (arith, within, count)

pub word_among-requires-clause-words : goal.word_among-requires-clause-words
word_among-requires-clause-words c =
    let d = c.args.decl.now in
    let l = c.in-Some.left in
    let r = c.in-Some.right in
    let l_is : to_z w64 (of_z w64 l) ≡ l = omega (arith, ints) in
    let r_is : to_z w64 (of_z w64 r) ≡ r = omega (arith, ints) in
    let own = c.requires.bound.placed d c.args.place c.requires.place in
    let net = c.args.net.now in
    let later = c.address.new.net in
    let cells = c.args.names.cells.now in
    let at = c.in-Words.at in
    let n = c.word_count-count.result in
    let count = c.word_count-count.ensures.value ∙ (λ j. span (l_is j) (r_is j)) in
    let inside : (k : ℕ) → k < n → HasCell net cells d.width (at + k) =
    λ k less. in_cells net cells d c.args.place l r at own.fits c.in-Words.is c.in-Some.is k (omega
    (arith, count, less)) in
    let all = are_words net cells d.width at n c.word_count-count.ensures.some inside in
    let on = nodes_on net later d.width (slice_range cells at (at + n)) c.in_ok-address.ensures.adds all.nodes in
    let P : ℕ → Type 0 = λ w. AreNodesOf later w (slice_range cells at (at + n)) in
    subst P (sym (words_width_is later d.width (slice_range cells at (at + n)) all.some on)) on

pub returns-in_ok-word-in-Words : goal.returns-in_ok-word-in-Words
returns-in_ok-word-in-Words c =
    let d = c.args.decl.now in
    let l = c.in-Some.left in
    let r = c.in-Some.right in
    let l_is : to_z w64 (of_z w64 l) ≡ l = omega (arith, ints) in
    let r_is : to_z w64 (of_z w64 r) ≡ r = omega (arith, ints) in
    let own = c.requires.bound.placed d c.args.place c.requires.place in
    let bounds = is_memory c.args.net.now c.args.names.cells.now d c.args.place l r own c.in-Some.is in
    let net = c.args.net.now in
    let later = c.address.new.net in
    let cells = c.args.names.cells.now in
    let at = c.in-Words.at in
    let n = c.word_count-count.result in
    let count = c.word_count-count.ensures.value ∙ (λ j. span (l_is j) (r_is j)) in
    let inside : (k : ℕ) → k < n → HasCell net cells d.width (at + k) =
    λ k less. in_cells net cells d c.args.place l r at own.fits c.in-Words.is c.in-Some.is k (omega
    (arith, count, less)) in
    let all = are_words net cells d.width at n c.word_count-count.ensures.some inside in
    let words = slice_range cells at (at + n) in
    let one = c.in_ok-address.ensures in
    let two = c.in_ok-word-in-Words.ensures in
    let on = nodes_on net later d.width words one.adds all.nodes in
    record {
      adds = adds_on _ _ _ one.adds two.adds;
      node = (two.there.0, two.there.1 ∙ words_width_is later d.width words all.some on);
      value = λ g v given has.
          let index = as_int (width_at net c.args.index) c.args.signed (value_at net g c.args.index) in
          let address = value_at later g c.in_ok-address.address in
          let P : ℤ → Type 0 = λ z. IsAddress address z in
          let placed : IsAddress address (distance (int_le l r) l index) =
          subst P (λ j. distance ((c.ascends.ensures ∙ (λ k. int_le (l_is k) (r_is k))) j) (l_is j) index)
          (one.value g given) in
          let number : ℕ → ℕ = λ k. slice_index (numbers_of later g words) k in
          two.value g (given_on net later g one.adds given)
          ∙ word_is v d l r index address number bounds.few placed
          (λ k less.
          let near : k < n = omega (arith, count, less) in
          cells_have net g v cells d c.args.place l r at (has d c.args.place c.requires.place) c.in-Words.is
          c.in-Some.is k less
          ∙ sym (value_on net later g (slice_index cells (at + k)) one.adds
          (cell_node net cells d.width (at + k) (inside k near)).1.0)
          ∙ sym (number_in (value_at later g) cells at n k near all.within))
          (λ k past. number_out (value_at later g) cells at n k (omega (arith, count, past)))
          ∙ ap (λ o. memory_word v d o index) (sym c.in-Some.is);
    }

pub returns-in_ok-word-in-Memory : goal.returns-in_ok-word-in-Memory
returns-in_ok-word-in-Memory c =
    let d = c.args.decl.now in
    let l = c.in-Some.left in
    let r = c.in-Some.right in
    let l_is : to_z w64 (of_z w64 l) ≡ l = omega (arith, ints) in
    let r_is : to_z w64 (of_z w64 r) ≡ r = omega (arith, ints) in
    let own = c.requires.bound.placed d c.args.place c.requires.place in
    let net = c.args.net.now in
    let later = c.address.new.net in
    let cells = c.args.names.cells.now in
    let bounds = is_memory net cells d c.args.place l r own c.in-Some.is in
    let m = c.in-Memory.memory in
    let s = is_stored net cells d c.args.place l r m own.fits c.in-Memory.is c.in-Some.is in
    let one = c.in_ok-address.ensures in
    let built = c.in_ok-word-in-Memory.ensures.built in
    let wide = ap (λ ms. slice_index (map (λ y. y.width) ms) m) one.adds.mems
    ∙ memory_width net.mems m s.memory s.there ∙ s.width in
    record {
      adds = adds_on _ _ _ one.adds built.adds;
      node = ((built_node _ _ _ _ _ _ built).0, built.width ∙ wide);
      value = λ g v given has.
          let index = as_int (width_at net c.args.index) c.args.signed (value_at net g c.args.index) in
          let address = value_at later g c.in_ok-address.address in
          let P : ℤ → Type 0 = λ z. IsAddress address z in
          let placed : IsAddress address (distance (int_le l r) l index) =
          subst P (λ j. distance ((c.ascends.ensures ∙ (λ k. int_le (l_is k) (r_is k))) j) (l_is j) index)
          (one.value g given) in
          let words = words_of g m in
          let long = memory_words net.mems g.state.mems m s.memory given.state.mems s.there ∙ s.words in
          built.value g
          ∙ word_is v d l r index address (λ k. word_at words k) bounds.few placed
          (memory_has net g v cells d c.args.place l r m (has d c.args.place c.requires.place) c.in-Memory.is
          c.in-Some.is)
          (λ k past. index_past words k (omega (arith, long, past)))
          ∙ ap (λ o. memory_word v d o index) (sym c.in-Some.is);
    }
