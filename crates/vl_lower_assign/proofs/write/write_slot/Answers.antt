use Rattle.std.specs.Prelude.{◌≡◌, ◌<◌, ◌+◌, ◌==◌, ◌&&◌, ℕ, length, slice_index, slice_range, if◌then◌else◌}
use Rattle.std.proofs.Common.{ap, ◌∙◌, arith, refl, rules}
use Rattle.std.proofs.lemmas.Grind.{common_steps}
use Rattle.fv_bits.specs.Bits.{masked}
use Rattle.wn_net.specs.Net.{value_at}
use Rattle.wn_net.proofs.Laws.{adds_none}
use Rattle.vl_lower_assign.specs.Slots.{is_taken}
use Rattle.vl_lower_assign.proofs.Places.{holds_cell, holds_words}
use Rattle.vl_lower_assign.proofs.Ranges.{index_among, range_count}
use Rattle.vl_lower_assign.proofs.Written.{after_put, cell_writes, none_writes, words_write}
use Rattle.vl_lower_assign.proofs.Places.{words_stored, words_told}
use Rattle.vl_lower_assign.proofs.write.write_slot.Goals as goal

pub bounds-cells-at : goal.bounds-cells-at
bounds-cells-at c =
    (holds_cell c.args.net.now c.args.cells.now c.args.slot.width c.args.slot.holder c.in-Cell.at c.in-Cell.is
    c.requires.slot.held).0

pub returns-in_ok-node-in-Cell : goal.returns-in_ok-node-in-Cell
returns-in_ok-node-in-Cell c =
    let net = c.args.net.now in
    let cells = c.args.cells.now in
    let slot = c.args.slot in
    let at = c.in-Cell.at in
    let own = holds_cell net cells slot.width slot.holder at c.in-Cell.is c.requires.slot.held in
    record {
      writes = cell_writes net c.written_cell.new.net cells c.args.path slot c.args.value at c.in_ok-node-in-Cell.node c.in-Cell.is
          c.requires.cells own.0 own.1 c.requires.value c.in_ok-node-in-Cell.ensures.adds c.in_ok-node-in-Cell.ensures.there
          c.in_ok-node-in-Cell.ensures.value;
      stores = tt;
      told = tt;
    }

pub returns-in-Nowhere : goal.returns-in-Nowhere
returns-in-Nowhere c =
    record {
      writes =
          none_writes c.args.net.now c.args.net.now c.args.cells.now c.args.path c.args.slot c.args.value c.in-Nowhere.is
          c.requires.cells refl (adds_none c.args.net.now);
      stores = tt;
      told = tt;
    }

pub returns-in_ok-write-in-Word : goal.returns-in_ok-write-in-Word
returns-in_ok-write-in-Word c =
    let net = c.args.net.now in
    let new = c.write_words.new.net in
    let cells = c.args.cells.now in
    let slot = c.args.slot in
    let first = c.in-Word.first in
    let count = c.in-Word.count in
    let address = c.in-Word.address in
    let before = c.as_mut_slice.result.now in
    let words = c.write_words.new.words in
    let after = c.put_back.new.cells in
    let own = holds_words net cells slot.width slot.holder first count address c.in-Word.is c.requires.slot.held in
    let was : before ≡ slice_range cells first (first + count) =
    first_of (search rules, grind (arith, common_steps)) in
    let put : c.as_slice.result.now ≡ words = first_of (search rules, grind (arith, common_steps)) in
    let many : length before ≡ count = ap length was ∙ range_count cells first count own.within in
    let same : length words ≡ length before = omega arith in
    let size : length after ≡ length cells = omega arith in
    let length_put : length c.as_slice.result.now ≡ length words = ap length put in
    let inside : (k : ℕ) → k < count → slice_index after (first + k) ≡ slice_index words k = λ k less.
    c.put_back.ensures.inside k (omega (arith, less, length_put, same, many)) ∙ ap (λ xs. slice_index xs k) put in
    record {
      writes =
          words_write net new cells c.args.path slot c.args.value first count address after words c.in-Word.is
          c.requires.cells own.within own.node c.in_ok-write-in-Word.ensures.adds (same ∙ many)
          c.in_ok-write-in-Word.ensures.there
          (λ g p k given here less.
          let x_is = ap (λ xs. slice_index xs k) was ∙ index_among cells first count k less in
          c.in_ok-write-in-Word.ensures.numbers g p k given here (omega (arith, less, many))
          ∙ (λ i. after_put (is_taken net g c.args.path && (k == value_at net g address)) slot.count slot.width p
          (value_at net g c.args.value) (value_at net g (x_is i))))
          size
          (λ k less. c.put_back.ensures.inside k (omega (arith, less, length_put)) ∙ ap (λ xs. slice_index xs k) put)
          (λ i apart. c.put_back.ensures.outside i (λ k less e. apart k (omega (arith, less, length_put)) e));
      stores =
          words_stored net new cells after words slot.width first count address slot.holder
          c.in_ok-write-in-Word.write c.in-Word.is own c.in_ok-write-in-Word.ensures.fits
          (λ g k given less.
          let x_is = ap (λ xs. slice_index xs k) was ∙ index_among cells first count k less in
          let w = c.in_ok-write-in-Word.write in
          c.in_ok-write-in-Word.ensures.stores g k given (omega (arith, less, many))
          ∙ (λ i. if (value_at new g w.enable == 1) && (k == value_at new g w.addr)
          then masked slot.width (value_at new g w.mask) (value_at net g (x_is i)) (value_at new g w.value)
          else value_at net g (x_is i)))
          inside;
      told =
          words_told slot.width first count address slot.holder c.in_ok-write-in-Word.write c.in-Word.is
          c.in_ok-write-in-Word.ensures.told;
    }
