use Rattle.std.specs.Prelude.{◌==◌, ◌&&◌, ◌<◌, ℕ, length, map, slice_index, if◌then◌else◌}
use Rattle.std.proofs.Common.{ap, sym, ◌∙◌, subst, arith}
use Rattle.std.proofs.lemmas.List.{length-map}
use Rattle.fv_bits.specs.Bits.{masked, ones}
use Rattle.wn_net.specs.Net.{AreNodesOf, value_at}
use Rattle.wn_net.proofs.Laws.{adds_on, given_on, node_on, nodes_on, there_on, value_on}
use Rattle.wn_net.proofs.Moved.{value_within}
use Rattle.wn_mem.specs.Words.{numbers_of, words_width}
use Rattle.vl_lower_assign.specs.Puts.{put_bits}
use Rattle.vl_lower_assign.proofs.Places.{at_on, index_map, part_written, place_on, width_is, word_written}
use Rattle.vl_lower_assign.proofs.Ranges.{node_among}
use Rattle.vl_lower_assign.proofs.write.write_words.Goals as goal

pub spread_bits-requires-clause-place : goal.spread_bits-requires-clause-place
spread_bits-requires-clause-place c =
    place_on c.args.net.now c.test_of.new.net c.args.slot.place c.in_ok-enable.ensures.adds c.requires.place

pub write_all-requires-clause-words : goal.write_all-requires-clause-words
write_all-requires-clause-words c =
    let mid = c.spread_bits.new.net in
    let words = c.args.words.now in
    let both = adds_on c.args.net.now c.test_of.new.net mid c.in_ok-enable.ensures.adds c.in_ok-spread.ensures.adds in
    let on = nodes_on c.args.net.now mid c.args.slot.width words both c.requires.words in
    let P : ℕ → Type 0 = λ w. AreNodesOf mid w words in
    subst P (sym (width_is mid c.args.slot.width words c.requires.some on)) on

pub write_all-requires-clause-write : goal.write_all-requires-clause-write
write_all-requires-clause-write c =
    let net = c.args.net.now in
    let mid = c.spread_bits.new.net in
    let words = c.args.words.now in
    let made = c.in_ok-spread.ensures in
    let both = adds_on net c.test_of.new.net mid c.in_ok-enable.ensures.adds made.adds in
    let on = nodes_on net mid c.args.slot.width words both c.requires.words in
    let wide = sym (width_is mid c.args.slot.width words c.requires.some on) in
    record {
      enable = node_on c.test_of.new.net mid 1 c.in_ok-enable.enable made.adds c.in_ok-enable.ensures.there;
      addr = there_on net mid c.args.address both c.requires.address;
      mask = (made.mask_there.0, made.mask_there.1 ∙ wide);
      value = (made.bits_there.0, made.bits_there.1 ∙ wide);
    }

pub returns-clause-there : goal.returns-clause-there
returns-clause-there c =
    let mid = c.spread_bits.new.net in
    let words = c.args.words.now in
    let both = adds_on c.args.net.now c.test_of.new.net mid c.in_ok-enable.ensures.adds c.in_ok-spread.ensures.adds in
    let on = nodes_on c.args.net.now mid c.args.slot.width words both c.requires.words in
    let P : ℕ → Type 0 = λ w. AreNodesOf c.write_all.new.net w c.write_all.new.words in
    subst P (width_is mid c.args.slot.width words c.requires.some on) c.in_ok-write_all.ensures.there

pub returns-clause-numbers : goal.returns-clause-numbers
returns-clause-numbers c = λ g p k given here less.
    let net = c.args.net.now in
    let first = c.test_of.new.net in
    let mid = c.spread_bits.new.net in
    let new = c.write_all.new.net in
    let words = c.args.words.now in
    let after = c.write_all.new.words in
    let slot = c.args.slot in
    let value = c.args.value in
    let one = c.in_ok-enable.ensures in
    let made = c.in_ok-spread.ensures in
    let both = adds_on net first mid one.adds made.adds in
    let on = nodes_on net mid slot.width words both c.requires.words in
    let long : k < length after = omega (arith, less) in
    let few : k < length (map (value_at mid g) words) = omega (arith, less, length-map words (value_at mid g)) in
    let given_first = given_on net first g one.adds given in
    let at = at_on net first g slot.place p one.adds c.requires.place here in
    let node = node_among net slot.width words k less c.requires.words in
    let e_is = ap (λ n. n == 1) (value_on first mid g c.in_ok-enable.enable made.adds one.there.0) ∙ one.value g given in
    let a_is = value_on net mid g c.args.address both c.requires.address in
    let w_is = width_is mid slot.width words c.requires.some on in
    let x_is = index_map (value_at mid g) words k less
    ∙ value_on net mid g (slice_index words k) both node.0 in
    let n_is = one.adds.keeps.widths value c.requires.value.0 ∙ c.requires.value.1 in
    let y_is = value_on net first g value one.adds c.requires.value.0 in
    let mask = made.mask g p given_first at ∙ (λ i. put_bits (n_is i) slot.width p (ones (n_is i)) 0) in
    let bits = made.bits g p given_first at ∙ (λ i. put_bits (n_is i) slot.width p (y_is i) 0) in
    sym (index_map (value_at new g) after k long)
    ∙ ap (λ xs. slice_index xs k) (c.in_ok-write_all.ensures.value g (given_on net mid g both given))
    ∙ word_written (words_width mid words) (numbers_of mid g words) (value_at mid g c.in_ok-enable.enable)
    (value_at mid g c.args.address) (value_at mid g c.in_ok-spread.spread.mask)
    (value_at mid g c.in_ok-spread.spread.bits) k few
    ∙ (λ i. if e_is i && (k == a_is i) then masked (w_is i) (value_at mid g c.in_ok-spread.spread.mask) (x_is i)
    (value_at mid g c.in_ok-spread.spread.bits) else x_is i)
    ∙ part_written slot.count slot.width p (value_at net g value) (value_at net g (slice_index words k))
    (value_at mid g c.in_ok-spread.spread.mask) (value_at mid g c.in_ok-spread.spread.bits) _
    (value_within net g slot.width (slice_index words k) c.width-count.ensures.whole given node) mask bits

pub returns-clause-fits : goal.returns-clause-fits
returns-clause-fits c =
    let net = c.args.net.now in
    let first = c.test_of.new.net in
    let mid = c.spread_bits.new.net in
    let new = c.write_all.new.net in
    let one = c.in_ok-enable.ensures in
    let made = c.in_ok-spread.ensures in
    let last = c.in_ok-write_all.ensures.adds in
    let both = adds_on net first mid one.adds made.adds in
    record {
      enable =
          node_on mid new 1 c.in_ok-enable.enable last (node_on first mid 1 c.in_ok-enable.enable made.adds one.there);
      addr = there_on mid new c.args.address last (there_on net mid c.args.address both c.requires.address);
      mask = node_on mid new c.args.slot.width c.in_ok-spread.spread.mask last made.mask_there;
      value = node_on mid new c.args.slot.width c.in_ok-spread.spread.bits last made.bits_there;
    }

pub returns-clause-stores : goal.returns-clause-stores
returns-clause-stores c = λ g k given less.
    let net = c.args.net.now in
    let first = c.test_of.new.net in
    let mid = c.spread_bits.new.net in
    let new = c.write_all.new.net in
    let words = c.args.words.now in
    let after = c.write_all.new.words in
    let slot = c.args.slot in
    let one = c.in_ok-enable.ensures in
    let made = c.in_ok-spread.ensures in
    let last = c.in_ok-write_all.ensures.adds in
    let both = adds_on net first mid one.adds made.adds in
    let on = nodes_on net mid slot.width words both c.requires.words in
    let long : k < length after = omega (arith, less) in
    let few : k < length (map (value_at mid g) words) = omega (arith, less, length-map words (value_at mid g)) in
    let node = node_among net slot.width words k less c.requires.words in
    let e_is =
    sym (value_on mid new g c.in_ok-enable.enable last (node_on first mid 1 c.in_ok-enable.enable made.adds one.there).0) in
    let a_is = sym (value_on mid new g c.args.address last (there_on net mid c.args.address both c.requires.address)) in
    let m_is = sym (value_on mid new g c.in_ok-spread.spread.mask last made.mask_there.0) in
    let b_is = sym (value_on mid new g c.in_ok-spread.spread.bits last made.bits_there.0) in
    let w_is = width_is mid slot.width words c.requires.some on in
    let x_is = index_map (value_at mid g) words k less
    ∙ value_on net mid g (slice_index words k) both node.0 in
    sym (index_map (value_at new g) after k long)
    ∙ ap (λ xs. slice_index xs k) (c.in_ok-write_all.ensures.value g (given_on net mid g both given))
    ∙ word_written (words_width mid words) (numbers_of mid g words) (value_at mid g c.in_ok-enable.enable)
    (value_at mid g c.args.address) (value_at mid g c.in_ok-spread.spread.mask)
    (value_at mid g c.in_ok-spread.spread.bits) k few
    ∙ (λ i. if (e_is i == 1) && (k == a_is i) then masked (w_is i) (m_is i) (x_is i) (b_is i) else x_is i)
