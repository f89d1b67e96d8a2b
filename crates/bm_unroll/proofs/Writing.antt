-- The words of a memory after its writes.
use Rattle.std.specs.Prelude.{◌≡◌, refl, ℕ, zero, suc, ◌+◌, ◌<◌, ◌≤◌, List, [], ◌∷◌}
use Rattle.std.specs.Prelude.{length, drop}
use Rattle.std.specs.Prelude.{slice_index, slice_index_or}
use Rattle.std.specs.List.{AllByRecursion}
use Rattle.std.proofs.Common.{ap, sym, ◌∙◌, arith, subst}
use Rattle.std.proofs.lemmas.List.{length-map, drop_more, drop_all}
use Rattle.wn_net.specs.declared.parts.MemWrite.{MemWrite}
use Rattle.wn_net.specs.Value.{Given}
use Rattle.wn_net.specs.Given.{IsGiven}
use Rattle.wn_net.specs.Next.{written, write_each}
use Rattle.wn_net.specs.Net.{Netlist, IsNode, IsNodeOf, AreNodes, AreNodesOf, IsWriteOf, width_at, value_at}
use Rattle.wn_net.specs.Changes.{AddsNodes}
use Rattle.wn_net.proofs.Laws.{adds_on, adds_none, there_on, given_on}
use Rattle.wn_mem.specs.Words.{AreWords, words_width, numbers_of, after_write}
use Rattle.bm_unroll.specs.Cycle.{widths_at}
use Rattle.bm_unroll.specs.Moved.{IsTableWrite, copied}
use Rattle.bm_unroll.proofs.Copying.{node_in, width_here, number_here}

pub record Writing (old now : Netlist) (writes : List MemWrite) (table words : List ℕ) (i : ℕ) (made : List ℕ) :
    Type 0 where
  pub adds : AddsNodes old now
  pub there : AreNodesOf now (words_width old words) made
  pub each : length made ≡ length words
  pub value : (g : Given) → IsGiven old g
      → write_each (numbers_of old g table) (words_width old words) (numbers_of now g made) (drop i writes)
      ≡ write_each (numbers_of old g table) (words_width old words) (numbers_of old g words) writes

pub writing_none : (old : Netlist) (writes : List MemWrite) (table words : List ℕ) → AreWords old words
    → Writing old old writes table words 0 words
writing_none old writes table words h = record {
  adds = adds_none old;
  there = h;
  each = refl;
  value = λ g given.
      refl;
}

pub write_in : (ws : List ℕ) (width : ℕ) (writes : List MemWrite) (i : ℕ) (d : MemWrite)
    → AllByRecursion (IsTableWrite ws width) writes → i < length writes
    → IsTableWrite ws width (slice_index_or writes i d)
write_in ws width [] i d h below = absurd (omega arith)
write_in ws width (w ∷ rest) zero d h below = h.0
write_in ws width (w ∷ rest) (suc i) d h below = write_in ws width rest i d h.1 (omega arith)

-- the width of the words is that of each
pub first_width : (net : Netlist) (width : ℕ) (words : List ℕ) → 1 ≤ length words
    → AreNodesOf net width words → words_width net words ≡ width
first_width net width [] some h = absurd (omega arith)
first_width net width (w ∷ ws) some h = h.0.1

pub are_words : (net : Netlist) (width : ℕ) (words : List ℕ) → 1 ≤ length words → AreNodesOf net width words
    → AreWords net words
are_words net width words some h =
    let P : ℕ → Type 0 = λ w. AreNodesOf net w words in
    subst P (sym (first_width net width words some h)) h

-- a write fits by what stands for its nodes
node_of : (old now : Netlist) (table : List ℕ) (i width : ℕ) → AddsNodes old now → AreNodes old table
    → (i < length (widths_at old table)) × (slice_index (widths_at old table) i ≡ width)
    → IsNodeOf now width (slice_index table i)
node_of old now table i width h there own =
    let here : IsNode old (slice_index table i) = node_in old table i 0 there (omega (
      arith,
      length-map table
          (width_at old),
      own.0,
    )) in (
      there_on old now (slice_index table i) h here,
      h.keeps.widths (slice_index table i) here
          ∙ sym (width_here old table i 0 own.0) ∙ own.1,
    )

pub write_fits : (old now : Netlist) (table : List ℕ) (width u : ℕ) (w c : MemWrite) → AddsNodes old now
    → AreNodes old table → IsTableWrite (widths_at old table) width w
    → c ≡ copied table w → u ≡ width → IsWriteOf now u c
write_fits old now table width u w c h there own e f =
    let P : MemWrite → Type 0 = λ k. IsWriteOf now width k in
    let Q : ℕ → Type 0 = λ k. IsWriteOf now k c in
    let made : IsWriteOf now width (copied table w) = record {
      enable = node_of old now table w.enable 1 h there own.enable;
      addr = there_on old now (slice_index table w.addr) h (node_in old table w.addr 0 there (omega (
        arith,
        length-map
            table (width_at old),
        own.addr,
      )));
      mask = node_of old now table w.mask width h there own.mask;
      value = node_of old now table w.value width h there own.value;
    } in
    subst Q (sym f) (subst P (sym e) made)

number_read : (old now : Netlist) (g : Given) (table : List ℕ) (i : ℕ) → AddsNodes old now
    → AreNodes old table → i < length (widths_at old table)
    → value_at now g (slice_index table i) ≡ slice_index (numbers_of old g table) i
number_read old now g table i h there own =
    h.keeps.values g (slice_index table i) (node_in old table i 0 there (omega (
      arith,
      length-map table (width_at
          old),
      own,
    )))
    ∙ sym (number_here old g table i 0 own)

pub writing_next : (old now new : Netlist) (writes : List MemWrite) (table words : List ℕ) (i : ℕ) (d c :
    MemWrite) (made next : List ℕ)
    → 1 ≤ length words → AreNodes old table → AllByRecursion (IsTableWrite (widths_at old table) (words_width
    old words)) writes → i < length writes
    → c ≡ copied table (slice_index_or writes i d) → Writing old now writes table words i made
    → AddsNodes now new → AreNodesOf new (words_width now made) next → length next ≡ length made
    → ((g : Given) → IsGiven now g → numbers_of new g next ≡ after_write now g made c)
    → Writing old new writes table words (i + 1) next
writing_next old now new writes table words i d c made next some there fits below e h more next_there next_each
    next_is =
    let w = slice_index_or writes i d in
    let width = words_width old words in
    let own : IsTableWrite (widths_at old table) width w = write_in (widths_at old table) width writes i d fits below in
    let wide : words_width now made ≡ width = first_width now width made (omega (arith, h.each)) h.there in
    let P : ℕ → Type 0 = λ k. AreNodesOf new k next in
    record {
      adds = adds_on old now new h.adds more;
      there = subst P wide next_there;
      each = next_each ∙ h.each;
      value = λ g given.
          let vs = numbers_of old g table in
          let is : numbers_of new g next ≡ written width (numbers_of now g made) (slice_index vs w.enable)
          (slice_index vs w.addr) (slice_index vs w.mask) (slice_index vs w.value) =
          next_is g (given_on old now g h.adds given) ∙ ap (after_write now g made) e
          ∙ ap (λ k. written k (numbers_of now g made) (value_at now g (slice_index table w.enable)) (value_at now
          g (slice_index table w.addr)) (value_at now g (slice_index table w.mask)) (value_at now g (slice_index
          table w.value))) wide
          ∙ ap (λ v. written width (numbers_of now g made) v (value_at now g (slice_index table w.addr)) (value_at
          now g (slice_index table w.mask)) (value_at now g (slice_index table w.value))) (number_read old now g
          table w.enable h.adds there own.enable.0)
          ∙ ap (λ v. written width (numbers_of now g made) (slice_index vs w.enable) v (value_at now g (slice_index
          table w.mask)) (value_at now g (slice_index table w.value))) (number_read old now g table w.addr h.adds
          there own.addr)
          ∙ ap (λ v. written width (numbers_of now g made) (slice_index vs w.enable) (slice_index vs w.addr) v
          (value_at now g (slice_index table w.value))) (number_read old now g table w.mask h.adds there own.mask.0)
          ∙ ap (λ v. written width (numbers_of now g made) (slice_index vs w.enable) (slice_index vs w.addr)
          (slice_index vs w.mask) v) (number_read old now g table w.value h.adds there own.value.0) in
          ap (λ us. write_each vs width us (drop (i + 1) writes)) is
          ∙ ap (write_each vs width (numbers_of now g made)) (sym (drop_more writes i d below)) ∙ h.value g given;
    }

pub written_all : (old now : Netlist) (writes : List MemWrite) (table words : List ℕ) (i : ℕ) (made : List ℕ)
    → length writes ≤ i
    → Writing old now writes table words i made → (g : Given) → IsGiven old g
    → numbers_of now g made ≡ write_each (numbers_of old g table) (words_width old words) (numbers_of old g words)
    writes
written_all old now writes table words i made past h g given =
    ap (write_each (numbers_of old g table) (words_width old words) (numbers_of now g made)) (sym (drop_all i writes
    past)) ∙ h.value g given
