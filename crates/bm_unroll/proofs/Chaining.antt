-- A memory in the next cycle, as a chain.
use Rattle.std.specs.Prelude.{◌≡◌, refl, ℕ, ◌+◌, ◌<◌, ◌≤◌, List, length, drop, slice_index, slice_index_or}
use Rattle.std.specs.List.{AllByRecursion}
use Rattle.std.proofs.Common.{ap, sym, ◌∙◌, subst}
use Rattle.std.proofs.lemmas.List.{drop_more, drop_all}
use Rattle.wn_net.specs.declared.parts.MemWrite.{MemWrite}
use Rattle.wn_net.specs.Value.{Given}
use Rattle.wn_net.specs.Next.{written, write_each}
use Rattle.wn_net.specs.Net.{Netlist, AreNodes, IsWriteOf, value_at}
use Rattle.wn_net.proofs.Laws.{adds_none}
use Rattle.wn_mem.specs.Words.{words_width, numbers_of}
use Rattle.wn_chain.specs.Writes.{written_at}
use Rattle.wn_chain.specs.Chains.{IsChain, words_in}
use Rattle.wn_chain.specs.declared.chain.Chain.{Chain}
use Rattle.bm_unroll.specs.Cycle.{widths_at}
use Rattle.bm_unroll.specs.Moved.{IsTableWrite, copied}
use Rattle.bm_unroll.proofs.Copying.{number_here}
use Rattle.bm_unroll.proofs.Writing.{write_fits, write_in}

-- What the walk over a memory's writes keeps.
pub record Chaining (net : Netlist) (writes : List MemWrite) (table : List ℕ) (first : Chain) (i : ℕ) (made : Chain) :
    Type 0 where
  pub there : IsChain net made
  pub width : words_width net made.words ≡ words_width net first.words
  pub value : (g : Given)
      → write_each (numbers_of net g table) (words_width net first.words) (words_in net g made) (drop i writes)
      ≡ write_each (numbers_of net g table) (words_width net first.words) (words_in net g first) writes

pub chaining_none : (net : Netlist) (writes : List MemWrite) (table : List ℕ) (first made : Chain) → IsChain net first
    → made ≡ first → Chaining net writes table first 0 made
chaining_none net writes table first made own same =
    let P : Chain → Type 0 = λ c. Chaining net writes table first 0 c in
    subst P (sym same) (record { there = own; width = refl; value = λ g. refl })

pub chaining_fits : (net : Netlist) (writes : List MemWrite) (table : List ℕ) (first made : Chain) (i : ℕ)
    (d c : MemWrite) → AreNodes net table
    → AllByRecursion (IsTableWrite (widths_at net table) (words_width net first.words)) writes → i < length writes
    → c ≡ copied table (slice_index_or writes i d) → Chaining net writes table first i made
    → IsWriteOf net (words_width net made.words) c
chaining_fits net writes table first made i d c there fits below e h =
    write_fits net net table (words_width net first.words) (words_width net made.words) (slice_index_or writes i d) c
    (adds_none net) there (write_in (widths_at net table) (words_width net first.words) writes i d fits below) e h.width

read_here : (net : Netlist) (g : Given) (table : List ℕ) (i : ℕ) → i < length (widths_at net table)
    → value_at net g (slice_index table i) ≡ slice_index (numbers_of net g table) i
read_here net g table i own = sym (number_here net g table i 0 own)

pub chaining_next : (net : Netlist) (writes : List MemWrite) (table : List ℕ) (first made next : Chain) (i : ℕ)
    (d c : MemWrite)
    → AllByRecursion (IsTableWrite (widths_at net table) (words_width net first.words)) writes → i < length writes
    → c ≡ copied table (slice_index_or writes i d) → Chaining net writes table first i made → IsChain net next
    → words_width net next.words ≡ words_width net made.words
    → ((g : Given) → words_in net g next ≡ written_at net g (words_width net made.words) (words_in net g made) c)
    → Chaining net writes table first (i + 1) next
chaining_next net writes table first made next i d c fits below e h there wide is =
    let w = slice_index_or writes i d in
    let own = write_in (widths_at net table) (words_width net first.words) writes i d fits below in
    record {
      there = there;
      width = wide ∙ h.width;
      value = λ g.
          let vs = numbers_of net g table in
          let width = words_width net first.words in
          ap (λ us. write_each vs width us (drop (i + 1) writes))
          (is g
          ∙ ap (written_at net g (words_width net made.words) (words_in net g made)) e
          ∙ (λ k. written (h.width k) (words_in net g made) (read_here net g table w.enable own.enable.0 k)
          (read_here net g table w.addr own.addr k) (read_here net g table w.mask own.mask.0 k)
          (read_here net g table w.value own.value.0 k)))
          ∙ ap (write_each vs width (words_in net g made)) (sym (drop_more writes i d below)) ∙ h.value g;
    }

pub chained : (net : Netlist) (writes : List MemWrite) (table : List ℕ) (first made : Chain) (i : ℕ)
    → length writes ≤ i → Chaining net writes table first i made → (g : Given)
    → words_in net g made
    ≡ write_each (numbers_of net g table) (words_width net first.words) (words_in net g first) writes
chained net writes table first made i past h g =
    ap (write_each (numbers_of net g table) (words_width net first.words) (words_in net g made))
    (sym (drop_all i writes past)) ∙ h.value g
