-- The registers and memories in the next cycle.
use Rattle.std.specs.Prelude.{◌≡◌, refl, ℕ, zero, suc, ◌+◌, ◌<◌, ◌≤◌, List, [], ◌∷◌}
use Rattle.std.specs.Prelude.{◌++◌, length, map, take}
use Rattle.std.specs.Prelude.{slice_index, slice_index_or}
use Rattle.std.specs.List.{AllByRecursion}
use Rattle.std.proofs.Common.{ap, sym, ◌∙◌, arith, subst}
use Rattle.std.proofs.lemmas.List.{get_or-map, length-map, map_push}
use Rattle.wn_net.specs.declared.parts.Reg.{Reg}
use Rattle.wn_net.specs.declared.parts.Mem.{Mem}
use Rattle.wn_net.specs.declared.parts.MemWrite.{MemWrite}
use Rattle.wn_net.specs.Value.{Given}
use Rattle.wn_net.specs.Given.{IsGiven}
use Rattle.wn_net.specs.Next.{next_mems, write_each}
use Rattle.wn_net.specs.Net.{Netlist, AreNodes, IsNet, IsRegOf, IsMemOf, IsWriteOf, width_at}
use Rattle.wn_net.specs.Net.{value_at, widths_of}
use Rattle.wn_net.specs.Changes.{AddsNodes}
use Rattle.wn_net.proofs.Laws.{adds_on, adds_none, given_on}
use Rattle.wn_net.proofs.Stays.{length-widths_of}
use Rattle.wn_mem.specs.Words.{numbers_of}
use Rattle.bm_unroll.specs.declared.state.MemoryNodes.{MemoryNodes}
use Rattle.bm_unroll.specs.Memories.{AreMemories, IsMemory, memory_numbers, memory_width}
use Rattle.bm_unroll.specs.Cycle.{widths_at}
use Rattle.bm_unroll.specs.Moved.{IsTableWrite}
use Rattle.bm_unroll.proofs.Copying.{node_in, nodes_there, numbers_kept, memory_in, memories_there, mem_widths_kept}
use Rattle.bm_unroll.proofs.Copying.{mem_numbers_kept, widths_kept, memory_kept, memory_same}

pub table_long : (net new : Netlist) (table : List ℕ) → widths_at new table ≡ widths_of net
    → length table ≡ length net.nodes
table_long net new table wide =
    sym (length-map table (width_at new)) ∙ ap length wide ∙ length-widths_of net

-- ---- registers

pub next_there : (net now : Netlist) (table : List ℕ) (rs : List Reg) → AreNodes now table
    → length table ≡ length net.nodes → AllByRecursion (IsRegOf net) rs
    → AreNodes now (map (λ r. slice_index table r.next) rs)
next_there net now table [] h long own = tt
next_there net now table (r ∷ rs) h long own =
    (node_in now table r.next 0 h (omega (arith, long, own.0.next.0)), next_there net now table rs h long own.1)

pub next_widths : (net now : Netlist) (table : List ℕ) (rs : List Reg) → widths_at now table ≡ widths_of net
    → length table ≡ length net.nodes → AllByRecursion (IsRegOf net) rs
    → widths_at now (map (λ r. slice_index table r.next) rs) ≡ map (λ r. r.width) rs
unfolding width_at
next_widths net now table [] e long own = refl
next_widths net now table (r ∷ rs) e long own =
    let here : width_at now (slice_index table r.next) ≡ r.width =
    sym (get_or-map (width_at now) table r.next 0 0 (omega (arith, long, own.0.next.0)))
    ∙ ap (λ ws. slice_index ws r.next) e ∙ own.0.next.1 in
    ap (λ w. w ∷ widths_at now (map (λ r. slice_index table r.next) rs)) here
    ∙ ap (λ ws. r.width ∷ ws) (next_widths net now table rs e long own.1)

pub next_numbers : (net now : Netlist) (g : Given) (table : List ℕ) (rs : List Reg)
    → length table ≡ length net.nodes → AllByRecursion (IsRegOf net) rs
    → numbers_of now g (map (λ r. slice_index table r.next) rs)
    ≡ map (λ r. slice_index (numbers_of now g table) r.next) rs
next_numbers net now g table [] long own = refl
next_numbers net now g table (r ∷ rs) long own =
    let vs = numbers_of now g table in
    let here : value_at now g (slice_index table r.next) ≡ slice_index vs r.next =
    sym (get_or-map (value_at now g) table r.next 0 0 (omega (arith, long, own.0.next.0))) in
    ap (λ v. v ∷ numbers_of now g (map (λ r. slice_index table r.next) rs)) here
    ∙ ap (λ us. slice_index vs r.next ∷ us) (next_numbers net now g table rs long own.1)

-- ---- memories

-- the writes of a memory by what stands for their nodes
table_writes : (net : Netlist) (width : ℕ) (ws : List MemWrite) → AllByRecursion (IsWriteOf net width) ws
    → AllByRecursion (IsTableWrite (widths_of net) width) ws
unfolding width_at
table_writes net width [] h = tt
table_writes net width (w ∷ ws) h =
    let long = length-widths_of net in (
      record {
        enable = (omega (arith, long, h.0.enable.0), h.0.enable.1);
        addr = omega (arith, long, h.0.addr);
        mask = (omega (arith, long, h.0.mask.0), h.0.mask.1);
        value = (omega (arith, long, h.0.value.0), h.0.value.1);
      },
      table_writes net width ws h.1,
    )

pub mem_in : (net : Netlist) (ms : List Mem) (i : ℕ) (d : Mem) → AllByRecursion (IsMemOf net) ms → i < length ms
    → IsMemOf net (slice_index_or ms i d)
mem_in net [] i d h below = absurd (omega arith)
mem_in net (m ∷ ms) zero d h below = h.0
mem_in net (m ∷ ms) (suc i) d h below = mem_in net ms i d h.1 (omega arith)

-- the words of a memory have its width
pub width_of_words : (net : Netlist) (ms : List Mem) (mems : List MemoryNodes) (i : ℕ) (d : Mem) (e : MemoryNodes)
    → map (memory_width net) mems ≡ map (λ m. m.width) ms → i < length ms
    → memory_width net (slice_index_or mems i e) ≡ (slice_index_or ms i d).width
width_of_words net [] mems i d e same below = absurd (omega arith)
width_of_words net (m ∷ ms) [] i d e same below = cc
width_of_words net (m ∷ ms) (x ∷ xs) zero d e same below = ap (λ ws. slice_index ws 0) same
width_of_words net (m ∷ ms) (x ∷ xs) (suc i) d e same below =
    width_of_words net ms xs i d e (tail same) (omega arith)
  where
    tail : (memory_width net x ∷ map (memory_width net) xs) ≡ (m.width ∷ map (λ m. m.width) ms)
        → map (memory_width net) xs ≡ map (λ m. m.width) ms
    tail p = cc

-- the memory at the place, of the first memories and one more
pub next_at : (vs : List ℕ) (ms : List Mem) (mems : List (List ℕ)) (i : ℕ) (d : Mem) (e : List ℕ)
    → length mems ≡ length ms → i < length ms
    → take (suc i) (next_mems vs ms mems) ≡ take i (next_mems vs ms mems)
    ++ write_each vs (slice_index_or ms i d).width (slice_index_or mems i e) (slice_index_or ms i d).writes ∷ []
next_at vs [] mems i d e same below = absurd (omega arith)
next_at vs (m ∷ ms) [] i d e same below = absurd (omega (arith, same))
next_at vs (m ∷ ms) (x ∷ xs) zero d e same below = refl
next_at vs (m ∷ ms) (x ∷ xs) (suc i) d e same below =
    ap (λ t. write_each vs m.width x m.writes ∷ t) (next_at vs ms xs i d e (omega (arith, same)) (omega arith))

pub next_all : (vs : List ℕ) (ms : List Mem) (mems : List (List ℕ)) (i : ℕ) → length ms ≤ i
    → take i (next_mems vs ms mems) ≡ next_mems vs ms mems
next_all vs [] mems zero h = refl
next_all vs [] mems (suc i) h = refl
next_all vs (m ∷ ms) [] zero h = refl
next_all vs (m ∷ ms) [] (suc i) h = refl
next_all vs (m ∷ ms) (x ∷ xs) zero h = absurd (omega arith)
next_all vs (m ∷ ms) (x ∷ xs) (suc i) h =
    ap (λ t. write_each vs m.width x m.writes ∷ t) (next_all vs ms xs i (omega arith))

-- What the walk over the memories keeps.
pub record Moving (old now net : Netlist) (table : List ℕ) (mems : List MemoryNodes) (i : ℕ)
    (made : List MemoryNodes) : Type 0 where
  pub adds : AddsNodes old now
  pub there : AreMemories now made
  pub shape : map (memory_width now) made ≡ take i (map (λ m. m.width) net.mems)
  pub numbers : (g : Given) → IsGiven old g
      → map (memory_numbers now g) made
      ≡ take i (next_mems (numbers_of old g table) net.mems (map (memory_numbers old g) mems))

pub moving_none : (old net : Netlist) (table : List ℕ) (mems : List MemoryNodes) → Moving old old net table mems 0 []
moving_none old net table mems =
    record { adds = adds_none old; there = tt; shape = refl; numbers = λ g given. refl }

memories_push : (net : Netlist) (mems : List MemoryNodes) (words : MemoryNodes) → AreMemories net mems
    → IsMemory net words
    → AreMemories net (mems ++ words ∷ [])
memories_push net [] words h k = (k, tt)
memories_push net (m ∷ ms) words h k = (h.0, memories_push net ms words h.1 k)

take_next : (ms : List Mem) (i : ℕ) (d : Mem) → i < length ms
    → take (suc i) (map (λ m. m.width) ms) ≡ take i (map (λ m. m.width) ms) ++ (slice_index_or ms i d).width ∷
    []
take_next [] i d below = absurd (omega arith)
take_next (m ∷ ms) zero d below = refl
take_next (m ∷ ms) (suc i) d below = ap (λ ws. m.width ∷ ws) (take_next ms i d (omega arith))

pub moving_next : (old now new net : Netlist) (table : List ℕ) (mems : List MemoryNodes) (i : ℕ)
    (made longer : List MemoryNodes) (d : Mem) (e next : MemoryNodes)
    → map (memory_width old) mems ≡ map (λ m. m.width) net.mems → i < length net.mems
    → length mems ≡ length net.mems
    → IsNet net → AreNodes old table → AreMemories old mems → Moving old now net table mems i made
    → AddsNodes now new
    → IsMemory new next → memory_width new next ≡ memory_width now (slice_index_or mems i e)
    → ((g : Given) → IsGiven now g → memory_numbers new g next
    ≡ write_each (numbers_of now g table) (memory_width now (slice_index_or mems i e))
    (memory_numbers now g (slice_index_or mems i e)) (slice_index_or net.mems i d).writes)
    → longer ≡ made ++ next ∷ []
    → Moving old new net table mems (i + 1) longer
moving_next old now new net table mems i made longer d e next shape below long whole own all h more there width_is is
    pushed =
    let words = slice_index_or mems i e in
    let mem = slice_index_or net.mems i d in
    let memory : IsMemory old words = memory_in old mems i e all (omega (arith, long, below)) in
    let wide : memory_width now words ≡ mem.width =
    memory_kept old now words h.adds memory ∙ width_of_words old net.mems mems i d e shape below in
    let Q : List MemoryNodes → Type 0 = λ ms. Moving old new net table mems (i + 1) ms in
    let N : ℕ → Type 0 = λ n. Moving old new net table mems n (made ++ next ∷ []) in
    let one_more : suc i ≡ i + 1 = omega arith in
    let made_is : Moving old new net table mems (suc i) (made ++ next ∷ []) = record {
      adds = adds_on old now new h.adds more;
      there =
          memories_push new made next (memories_there now new made more h.there) there;
      shape =
          map_push (memory_width new) made next
          ∙ (λ k. (mem_widths_kept now new made more h.there ∙ h.shape) k
          ++ (width_is ∙ wide) k ∷ [])
          ∙ sym (take_next net.mems i d below);
      numbers = λ g given.
          let vs = numbers_of old g table in
          let nums = map (memory_numbers old g) mems in
          let here : slice_index_or nums i (memory_numbers old g e) ≡ memory_numbers old g words =
          get_or-map (memory_numbers old g) mems i e (memory_numbers old g e) (omega (arith, long, below)) in
          map_push (memory_numbers new g) made next
          ∙ (λ k. (mem_numbers_kept now new g made more h.there ∙ h.numbers g given) k
          ++ (is g (given_on old now g h.adds given)
          ∙ (λ j. write_each (numbers_kept old now g table h.adds own j) (wide j)
          (memory_same old now g words h.adds memory j) mem.writes)
          ∙ ap (λ us. write_each vs mem.width us mem.writes) (sym here)) k ∷ [])
          ∙ sym (next_at vs net.mems nums i d (memory_numbers old g e)
          (length-map mems (memory_numbers old g) ∙ long) below);
    } in
    subst Q (sym pushed) (subst N one_more made_is)

-- a memory's writes, in a net with more nodes
pub writes_here : (old now net : Netlist) (table : List ℕ) (mems : List MemoryNodes) (i : ℕ) (d : Mem) (e : MemoryNodes)
    → widths_at old table ≡ widths_of net → AreNodes old table → AreMemories old mems → AddsNodes old now
    → IsNet net
    → map (memory_width old) mems ≡ map (λ m. m.width) net.mems → i < length net.mems
    → length mems ≡ length net.mems
    → AllByRecursion (IsTableWrite (widths_at now table) (memory_width now (slice_index_or mems i e)))
    (slice_index_or net.mems i d).writes
writes_here old now net table mems i d e wide own all h whole shape below long =
    let words = slice_index_or mems i e in
    let mem = slice_index_or net.mems i d in
    let memory : IsMemory old words = memory_in old mems i e all (omega (arith, long, below)) in
    let width : memory_width now words ≡ mem.width =
    memory_kept old now words h memory ∙ width_of_words old net.mems mems i d e shape below in
    let P : ℕ → Type 0 = λ w. AllByRecursion (IsTableWrite (widths_at now table) w) mem.writes in
    let Q : List ℕ → Type 0 = λ ws. AllByRecursion (IsTableWrite ws mem.width) mem.writes in
    subst P (sym width)
    (subst Q (sym (widths_kept old now table h own ∙ wide))
    (table_writes net mem.width mem.writes (mem_in net net.mems i d whole.mems below).writes))

-- ---- as the walk reads them

pub mems_long : (net : Netlist) (mems : List MemoryNodes) (ms : List Mem)
    → map (memory_width net) mems ≡ map (λ m. m.width) ms → length mems ≡ length ms
mems_long net mems ms e =
    sym (length-map mems (memory_width net)) ∙ ap length e ∙ length-map ms (λ (m : Mem). m.width)

-- the words of a memory, in a net with more nodes
pub memory_read : (old now : Netlist) (mems kept : List MemoryNodes) (i : ℕ) (words : MemoryNodes) → AddsNodes old now
    → AreMemories old mems → kept ≡ mems → i < length mems → words ≡ slice_index_or kept i words
    → IsMemory now words
memory_read old now mems kept i words h all same below is =
    let P : MemoryNodes → Type 0 = λ ws. IsMemory now ws in
    subst P (sym (is ∙ ap (λ ms. slice_index_or ms i words) same))
    (memory_in now mems i words (memories_there old now mems h all) below)

-- and its writes
pub writes_read : (old now net : Netlist) (table : List ℕ) (mems kept : List MemoryNodes) (items : List Mem) (i : ℕ)
    (mem : Mem) (words : MemoryNodes)
    → widths_at old table ≡ widths_of net → AreNodes old table → AreMemories old mems → AddsNodes old now
    → IsNet net
    → map (memory_width old) mems ≡ map (λ m. m.width) net.mems → i < length net.mems
    → items ≡ net.mems → mem ≡ slice_index_or items i mem → kept ≡ mems
    → words ≡ slice_index_or kept i words
    → AllByRecursion (IsTableWrite (widths_at now table) (memory_width now words)) mem.writes
writes_read old now net table mems kept items i mem words wide own all h whole shape below items_are mem_is same is =
    let P : MemoryNodes → Type 0 = λ ws. AllByRecursion (IsTableWrite (widths_at now table) (memory_width now ws))
    mem.writes in
    let Q : Mem → Type 0 = λ m. AllByRecursion
    (IsTableWrite (widths_at now table) (memory_width now (slice_index_or mems i words))) m.writes in
    subst P (sym (is ∙ ap (λ ms. slice_index_or ms i words) same))
    (subst Q (sym (mem_is ∙ ap (λ ms. slice_index_or ms i mem) items_are))
    (writes_here old now net table mems i mem words wide own all h whole shape below
    (mems_long old mems net.mems shape)))

pub moving_read : (old now new net : Netlist) (table : List ℕ) (mems kept : List MemoryNodes) (items : List Mem) (i :
    ℕ)
    (made longer : List MemoryNodes) (mem : Mem) (words next : MemoryNodes)
    → map (memory_width old) mems ≡ map (λ m. m.width) net.mems → i < length net.mems
    → IsNet net → AreNodes old table → AreMemories old mems → Moving old now net table mems i made
    → AddsNodes now new
    → items ≡ net.mems → mem ≡ slice_index_or items i mem → kept ≡ mems
    → words ≡ slice_index_or kept i words
    → IsMemory new next → memory_width new next ≡ memory_width now words
    → ((g : Given) → IsGiven now g → memory_numbers new g next
    ≡ write_each (numbers_of now g table) (memory_width now words) (memory_numbers now g words) mem.writes)
    → longer ≡ made ++ next ∷ []
    → Moving old new net table mems (i + 1) longer
moving_read old now new net table mems kept items i made longer mem words next shape below whole own all h more
    items_are mem_is same is there width numbers pushed =
    let w : words ≡ slice_index_or mems i words = is ∙ ap (λ ms. slice_index_or ms i words) same in
    let m : mem ≡ slice_index_or net.mems i mem = mem_is ∙ ap (λ ms. slice_index_or ms i mem) items_are in
    moving_next old now new net table mems i made longer mem words next shape below
    (mems_long old mems net.mems shape) whole own all h more there (width ∙ ap (memory_width now) w)
    (λ g given. numbers g given
    ∙ (λ k. write_each (numbers_of now g table) (memory_width now (w k)) (memory_numbers now g (w k)) (m k).writes))
    pushed

-- all memories
pub moved_shape : (old now net : Netlist) (table : List ℕ) (mems : List MemoryNodes) (i : ℕ) (made : List MemoryNodes)
    → length net.mems ≤ i → Moving old now net table mems i made
    → map (memory_width now) made ≡ map (λ m. m.width) net.mems
moved_shape old now net table mems i made past h = h.shape ∙ all_widths net.mems i past
  where
    all_widths : (ms : List Mem) (i : ℕ) → length ms ≤ i
        → take i (map (λ m. m.width) ms) ≡ map (λ m. m.width) ms
    all_widths [] zero past = refl
    all_widths [] (suc i) past = refl
    all_widths (m ∷ ms) zero past = absurd (omega arith)
    all_widths (m ∷ ms) (suc i) past = ap (λ ws. m.width ∷ ws) (all_widths ms i (omega arith))

pub moved_numbers : (old now net : Netlist) (table : List ℕ) (mems : List MemoryNodes) (i : ℕ) (made : List MemoryNodes)
    (g : Given) → IsGiven old g → length net.mems ≤ i → Moving old now net table mems i made
    → map (memory_numbers now g) made ≡ next_mems (numbers_of old g table) net.mems (map (memory_numbers old g) mems)
moved_numbers old now net table mems i made g given past h =
    h.numbers g given ∙ next_all (numbers_of old g table) net.mems (map (memory_numbers old g) mems) i past

-- ---- the whole state

-- what stands for the registers in the next cycle, in a net with more nodes
pub regs_there : (old new net : Netlist) (table regs : List ℕ) → AddsNodes old new → IsNet net
    → AreNodes old table
    → widths_at old table ≡ widths_of net → regs ≡ map (λ r. slice_index table r.next) net.regs
    → AreNodes new regs
regs_there old new net table regs h whole own wide is =
    let P : List ℕ → Type 0 = λ ids. AreNodes new ids in
    subst P (sym is)
    (nodes_there old new (map (λ r. slice_index table r.next) net.regs) h
    (next_there net old table net.regs own (table_long net old table wide) whole.regs))

pub regs_widths : (old new net : Netlist) (table regs : List ℕ) → AddsNodes old new → IsNet net
    → AreNodes old table
    → widths_at old table ≡ widths_of net → regs ≡ map (λ r. slice_index table r.next) net.regs
    → widths_at new regs ≡ map (λ r. r.width) net.regs
regs_widths old new net table regs h whole own wide is =
    let long = table_long net old table wide in
    let ids = map (λ r. slice_index table r.next) net.regs in
    ap (widths_at new) is ∙ widths_kept old new ids h (next_there net old table net.regs own long whole.regs)
    ∙ next_widths net old table net.regs wide long whole.regs

pub regs_numbers : (old new net : Netlist) (g : Given) (table regs : List ℕ) → AddsNodes old new → IsNet net
    → AreNodes old table → widths_at old table ≡ widths_of net
    → regs ≡ map (λ r. slice_index table r.next) net.regs
    → numbers_of new g regs ≡ map (λ r. slice_index (numbers_of old g table) r.next) net.regs
regs_numbers old new net g table regs h whole own wide is =
    let long = table_long net old table wide in
    let ids = map (λ r. slice_index table r.next) net.regs in
    ap (numbers_of new g) is ∙ numbers_kept old new g ids h (next_there net old table net.regs own long whole.regs)
    ∙ next_numbers net old g table net.regs long whole.regs
