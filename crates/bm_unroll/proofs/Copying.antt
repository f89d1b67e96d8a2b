-- A node that is built as a copy, and the walk over the nodes of a cycle.
use Rattle.std.specs.Prelude.{◌≡◌, refl, ℕ, zero, suc, ◌+◌, ◌<◌, List, [], ◌∷◌, ◌++◌}
use Rattle.std.specs.Prelude.{length, map, drop, slice_index, slice_index_or}
use Rattle.std.proofs.Common.{ap, sym, ◌∙◌, arith, subst}
use Rattle.std.proofs.lemmas.List.{get_or-map, length-map, map_push, length_push, drop_more}
use Rattle.wn_net.specs.declared.node.Node.{Node}
use Rattle.wn_net.specs.Width.{Shape, width, widths, IsFitting, AreFitting}
use Rattle.wn_net.specs.Value.{Given, value, values}
use Rattle.wn_net.specs.Given.{IsGiven}
use Rattle.wn_net.specs.Net.{Netlist, IsNode, AreNodes, AreNodesOf, IsNet, width_at, value_at, shape_of}
use Rattle.wn_net.specs.Net.{widths_of, values_of}
use Rattle.wn_net.specs.Changes.{AddsNodes, Builds}
use Rattle.wn_net.proofs.Laws.{adds_on, adds_none, there_on, nodes_on, given_on}
use Rattle.wn_mem.specs.Words.{words_width, numbers_of}
use Rattle.bm_unroll.specs.declared.state.StateNodes.{StateNodes}
use Rattle.bm_unroll.proofs.Chains.{chain_on, chain_width_on, chain_words_on}
use Rattle.bm_unroll.specs.declared.state.MemoryNodes.{MemoryNodes}
use Rattle.bm_unroll.specs.declared.state.MemoryNodes.TheVariants as v
use Rattle.bm_unroll.specs.Memories.{AreMemories, HaveWords, IsMemory, memory_numbers, memory_width}
use Rattle.bm_unroll.specs.Cycle.{AreStateNodes, Copies, IsCopyable, StandFor, given_by}
use Rattle.bm_unroll.specs.Cycle.{shape_by, state_by, widths_at}

-- ---- nodes in a list

pub node_in : (net : Netlist) (ids : List ℕ) (i d : ℕ) → AreNodes net ids → i < length ids
    → IsNode net (slice_index_or ids i d)
node_in net [] i d h below = absurd (omega arith)
node_in net (x ∷ xs) zero d h below = h.0
node_in net (x ∷ xs) (suc i) d h below = node_in net xs i d h.1 (omega arith)

pub nodes_there : (old new : Netlist) (ids : List ℕ) → AddsNodes old new → AreNodes old ids → AreNodes new ids
nodes_there old new [] h own = tt
nodes_there old new (x ∷ xs) h own = (there_on old new x h own.0, nodes_there old new xs h own.1)

pub nodes_push : (net : Netlist) (ids : List ℕ) (id : ℕ) → AreNodes net ids → IsNode net id
    → AreNodes net (ids ++ id ∷ [])
nodes_push net [] id h k = (k, tt)
nodes_push net (x ∷ xs) id h k = (h.0, nodes_push net xs id h.1 k)

pub widths_kept : (old new : Netlist) (ids : List ℕ) → AddsNodes old new → AreNodes old ids
    → widths_at new ids ≡ widths_at old ids
widths_kept old new [] h own = refl
widths_kept old new (x ∷ xs) h own =
    ap (λ w. w ∷ widths_at new xs) (h.keeps.widths x own.0)
    ∙ ap (λ ws. width_at old x ∷ ws) (widths_kept old new xs h own.1)

pub numbers_kept : (old new : Netlist) (g : Given) (ids : List ℕ) → AddsNodes old new → AreNodes old ids
    → numbers_of new g ids ≡ numbers_of old g ids
numbers_kept old new g [] h own = refl
numbers_kept old new g (x ∷ xs) h own =
    ap (λ v. v ∷ numbers_of new g xs) (h.keeps.values g x own.0)
    ∙ ap (λ vs. value_at old g x ∷ vs) (numbers_kept old new g xs h own.1)

-- the width and the number of an item
pub width_here : (net : Netlist) (ids : List ℕ) (i d : ℕ) → i < length (widths_at net ids)
    → slice_index (widths_at net ids) i ≡ width_at net (slice_index_or ids i d)
width_here net ids i d below = get_or-map (width_at net) ids i d 0 (omega (arith, length-map ids (width_at net)))

pub number_here : (net : Netlist) (g : Given) (ids : List ℕ) (i d : ℕ) → i < length (widths_at net ids)
    → slice_index (numbers_of net g ids) i ≡ value_at net g (slice_index_or ids i d)
number_here net g ids i d below =
    get_or-map (value_at net g) ids i d 0 (omega (arith, length-map ids (width_at net)))

-- ---- memories

-- the words have the width of the first
pub are_nodes : (net : Netlist) (w : ℕ) (words : List ℕ) → AreNodesOf net w words → AreNodes net words
are_nodes net w [] h = tt
are_nodes net w (x ∷ xs) h = (h.0.0, are_nodes net w xs h.1)

pub words_kept : (old new : Netlist) (words : List ℕ) → AddsNodes old new → HaveWords old words
    → words_width new words ≡ words_width old words
words_kept old new [] h own = absurd (omega (arith, own.0))
words_kept old new (x ∷ xs) h own = h.keeps.widths x own.1.0.0

words_there : (old new : Netlist) (words : List ℕ) → AddsNodes old new → HaveWords old words → HaveWords new words
words_there old new words h own =
    let P : ℕ → Type 0 = λ w. AreNodesOf new w words in (
      own.0,
      subst P (sym (words_kept old new words h own)) (nodes_on old new (words_width old words) words h own.1),
    )

-- a memory in either form
memory_there : (old new : Netlist) (m : MemoryNodes) → AddsNodes old new → IsMemory old m → IsMemory new m
memory_there old new (v.Words ids) h own = words_there old new ids h own
memory_there old new (v.Writes chain) h own = chain_on old new chain h own

pub memory_kept : (old new : Netlist) (m : MemoryNodes) → AddsNodes old new → IsMemory old m
    → memory_width new m ≡ memory_width old m
memory_kept old new (v.Words ids) h own = words_kept old new ids h own
memory_kept old new (v.Writes chain) h own = chain_width_on old new chain h own

pub memory_same : (old new : Netlist) (g : Given) (m : MemoryNodes) → AddsNodes old new → IsMemory old m
    → memory_numbers new g m ≡ memory_numbers old g m
memory_same old new g (v.Words ids) h own =
    numbers_kept old new g ids h (are_nodes old (words_width old ids) ids own.1)
memory_same old new g (v.Writes chain) h own = chain_words_on old new g chain h own

pub memories_there : (old new : Netlist) (mems : List MemoryNodes) → AddsNodes old new → AreMemories old mems
    → AreMemories new mems
memories_there old new [] h own = tt
memories_there old new (m ∷ ms) h own = (memory_there old new m h own.0, memories_there old new ms h own.1)

pub mem_widths_kept : (old new : Netlist) (mems : List MemoryNodes) → AddsNodes old new → AreMemories old mems
    → map (memory_width new) mems ≡ map (memory_width old) mems
mem_widths_kept old new [] h own = refl
mem_widths_kept old new (m ∷ ms) h own =
    λ i. memory_kept old new m h own.0 i ∷ mem_widths_kept old new ms h own.1 i

pub mem_numbers_kept : (old new : Netlist) (g : Given) (mems : List MemoryNodes) → AddsNodes old new
    → AreMemories old mems → map (memory_numbers new g) mems ≡ map (memory_numbers old g) mems
mem_numbers_kept old new g [] h own = refl
mem_numbers_kept old new g (m ∷ ms) h own =
    λ i. memory_same old new g m h own.0 i ∷ mem_numbers_kept old new g ms h own.1 i

pub memory_in : (net : Netlist) (mems : List MemoryNodes) (i : ℕ) (d : MemoryNodes) → AreMemories net mems
    → i < length mems → IsMemory net (slice_index_or mems i d)
memory_in net [] i d h below = absurd (omega arith)
memory_in net (m ∷ ms) zero d h below = h.0
memory_in net (m ∷ ms) (suc i) d h below = memory_in net ms i d h.1 (omega arith)

-- ---- one node

-- with one operand
pub copies_one : (old new : Netlist) (inputs : List ℕ) (state : StateNodes) (table : List ℕ) (a d id : ℕ) (x y :
    Node)
    (W : ℕ → ℕ) (F : ℕ → ℕ → ℕ) → a < length (widths_at old table)
    → Builds old new y (W (width_at old (slice_index_or table a d)))
    (λ g. F (width_at old (slice_index_or table a d)) (value_at old g (slice_index_or table a d))) id
    → width (shape_by old inputs state) (widths_at old table) x ≡ W (slice_index (widths_at old table) a)
    → ((g : Given) → value (given_by old g inputs state) (widths_at old table) (numbers_of old g table) x
    ≡ F (slice_index (widths_at old table) a) (slice_index (numbers_of old g table) a))
    → Copies old new inputs state table x id
copies_one old new inputs state table a d id x y W F below h wide is =
    let w = width_here old table a d below in
    record {
      there = omega (arith, ap length h.nodes, length_push old.nodes y, h.last);
      bits = h.width ∙ ap W (sym w) ∙ sym wide;
      number = λ g given.
          h.value g ∙ (λ i. F (sym w i) (sym (number_here old g table a d below) i)) ∙ sym (is g);
    }

-- with two
pub copies_two : (old new : Netlist) (inputs : List ℕ) (state : StateNodes) (table : List ℕ) (a b d e id : ℕ)
    (x y : Node) (W : ℕ → ℕ → ℕ) (F : ℕ → ℕ → ℕ → ℕ → ℕ)
    → a < length (widths_at old table) → b < length (widths_at old table)
    → Builds old new y (W (width_at old (slice_index_or table a d)) (width_at old (slice_index_or table b e)))
    (λ g. F (width_at old (slice_index_or table a d)) (width_at old (slice_index_or table b e))
    (value_at old g (slice_index_or table a d)) (value_at old g (slice_index_or table b e))) id
    → width (shape_by old inputs state) (widths_at old table) x
    ≡ W (slice_index (widths_at old table) a) (slice_index (widths_at old table) b)
    → ((g : Given) → value (given_by old g inputs state) (widths_at old table) (numbers_of old g table) x
    ≡ F (slice_index (widths_at old table) a) (slice_index (widths_at old table) b)
    (slice_index (numbers_of old g table) a) (slice_index (numbers_of old g table) b))
    → Copies old new inputs state table x id
copies_two old new inputs state table a b d e id x y W F below_a below_b h wide is =
    let w = width_here old table a d below_a in
    let v = width_here old table b e below_b in
    record {
      there = omega (arith, ap length h.nodes, length_push old.nodes y, h.last);
      bits = h.width ∙ (λ i. W (sym w i) (sym v i)) ∙ sym wide;
      number = λ g given.
          h.value g
          ∙ (λ i. F (sym w i) (sym v i) (sym (number_here old g table a d below_a) i)
          (sym (number_here old g table b e below_b) i))
          ∙ sym (is g);
    }

-- ---- the walk

-- Behind what stands for the first nodes, those that are left have all widths and all numbers.
pub record Copying (old now net : Netlist) (inputs : List ℕ) (state : StateNodes) (table : List ℕ)
    (left : List Node) : Type 0 where
  pub adds : AddsNodes old now
  pub there : AreNodes now table
  pub fitting : AreFitting (shape_of net) (widths_at now table) left
  pub all_widths : widths (shape_of net) (widths_at now table) left ≡ widths_of net
  pub all_numbers : (g : Given) → IsGiven old g
      → values (shape_of net) (given_by old g inputs state) (widths_at now table) (numbers_of now g table) left
      ≡ values_of net (given_by old g inputs state)

pub copying_none : (old net : Netlist) (inputs : List ℕ) (state : StateNodes) → IsNet net
    → Copying old old net inputs state [] net.nodes
copying_none old net inputs state whole = record {
  adds = adds_none old;
  there = tt;
  fitting = whole.nodes;
  all_widths = refl;
  all_numbers = λ g given. refl;
}

pub state_on : (old new : Netlist) (state : StateNodes) → AddsNodes old new → AreStateNodes old state
    → AreStateNodes new state
state_on old new state h own = record {
  regs = nodes_there old new state.regs h own.regs;
  mems = memories_there old new state.mems h own.mems;
}

-- the cycle's numbers and shape are as they were
pub state_kept : (old now : Netlist) (g : Given) (state : StateNodes) → AddsNodes old now → AreStateNodes old state
    → state_by now g state ≡ state_by old g state
state_kept old now g state h own = λ i. record {
  regs = numbers_kept old now g state.regs h own.regs i;
  mems = mem_numbers_kept old now g state.mems h own.mems i;
}

pub given_kept : (old now : Netlist) (g : Given) (inputs : List ℕ) (state : StateNodes) → AddsNodes old now
    → AreNodes old inputs → AreStateNodes old state → given_by now g inputs state ≡ given_by old g inputs state
given_kept old now g inputs state h a b = λ i. record {
  inputs = numbers_kept old now g inputs h a i;
  state = state_kept old now g state h b i;
}

pub shape_kept : (old now : Netlist) (inputs : List ℕ) (state : StateNodes) → AddsNodes old now
    → AreNodes old inputs
    → AreStateNodes old state → shape_by now inputs state ≡ shape_by old inputs state
shape_kept old now inputs state h a b = λ i. record {
  inputs = widths_kept old now inputs h a i;
  regs = widths_kept old now state.regs h b.regs i;
  mems = mem_widths_kept old now state.mems h b.mems i;
}

pub copyable_here : (old now net : Netlist) (inputs : List ℕ) (state : StateNodes) (table : List ℕ) (x : Node)
    (left : List Node) → StandFor old net inputs state → Copying old now net inputs state table (x ∷ left)
    → IsCopyable now inputs state table x
copyable_here old now net inputs state table x left own h =
    let P : Shape → Type 0 = λ s. IsFitting s (widths_at now table) x in
    record {
      inputs_there = nodes_there old now inputs h.adds own.inputs_there;
      state_there = state_on old now state h.adds own.state_there;
      table_there = h.there;
      fits =
          subst P (own.shape ∙ sym (shape_kept old now inputs state h.adds own.inputs_there own.state_there))
          h.fitting.0;
    }

pub copying_next : (old now new net : Netlist) (inputs : List ℕ) (state : StateNodes) (table longer : List ℕ) (x :
    Node)
    (left : List Node) (id : ℕ) → StandFor old net inputs state
    → Copying old now net inputs state table (x ∷ left)
    → AddsNodes now new → Copies now new inputs state table x id → longer ≡ table ++ id ∷ []
    → Copying old new net inputs state longer left
copying_next old now new net inputs state table longer x left id own h more copy pushed =
    let s = shape_of net in
    let ws = widths_at now table in
    let same : shape_by now inputs state ≡ s =
    shape_kept old now inputs state h.adds own.inputs_there own.state_there ∙ sym own.shape in
    let wide : widths_at new (table ++ id ∷ []) ≡ ws ++ width s ws x ∷ [] =
    map_push (width_at new) table id ∙ ap (λ us. us ++ width_at new id ∷ []) (widths_kept now new table more
    h.there)
    ∙ ap (λ w. ws ++ w ∷ []) (copy.bits ∙ ap (λ t. width t ws x) same) in
    let full : (g : Given) → IsGiven old g → numbers_of new g (table ++ id ∷ [])
    ≡ numbers_of now g table ++ value (given_by old g inputs state) ws (numbers_of now g table) x ∷ [] =
    λ g given. map_push (value_at new g) table id
    ∙ ap (λ us. us ++ value_at new g id ∷ []) (numbers_kept now new g table more h.there)
    ∙ ap (λ v. numbers_of now g table ++ v ∷ []) (copy.number g (given_on old now g h.adds given)
    ∙ ap (λ t. value t ws (numbers_of now g table) x)
    (given_kept old now g inputs state h.adds own.inputs_there own.state_there)) in
    let F : List ℕ → Type 0 = λ us. AreFitting s us left in
    let P : List ℕ → Type 0 = λ ids. Copying old new net inputs state ids left in
    let made : Copying old new net inputs state (table ++ id ∷ []) left = record {
      adds = adds_on old now new h.adds more;
      there = nodes_push new table id (nodes_there now new table more h.there) copy.there;
      fitting = subst F (sym wide) h.fitting.1;
      all_widths = ap (λ us. widths s us left) wide ∙ h.all_widths;
      all_numbers = λ g given.
          ap (λ us. values s (given_by old g inputs state) us (numbers_of new g (table ++ id ∷ [])) left) wide
          ∙ ap (λ us. values s (given_by old g inputs state) (ws ++ width s ws x ∷ []) us left) (full g given)
          ∙ h.all_numbers g given;
    } in
    subst P (sym pushed) made

-- the nodes that are left are those from the place of this one on
pub front : (nodes items : List Node) (i : ℕ) (x : Node) → items ≡ nodes → i < length items
    → x ≡ slice_index_or items i x → drop i nodes ≡ x ∷ drop (i + 1) nodes
front nodes items i x e below read =
    let P : List Node → Type 0 = λ ns. drop i ns ≡ x ∷ drop (i + 1) ns in
    subst P e (drop_more items i x below ∙ ap (λ y. y ∷ drop (i + 1) items) (sym read))
