-- Between functions: A memory as one node a word (rule of this project).
use Rattle.std.specs.Prelude.{◌≡◌, ℕ, ◌+◌, ◌-◌, ◌*◌, ◌^◌, List, [], ◌∷◌, length, map, slice_index, bit_and, ◌<◌, suc, max, if◌then◌else◌, ◌==◌, ◌&&◌, Bool, Option, None, Some, IfSome}
use Rattle.wn_net.specs.declared.parts.MemWrite.{MemWrite}
use Rattle.fv_bits.specs.Bits.{bit, complement, joined, part}
use Rattle.wn_net.specs.Value.{Given, word_at, words_of}
use Rattle.wn_net.specs.Changes.{mem_width}
use Rattle.wn_net.specs.Next.{written}
use Rattle.wn_net.specs.Net.{Netlist, IsNode, IsNodeOf, AreNodesOf, width_at, value_at}

-- the width of the words
abbrev pub words_width : Netlist → List ℕ → ℕ
words_width net words = width_at net (slice_index words 0)

-- all of the nodes are there, and have one width
abbrev pub AreWords : Netlist → List ℕ → Type 0
AreWords net words = AreNodesOf net (words_width net words) words

-- the numbers of the words in a cycle
abbrev pub numbers_of : Netlist → Given → List ℕ → List ℕ
numbers_of net g words = map (value_at net g) words

-- The nodes are all words of this memory of the net, in their order, as they stand in each cycle.
pub record AreWordsOf (net : Netlist) (words : List ℕ) (m : ℕ) : Type 0 where
  pub there : m < length net.mems
  pub width : words_width net words ≡ mem_width net m
  pub count : slice_index (map (λ x. x.words) net.mems) m ≡ length words
  pub numbers : (g : Given) (k : ℕ) → k < length words
      → value_at net g (slice_index words k) ≡ word_at (words_of g m) k

-- the numbers of the words after a write
abbrev pub after_write : Netlist → Given → List ℕ → MemWrite → List ℕ
after_write net g words w =
    written (words_width net words) (numbers_of net g words) (value_at net g w.enable) (value_at net g w.addr)
    (value_at net g w.mask)
    (value_at net g w.value)

-- the nodes are there for what the words share of a write: the bits that are written, and the mask of those that are
-- kept, where any are
abbrev pub AreShared : Netlist → ℕ → ℕ → Option ℕ → Type 0
AreShared net width changed kept = IsNodeOf net width changed × IfSome kept (IsNodeOf net width)

-- in a cycle a node is the mask of the bits that a write keeps; it keeps none where there is no node
abbrev pub IsKept : Netlist → Given → ℕ → ℕ → Option ℕ → Type 0
IsKept net g width mask None = complement width mask ≡ 0
IsKept net g width mask (Some kept) = value_at net g kept ≡ complement width mask

-- in a cycle they are those of a write with this mask and this number
pub record ShareWrite (net : Netlist) (g : Given) (width mask number changed : ℕ) (kept : Option ℕ) : Type 0 where
  pub changed_is : value_at net g changed ≡ bit_and mask number
  pub kept_is : IsKept net g width mask kept

-- the number with these bits, the highest first
abbrev pub number_of : List ℕ → ℕ
number_of [] = 0
number_of (b ∷ bs) = b * 2 ^ length bs + number_of bs

-- in a cycle a write acts on the word at the index
abbrev pub hits : Netlist → Given → MemWrite → ℕ → Bool
hits net g w index = value_at net g w.enable == 1 && value_at net g w.addr == index

-- a node has the bit that enables the write in front of its address
pub record Asks (net : Netlist) (w : MemWrite) (id : ℕ) : Type 0 where
  pub there : IsNodeOf net (1 + width_at net w.addr) id
  pub few : width_at net w.addr < 128
  pub value : (g : Given)
      → value_at net g id ≡ joined (width_at net w.addr) (value_at net g w.enable) (value_at net g w.addr)

-- such a node, where there is one
abbrev pub IsRequest : Netlist → MemWrite → Option ℕ → Type 0
IsRequest net w asked = IfSome asked (Asks net w)

-- the same write as groups of sixteen words see it: its address is without the lowest four bits
pub record CountsGroups (old new : Netlist) (w group : MemWrite) : Type 0 where
  pub enable : group.enable ≡ w.enable
  pub addr : IsNodeOf new (width_at old w.addr - 4) group.addr
  pub value : (g : Given) → value_at new g group.addr ≡ part 4 (width_at old w.addr - 4) (value_at old g w.addr)

-- a node is there that is 0 in every cycle
pub record IsZero (net : Netlist) (id : ℕ) : Type 0 where
  pub there : IsNode net id
  pub value : (g : Given) → value_at net g id ≡ 0

-- in a cycle each of the nodes says whether the number is its place
abbrev pub Tell : Netlist → Given → List ℕ → ℕ → Type 0
Tell net g marks n = (i : ℕ) → i < length marks → value_at net g (slice_index marks i) ≡ bit (n == i)

-- how many words these nodes tell apart
abbrev pub apart : List ℕ → ℕ
apart marks = max (length marks) 1

-- the word with a number among words of which the first has the number `first`; 0 where there is none
abbrev pub word_from : ℕ → ℕ → List ℕ → ℕ
word_from first n [] = 0
word_from first n (w ∷ ws) = if n == first then w else word_from (suc first) n ws
