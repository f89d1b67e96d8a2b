-- Between functions: What a check keeps of a channel in a cycle (rule of this project).
use Rattle.std.specs.Prelude.{◌≡◌, ℕ, ◌<◌, ◌^◌, List, [], ◌∷◌}
use Rattle.fv_bits.specs.Bits.{joined}
use Rattle.wn_net.specs.Value.{Given}
use Rattle.wn_net.specs.Net.{Netlist, IsNodeOf, value_at}
use Rattle.ck_history.specs.declared.entry.EntryNodes.{EntryNodes}

-- Whether something retired there, as one bit, and three of its numbers: one by which others are compared with it, a
-- small one, and a word.
pub record Entry : Type 0 where
  pub there : ℕ
  pub key : ℕ
  pub small : ℕ
  pub word : ℕ

pub record IsEntry (e : Entry) : Type 0 where
  pub there : e.there < 2 ^ 1
  pub key : e.key < 2 ^ 64
  pub small : e.small < 2 ^ 5
  pub word : e.word < 2 ^ 32

-- as one number of 102 bits
abbrev pub packed : Entry → ℕ
packed e = joined 101 e.there (joined 37 e.key (joined 32 e.small e.word))

-- the nodes are there, with their widths
pub record AreEntryNodes (net : Netlist) (e : EntryNodes) : Type 0 where
  pub there : IsNodeOf net 1 e.there
  pub key : IsNodeOf net 64 e.key
  pub small : IsNodeOf net 5 e.small
  pub word : IsNodeOf net 32 e.word

-- their numbers in a cycle
abbrev pub entry_at : Netlist → Given → EntryNodes → Entry
entry_at net g e = record {
  there = value_at net g e.there;
  key = value_at net g e.key;
  small = value_at net g e.small;
  word = value_at net g e.word;
}

-- nodes show these entries in a cycle, one each
abbrev pub Show : Netlist → Given → List ℕ → List Entry → Type 0
Show net g [] [] = Unit {0}
Show net g (id ∷ ids) (e ∷ es) = (value_at net g id ≡ packed e) × IsEntry e × Show net g ids es
Show net g ids es = ⊥
