-- The parts of an entry's number.
use Rattle.std.specs.Prelude.{◌≡◌, refl, ℕ, zero, suc, ◌+◌, ◌*◌, ◌/◌, ◌%◌, ◌<◌, ◌^◌, List, [], ◌∷◌, ◌++◌}
use Rattle.std.specs.Prelude.{length, take, drop, slice_index}
use Rattle.std.proofs.Common.{ap, sym, ◌∙◌, arith}
use Rattle.fv_bits.specs.Bits.{joined, part}
use Rattle.wn_net.specs.Value.{Given}
use Rattle.wn_net.specs.Net.{Netlist, AreNodesOf, value_at}
use Rattle.wn_net.specs.Changes.{AddsNodes}
use Rattle.wn_net.proofs.Laws.{node_on, value_on}
use Rattle.ck_history.specs.declared.entry.EntryNodes.{EntryNodes}
use Rattle.ck_history.specs.Entries.{Entry, IsEntry, AreEntryNodes, Show, entry_at, packed}

pub there_of : (e : Entry) → IsEntry e → part 101 1 (packed e) ≡ e.there
there_of e own = omega (arith, own.there, own.key, own.small, own.word)

pub key_of : (e : Entry) → IsEntry e → part 37 64 (packed e) ≡ e.key
key_of e own = omega (arith, own.there, own.key, own.small, own.word)

pub small_of : (e : Entry) → IsEntry e → part 32 5 (packed e) ≡ e.small
small_of e own = omega (arith, own.there, own.key, own.small, own.word)

pub word_of : (e : Entry) → IsEntry e → part 0 32 (packed e) ≡ e.word
word_of e own = omega (arith, own.there, own.key, own.small, own.word)

-- behind more nodes an entry's nodes are there, with the same numbers
pub entry_nodes_on : (old new : Netlist) (e : EntryNodes) → AddsNodes old new → AreEntryNodes old e
    → AreEntryNodes new e
entry_nodes_on old new e adds own = record {
  there = node_on old new 1 e.there adds own.there;
  key = node_on old new 64 e.key adds own.key;
  small = node_on old new 5 e.small adds own.small;
  word = node_on old new 32 e.word adds own.word;
}

pub entry_on : (old new : Netlist) (g : Given) (e : EntryNodes) → AddsNodes old new → AreEntryNodes old e
    → entry_at new g e ≡ entry_at old g e
entry_on old new g e adds own = λ i. record {
  there = value_on old new g e.there adds own.there.0 i;
  key = value_on old new g e.key adds own.key.0 i;
  small = value_on old new g e.small adds own.small.0 i;
  word = value_on old new g e.word adds own.word.0 i;
}

-- nodes show the same entries behind more nodes
pub show_on : (old new : Netlist) (w : ℕ) (g : Given) (ids : List ℕ) (es : List Entry) → AddsNodes old new
    → AreNodesOf old w ids → Show old g ids es → Show new g ids es
show_on old new w g [] [] adds own show = tt
show_on old new w g (id ∷ ids) (e ∷ es) adds own show =
    (value_on old new g id adds own.0.0 ∙ show.0, show.1, show_on old new w g ids es adds own.1 show.2)
show_on old new w g (id ∷ ids) [] adds own show = absurd show
show_on old new w g [] (e ∷ es) adds own show = absurd show

pub show_long : (net : Netlist) (g : Given) (ids : List ℕ) (es : List Entry) → Show net g ids es
    → length es ≡ length ids
show_long net g [] [] show = refl
show_long net g (id ∷ ids) (e ∷ es) show = ap suc (show_long net g ids es show.2)
show_long net g (id ∷ ids) [] show = absurd show
show_long net g [] (e ∷ es) show = absurd show

pub show_drop : (net : Netlist) (g : Given) (k : ℕ) (ids : List ℕ) (es : List Entry) → Show net g ids es
    → Show net g (drop k ids) (drop k es)
show_drop net g zero ids es show = show
show_drop net g (suc k) [] [] show = tt
show_drop net g (suc k) (id ∷ ids) (e ∷ es) show = show_drop net g k ids es show.2
show_drop net g (suc k) (id ∷ ids) [] show = absurd show
show_drop net g (suc k) [] (e ∷ es) show = absurd show

pub show_take : (net : Netlist) (g : Given) (k : ℕ) (ids : List ℕ) (es : List Entry) → Show net g ids es
    → Show net g (take k ids) (take k es)
show_take net g zero ids es show = tt
show_take net g (suc k) [] [] show = tt
show_take net g (suc k) (id ∷ ids) (e ∷ es) show = (show.0, show.1, show_take net g k ids es show.2)
show_take net g (suc k) (id ∷ ids) [] show = absurd show
show_take net g (suc k) [] (e ∷ es) show = absurd show

pub show_append : (net : Netlist) (g : Given) (ids more : List ℕ) (es rest : List Entry) → Show net g ids es
    → Show net g more rest → Show net g (ids ++ more) (es ++ rest)
show_append net g [] more [] rest show next = next
show_append net g (id ∷ ids) more (e ∷ es) rest show next =
    (show.0, show.1, show_append net g ids more es rest show.2 next)
show_append net g (id ∷ ids) more [] rest show next = absurd show
show_append net g [] more (e ∷ es) rest show next = absurd show

-- the entry at a place
pub record ShownAt (net : Netlist) (g : Given) (id : ℕ) (es : List Entry) (i : ℕ) : Type 0 where
  pub entry : Entry
  pub value : value_at net g id ≡ packed entry
  pub own : IsEntry entry
  pub here : drop i es ≡ entry ∷ drop (i + 1) es

pub shown_at : (net : Netlist) (g : Given) (ids : List ℕ) (es : List Entry) (i : ℕ) → Show net g ids es
    → i < length ids → ShownAt net g (slice_index ids i) es i
shown_at net g [] es i show below = absurd (omega (arith, below))
shown_at net g (id ∷ ids) [] i show below = absurd show
shown_at net g (id ∷ ids) (e ∷ es) zero show below =
    record { entry = e; value = show.0; own = show.1; here = refl }
shown_at net g (id ∷ ids) (e ∷ es) (suc i) show below =
    let rest = shown_at net g ids es i show.2 (omega (arith, below)) in
    let same : suc (i + 1) ≡ suc i + 1 = omega arith in
    record {
      entry = rest.entry;
      value = rest.value;
      own = rest.own;
      here = rest.here ∙ ap (λ k. rest.entry ∷ drop k (e ∷ es)) same;
    }

pub ruleset entries = (entry_nodes_on)
